-- Which clients are changed.
use Rattle.sessions.proofs.Common.{AreIndexed, AreListed, Bool, not, take, ◌&&◌, ◌+◌, List, None, Option, Session, Some, [], ap, changed_at, cond, eq-eqb, eqb-true, false, false≢true, get-empty, get_or-append_seam, get_or-set_at, get_or-set_other, get_or_append_left, get_or_default, get_or, is_among, length, list_any-append, list_any_more, nat_cmp, nat_eq_equiv, no_session, none-some, or-false, refl, same_Some, set, sym, true, with_changed, ℕ, ◌++◌, ◌<◌, ◌==◌, ◌||◌, ◌∙◌, ◌∷◌, ◌≡◌}
use Rattle.std.specs.FinMap as map
use Rattle.sessions.proofs.RowLaws.{get_with}

pub listed_none : AreListed map.empty [] []
listed_none = λ q. sym (ap (changed_at []) (get-empty nat_cmp q))

-- with one more at the end
pub among_more : (l : List ℕ) (client q : ℕ) → is_among (l ++ client ∷ []) q ≡ (is_among l q || (client == q))
among_more l client q = list_any-append (λ c. c == q) l (client ∷ []) ∙ ap (λ b. is_among l q || b) (or-false (client == q))

by_test : (a b : Bool) → cond b true a ≡ (a || b)
by_test true true = refl
by_test true false = refl
by_test false true = refl
by_test false false = refl

module _ (m : map.FinMap nat_cmp ℕ) (ss : List Session) (l : List ℕ) (listed : AreListed m ss l) (client : ℕ) where
  module _ (h : AreIndexed m ss) (i : ℕ) (its : map.get m client ≡ Some i) (w s : Session) (found : s ≡ get_or ss i s) where
    was : (changed_at ss (map.get m client)) ≡ s.changed
    was = ap (changed_at ss) its ∙ ap (λ (t : Session). t.changed) (sym (found ∙ get_or_default ss i s no_session (h.in_range client i its)))

    pub known_before : is_among l client ≡ s.changed
    known_before = listed client ∙ was

    at : (q : ℕ) (b : Bool) → (q == client) ≡ b → (o : Option ℕ) → map.get m q ≡ o → changed_at (set ss i w) o ≡ cond b w.changed (changed_at ss o)
    at q true one None is = absurd (none-some i (sym is ∙ ap (map.get m) (eqb-true q client one) ∙ its))
    at q true one (Some j) is =
        ap (λ (t : Session). t.changed) (get_or-set_at ss i j w no_session (same_Some j i (sym is ∙ ap (map.get m) (eqb-true q client one) ∙ its)) (h.in_range client i its))
    at q false apart None is = refl
    at q false apart (Some j) is =
        ap (λ (t : Session). t.changed) (get_or-set_other ss i j w no_session (λ same. false≢true (sym apart ∙ eq-eqb q client (h.apart q client i (is ∙ ap Some same) its))))

    pub changed_set : (q : ℕ) → changed_at (set ss i w) (map.get m q) ≡ cond (q == client) w.changed (changed_at ss (map.get m q))
    changed_set q = at q (q == client) refl (map.get m q) refl

    -- a session that is changed as it was
    pub listed_same : w.changed ≡ s.changed → AreListed m (set ss i w) l
    listed_same same = λ q. sym (changed_set q ∙ go q (q == client) refl)
      where
        go : (q : ℕ) (b : Bool) → (q == client) ≡ b → cond b w.changed (changed_at ss (map.get m q)) ≡ is_among l q
        go q true one = same ∙ sym known_before ∙ ap (is_among l) (sym (eqb-true q client one))
        go q false apart = sym (listed q)

    -- one that is changed now
    pub listed_more : w.changed ≡ true → AreListed m (set ss i w) (l ++ client ∷ [])
    listed_more is = λ q. sym (changed_set q ∙ ap (λ b. cond (q == client) b (changed_at ss (map.get m q))) is
        ∙ ap (cond (q == client) true) (sym (listed q)) ∙ by_test (is_among l q) (q == client)
        ∙ ap (λ b. is_among l q || b) (nat_eq_equiv.symm q client) ∙ sym (among_more l client q))

  -- the list of the changed clients then
  pub with_known : is_among l client ≡ true → l ≡ with_changed l client
  with_known is = ap (λ b. cond b l (l ++ client ∷ [])) (sym is)

  pub with_other : is_among l client ≡ false → l ++ client ∷ [] ≡ with_changed l client
  with_other is = ap (λ b. cond b l (l ++ client ∷ [])) (sym is)

  -- the first session of a client
  module _ (h : AreIndexed m ss) (w : Session) (none : map.get m client ≡ None) where
    pub unknown_before : is_among l client ≡ false
    unknown_before = listed client ∙ ap (changed_at ss) none

    first : (q : ℕ) (b : Bool) → (q == client) ≡ b → (o : Option ℕ) → map.get m q ≡ o → changed_at (ss ++ w ∷ []) (cond b (Some (length ss)) o) ≡ cond b w.changed (changed_at ss o)
    first q true one o is = ap (λ (t : Session). t.changed) (get_or-append_seam ss w [] no_session)
    first q false apart None is = refl
    first q false apart (Some j) is = ap (λ (t : Session). t.changed) (get_or_append_left ss (w ∷ []) no_session j (h.in_range q j is))

    changed_first : (q : ℕ) → changed_at (ss ++ w ∷ []) (map.get (map.insert m client (length ss)) q) ≡ cond (q == client) w.changed (is_among l q)
    changed_first q =
        ap (changed_at (ss ++ w ∷ [])) (get_with m client (length ss) q) ∙ first q (q == client) refl (map.get m q) refl
        ∙ ap (cond (q == client) w.changed) (sym (listed q))

    -- that is changed, or isn't
    pub listed_first : w.changed ≡ true → AreListed (map.insert m client (length ss)) (ss ++ w ∷ []) (l ++ client ∷ [])
    listed_first is = λ q. sym (changed_first q ∙ ap (λ b. cond (q == client) b (is_among l q)) is ∙ by_test (is_among l q) (q == client)
        ∙ ap (λ b. is_among l q || b) (nat_eq_equiv.symm q client) ∙ sym (among_more l client q))

    pub listed_still : w.changed ≡ false → AreListed (map.insert m client (length ss)) (ss ++ w ∷ []) l
    listed_still is = λ q. sym (changed_first q ∙ go q (q == client) refl)
      where
        go : (q : ℕ) (b : Bool) → (q == client) ≡ b → cond b w.changed (is_among l q) ≡ is_among l q
        go q true one = is ∙ sym unknown_before ∙ ap (is_among l) (sym (eqb-true q client one))
        go q false apart = refl

-- one client more that isn't changed any more, so many of the list have gone before
pub cleared_more : (l : List ℕ) (i client q : ℕ) (was : Bool) → i < length l → client ≡ get_or l i 0
    → cond (q == client) false (was && not (is_among (take i l) q)) ≡ (was && not (is_among (take (i + 1) l) q))
cleared_more l i client q was low is =
    go (q == client) was (is_among (take i l) q) ∙ ap (λ b. was && not (is_among (take i l) q || b)) (nat_eq_equiv.symm q client ∙ ap (λ c. c == q) is)
    ∙ ap (λ b. was && not b) (sym (list_any_more (λ c. c == q) l i 0 low))
  where
    go : (b was gone : Bool) → cond b false (was && not gone) ≡ (was && not (gone || b))
    go true true true = refl
    go true true false = refl
    go true false gone = refl
    go false true true = refl
    go false true false = refl
    go false false gone = refl

-- where none is changed that was in the list, none is
pub listed_cleared : (m : map.FinMap nat_cmp ℕ) (ss new : List Session) (l : List ℕ) → AreListed m ss l
    → ((q : ℕ) → changed_at new (map.get m q) ≡ (changed_at ss (map.get m q) && not (is_among l q))) → AreListed m new []
listed_cleared m ss new l listed h = λ q. sym (h q ∙ ap (λ b. b && not (is_among l q)) (sym (listed q)) ∙ go (is_among l q))
  where
    go : (b : Bool) → (b && not b) ≡ false
    go true = refl
    go false = refl
