-- The lists of all ranks after a change of each: what they say as one map, and that they are lists still.
use Rattle.subtree_map.proofs.Common.{AreEach, AreGone, AreLists, Bool, Claimed, Ended, Entry, Err, Global, Handed, HasDropped, HasGrown, HasHints, HasLearnt, HasSame, HaveNone, HaveRoom, Hears, IsClaimed, Leaf, List, News, None, Ok, OnErr, Option, Promised, Rank, Result, Roots, ListRows, Some, Subtrees, Vec, Withdrawn, [], ap, arith, cases_eq, cases_lt, claimed, cond, contents, drop, entry_at, eqb-true, false, first_told, get-empty, get_left, get_removed, heard, home_of, inl, inr, is_apart, leaf-exact, leaf-total, leaf_cmp, length, length-append, adds_row, no_rows, promised, refl, rows_at, said, same_map, same_or_apart, says_at, subst, suc, sym, take, told, true, with_items, zero, ℕ, ◌++◌, ◌+◌, ◌<◌, ◌==◌, ◌∙◌, ◌∷◌, ◌≡◌, ◌≢◌, ◌≤◌, ◌⊎◌}
use Rattle.std.specs.FinMap as map
use Rattle.subtree_map.proofs.Heard.{claims_claimed, claims_ended, claims_handed, claims_promised, claims_withdrawn, ended_makes, handed_makes, promises_claimed, promises_ended, promises_handed, promises_promised, promises_withdrawn, withdrawn_makes}
use Rattle.subtree_map.proofs.ToldLaws.{found_at, get_told, none_there, nowhere, once_fewer, once_set, some_at, told_cleared, told_gone, told_same, told_set}

-- what is written to all places of a vector is what it has then
pub refilled : {X Z : Type 0} (v : Vec X Z) (xs : List X) → length xs ≡ length v.items → (with_items v xs).items ≡ xs
refilled {X} v xs many = ap (λ n. take n (xs ++ drop (length xs) v.items)) (v.ok.0 ∙ sym many) ∙ front xs (drop (length xs) v.items)
  where
    front : (ls bs : List X) → take (length ls) (ls ++ bs) ≡ ls
    front [] [] = refl
    front [] (b ∷ bs) = refl
    front (a ∷ ls) bs = ap (λ l. a ∷ l) (front ls bs)

-- lists, and what they say
pub record Say (room : ℕ) (lists : List ListRows) (claims given : Roots) : Type 0 where
  pub valid : AreLists room lists
  pub roots : told claimed lists ≡ claims
  pub promises : told promised lists ≡ given

beyond : (lists : List ListRows) (i : ℕ) → length lists ≤ i → rows_at lists i ≡ no_rows
beyond [] i high = refl
beyond (rows ∷ more) zero high = absurd (omega (arith, high))
beyond (rows ∷ more) (suc i) high = beyond more i (omega (arith, high))

-- what holds of each list, and of none, holds at each place
module _ (Becomes : ℕ → ListRows → ListRows → Type 0) (old now : List ListRows) (is : AreEach Becomes old now) (says : Entry → Option Rank) where
  both_beyond : (i : ℕ) → length old ≤ i → rows_at now i ≡ rows_at old i
  both_beyond i high = beyond now i (subst (λ n. n ≤ i) (sym is.many) high) ∙ sym (beyond old i high)

  at_each : (q : Leaf) → ((i : ℕ) (a b : ListRows) → Becomes i a b → said says (entry_at b q) ≡ said says (entry_at a q)) → (i : ℕ) → says_at says now i q ≡ says_at says old i q
  at_each q same i = go (cases_lt i (length old))
    where
      go : (i < length old) ⊎ (length old ≤ i) → says_at says now i q ≡ says_at says old i q
      go (inl low) = same i (rows_at old i) (rows_at now i) (is.each i low)
      go (inr high) = ap (λ (rows : ListRows). said says (entry_at rows q)) (both_beyond i high)

  none_beyond : (i : ℕ) (q : Leaf) → length old ≤ i → says_at says now i q ≡ None
  none_beyond i q high = ap (λ (rows : ListRows). said says (entry_at rows q)) (beyond now i (subst (λ n. n ≤ i) (sym is.many) high)) ∙ ap (said says) (none_there says q)

-- ---- news of a leaf

module _ (leaf : Leaf) (home : ℕ) (news : News) (old now : List ListRows) (is : AreEach (Hears leaf home news) old now) (says : Entry → Option Rank) where
  beside : (i : ℕ) (q : Leaf) → q ≢ leaf → says_at says now i q ≡ says_at says old i q
  beside i q apart = at_each (Hears leaf home news) old now is says q (λ k a b put. ap (said says) (put.others q apart)) i

  hears_same : ((o : Option Entry) (own : Bool) → said says (heard o own news) ≡ said says o) → (i : ℕ) (q : Leaf) → says_at says now i q ≡ says_at says old i q
  hears_same same i q = elim (same_or_apart q leaf) [
    | inl here ↦ at_each (Hears leaf home news) old now is says q (λ k a b put. subst (λ (l : Leaf). said says (entry_at b l) ≡ said says (entry_at a l)) (sym here) (ap (said says) put.here ∙ same (entry_at a leaf) (k == home))) i
    | inr apart ↦ beside i q apart
  ]

  hears_none : ((o : Option Entry) (own : Bool) → said says (heard o own news) ≡ None) → (i : ℕ) → says_at says now i leaf ≡ None
  hears_none none i = go (cases_lt i (length old))
    where
      go : (i < length old) ⊎ (length old ≤ i) → says_at says now i leaf ≡ None
      go (inl low) = ap (said says) (is.each i low).here ∙ none (entry_at (rows_at old i) leaf) (i == home)
      go (inr high) = none_beyond (Hears leaf home news) old now is says i leaf high

  hears_set : (rank : Rank) → home < length old → ((o : Option Entry) (own : Bool) → said says (heard o own news) ≡ cond own (Some rank) None) → (i : ℕ) → says_at says now i leaf ≡ cond (i == home) (Some rank) None
  hears_set rank within set i = go (cases_lt i (length old))
    where
      go : (i < length old) ⊎ (length old ≤ i) → says_at says now i leaf ≡ cond (i == home) (Some rank) None
      go (inl low) = ap (said says) (is.each i low).here ∙ set (entry_at (rows_at old i) leaf) (i == home)
      go (inr high) = none_beyond (Hears leaf home news) old now is says i leaf high ∙ sym (ap (λ b. cond b (Some rank) None) (is_apart i home (λ (e : i ≡ home). omega (arith, e, high, within))))

module _ (leaf : Leaf) (home : ℕ) (news : News) (old now : List ListRows) (is : AreEach (Hears leaf home news) old now) where
  -- no row came in, so there is as much room
  pub room_kept : (room : ℕ) → ((i : ℕ) → i < length old → room ≤ (rows_at old i).room) → ((i : ℕ) → i < length old → adds_row (entry_at (rows_at old i) leaf) (heard (entry_at (rows_at old i) leaf) (i == home) news) ≡ false)
      → (i : ℕ) → i < length now → room ≤ (rows_at now i).room
  room_kept room roomy none i low = let within : i < length old = subst (λ n. i < n) is.many low in omega (arith, roomy i within, (is.each i within).kept (none i within))

  -- a row at most came in
  pub room_less : (room left : ℕ) → left + 1 ≤ room → ((i : ℕ) → i < length old → room ≤ (rows_at old i).room) → (i : ℕ) → i < length now → left ≤ (rows_at now i).room
  room_less room left less roomy i low = let within : i < length old = subst (λ n. i < n) is.many low in omega (arith, less, roomy i within, (is.each i within).room)

some_lists : (old now : List ListRows) → length now ≡ length old → 0 < length old → 0 < length now
some_lists old now many some = subst (λ n. 0 < n) (sym many) some

pub say_claimed : (leaf : Leaf) (home : ℕ) (rank : Rank) (old now : List ListRows) (room left : ℕ) → AreLists room old → home ≡ home_of (length old) rank.0 → home < length old → AreEach (Hears leaf home (Claimed rank)) old now
    → ((i : ℕ) → i < length now → left ≤ (rows_at now i).room) → Say left now (map.insert (told claimed old) leaf rank) (told promised old)
say_claimed leaf home rank old now room left valid at within is roomy = record {
  valid = record {
    some = some_lists old now is.many valid.some;
    claims = once_set claimed now old leaf (beside leaf home (Claimed rank) old now is claimed) home rank is.many at set valid.claims;
    promises = once_fewer promised now old is.many (λ i q r has. sym (same i q) ∙ has) valid.promises;
    roomy = roomy;
  };
  roots = told_set claimed now old leaf (beside leaf home (Claimed rank) old now is claimed) home rank set;
  promises = told_same promised now old same;
}
  where
    set : (i : ℕ) → says_at claimed now i leaf ≡ cond (i == home) (Some rank) None
    set = hears_set leaf home (Claimed rank) old now is claimed rank within (λ o own. claims_claimed o own rank)

    same : (i : ℕ) (q : Leaf) → says_at promised now i q ≡ says_at promised old i q
    same = hears_same leaf home (Claimed rank) old now is promised (λ o own. promises_claimed o own rank)

pub say_promised : (leaf : Leaf) (home : ℕ) (rank : Rank) (old now : List ListRows) (room left : ℕ) → AreLists room old → home ≡ home_of (length old) rank.0 → home < length old → AreEach (Hears leaf home (Promised rank)) old now
    → ((i : ℕ) → i < length now → left ≤ (rows_at now i).room) → Say left now (told claimed old) (map.insert (told promised old) leaf rank)
say_promised leaf home rank old now room left valid at within is roomy = record {
  valid = record {
    some = some_lists old now is.many valid.some;
    claims = once_fewer claimed now old is.many (λ i q r has. sym (same i q) ∙ has) valid.claims;
    promises = once_set promised now old leaf (beside leaf home (Promised rank) old now is promised) home rank is.many at set valid.promises;
    roomy = roomy;
  };
  roots = told_same claimed now old same;
  promises = told_set promised now old leaf (beside leaf home (Promised rank) old now is promised) home rank set;
}
  where
    set : (i : ℕ) → says_at promised now i leaf ≡ cond (i == home) (Some rank) None
    set = hears_set leaf home (Promised rank) old now is promised rank within (λ o own. promises_promised o own rank)

    same : (i : ℕ) (q : Leaf) → says_at claimed now i q ≡ says_at claimed old i q
    same = hears_same leaf home (Promised rank) old now is claimed (λ o own. claims_promised o own rank)

-- where a word is taken back, each that is left was there
still : (says : Entry → Option Rank) (leaf : Leaf) (old now : List ListRows) → ((i : ℕ) (q : Leaf) → q ≢ leaf → says_at says now i q ≡ says_at says old i q) → ((i : ℕ) → says_at says now i leaf ≡ None)
    → (i : ℕ) (q : Leaf) (rank : Rank) → says_at says now i q ≡ Some rank → says_at says old i q ≡ Some rank
still says leaf old now others none i q rank has = elim (same_or_apart q leaf) [
  | inl same ↦ let clash : None ≡ Some rank = sym (none i) ∙ ap (says_at says now i) (sym same) ∙ has in absurd cc
  | inr apart ↦ sym (others i q apart) ∙ has
]

pub say_ended : (leaf : Leaf) (home : ℕ) (old now : List ListRows) (room : ℕ) → AreLists room old → AreEach (Hears leaf home Ended) old now → Say room now (map.remove (told claimed old) leaf) (told promised old)
say_ended leaf home old now room valid is = record {
  valid = record {
    some = some_lists old now is.many valid.some;
    claims = once_fewer claimed now old is.many (still claimed leaf old now (beside leaf home Ended old now is claimed) none) valid.claims;
    promises = once_fewer promised now old is.many (λ i q r has. sym (same i q) ∙ has) valid.promises;
    roomy = room_kept leaf home Ended old now is room valid.roomy (λ i low. ended_makes (entry_at (rows_at old i) leaf) (i == home));
  };
  roots = told_cleared claimed now old leaf (beside leaf home Ended old now is claimed) none;
  promises = told_same promised now old same;
}
  where
    none : (i : ℕ) → says_at claimed now i leaf ≡ None
    none = hears_none leaf home Ended old now is claimed (λ o own. claims_ended o own)

    same : (i : ℕ) (q : Leaf) → says_at promised now i q ≡ says_at promised old i q
    same = hears_same leaf home Ended old now is promised (λ o own. promises_ended o own)

pub say_withdrawn : (leaf : Leaf) (home : ℕ) (old now : List ListRows) (room : ℕ) → AreLists room old → AreEach (Hears leaf home Withdrawn) old now → Say room now (told claimed old) (map.remove (told promised old) leaf)
say_withdrawn leaf home old now room valid is = record {
  valid = record {
    some = some_lists old now is.many valid.some;
    claims = once_fewer claimed now old is.many (λ i q r has. sym (same i q) ∙ has) valid.claims;
    promises = once_fewer promised now old is.many (still promised leaf old now (beside leaf home Withdrawn old now is promised) none) valid.promises;
    roomy = room_kept leaf home Withdrawn old now is room valid.roomy (λ i low. withdrawn_makes (entry_at (rows_at old i) leaf) (i == home));
  };
  roots = told_same claimed now old same;
  promises = told_cleared promised now old leaf (beside leaf home Withdrawn old now is promised) none;
}
  where
    none : (i : ℕ) → says_at promised now i leaf ≡ None
    none = hears_none leaf home Withdrawn old now is promised (λ o own. promises_withdrawn o own)

    same : (i : ℕ) (q : Leaf) → says_at claimed now i q ≡ says_at claimed old i q
    same = hears_same leaf home Withdrawn old now is claimed (λ o own. claims_withdrawn o own)

-- ---- room for news

pub room_for : (leaf : Leaf) (home : ℕ) (news : News) (lists : List ListRows) (room : ℕ) → ((i : ℕ) → i < length lists → room ≤ (rows_at lists i).room) → 0 < room → HaveRoom leaf home news lists
room_for leaf home news lists room roomy some i low made = omega (arith, roomy i low, some)

none_made : (b : Bool) → b ≡ false → b ≡ true → ⊥
none_made b un is = let clash : false ≡ true = sym un ∙ is in absurd cc

pub ended_room : (leaf : Leaf) (home : ℕ) (lists : List ListRows) → HaveRoom leaf home Ended lists
ended_room leaf home lists i low made = absurd (none_made _ (ended_makes (entry_at (rows_at lists i) leaf) (i == home)) made)

pub withdrawn_room : (leaf : Leaf) (home : ℕ) (lists : List ListRows) → HaveRoom leaf home Withdrawn lists
withdrawn_room leaf home lists i low made = absurd (none_made _ (withdrawn_makes (entry_at (rows_at lists i) leaf) (i == home)) made)

module _ (leaf : Leaf) (home : ℕ) (rank : Rank) (lists : List ListRows) (room : ℕ) (valid : AreLists room lists) (at : home ≡ home_of (length lists) rank.0) (promise : map.get (told promised lists) leaf ≡ Some rank) where
  -- the row of a promise is in the list of the rank
  row_there : entry_at (rows_at lists home) leaf ≡ None → ⊥
  row_there none =
      let place = some_at promised lists leaf rank (sym (get_told promised lists leaf) ∙ promise) in
      let here : place.0 ≡ home = valid.promises.home place.0 leaf rank place.2 ∙ sym at in
      let clash : None ≡ Some rank = sym (ap (said promised) none) ∙ ap (λ (k : ℕ). says_at promised lists k leaf) (sym here) ∙ place.2 in
      absurd cc

  -- so none comes in where it becomes a claim
  pub nothing_made : (i : ℕ) → i < length lists → adds_row (entry_at (rows_at lists i) leaf) (heard (entry_at (rows_at lists i) leaf) (i == home) (Handed rank)) ≡ false
  nothing_made i low = go (adds_row (entry_at (rows_at lists i) leaf) (heard (entry_at (rows_at lists i) leaf) (i == home) (Handed rank))) refl
    where
      go : (b : Bool) → adds_row (entry_at (rows_at lists i) leaf) (heard (entry_at (rows_at lists i) leaf) (i == home) (Handed rank)) ≡ b → b ≡ false
      go false is = refl
      go true is =
          let made = handed_makes (entry_at (rows_at lists i) leaf) (i == home) rank is in
          absurd (row_there (ap (λ (k : ℕ). entry_at (rows_at lists k) leaf) (sym (eqb-true i home made.0)) ∙ made.1))

  pub kept_room : HaveRoom leaf home (Handed rank) lists
  kept_room i low made = absurd (none_made _ (nothing_made i low) made)

pub say_handed : (leaf : Leaf) (home : ℕ) (rank : Rank) (old now : List ListRows) (room : ℕ) → AreLists room old → home ≡ home_of (length old) rank.0 → home < length old → map.get (told promised old) leaf ≡ Some rank → AreEach (Hears leaf home (Handed rank)) old now
    → Say room now (map.insert (told claimed old) leaf rank) (map.remove (told promised old) leaf)
say_handed leaf home rank old now room valid at within promise is = record {
  valid = record {
    some = some_lists old now is.many valid.some;
    claims = once_set claimed now old leaf (beside leaf home (Handed rank) old now is claimed) home rank is.many at set valid.claims;
    promises = once_fewer promised now old is.many (still promised leaf old now (beside leaf home (Handed rank) old now is promised) none) valid.promises;
    roomy = room_kept leaf home (Handed rank) old now is room valid.roomy (nothing_made leaf home rank old room valid at promise);
  };
  roots = told_set claimed now old leaf (beside leaf home (Handed rank) old now is claimed) home rank set;
  promises = told_cleared promised now old leaf (beside leaf home (Handed rank) old now is promised) none;
}
  where
    set : (i : ℕ) → says_at claimed now i leaf ≡ cond (i == home) (Some rank) None
    set = hears_set leaf home (Handed rank) old now is claimed rank within (λ o own. claims_handed o own rank)

    none : (i : ℕ) → says_at promised now i leaf ≡ None
    none = hears_none leaf home (Handed rank) old now is promised (λ o own. promises_handed o own rank)

-- ---- changes of each list

say_same : (old now : List ListRows) (room left : ℕ) → length now ≡ length old → AreLists room old → ((i : ℕ) (q : Leaf) → says_at claimed now i q ≡ says_at claimed old i q) → ((i : ℕ) (q : Leaf) → says_at promised now i q ≡ says_at promised old i q)
    → ((i : ℕ) → i < length now → left ≤ (rows_at now i).room) → Say left now (told claimed old) (told promised old)
say_same old now room left many valid claims promises roomy = record {
  valid = record {
    some = some_lists old now many valid.some;
    claims = once_fewer claimed now old many (λ i q r has. sym (claims i q) ∙ has) valid.claims;
    promises = once_fewer promised now old many (λ i q r has. sym (promises i q) ∙ has) valid.promises;
    roomy = roomy;
  };
  roots = told_same claimed now old claims;
  promises = told_same promised now old promises;
}

pub say_kept : (old now : List ListRows) (room : ℕ) → AreLists room old → AreEach (λ i. HasSame) old now → Say room now (told claimed old) (told promised old)
say_kept old now room valid is =
    say_same old now room room is.many valid (λ i q. at_each (λ k. HasSame) old now is claimed q (λ k a b has. ap (λ m. said claimed (map.get m q)) has.same) i)
    (λ i q. at_each (λ k. HasSame) old now is promised q (λ k a b has. ap (λ m. said promised (map.get m q)) has.same) i)
    (λ i low. let within : i < length old = subst (λ n. i < n) is.many low in omega (arith, valid.roomy i within, (is.each i within).more))

pub say_grown : (old now : List ListRows) (room additional : ℕ) → AreLists room old → AreEach (λ i. HasGrown additional) old now → Say additional now (told claimed old) (told promised old)
say_grown old now room additional valid is =
    say_same old now room additional is.many valid (λ i q. at_each (λ k. HasGrown additional) old now is claimed q (λ k a b has. ap (λ m. said claimed (map.get m q)) has.same) i)
    (λ i q. at_each (λ k. HasGrown additional) old now is promised q (λ k a b has. ap (λ m. said promised (map.get m q)) has.same) i)
    (λ i low. let within : i < length old = subst (λ n. i < n) is.many low in (is.each i within).enough)

pub say_hints : (old now : List ListRows) (room : ℕ) → AreLists room old → AreEach (λ i. HasHints) old now → Say room now (told claimed old) (told promised old)
say_hints old now room valid is =
    say_same old now room room is.many valid (λ i q. at_each (λ k. HasHints) old now is claimed q (λ k a b has. has.claims q) i) (λ i q. at_each (λ k. HasHints) old now is promised q (λ k a b has. has.promises q) i)
    (λ i low. let within : i < length old = subst (λ n. i < n) is.many low in omega (arith, valid.roomy i within, (is.each i within).more))

pub say_learnt : (old now : List ListRows) (room left count : ℕ) → left + count ≤ room → AreLists room old → AreEach (λ i. HasLearnt count) old now → Say left now (told claimed old) (told promised old)
say_learnt old now room left count enough valid is =
    say_same old now room left is.many valid (λ i q. at_each (λ k. HasLearnt count) old now is claimed q (λ k a b has. has.claims q) i) (λ i q. at_each (λ k. HasLearnt count) old now is promised q (λ k a b has. has.promises q) i)
    (λ i low. let within : i < length old = subst (λ n. i < n) is.many low in omega (arith, enough, valid.roomy i within, (is.each i within).less))

-- a directory that goes
module _ (d : ℕ) (old now : List ListRows) (is : AreEach (λ i. HasDropped d) old now) where
  module _ (says : Entry → Option Rank) where
    drop_others : (i : ℕ) (q : Leaf) → q.0.0 ≢ d → says_at says now i q ≡ says_at says old i q
    drop_others i q apart = at_each (λ k. HasDropped d) old now is says q (λ k a b has. ap (said says) (has.others q apart)) i

    drop_none : (i : ℕ) (q : Leaf) → q.0.0 ≡ d → says_at says now i q ≡ None
    drop_none i q here = go (cases_lt i (length old))
      where
        go : (i < length old) ⊎ (length old ≤ i) → says_at says now i q ≡ None
        go (inl low) = ap (said says) ((is.each i low).gone q here)
        go (inr high) = none_beyond (λ k. HasDropped d) old now is says i q high

    pub gone_from : AreGone (told says old) (told says now) d
    gone_from = told_gone says now old d drop_none drop_others

    drop_still : (i : ℕ) (q : Leaf) (rank : Rank) → says_at says now i q ≡ Some rank → says_at says old i q ≡ Some rank
    drop_still i q rank has = elim (cases_eq q.0.0 d) [
      | inl same ↦ let clash : None ≡ Some rank = sym (drop_none i q same) ∙ has in absurd cc
      | inr apart ↦ sym (drop_others i q apart) ∙ has
    ]

  pub dropped_lists : (room : ℕ) → AreLists room old → AreLists room now
  dropped_lists room valid = record {
    some = some_lists old now is.many valid.some;
    claims = once_fewer claimed now old is.many (drop_still claimed) valid.claims;
    promises = once_fewer promised now old is.many (drop_still promised) valid.promises;
    roomy = λ i low. let within : i < length old = subst (λ n. i < n) is.many low in omega (arith, valid.roomy i within, (is.each i within).more);
  }

-- ---- lists without a row

pub say_nothing : (lists : List ListRows) (count : ℕ) → 0 < count → HaveNone count lists → Say 0 lists map.empty map.empty
say_nothing lists count some none = record {
  valid = record {
    some = subst (λ n. 0 < n) (sym none.many) some;
    claims = record { home = λ i q rank has. absurd (clash i q rank claimed has); one = λ i j q a b has also. absurd (clash i q a claimed has) };
    promises = record { home = λ i q rank has. absurd (clash i q rank promised has); one = λ i j q a b has also. absurd (clash i q a promised has) };
    roomy = λ i low. omega arith;
  };
  roots = nothing claimed;
  promises = nothing promised;
}
  where
    clash : (i : ℕ) (q : Leaf) (rank : Rank) (says : Entry → Option Rank) → says_at says lists i q ≡ Some rank → ⊥
    clash i q rank says has = let no : None ≡ Some rank = sym (ap (said says) (none.each i q)) ∙ has in absurd cc

    nothing : (says : Entry → Option Rank) → told says lists ≡ map.empty
    nothing says = same_map leaf-total leaf-exact _ _ (λ q. get_told says lists q ∙ nowhere says lists q (λ i. ap (said says) (none.each i q)) ∙ sym (get-empty leaf_cmp q))

-- ---- a rank that asks

pub claim_is : (lists : List ListRows) (room : ℕ) (leaf : Leaf) (rank : Rank) → AreLists room lists → IsClaimed lists leaf rank → first_told claimed lists leaf ≡ Some rank
claim_is lists room leaf rank valid is = found_at claimed lists is.at leaf rank (λ j other has. valid.claims.one j is.at leaf other rank has is.claims) is.claims

pub none_first : (lists : List ListRows) → lists ≡ [] → HaveNone 0 lists
none_first lists is = record { many = ap length is; each = λ i q. ap (λ (ls : List ListRows). entry_at (rows_at ls i) q) is ∙ none_there claimed q }

pub none_more : (count : ℕ) (lists now : List ListRows) (rows : ListRows) → HaveNone count lists → now ≡ lists ++ rows ∷ [] → contents leaf_cmp rows ≡ map.empty → HaveNone (count + 1) now
none_more count lists now rows none is empty = record {
  many = ap length is ∙ length-append lists (rows ∷ []) ∙ ap (λ n. n + 1) none.many;
  each = λ i q. ap (λ (ls : List ListRows). entry_at (rows_at ls i) q) is ∙ pushed q lists (λ k. none.each k q) i;
}
  where
    pushed : (q : Leaf) (ls : List ListRows) → ((i : ℕ) → entry_at (rows_at ls i) q ≡ None) → (i : ℕ) → entry_at (rows_at (ls ++ rows ∷ []) i) q ≡ None
    pushed q [] each zero = ap (λ m. map.get m q) empty ∙ get-empty leaf_cmp q
    pushed q [] each (suc i) = none_there claimed q
    pushed q (x ∷ xs) each zero = each zero
    pushed q (x ∷ xs) each (suc i) = pushed q xs (λ k. each (suc k)) i

-- ---- the fields of the type, once all lists are written to

module _ (v : Vec ListRows Global) (room : ℕ) (self : Subtrees) (view : ◌≡◌ {A = Subtrees} (record { roots = told claimed v.items; promises = told promised v.items; room = room }) self) where
  -- what the lists say, in the words of the value
  pub closing : (now : List ListRows) (left : ℕ) (f g : Roots → Roots) → length now ≡ length v.items → Say left now (f (told claimed v.items)) (g (told promised v.items)) → Say left (with_items v now).items (f self.roots) (g self.promises)
  closing now left f g many says =
      let roots = says.roots ∙ ap (λ (s : Subtrees). f s.roots) view in
      let promises = says.promises ∙ ap (λ (s : Subtrees). g s.promises) view in
      subst (λ (ls : List ListRows). Say left ls (f self.roots) (g self.promises)) (sym (refilled v now many)) (record { valid = says.valid; roots = roots; promises = promises })

  -- the value stays where the lists say what they said
  pub same_value : (now : List ListRows) (left : ℕ) → Say left now self.roots self.promises → ◌≡◌ {A = Subtrees} (record { roots = told claimed now; promises = told promised now; room = room }) self
  same_value now left says = λ i. record { roots = says.roots i; promises = says.promises i; room = same i }
    where
      same : room ≡ self.room
      same = ap (λ (s : Subtrees). s.room) view

pub nothing_removed : (m : Roots) (leaf : Leaf) → None ≡ map.get m leaf → m ≡ map.remove m leaf
nothing_removed m leaf none = same_map leaf-total leaf-exact _ _ each
  where
    each : (q : Leaf) → map.get m q ≡ map.get (map.remove m leaf) q
    each q = elim (same_or_apart q leaf) [
      | inl same ↦ ap (map.get m) same ∙ sym none ∙ sym (get_removed m leaf) ∙ ap (map.get (map.remove m leaf)) (sym same)
      | inr apart ↦ sym (get_left m leaf q apart)
    ]

pub on_err : {A E : Type 0} (r : Result A E) {P : Type 0} → P → OnErr r P
on_err (Ok x) is = tt
on_err (Err e) is = is
