-- What is kept of a client, and what its history says.
use Rattle.sessions.proofs.Common.{AllByRecursion, ArePairsOnce, AreSetAside, Bool, Entry, Equal, Greater, IsAsideFor, IsInReach, IsReplyPlace, IsPairAt, IsReplyAt, IsReplyIn, IsTableOf, Less, List, None, Option, Ordering, Reply, Some, T, Table, [], and_parts, ap, ap₂, arith, aside_in, below_all, cond, entries_sorted, eq-eqb, eq_by_cmp, eqb-true, false, false≢true, find, get-entries, get_or_default, is_from, is_lt, is_pair, is_some, is_sorted, kept_in, kept_replies, le_from_is_le, kept_reply, length, list_any, mark, nat_cmp, none-some, ranked, refl, replies_at, reply_in, reply_to, row_in, slice_index_or, stand_in, subst, suc, sym, take, told_reply, true, unsigned_tied, zero, ℕ, ◌&&◌, ◌++◌, ◌-◌, ◌<◌, ◌==◌, ◌||◌, ◌∙◌, ◌∷◌, ◌≡◌, ◌≤◌}
use Rattle.std.specs.FinMap as map
use Rattle.mds_types.specs.declared.replies.Reply.TheVariants.{Done}
use Rattle.sessions.proofs.TableLaws.{is_from_le, kept_within, told_at}

-- ---- the pairs of a map

less_than : (a b : ℕ) → is_lt (nat_cmp a b) ≡ true → a < b
less_than a b = go (nat_cmp a b) refl
  where
    go : (r : Ordering) → r ≡ nat_cmp a b → is_lt r ≡ true → a < b
    go Less e _ = ranked a b Less e
    go Equal e is = absurd (false≢true is)
    go Greater e is = absurd (false≢true is)

-- a key that is found behind a lower one
found_above : (x k v : ℕ) (es : List (ℕ × ℕ)) → below_all nat_cmp x es ≡ true → find nat_cmp k es ≡ Some v → x < k
found_above x k v [] low is = absurd (none-some v is)
found_above x k v (e ∷ es) low is =
    let both = and_parts (is_lt (nat_cmp x e.0)) (below_all nat_cmp x es) low in
    go (eq_by_cmp nat_cmp k e.0) refl (less_than x e.0 both.0) (found_above x k v es both.1) is
  where
    go : (b : Bool) → eq_by_cmp nat_cmp k e.0 ≡ b → x < e.0 → (find nat_cmp k es ≡ Some v → x < k) → cond b (Some e.1) (find nat_cmp k es) ≡ Some v → x < k
    go true same here rest _ = let one : k ≡ e.0 = eqb-true k e.0 (sym (unsigned_tied k e.0) ∙ same) in omega (arith, here, one)
    go false other here rest more = rest more

-- what holds of each that is found, holds of each pair
pub all_found : (P : ℕ × ℕ → Type 0) (es : List (ℕ × ℕ)) → is_sorted nat_cmp es ≡ true → ((k v : ℕ) → find nat_cmp k es ≡ Some v → P (k, v)) → AllByRecursion P es
all_found P [] sorted h = tt
all_found P (e ∷ es) sorted h =
    let both = and_parts (below_all nat_cmp e.0 es) (is_sorted nat_cmp es) sorted in
    (h e.0 e.1 (ap (λ b. cond b (Some e.1) (find nat_cmp e.0 es)) (unsigned_tied e.0 e.0 ∙ eq-eqb e.0 e.0 refl)), all_found P es both.1 (λ k v is. h k v (behind k v (found_above e.0 k v es both.0 is) is)))
  where
    behind : (k v : ℕ) → e.0 < k → find nat_cmp k es ≡ Some v → cond (eq_by_cmp nat_cmp k e.0) (Some e.1) (find nat_cmp k es) ≡ Some v
    behind k v low is = go (eq_by_cmp nat_cmp k e.0) refl
      where
        go : (b : Bool) → eq_by_cmp nat_cmp k e.0 ≡ b → cond b (Some e.1) (find nat_cmp k es) ≡ Some v
        go true same = let one : k ≡ e.0 = eqb-true k e.0 (sym (unsigned_tied k e.0) ∙ same) in absurd (omega (arith, low, one))
        go false other = is

holds : (b : Bool) → T b → b ≡ true
holds true h = refl
holds false h = absurd h

pub sorted_entries : (m : map.FinMap nat_cmp ℕ) → is_sorted nat_cmp (map.entries m) ≡ true
sorted_entries m = holds (is_sorted nat_cmp (map.entries m)) (entries_sorted m)

-- each reply that is kept is in reach
pub in_reach : (past history : List Entry) (table : Table) (client : ℕ) → IsTableOf (past ++ history) table → AreSetAside past history table
    → AllByRecursion (IsInReach history table.forgotten (row_in table client).aside) (map.entries (row_in table client).kept)
in_reach past history table client h aside =
    all_found (IsInReach history table.forgotten (row_in table client).aside) (map.entries (row_in table client).kept) (sorted_entries (row_in table client).kept)
    (λ tid place is none. kept_within past history table client tid place h aside (get-entries (row_in table client).kept tid ∙ is) none)

-- ---- the replies in their order

module _ (history : List Entry) (forgotten : ℕ) (aside : map.FinMap nat_cmp Reply) where
  below_replies : (x : ℕ) (es : List (ℕ × ℕ)) → below_all nat_cmp x (replies_at history forgotten aside es) ≡ below_all nat_cmp x es
  below_replies x [] = refl
  below_replies x (e ∷ es) = ap (λ b. is_lt (nat_cmp x e.0) && b) (below_replies x es)

  pub sorted_replies : (es : List (ℕ × ℕ)) → is_sorted nat_cmp (replies_at history forgotten aside es) ≡ is_sorted nat_cmp es
  sorted_replies [] = refl
  sorted_replies (e ∷ es) = ap₂ (λ a b. a && b) (below_replies e.0 es) (sorted_replies es)

  -- the reply of a place that was found
  abbrev pub reply_at : ℕ → Option ℕ → Option Reply
  reply_at tid None = None
  reply_at tid (Some place) = Some (told_reply history forgotten place (map.get aside tid))

  pub reply_found : (es : List (ℕ × ℕ)) (tid : ℕ) → reply_in (replies_at history forgotten aside es) tid ≡ reply_at tid (find nat_cmp tid es)
  reply_found [] tid = refl
  reply_found (e ∷ es) tid = go (e.0 == tid) refl (eq_by_cmp nat_cmp tid e.0) (unsigned_tied tid e.0) (reply_found es tid)
    where
      go : (b : Bool) → (e.0 == tid) ≡ b → (c : Bool) → c ≡ (tid == e.0) → reply_in (replies_at history forgotten aside es) tid ≡ reply_at tid (find nat_cmp tid es)
          → cond b (Some (told_reply history forgotten e.1 (map.get aside e.0))) (reply_in (replies_at history forgotten aside es) tid) ≡ reply_at tid (cond c (Some e.1) (find nat_cmp tid es))
      go true one true two more = ap (λ t. Some (told_reply history forgotten e.1 (map.get aside t))) (eqb-true e.0 tid one)
      go true one false two more = absurd (false≢true (two ∙ eq-eqb tid e.0 (sym (eqb-true e.0 tid one))))
      go false one true two more = absurd (false≢true (sym one ∙ eq-eqb e.0 tid (sym (eqb-true tid e.0 (sym two)))))
      go false one false two more = more

-- ---- the reply of a pair's entry

-- where a pair stands once, its reply is that of its entry
module _ (client tid : ℕ) where
  first_of : (l : List Entry) (p : ℕ) (d : Entry) → p < length l → list_any (is_pair client tid) (take p l) ≡ false → is_pair client tid (slice_index_or l p d) ≡ true
      → reply_to l client tid ≡ Some (slice_index_or l p d).reply
  first_of [] p d low none is = absurd (omega (arith, low))
  first_of (x ∷ l) zero d low none is = ap (λ b. cond b (Some x.reply) (reply_to l client tid)) is
  first_of (x ∷ l) (suc p) d low none is = go (is_pair client tid x) none (first_of l p d (omega (arith, low)))
    where
      go : (b : Bool) → (b || list_any (is_pair client tid) (take p l)) ≡ false
          → (list_any (is_pair client tid) (take p l) ≡ false → is_pair client tid (slice_index_or l p d) ≡ true → reply_to l client tid ≡ Some (slice_index_or l p d).reply)
          → cond b (Some x.reply) (reply_to l client tid) ≡ Some (slice_index_or l p d).reply
      go true never rest = absurd (false≢true (sym never))
      go false none rest = rest none is

  pub reply_of_pair : (l : List Entry) (p : ℕ) (d : Entry) → ArePairsOnce l → IsPairAt l client tid p → reply_to l client tid ≡ Some (slice_index_or l p d).reply
  reply_of_pair l p d once stands =
      let its = stands.pair d in
      let e : Entry = slice_index_or l p d in
      let both = and_parts (e.client == client) (e.tid == tid) its in
      first_of l p d stands.in_range (ap₂ (λ c t. list_any (is_pair c t) (take p l)) (sym (eqb-true e.client client both.0)) (sym (eqb-true e.tid tid both.1)) ∙ once p d stands.in_range) its

  -- where it stands nowhere there is none
  pub replied : (l : List Entry) → is_some (reply_to l client tid) ≡ list_any (is_pair client tid) l
  replied [] = refl
  replied (x ∷ l) = go (is_pair client tid x) (replied l)
    where
      go : (b : Bool) → is_some (reply_to l client tid) ≡ list_any (is_pair client tid) l → is_some (cond b (Some x.reply) (reply_to l client tid)) ≡ (b || list_any (is_pair client tid) l)
      go true more = refl
      go false more = more

  no_reply : (o : Option Reply) → is_some o ≡ false → o ≡ None
  no_reply None _ = refl
  no_reply (Some reply) never = absurd (false≢true (sym never))

  pub none_replied : (l : List Entry) → list_any (is_pair client tid) l ≡ false → reply_to l client tid ≡ None
  none_replied l none = no_reply (reply_to l client tid) (replied l ∙ none)

-- what is kept is what the history keeps
pub kept_is : (past history : List Entry) (table : Table) (client tid : ℕ) → IsTableOf (past ++ history) table → AreSetAside past history table → ArePairsOnce (past ++ history)
    → reply_in (kept_replies history table client) tid ≡ kept_reply (past ++ history) client tid
kept_is past history table client tid h aside once =
    reply_found history table.forgotten (row_in table client).aside (map.entries (row_in table client).kept) tid
    ∙ ap (reply_at history table.forgotten (row_in table client).aside tid) (sym (get-entries (row_in table client).kept tid))
    ∙ go (kept_in table client tid) refl (aside_in table client tid) refl (h.replies client tid) (aside.aside client tid)
  where
    at_or_above : (b : Bool) (o : Option Reply) → o ≡ None → None ≡ cond b o None
    at_or_above true o none = sym none
    at_or_above false o none = refl

    marked : (place : ℕ) (reply : Reply) → mark (past ++ history) client ≤ tid → IsPairAt (past ++ history) client tid place → IsReplyAt (past ++ history) place reply → Some reply ≡ kept_reply (past ++ history) client tid
    marked place reply low stands told =
        let d : Entry = stand_in 0 0 0 Done in
        ap Some (told d) ∙ sym (reply_of_pair client tid (past ++ history) place d once stands)
        ∙ ap (λ b. cond b (reply_to (past ++ history) client tid) None) (sym (is_from_le low))

    is_reply : (place : ℕ) (a : Option Reply) → (a ≡ None → (table.forgotten ≤ place) × (place - table.forgotten < length history)) → IsReplyIn history table.forgotten place a (told_reply history table.forgotten place a)
    is_reply place None reach = λ e. ap (λ (x : Entry). x.reply) (get_or_default history (place - table.forgotten) (stand_in 0 0 0 Done) e (reach refl).1)
    is_reply place (Some reply) reach = refl

    go : (o : Option ℕ) → kept_in table client tid ≡ o → (a : Option Reply) → aside_in table client tid ≡ a → IsReplyPlace (past ++ history) client tid o → IsAsideFor (past ++ history) table.forgotten o a
        → reply_at history table.forgotten (row_in table client).aside tid o ≡ kept_reply (past ++ history) client tid
    go None is a aside_is k s = below (is_from nat_cmp (mark (past ++ history) client) tid) refl
      where
        below : (b : Bool) → is_from nat_cmp (mark (past ++ history) client) tid ≡ b → None ≡ cond b (reply_to (past ++ history) client tid) None
        below true low = sym (none_replied client tid (past ++ history) (k (le_from_is_le (mark (past ++ history) client) tid low)))
        below false low = refl
    go (Some place) is a aside_is (low, stands) s =
        let reply = told_reply history table.forgotten place (aside_in table client tid) in
        marked place reply low stands (told_at past history table.forgotten place aside.before (Some place) refl (aside_in table client tid) reply
        (subst (IsAsideFor (past ++ history) table.forgotten (Some place)) (sym aside_is) s)
        (is_reply place (aside_in table client tid) (λ none. kept_within past history table client tid place h aside is none)))
