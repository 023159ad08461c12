-- Fragments gathered by their leaves.
use Rattle.export_regions.proofs.Common.{AllByRecursion, AreSendable, Bool, CacheMap, Cached, HasCached, Leaf, List, MaySend, MaySendAll, None, Option, SentFrag, Some, [], and_from, and_parts, ap, append_assoc, arith, cond, drop, drop-cons, drop_all, eq_by_cmp, false, find, gathered, get-empty, get-entries, get-insert, get-remove, get_or, here, is_sent_frag, key_itself, leaf-total, leaf_cmp, leaf_is, length, list_all, refl, same_Some, sent_from, slice_get, subst, suc, sym, tied_leaf, true, values, with_some, zero, ℕ, ◌++◌, ◌-◌, ◌<◌, ◌∙◌, ◌∷◌, ◌≡◌, ◌≤◌}
use Rattle.std.proofs.Common.{map as list_map}
use Rattle.std.specs.Option.{option_map}
use Rattle.std.specs.FinMap as map

-- one more, that is there
pub one_gathered : (c : CacheMap) (r : ℕ) (leaf : Leaf) (leaves : List Leaf) (old new : map.FinMap leaf_cmp SentFrag) (frag : SentFrag) → old ≡ gathered c r leaves → HasCached (here c r leaf) (λ (f : Cached). frag ≡ sent_from leaf f)
    → new ≡ map.insert old leaf frag → new ≡ gathered c r (leaf ∷ leaves)
one_gathered c r leaf leaves old new frag before sent is = is ∙ ap (λ m. map.insert m leaf frag) before ∙ go (here c r leaf) sent
  where
    go : (o : Option Cached) → HasCached o (λ (f : Cached). frag ≡ sent_from leaf f) → map.insert (gathered c r leaves) leaf frag ≡ with_some (gathered c r leaves) leaf (option_map (sent_from leaf) o)
    go None sent = absurd sent
    go (Some f) same = ap (map.insert (gathered c r leaves) leaf) same

pub one_sendable : (old new : map.FinMap leaf_cmp SentFrag) (leaf : Leaf) (frag : SentFrag) → AreSendable old → is_sent_frag frag ≡ true → new ≡ map.insert old leaf frag → AreSendable new
one_sendable old new leaf frag before sent is q found at = go (leaf_is q leaf) (sym (get-insert leaf-total old leaf frag q ∙ ap (λ b. cond b (Some frag) (map.get old q)) (tied_leaf q leaf)) ∙ ap (λ m. map.get m q) (sym is) ∙ at)
  where
    go : (b : Bool) → cond b (Some frag) (map.get old q) ≡ Some found → is_sent_frag found ≡ true
    go true same = ap is_sent_frag (sym (same_Some frag found same)) ∙ sent
    go false same = before q found same

pub none_sendable : (m : map.FinMap leaf_cmp SentFrag) → m ≡ map.empty → AreSendable m
none_sendable m none q found at = let clash : None ≡ Some found = sym (get-empty leaf_cmp q) ∙ ap (λ k. map.get k q) (sym none) ∙ at in absurd cc

-- of a list the leaf at an index, and those behind it
module _ (leaves : List Leaf) (i : ℕ) (d : Leaf) (some : 0 < i) (few : i ≤ length leaves) where
  pub this_drop : drop (i - 1) leaves ≡ get_or leaves (i - 1) d ∷ drop i leaves
  this_drop =
      let back : suc (i - 1) ≡ i = omega (arith, some) in
      drop-cons leaves (i - 1) d (omega (arith, some, few)) ∙ ap (λ (k : ℕ). get_or leaves (i - 1) d ∷ drop k leaves) back

all_dropped : (P : Leaf → Type 0) (n : ℕ) (leaves : List Leaf) → AllByRecursion P leaves → AllByRecursion P (drop n leaves)
all_dropped P zero leaves all = all
all_dropped P (suc n) [] all = tt
all_dropped P (suc n) (x ∷ leaves) all = all_dropped P n leaves all.1

pub this_may : (c : CacheMap) (r : ℕ) (leaves : List Leaf) (i : ℕ) (leaf : Leaf) (rest : List Leaf) → MaySendAll c r leaves → drop i leaves ≡ leaf ∷ rest → HasCached (here c r leaf) MaySend
this_may c r leaves i leaf rest may is = (subst (AllByRecursion (λ (l : Leaf). HasCached (here c r l) MaySend)) is (all_dropped (λ (l : Leaf). HasCached (here c r l) MaySend) i leaves may)).0

pub all_dropped_of : (leaves : List Leaf) → drop (length leaves) leaves ≡ []
all_dropped_of leaves = drop_all (length leaves) leaves (omega arith)

-- ---- the fragments in order

-- the first of a list, and the rest
first_of : {A : Type 0} (xs : List A) (x : A) → Some x ≡ slice_get xs 0 → xs ≡ x ∷ drop 1 xs
first_of [] x is = let clash : Some x ≡ None = is in absurd cc
first_of {A} (y ∷ ys) x is = ap (λ (z : A). z ∷ ys) (sym (same_Some x y is))

list_all_more : (test : SentFrag → Bool) (xs : List SentFrag) (x : SentFrag) → list_all test xs ≡ true → test x ≡ true → list_all test (xs ++ x ∷ []) ≡ true
list_all_more test [] x all is = and_from _ _ is refl
list_all_more test (y ∷ ys) x all is = let parts = and_parts (test y) (list_all test ys) all in and_from _ _ parts.0 (list_all_more test ys x parts.1 is)

module _ (old new total : map.FinMap leaf_cmp SentFrag) (leaf : Leaf) (frag : SentFrag) (first : Some (leaf, frag) ≡ slice_get (map.entries old) 0) (rest : map.entries new ≡ drop 1 (map.entries old)) where
  whole : map.entries old ≡ (leaf, frag) ∷ map.entries new
  whole = first_of (map.entries old) (leaf, frag) first ∙ ap (λ (es : List (Leaf × SentFrag)). (leaf, frag) ∷ es) (sym rest)

  pub one_ordered : (items now : List SentFrag) → items ++ values old ≡ values total → now ≡ items ++ frag ∷ [] → now ++ values new ≡ values total
  one_ordered items now before is =
      ap (λ (xs : List SentFrag). xs ++ values new) is ∙ append_assoc items (frag ∷ []) (values new) ∙ ap (λ (es : List (Leaf × SentFrag)). items ++ list_map (λ (e : Leaf × SentFrag). e.1) es) (sym whole) ∙ before

  -- it is found, so it may be sent
  pub first_sent : AreSendable old → is_sent_frag frag ≡ true
  first_sent all = all leaf frag (get-entries old leaf ∙ ap (find leaf_cmp leaf) whole ∙ ap (λ (b : Bool). cond b (Some frag) (find leaf_cmp leaf (map.entries new))) (key_itself leaf))

  pub ordered_sent : (items now : List SentFrag) → AreSendable old → list_all is_sent_frag items ≡ true → now ≡ items ++ frag ∷ [] → list_all is_sent_frag now ≡ true
  ordered_sent items now all before is = ap (list_all is_sent_frag) is ∙ list_all_more is_sent_frag items frag before (first_sent all)

  pub left_sendable : AreSendable old → new ≡ map.remove old leaf → AreSendable new
  left_sendable all is q found at = go (eq_by_cmp leaf_cmp q leaf) (sym (get-remove leaf-total old leaf q) ∙ ap (λ m. map.get m q) (sym is) ∙ at)
    where
      go : (b : Bool) → cond b None (map.get old q) ≡ Some found → is_sent_frag found ≡ true
      go true same = let clash : None ≡ Some found = same in absurd cc
      go false same = all q found same

  pub fewer_left : suc (length (map.entries new)) ≡ length (map.entries old)
  fewer_left = sym (ap (λ (es : List (Leaf × SentFrag)). length es) whole)
