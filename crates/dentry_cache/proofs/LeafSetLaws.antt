-- Leaves in their order: where one stands, what an edit makes of them, and which is the next.
use Rattle.dentry_cache.proofs.Common.{Bool, Bor, Equal, Err, Greater, IsBehind, IsBelow, IsBinarySearchResult, IsLeafGap, IsItemAt, IsNextLeaf, IsNonDecreasingBy, IsPlaceBehind, IsSearchInRange, IsLeafSpot, Less, List, None, Ok, Option, Ordering, Result, Rise, Some, StandsAt, [], alike_right, ap, arith, cond, false, false_from_ne_true, flips, get_or, inl, inr, insert, is_leaf_in, leaf-exact, leaf-total, leaf_itself, length, one_leaf, option_copied, ordering_index, ordering_reverse, refl, remove, same_leaf, slice_get, slice_get-get_or, slice_get_past, subst, suc, sym, tied_itself, true, zero, ℕ, ◌<◌, ◌||◌, ◌∙◌, ◌∷◌, ◌≡◌, ◌≤◌, ◌⊎◌}
use Rattle.mds_types.specs.Leaf.{Leaf, leaf_cmp, leaf_is}

-- ---- the order

turned : (a b : Leaf) (r : Ordering) → leaf_cmp a b ≡ r → leaf_cmp b a ≡ ordering_reverse r
turned a b r e = leaf-total.antisymm b a ∙ ap ordering_reverse e

not_less : (a : Leaf) → leaf_cmp a a ≡ Less → ⊥
not_less a less = let clash : Equal ≡ Less = sym (tied_itself leaf-total a) ∙ less in cc

not_back : (a b : Leaf) → leaf_cmp a b ≡ Less → leaf_cmp b a ≡ Less → ⊥
not_back a b less more = let clash : Less ≡ Greater = sym more ∙ turned a b Less less in cc

pub less_apart : (a b : Leaf) → leaf_cmp a b ≡ Less → leaf_is a b ≡ false
less_apart a b less = false_from_ne_true _ (λ same. not_less a (ap (leaf_cmp a) (one_leaf a b same) ∙ less))

below_at : (x : Leaf) (xs : List Leaf) (i : ℕ) (d : Leaf) → IsBelow x xs → i < length xs → leaf_cmp x (get_or xs i d) ≡ Less
below_at x [] i d below lt = absurd (omega (arith, lt))
below_at x (y ∷ xs) zero d below lt = below.0
below_at x (y ∷ xs) (suc i) d below lt = below_at x xs i d below.1 (omega (arith, lt))

below_less : (x y : Leaf) (xs : List Leaf) → leaf_cmp x y ≡ Less → IsBelow y xs → IsBelow x xs
below_less x y [] less below = tt
below_less x y (z ∷ xs) less below = (leaf-total.trans x y z less below.0, below_less x y xs less below.1)

not_in : (x : Leaf) (xs : List Leaf) → IsBelow x xs → is_leaf_in x xs ≡ false
not_in x [] below = refl
not_in x (y ∷ xs) below = ap (λ b. b || is_leaf_in x xs) (less_apart x y below.0) ∙ not_in x xs below.1

-- ---- where a search ends

lower : (a b k : Leaf) (r : Ordering) → leaf_cmp b k ≡ r → leaf_cmp a b ≡ Less → ordering_index (leaf_cmp a k) ≤ ordering_index r
lower a b k Less p q = rw (leaf-total.trans a b k q p) (omega arith)
lower a b k Equal p q = rw (sym (alike_right leaf-total b k a p) ∙ q) (omega arith)
lower a b k Greater p q = go (leaf_cmp a k)
  where
    go : (s : Ordering) → ordering_index s ≤ 2
    go Less = omega arith
    go Equal = omega arith
    go Greater = omega arith

rises : (k : Leaf) (xs : List Leaf) → Rise xs → IsNonDecreasingBy (λ y. ordering_index (leaf_cmp y k)) xs
rises k [] s i j d le lt = absurd (omega (arith, lt))
rises k (x ∷ xs) s zero zero d le lt = omega arith
rises k (x ∷ xs) s zero (suc j) d le lt = lower x _ k _ refl (below_at x xs j d s.0 (omega (arith, lt)))
rises k (x ∷ xs) s (suc i) zero d le lt = absurd (omega (arith, le))
rises k (x ∷ xs) s (suc i) (suc j) d le lt = rises k xs s.1 i j d (omega (arith, le)) (omega (arith, lt))

at_found : (k : Leaf) (xs : List Leaf) (i : ℕ) → i < length xs → ((d : Leaf) → leaf_cmp (get_or xs i d) k ≡ Equal) → StandsAt k xs i
at_found k [] i lt tied = absurd (omega (arith, lt))
at_found k (x ∷ xs) zero lt tied = leaf-exact x k (tied x)
at_found k (x ∷ xs) (suc i) lt tied = at_found k xs i (omega (arith, lt)) tied

all_above : (k : Leaf) (xs : List Leaf) → ((j : ℕ) (d : Leaf) → j < length xs → leaf_cmp (get_or xs j d) k ≡ Greater) → IsBelow k xs
all_above k [] above = tt
all_above k (x ∷ xs) above = (turned x k Greater (above zero x (omega arith)), all_above k xs (λ j d lt. above (suc j) d (omega (arith, lt))))

gap_found : (k : Leaf) (xs : List Leaf) (i : ℕ) → i ≤ length xs → ((j : ℕ) (d : Leaf) → j < i → leaf_cmp (get_or xs j d) k ≡ Less) → ((j : ℕ) (d : Leaf) → i ≤ j → j < length xs → leaf_cmp (get_or xs j d) k ≡ Greater) → IsLeafGap k xs i
gap_found k [] zero le below above = tt
gap_found k [] (suc i) le below above = absurd (omega (arith, le))
gap_found k (x ∷ xs) zero le below above = all_above k (x ∷ xs) (λ j d lt. above j d (omega arith) lt)
gap_found k (x ∷ xs) (suc i) le below above = (
  below zero x (omega arith),
  gap_found k xs i (omega (arith, le)) (λ j d lt. below (suc j) d (omega (arith, lt))) (λ j d from lt. above (suc j) d (omega (arith, from)) (omega (arith, lt))),
)

pub searched : (k : Leaf) (xs : List Leaf) (r : Result ℕ ℕ) → Rise xs → IsSearchInRange r (length xs) → IsBinarySearchResult (λ y. leaf_cmp y k) xs r → IsLeafSpot k xs r
searched k xs (Ok i) s within found = at_found k xs i within found
searched k xs (Err i) s within parted =
    let parts = parted (rises k xs s) in
    gap_found k xs i within (λ j d lt. parts.0 j d (omega arith) lt) (λ j d from lt. parts.1 j d from lt)

-- ---- what a place says

pub in_at : (k : Leaf) (xs : List Leaf) (i : ℕ) → StandsAt k xs i → is_leaf_in k xs ≡ true
in_at k [] i at = absurd at
in_at k (x ∷ xs) zero at = ap (λ b. b || is_leaf_in k xs) (same_leaf k x (sym at))
in_at k (x ∷ xs) (suc i) at = go (leaf_is k x) (in_at k xs i at)
  where
    go : (b : Bool) → is_leaf_in k xs ≡ true → (b || is_leaf_in k xs) ≡ true
    go true is = refl
    go false is = is

pub in_gap : (k : Leaf) (xs : List Leaf) (i : ℕ) → IsLeafGap k xs i → is_leaf_in k xs ≡ false
in_gap k [] i gap = refl
in_gap k (x ∷ xs) zero gap = not_in k (x ∷ xs) gap
in_gap k (x ∷ xs) (suc i) gap = ap (λ b. b || is_leaf_in k xs) (flips k x ∙ less_apart x k gap.0) ∙ in_gap k xs i gap.1

-- ---- edits

below_put : (x k : Leaf) (xs : List Leaf) (i : ℕ) → leaf_cmp x k ≡ Less → IsBelow x xs → IsBelow x (insert xs i k)
below_put x k [] zero less below = (less, tt)
below_put x k [] (suc i) less below = (less, tt)
below_put x k (y ∷ xs) zero less below = (less, below)
below_put x k (y ∷ xs) (suc i) less below = (below.0, below_put x k xs i less below.1)

pub put_rises : (k : Leaf) (xs : List Leaf) (i : ℕ) → Rise xs → IsLeafGap k xs i → Rise (insert xs i k)
put_rises k [] zero s gap = (tt, tt)
put_rises k [] (suc i) s gap = absurd gap
put_rises k (x ∷ xs) zero s gap = (gap, s)
put_rises k (x ∷ xs) (suc i) s gap = (below_put x k xs i gap.0 s.0, put_rises k xs i s.1 gap.1)

either_way : (a b c : Bool) → (a || (b || c)) ≡ (b || (a || c))
either_way true true c = refl
either_way true false c = refl
either_way false true c = refl
either_way false false c = refl

or_cond : (a b : Bool) → (a || b) ≡ cond a true b
or_cond true b = refl
or_cond false b = refl

put_has : (q k : Leaf) (xs : List Leaf) (i : ℕ) → IsLeafGap k xs i → is_leaf_in q (insert xs i k) ≡ (leaf_is q k || is_leaf_in q xs)
put_has q k [] zero gap = refl
put_has q k [] (suc i) gap = absurd gap
put_has q k (x ∷ xs) zero gap = refl
put_has q k (x ∷ xs) (suc i) gap = ap (λ b. leaf_is q x || b) (put_has q k xs i gap.1) ∙ either_way (leaf_is q x) (leaf_is q k) (is_leaf_in q xs)

pub put_in : (q k : Leaf) (xs : List Leaf) (i : ℕ) → IsLeafGap k xs i → is_leaf_in q (insert xs i k) ≡ cond (leaf_is k q) true (is_leaf_in q xs)
put_in q k xs i gap = put_has q k xs i gap ∙ or_cond (leaf_is q k) (is_leaf_in q xs) ∙ ap (λ b. cond b true (is_leaf_in q xs)) (flips q k)

-- a leaf that is there already
pub put_again : (q k : Leaf) (xs : List Leaf) (i : ℕ) → StandsAt k xs i → is_leaf_in q xs ≡ cond (leaf_is k q) true (is_leaf_in q xs)
put_again q k xs i at = go (leaf_is k q) refl
  where
    go : (b : Bool) → leaf_is k q ≡ b → is_leaf_in q xs ≡ cond b true (is_leaf_in q xs)
    go true is = ap (λ (l : Leaf). is_leaf_in l xs) (sym (one_leaf k q is)) ∙ in_at k xs i at
    go false is = refl

below_taken : (x : Leaf) (xs : List Leaf) (i : ℕ) → IsBelow x xs → IsBelow x (remove xs i)
below_taken x [] zero below = tt
below_taken x [] (suc i) below = tt
below_taken x (y ∷ xs) zero below = below.1
below_taken x (y ∷ xs) (suc i) below = (below.0, below_taken x xs i below.1)

pub take_rises : (xs : List Leaf) (i : ℕ) → Rise xs → Rise (remove xs i)
take_rises [] zero s = tt
take_rises [] (suc i) s = tt
take_rises (x ∷ xs) zero s = s.1
take_rises (x ∷ xs) (suc i) s = (below_taken x xs i s.0, take_rises xs i s.1)

-- a leaf below others is less than each that is one of them
below_in : (x k : Leaf) (xs : List Leaf) → IsBelow x xs → is_leaf_in k xs ≡ true → leaf_cmp x k ≡ Less
below_in x k [] below is = let clash : false ≡ true = is in absurd cc
below_in x k (y ∷ xs) below is = go (below_in x k xs below.1) (leaf_is k y) refl is
  where
    go : (is_leaf_in k xs ≡ true → leaf_cmp x k ≡ Less) → (b : Bool) → leaf_is k y ≡ b → (b || is_leaf_in k xs) ≡ true → leaf_cmp x k ≡ Less
    go rest true same is = ap (leaf_cmp x) (one_leaf k y same) ∙ below.0
    go rest false same is = rest is

pub take_out : (q k : Leaf) (xs : List Leaf) (i : ℕ) → Rise xs → StandsAt k xs i → is_leaf_in q (remove xs i) ≡ cond (leaf_is k q) false (is_leaf_in q xs)
take_out q k [] i s at = absurd at
take_out q k (x ∷ xs) zero s at = go (leaf_is k q) refl
  where
    go : (b : Bool) → leaf_is k q ≡ b → is_leaf_in q xs ≡ cond b false (leaf_is q x || is_leaf_in q xs)
    go true is = ap (λ (l : Leaf). is_leaf_in l xs) (sym (one_leaf k q is) ∙ sym at) ∙ not_in x xs s.0
    go false is = sym (ap (λ b. b || is_leaf_in q xs) (ap (leaf_is q) at ∙ flips q k ∙ is))
take_out q k (x ∷ xs) (suc i) s at = go (leaf_is k q) refl (take_out q k xs i s.1 at)
  where
    go : (b : Bool) → leaf_is k q ≡ b → is_leaf_in q (remove xs i) ≡ cond b false (is_leaf_in q xs) → (leaf_is q x || is_leaf_in q (remove xs i)) ≡ cond b false (leaf_is q x || is_leaf_in q xs)
    go true is rest =
        let less : leaf_cmp x q ≡ Less = below_in x q xs s.0 (ap (λ (l : Leaf). is_leaf_in l xs) (sym (one_leaf k q is)) ∙ in_at k xs i at) in
        ap (λ b. b || is_leaf_in q (remove xs i)) (flips q x ∙ less_apart x q less) ∙ rest
    go false is rest = ap (λ b. leaf_is q x || b) rest

-- a leaf that isn't there
pub take_none : (q k : Leaf) (xs : List Leaf) (i : ℕ) → IsLeafGap k xs i → is_leaf_in q xs ≡ cond (leaf_is k q) false (is_leaf_in q xs)
take_none q k xs i gap = go (leaf_is k q) refl
  where
    go : (b : Bool) → leaf_is k q ≡ b → is_leaf_in q xs ≡ cond b false (is_leaf_in q xs)
    go true is = ap (λ (l : Leaf). is_leaf_in l xs) (sym (one_leaf k q is)) ∙ in_gap k xs i gap
    go false is = refl

-- ---- the next

pub behind_gap : (k : Leaf) (xs : List Leaf) (i : ℕ) → IsLeafGap k xs i → IsPlaceBehind k xs i
behind_gap k [] zero gap = tt
behind_gap k [] (suc i) gap = absurd gap
behind_gap k (x ∷ xs) zero gap = gap
behind_gap k (x ∷ xs) (suc i) gap = ((λ less. not_back x k gap.0 less), behind_gap k xs i gap.1)

pub behind_at : (k : Leaf) (xs : List Leaf) (i : ℕ) → Rise xs → StandsAt k xs i → IsPlaceBehind k xs (suc i)
behind_at k [] i s at = absurd at
behind_at k (x ∷ xs) zero s at = ((λ less. not_less k (subst (λ (l : Leaf). leaf_cmp k l ≡ Less) at less)), subst (λ (l : Leaf). IsBelow l xs) at s.0)
behind_at k (x ∷ xs) (suc i) s at = ((λ less. not_back x k (below_in x k xs s.0 (in_at k xs i at)) less), behind_at k xs i s.1 at)

Among : List Leaf → Leaf → Type 0
Among xs leaf = is_leaf_in leaf xs ≡ true

-- the first of leaves in their order is the least
module _ (after : Option Leaf) where
  first_of : (x : Leaf) (xs : List Leaf) → IsBelow x xs → IsBehind after x → IsNextLeaf (Among (x ∷ xs)) after (Some x)
  unfolding Among
  first_of x xs below behind = record {
    is = ap (λ b. b || is_leaf_in x xs) (leaf_itself x);
    behind = behind;
    least = λ other is b. go other (leaf_is other x) refl is;
  }
    where
      go : (other : Leaf) (b : Bool) → leaf_is other x ≡ b → (b || is_leaf_in other xs) ≡ true → (other ≡ x) ⊎ (leaf_cmp x other ≡ Less)
      go other true same is = inl (one_leaf other x same)
      go other false same is = inr (below_in x other xs below is)

  -- a leaf that isn't behind plays no part
  passed : (x : Leaf) (xs : List Leaf) (r : Option Leaf) → (IsBehind after x → ⊥) → IsNextLeaf (Among xs) after r → IsNextLeaf (Among (x ∷ xs)) after r
  unfolding Among
  passed x xs None not next = λ leaf is behind. go leaf (leaf_is leaf x) refl is behind
    where
      go : (leaf : Leaf) (b : Bool) → leaf_is leaf x ≡ b → (b || is_leaf_in leaf xs) ≡ true → IsBehind after leaf → ⊥
      go leaf true same is behind = not (subst (IsBehind after) (one_leaf leaf x same) behind)
      go leaf false same is behind = next leaf is behind
  passed x xs (Some y) not next = record {
    is = some (leaf_is y x) next.is;
    behind = next.behind;
    least = λ other is behind. go other (leaf_is other x) refl is behind;
  }
    where
      some : (b : Bool) → is_leaf_in y xs ≡ true → (b || is_leaf_in y xs) ≡ true
      some true is = refl
      some false is = is

      go : (other : Leaf) (b : Bool) → leaf_is other x ≡ b → (b || is_leaf_in other xs) ≡ true → IsBehind after other → (other ≡ y) ⊎ (leaf_cmp y other ≡ Less)
      go other true same is behind = absurd (not (subst (IsBehind after) (one_leaf other x same) behind))
      go other false same is behind = next.least other is behind

pub first_in : (xs : List Leaf) → Rise xs → IsNextLeaf (λ (leaf : Leaf). is_leaf_in leaf xs ≡ true) None (slice_get xs 0)
unfolding Among
first_in [] s = λ leaf is behind. let clash : false ≡ true = is in absurd cc
first_in (x ∷ xs) s = first_of None x xs s.0 tt

pub next_in : (k : Leaf) (xs : List Leaf) (i : ℕ) → Rise xs → IsPlaceBehind k xs i → IsNextLeaf (λ (leaf : Leaf). is_leaf_in leaf xs ≡ true) (Some k) (slice_get xs i)
unfolding Among
next_in k [] zero s place = λ leaf is behind. let clash : false ≡ true = is in absurd cc
next_in k [] (suc i) s place = λ leaf is behind. let clash : false ≡ true = is in absurd cc
next_in k (x ∷ xs) zero s place = first_of (Some k) x xs s.0 place.0
next_in k (x ∷ xs) (suc i) s place = passed (Some k) x xs (slice_get xs i) place.0 (next_in k xs i s.1 place.1)

-- a copy of what a slice lends
pub item_copied : {X : Type 0} (xs : List X) (i : ℕ) (r : Option (Bor X)) → IsItemAt xs i r → option_copied r ≡ slice_get xs i
item_copied xs i None h = sym (slice_get_past xs i h.3)
item_copied xs i (Some x) h = sym (slice_get-get_or xs i x.now h.3.0 ∙ ap (λ y. Some y) (sym h.1))

-- what holds of just these leaves
pub next_as : (P Q : Leaf → Type 0) (after r : Option Leaf) → ((leaf : Leaf) → P leaf → Q leaf) → ((leaf : Leaf) → Q leaf → P leaf) → IsNextLeaf P after r → IsNextLeaf Q after r
next_as P Q after None there back next = λ leaf is behind. next leaf (back leaf is) behind
next_as P Q after (Some x) there back next = record { is = there x next.is; behind = next.behind; least = λ other is behind. next.least other (back other is) behind }
