-- Why there is room for each candidate: each stands for a place of its own.
use Rattle.dentry_cache.proofs.Common.{AllByRecursion, Bool, IsBelow, IsFragment, IsResized, IsSome, List, None, Option, Place, Places, Rise, Sizes, Some, [], ap, are_few, arith, child, false, false_from_ne_true, fragment_in, inl, inr, is_leaf_in, is_large, leaf_equivalence, leaf_or_apart, length, length-le_from_keys, list_any, lookup, map, one_leaf, refl, same_leaf, size_in, sizes_of, span, subst, suc, sym, true, ℕ, ◌*◌, ◌+◌, ◌<◌, ◌||◌, ◌∙◌, ◌∷◌, ◌≡◌, ◌≢◌, ◌≤◌, ◌⊎◌}
use Rattle.std.specs.List.{IsDistinct}
use Rattle.mds_types.specs.Leaf.{Leaf, leaf_is}
use Rattle.dentry_cache.proofs.CandidateLaws.{beside, child_or_none, few_each, few_there, newly_few, whole_leaf}
use Rattle.dentry_cache.proofs.LeafSetLaws.{less_apart}

-- a leaf that is cached has a place
pub there_in : (places : Places) (leaf : Leaf) → IsSome (sizes_of places leaf) → IsSome (lookup (leaf_is leaf) places)
there_in places leaf some = go (lookup (leaf_is leaf) places) some
  where
    go : (o : Option Place) → IsSome (size_in (fragment_in o)) → IsSome o
    go None some = some
    go (Some place) some = refl

large_some : (leaf : Leaf) (o : Option ℕ) → is_large leaf o ≡ true → IsSome o
large_some leaf None is = is
large_some leaf (Some n) is = refl

all_apart : (x : Leaf) (xs : List Leaf) → IsBelow x xs → AllByRecursion (λ y. leaf_is x y ≡ false) xs
all_apart x [] below = tt
all_apart x (y ∷ xs) below = (less_apart x y below.0, all_apart x xs below.1)

distinct : (xs : List Leaf) → Rise xs → IsDistinct leaf_is xs
unfolding IsDistinct
distinct [] rise = tt
distinct (x ∷ xs) rise = (all_apart x xs rise.0, distinct xs rise.1)

none_apart : (x : Leaf) (xs : List Leaf) → is_leaf_in x xs ≡ false → AllByRecursion (λ y. leaf_is x y ≡ false) xs
none_apart x [] none = tt
none_apart x (y ∷ xs) none = go (none_apart x xs) (leaf_is x y) refl none
  where
    go : (is_leaf_in x xs ≡ false → AllByRecursion (λ y. leaf_is x y ≡ false) xs) → (b : Bool) → leaf_is x y ≡ b → (b || is_leaf_in x xs) ≡ false → (leaf_is x y ≡ false) × AllByRecursion (λ y. leaf_is x y ≡ false) xs
    go rest true is none = let clash : true ≡ false = none in absurd cc
    go rest false is none = (is, rest none)

distinct_more : (x : Leaf) (xs : List Leaf) → is_leaf_in x xs ≡ false → IsDistinct leaf_is xs → IsDistinct leaf_is (x ∷ xs)
unfolding IsDistinct
distinct_more x xs none d = (none_apart x xs none, d)

-- ---- the first of eight children stands for them

abbrev eldest : Leaf → Leaf
eldest whole = child whole 0

eldest_apart : (a b : Leaf) → leaf_is a b ≡ false → leaf_is (eldest a) (eldest b) ≡ false
eldest_apart a b apart = false_from_ne_true _ (λ same. go (one_leaf (eldest a) (eldest b) same))
  where
    go : eldest a ≡ eldest b → ⊥
    go is =
        let dir : a.0 ≡ b.0 = ap (λ (l : Leaf). l.0) is in
        let bits : a.1.bits + 3 ≡ b.1.bits + 3 = ap (λ (l : Leaf). l.1.bits) is in
        let value : a.1.value + 0 * span (a.1.bits + 3) ≡ b.1.value + 0 * span (b.1.bits + 3) = ap (λ (l : Leaf). l.1.value) is in
        let first : a.1.bits ≡ b.1.bits = omega (arith, bits) in
        let second : a.1.value ≡ b.1.value = omega (arith, value) in
        let one : a ≡ b = λ i. (dir i, record { bits = first i; value = second i }) in
        let clash : true ≡ false = sym (same_leaf a b one) ∙ apart in
        cc

all_eldest : (x : Leaf) (xs : List Leaf) → AllByRecursion (λ y. leaf_is x y ≡ false) xs → AllByRecursion (λ y. leaf_is (eldest x) y ≡ false) (map eldest xs)
all_eldest x [] all = tt
all_eldest x (y ∷ xs) all = (eldest_apart x y all.0, all_eldest x xs all.1)

distinct_eldest : (xs : List Leaf) → IsDistinct leaf_is xs → IsDistinct leaf_is (map eldest xs)
unfolding IsDistinct
distinct_eldest [] d = tt
distinct_eldest (x ∷ xs) d = (all_eldest x xs d.0, distinct_eldest xs d.1)

eldest_in : (P : Leaf → Type 0) (xs : List Leaf) → ((w : Leaf) → is_leaf_in w xs ≡ true → P (eldest w)) → (q : Leaf) → list_any (leaf_is q) (map eldest xs) ≡ true → P q
eldest_in P [] each q is = let clash : false ≡ true = is in absurd cc
eldest_in P (x ∷ xs) each q is = go (λ some. eldest_in P xs some q) (leaf_is q (eldest x)) refl is
  where
    first : is_leaf_in x (x ∷ xs) ≡ true
    first = ap (λ b. b || is_leaf_in x xs) (same_leaf x x refl)

    later : (w : Leaf) → is_leaf_in w xs ≡ true → (b : Bool) → (b || is_leaf_in w xs) ≡ true
    later w is true = refl
    later w is false = is

    go : (((w : Leaf) → is_leaf_in w xs ≡ true → P (eldest w)) → list_any (leaf_is q) (map eldest xs) ≡ true → P q) → (b : Bool) → leaf_is q (eldest x) ≡ b → (b || list_any (leaf_is q) (map eldest xs)) ≡ true → P q
    go rest true same is = subst P (sym (one_leaf q (eldest x) same)) (each x first)
    go rest false same is = rest (λ w h. each w (later w h (leaf_is w x))) is

length_map : (xs : List Leaf) → length (map eldest xs) ≡ length xs
length_map [] = refl
length_map (x ∷ xs) = ap suc (length_map xs)

-- ---- room for one more

pub fits_in : (a b c : ℕ) → a < b → b ≤ c → a < c
fits_in a b c less le = omega (arith, less, le)

in_more : (x q : Leaf) (xs : List Leaf) → is_leaf_in q (x ∷ xs) ≡ true → (q ≡ x) ⊎ (is_leaf_in q xs ≡ true)
in_more x q xs is = go (leaf_is q x) refl is
  where
    go : (b : Bool) → leaf_is q x ≡ b → (b || is_leaf_in q xs) ≡ true → (q ≡ x) ⊎ (is_leaf_in q xs ≡ true)
    go true same is = inl (one_leaf q x same)
    go false same is = inr is

module _ (leaf : Leaf) (was now : Option ℕ) (old : Sizes) (places : Places) (r : IsResized leaf was now old (sizes_of places)) where
  pub room_large : (xs : List Leaf) → Rise xs → ((q : Leaf) → is_leaf_in q xs ≡ is_large q (old q)) → is_large leaf now ≡ true → is_leaf_in leaf xs ≡ false → length xs < length places
  room_large xs rise exact is none =
      length-le_from_keys leaf_equivalence (leaf ∷ xs) places (distinct_more leaf xs none (distinct xs rise)) (λ q h. go q (in_more leaf q xs h))
    where
      go : (q : Leaf) → (q ≡ leaf) ⊎ (is_leaf_in q xs ≡ true) → IsSome (lookup (leaf_is q) places)
      go q (inl same) =
          there_in places q (large_some leaf (sizes_of places q) (ap (is_large leaf) (ap (sizes_of places) same ∙ r.after) ∙ is))
      go q (inr in_xs) = by (leaf_or_apart leaf q)
        where
          by : (leaf ≡ q) ⊎ (leaf_is leaf q ≡ false) → IsSome (lookup (leaf_is q) places)
          by (inl same) = let clash : true ≡ false = sym in_xs ∙ ap (λ (l : Leaf). is_leaf_in l xs) (sym same) ∙ none in absurd cc
          by (inr apart) = there_in places q (large_some q (sizes_of places q) (ap (is_large q) (r.others q apart) ∙ sym (exact q) ∙ in_xs))

  pub room_small : (ys : List Leaf) → Rise ys → ((q : Leaf) → IsFragment q.1 → is_leaf_in q ys ≡ are_few old q) → ((q : Leaf) → is_leaf_in q ys ≡ true → IsFragment q.1)
      → (q : Leaf) → IsFragment q.1 → q.1.bits + 3 ≤ 24 → are_few (sizes_of places) q ≡ true → is_leaf_in q ys ≡ false → length ys < length places
  room_small ys rise exact fragments q fragment low is none =
      let few = length-le_from_keys leaf_equivalence (map eldest (q ∷ ys)) places (distinct_eldest (q ∷ ys) (distinct_more q ys none (distinct ys rise))) (eldest_in (λ (l : Leaf). IsSome (lookup (leaf_is l) places)) (q ∷ ys) (λ w h. placed w (in_more q w ys h))) in
      omega (arith, few, length_map ys)
    where
      found : (i : ℕ) × (i < 8) × (child q i ≡ leaf)
      found = newly_few leaf was now old (sizes_of places) r q is (sym (exact q fragment) ∙ none)

      low_leaf : leaf.1.bits ≤ 24
      low_leaf = let bits : q.1.bits + 3 ≡ leaf.1.bits = ap (λ (l : Leaf). l.1.bits) found.2 in omega (arith, bits, low)

      still : (w : Leaf) → is_leaf_in w ys ≡ true → are_few (sizes_of places) w ≡ true
      still w in_ys = go (child_or_none w leaf 8)
        where
          go : ((i : ℕ) × (i < 8) × (child w i ≡ leaf)) ⊎ ((i : ℕ) → i < 8 → child w i ≢ leaf) → are_few (sizes_of places) w ≡ true
          go (inl other) =
              let one : w ≡ q = whole_leaf w leaf other.0 (fragments w in_ys) other.1 low_leaf other.2 ∙ sym (whole_leaf q leaf found.0 fragment found.1 low_leaf found.2) in
              let clash : true ≡ false = sym in_ys ∙ ap (λ (l : Leaf). is_leaf_in l ys) one ∙ none in
              absurd cc
          go (inr apart) = beside leaf was now old (sizes_of places) r w apart ∙ sym (exact w (fragments w in_ys)) ∙ in_ys

      of_few : (w : Leaf) → are_few (sizes_of places) w ≡ true → IsSome (lookup (leaf_is (eldest w)) places)
      of_few w few = there_in places (eldest w) (few_there (sizes_of places (eldest w)) (few_each (sizes_of places) w 0 (omega arith) few))

      placed : (w : Leaf) → (w ≡ q) ⊎ (is_leaf_in w ys ≡ true) → IsSome (lookup (leaf_is (eldest w)) places)
      placed w (inl same) = of_few w (ap (are_few (sizes_of places)) same ∙ is)
      placed w (inr in_ys) = of_few w (still w in_ys)
