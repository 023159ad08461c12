-- The first row from a leaf on, and what the order of leaves says of the rows behind it.
use Rattle.subtree_map.proofs.Common.{Bool, Equal, Fragment, Greater, IsFirst, IsFirstRow, IsFragment, IsSome, Leaf, Less, List, MatchOrdering, None, Option, Ordering, Rank, Roots, Some, T, [], ap, arith, below_all, cond, ends_before, entries_sorted, eq_by_cmp, false, find, find-where_key, frag_cmp, frag_le, get-entries, inl, inr, is_eq, is_inside, is_le, is_lt, is_some, is_sorted, is_sorted-where_key, leaf-exact, leaf-total, leaf_cmp, leaf_in_dir, left_of, lies_inside-true, nat_cmp, ordering_then, range_from_inside, ranks, refl, right_of, span, subst, sym, tie, tied_itself, true, where_key, ℕ, ◌+◌, ◌<◌, ◌∙◌, ◌∷◌, ◌≡◌, ◌≤◌, ◌⊎◌}
use Rattle.std.specs.FinMap as map
use Rattle.subtree_map.proofs.Merged.{inside_at, inside_of, is_within}
use Rattle.sorted_map.proofs.PlaceLaws.{less as less_of}

-- a row that is found behind another has a greater key
pub behind : {X : Type 0} (first : Leaf) (es : List (Leaf × X)) (leaf : Leaf) → T (below_all leaf_cmp first es) → IsSome (find leaf_cmp leaf es) → leaf_cmp first leaf ≡ Less
behind {X} first [] leaf below some = let clash : false ≡ true = some in cc
behind {X} first (e ∷ es) leaf below some = go (eq_by_cmp leaf_cmp leaf e.0) refl some (behind first es leaf (right_of _ _ below))
  where
    go : (b : Bool) → eq_by_cmp leaf_cmp leaf e.0 ≡ b → IsSome (cond b (Some e.1) (find leaf_cmp leaf es)) → (IsSome (find leaf_cmp leaf es) → leaf_cmp first leaf ≡ Less) → leaf_cmp first leaf ≡ Less
    go true tied its more = ap (leaf_cmp first) (leaf-exact leaf e.0 (tie _ tied)) ∙ less_of _ (left_of _ _ below)
    go false apart its more = more its

-- the key of the first row
abbrev pub key_of_first : {X : Type 0} → List (Leaf × X) → Option Leaf
key_of_first [] = None
key_of_first (e ∷ es) = Some e.0

pub first_row : {X : Type 0} (rows : map.FinMap leaf_cmp X) (passes : Leaf → Bool) (left : List (Leaf × X)) → left ≡ where_key leaf_cmp passes (map.entries rows) → IsFirstRow rows passes (key_of_first left)
first_row {X} rows passes left is = go left sorted found
  where
    sorted : T (is_sorted leaf_cmp left)
    sorted = subst (λ es. T (is_sorted leaf_cmp es)) (sym is) (is_sorted-where_key leaf_cmp passes (map.entries rows) (entries_sorted rows))

    found : (leaf : Leaf) → find leaf_cmp leaf left ≡ cond (passes leaf) (map.get rows leaf) None
    found leaf =
        ap (find leaf_cmp leaf) is
        ∙ find-where_key leaf_cmp passes leaf (λ x tied. ap passes (sym (leaf-exact leaf x tied))) (map.entries rows)
        ∙ ap (λ o. cond (passes leaf) o None) (sym (get-entries rows leaf))

    there : (es : List (Leaf × X)) → ((leaf : Leaf) → find leaf_cmp leaf es ≡ cond (passes leaf) (map.get rows leaf) None) → (leaf : Leaf) → passes leaf ≡ true → map.get rows leaf ≡ find leaf_cmp leaf es
    there es each leaf on = sym (each leaf ∙ ap (λ b. cond b (map.get rows leaf) None) on)

    own : (e : Leaf × X) (b : Bool) → passes e.0 ≡ b → Some e.1 ≡ cond b (map.get rows e.0) None → (passes e.0 ≡ true) × IsSome (map.get rows e.0)
    own e true on gets = (on, ap is_some (sym gets))
    own e false off gets = cc

    go : (es : List (Leaf × X)) → T (is_sorted leaf_cmp es) → ((leaf : Leaf) → find leaf_cmp leaf es ≡ cond (passes leaf) (map.get rows leaf) None) → IsFirstRow rows passes (key_of_first es)
    go [] ordered each = λ leaf on. there [] each leaf on
    go (e ∷ es) ordered each =
        let itself : find leaf_cmp e.0 (e ∷ es) ≡ Some e.1 = ap (λ r. cond (is_eq r) (Some e.1) (find leaf_cmp e.0 es)) (tied_itself leaf-total e.0) in
        let mine = own e (passes e.0) refl (sym itself ∙ each e.0) in
        (mine.0, mine.1, λ leaf on some. later leaf (eq_by_cmp leaf_cmp leaf e.0) refl (ap is_some (sym (there (e ∷ es) each leaf on)) ∙ some))
      where
        later : (leaf : Leaf) (b : Bool) → eq_by_cmp leaf_cmp leaf e.0 ≡ b → IsSome (cond b (Some e.1) (find leaf_cmp leaf es)) → (leaf ≡ e.0) ⊎ (leaf_cmp e.0 leaf ≡ Less)
        later leaf true tied some = inl (leaf-exact leaf e.0 (tie _ tied))
        later leaf false apart some = inr (behind e.0 es leaf (left_of _ _ ordered) some)

-- the order of leaves
leaf_le_by : (d e : ℕ) (r s : Ordering) → MatchOrdering r (d < e) (d ≡ e) (e < d) → is_le (ordering_then r s) ≡ true → (d < e) ⊎ ((d ≡ e) × (is_le s ≡ true))
leaf_le_by d e Less s h le = inl h
leaf_le_by d e Equal s h le = inr (h, le)
leaf_le_by d e Greater s h le = cc

pub leaf_le : (a b : Leaf) → is_le (leaf_cmp a b) ≡ true → (a.0.0 < b.0.0) ⊎ ((a.0.0 ≡ b.0.0) × (is_le (frag_cmp a.1 b.1) ≡ true))
leaf_le a b le = leaf_le_by a.0.0 b.0.0 (nat_cmp a.0.0 b.0.0) (frag_cmp a.1 b.1) (ranks a.0.0 b.0.0) le

less_is_le : (r : Ordering) → r ≡ Less → is_le r ≡ true
less_is_le r less = ap is_le less

-- the strict orders
frag_lt_by : (v w b c : ℕ) (r s : Ordering) → MatchOrdering r (v < w) (v ≡ w) (w < v) → MatchOrdering s (b < c) (b ≡ c) (c < b) → is_lt (ordering_then r s) ≡ true → (v < w) ⊎ ((v ≡ w) × (b < c))
frag_lt_by v w b c Less s h k lt = inl h
frag_lt_by v w b c Equal Less h k lt = inr (h, k)
frag_lt_by v w b c Equal Equal h k lt = cc
frag_lt_by v w b c Equal Greater h k lt = cc
frag_lt_by v w b c Greater s h k lt = cc

frag_lt : (f g : Fragment) → is_lt (frag_cmp f g) ≡ true → (f.value < g.value) ⊎ ((f.value ≡ g.value) × (f.bits < g.bits))
frag_lt f g lt = frag_lt_by f.value g.value f.bits g.bits (nat_cmp f.value g.value) (nat_cmp f.bits g.bits) (ranks f.value g.value) (ranks f.bits g.bits) lt

lt_frag_by : (v w b c : ℕ) (r s : Ordering) → MatchOrdering r (v < w) (v ≡ w) (w < v) → MatchOrdering s (b < c) (b ≡ c) (c < b) → v ≤ w → b < c → is_lt (ordering_then r s) ≡ true
lt_frag_by v w b c Less s h k le more = refl
lt_frag_by v w b c Equal Less h k le more = refl
lt_frag_by v w b c Equal Equal h k le more = absurd (omega arith)
lt_frag_by v w b c Equal Greater h k le more = absurd (omega arith)
lt_frag_by v w b c Greater s h k le more = absurd (omega arith)

lt_frag : (f g : Fragment) → f.value ≤ g.value → f.bits < g.bits → is_lt (frag_cmp f g) ≡ true
lt_frag f g le more = lt_frag_by f.value g.value f.bits g.bits (nat_cmp f.value g.value) (nat_cmp f.bits g.bits) (ranks f.value g.value) (ranks f.bits g.bits) le more

leaf_lt_by : (d e : ℕ) (r s : Ordering) → MatchOrdering r (d < e) (d ≡ e) (e < d) → is_lt (ordering_then r s) ≡ true → (d < e) ⊎ ((d ≡ e) × (is_lt s ≡ true))
leaf_lt_by d e Less s h lt = inl h
leaf_lt_by d e Equal s h lt = inr (h, lt)
leaf_lt_by d e Greater s h lt = cc

leaf_lt : (a b : Leaf) → is_lt (leaf_cmp a b) ≡ true → (a.0.0 < b.0.0) ⊎ ((a.0.0 ≡ b.0.0) × (is_lt (frag_cmp a.1 b.1) ≡ true))
leaf_lt a b lt = leaf_lt_by a.0.0 b.0.0 (nat_cmp a.0.0 b.0.0) (frag_cmp a.1 b.1) (ranks a.0.0 b.0.0) lt

lt_leaf_by : (d e : ℕ) (r s : Ordering) → MatchOrdering r (d < e) (d ≡ e) (e < d) → d ≡ e → is_lt s ≡ true → is_lt (ordering_then r s) ≡ true
lt_leaf_by d e Less s h same lt = refl
lt_leaf_by d e Equal s h same lt = lt
lt_leaf_by d e Greater s h same lt = absurd (omega arith)

lt_leaf : (a b : Leaf) → a.0.0 ≡ b.0.0 → is_lt (frag_cmp a.1 b.1) ≡ true → is_lt (leaf_cmp a b) ≡ true
lt_leaf a b same lt = lt_leaf_by a.0.0 b.0.0 (nat_cmp a.0.0 b.0.0) (frag_cmp a.1 b.1) (ranks a.0.0 b.0.0) same lt

-- a leaf is behind another
abbrev pub is_behind : Leaf → Leaf → Bool
is_behind leaf other = is_lt (leaf_cmp leaf other)

module _ (rows : Roots) (d : ℕ) (f : Fragment) (hf : IsFragment f) (leaf : Leaf) (inside : is_inside d f leaf ≡ true) where
  range : (f.bits < leaf.1.bits) × (f.value ≤ leaf.1.value) × (leaf.1.value < f.value + span f.bits)
  range = range_from_inside f leaf.1 hf (inside_of d f leaf inside)

  at : leaf.0.0 ≡ d
  at = inside_at d f leaf inside

  -- what lies inside a fragment is behind it
  behind_it : is_behind (leaf_in_dir d f) leaf ≡ true
  behind_it = lt_leaf (leaf_in_dir d f) leaf (sym at) (lt_frag f leaf.1 range.1 range.0)

  -- where no row is behind the fragment, none is inside
  pub none_behind : IsFirst rows (is_behind (leaf_in_dir d f)) None → map.get rows leaf ≡ None
  none_behind none = none leaf behind_it

  -- where the first row behind it isn't inside, none is
  module _ (first : Leaf) (hfirst : IsFragment first.1) (is : IsFirst rows (is_behind (leaf_in_dir d f)) (Some first)) (outside : is_inside d f first ≡ false) where
    not_inside : first.0.0 ≡ d → f.bits < first.1.bits → f.value ≤ first.1.value → first.1.value < f.value + span f.bits → ⊥
    not_inside here more low high = let clash : true ≡ false = sym (is_within d f first here (lies_inside-true f first.1 hf more low high)) ∙ outside in cc

    more_bits : f.value < first.1.value → first.1.value < f.value + span f.bits → f.bits < first.1.bits
    more_bits low high = go (nat_cmp f.bits first.1.bits) (ranks f.bits first.1.bits)
      where
        too_far : first.1.bits ≤ f.bits → ⊥
        too_far few = omega (arith, ends_before first.1 f hfirst hf few low, high)

        go : (r : Ordering) → MatchOrdering r (f.bits < first.1.bits) (f.bits ≡ first.1.bits) (first.1.bits < f.bits) → f.bits < first.1.bits
        go Less h = h
        go Equal h = absurd (too_far (omega arith))
        go Greater h = absurd (too_far (omega arith))

    here : first.0.0 ≡ d → (f.value < first.1.value) ⊎ ((f.value ≡ first.1.value) × (f.bits < first.1.bits)) → first.1.value < f.value + span f.bits → ⊥
    here same (inl low) high = not_inside same (more_bits low high) (omega arith) high
    here same (inr equal) high = not_inside same equal.1 (omega (arith, equal.0)) high

    below : (first.1.value < leaf.1.value) ⊎ ((first.1.value ≡ leaf.1.value) × (first.1.bits ≤ leaf.1.bits)) → first.1.value < f.value + span f.bits
    below (inl less) = omega (arith, less, range.2)
    below (inr same) = omega (arith, same.0, range.2)

    between : (d < first.0.0) ⊎ ((d ≡ first.0.0) × (is_lt (frag_cmp f first.1) ≡ true)) → (first.0.0 < leaf.0.0) ⊎ ((first.0.0 ≡ leaf.0.0) × (is_le (frag_cmp first.1 leaf.1) ≡ true)) → ⊥
    between (inl low) (inl high) = omega (arith, low, high, at)
    between (inl low) (inr same) = omega (arith, low, same.0, at)
    between (inr same) (inl high) = omega (arith, same.0, high, at)
    between (inr same) (inr also) = here (sym same.0) (frag_lt f first.1 same.1) (below (frag_le first.1 leaf.1 also.1))

    pub none_inside : map.get rows leaf ≡ None
    none_inside = go (map.get rows leaf) refl
      where
        go : (o : Option Rank) → map.get rows leaf ≡ o → o ≡ None
        go None none = refl
        go (Some rank) some = elim (is.2 leaf behind_it (ap is_some some)) [
          | inl same ↦ absurd (let clash : true ≡ false = sym inside ∙ ap (is_inside d f) same ∙ outside in cc)
          | inr less ↦ absurd (between (leaf_lt (leaf_in_dir d f) first is.0) (leaf_le first leaf (less_is_le _ less)))
        ]
