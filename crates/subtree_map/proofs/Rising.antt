-- The bounds of a region, listed in the order of the roots.
use Rattle.subtree_map.proofs.Common.{AllByRecursion, Equal, Greater, Leaf, Less, Ordering, Rank, Roots, T, [], append-nil, append_assoc, below_all, entries_sorted, is_lt, is_sorted, leaf_cmp, left_of, right_of, subst, sym, ◌++◌, ◌∷◌, ◌≡◌}
use Rattle.std.specs.Prelude.{List, map as list_map}
use Rattle.std.specs.List.Sorted.{IsStrictlySortedBy}
use Rattle.std.specs.FinMap as map

-- the leaves of some rows
abbrev pub keys : List (Leaf × Rank) → List Leaf
keys rows = list_map (λ row. row.0) rows

less : (o : Ordering) → T (is_lt o) → o ≡ Less
less Less h = cc
less Equal h = absurd h
less Greater h = absurd h

each_below : (leaf : Leaf) (rows : List (Leaf × Rank)) → T (below_all leaf_cmp leaf rows) → AllByRecursion (λ later. leaf_cmp leaf later ≡ Less) (keys rows)
each_below leaf [] h = tt
each_below leaf (row ∷ rows) h = (less _ (left_of (is_lt (leaf_cmp leaf row.0)) (below_all leaf_cmp leaf rows) h), each_below leaf rows (right_of (is_lt (leaf_cmp leaf row.0)) (below_all leaf_cmp leaf rows) h))

keys_rise : (rows : List (Leaf × Rank)) → T (is_sorted leaf_cmp rows) → IsStrictlySortedBy leaf_cmp (keys rows)
unfolding IsStrictlySortedBy
keys_rise [] h = tt
keys_rise (row ∷ rows) h = (each_below row.0 rows (left_of (below_all leaf_cmp row.0 rows) (is_sorted leaf_cmp rows) h), keys_rise rows (right_of (below_all leaf_cmp row.0 rows) (is_sorted leaf_cmp rows) h))

all_but : (P : Leaf → Type 0) (before : List Leaf) (leaf : Leaf) (after : List Leaf) → AllByRecursion P (before ++ leaf ∷ after) → AllByRecursion P (before ++ after)
all_but P [] leaf after all = all.1
all_but P (one ∷ before) leaf after all = (all.0, all_but P before leaf after all.1)

rise_without : (before : List Leaf) (leaf : Leaf) (after : List Leaf) → IsStrictlySortedBy leaf_cmp (before ++ leaf ∷ after) → IsStrictlySortedBy leaf_cmp (before ++ after)
unfolding IsStrictlySortedBy
rise_without [] leaf after rise = rise.1
rise_without (one ∷ before) leaf after rise = (all_but (λ later. leaf_cmp one later ≡ Less) before leaf after rise.0, rise_without before leaf after rise.1)

-- first all roots are to come
pub rise_first : (roots : Roots) (rest : List (Leaf × Rank)) (listed : List Leaf) → rest ≡ map.entries roots → listed ≡ [] → IsStrictlySortedBy leaf_cmp (listed ++ keys rest)
rise_first roots rest listed all none =
    subst (λ (ls : List Leaf). IsStrictlySortedBy leaf_cmp (ls ++ keys rest)) (sym none)
    (subst (λ (rows : List (Leaf × Rank)). IsStrictlySortedBy leaf_cmp (keys rows)) (sym all) (keys_rise (map.entries roots) (entries_sorted roots)))

module _ (rest more : List (Leaf × Rank)) (row : Leaf × Rank) (listed : List Leaf) (next : rest ≡ row ∷ more) (rise : IsStrictlySortedBy leaf_cmp (listed ++ keys rest)) where
  split : IsStrictlySortedBy leaf_cmp (listed ++ row.0 ∷ keys more)
  split = subst (λ (rows : List (Leaf × Rank)). IsStrictlySortedBy leaf_cmp (listed ++ keys rows)) next rise

  -- the next one is listed behind the others, or left out
  pub rise_push : (now : List Leaf) → now ≡ listed ++ row.0 ∷ [] → IsStrictlySortedBy leaf_cmp (now ++ keys more)
  rise_push now is =
      subst (λ (ls : List Leaf). IsStrictlySortedBy leaf_cmp (ls ++ keys more)) (sym is)
      (subst (λ (ls : List Leaf). IsStrictlySortedBy leaf_cmp ls) (sym (append_assoc listed (row.0 ∷ []) (keys more))) split)

  pub rise_skip : IsStrictlySortedBy leaf_cmp (listed ++ keys more)
  rise_skip = rise_without listed row.0 (keys more) split

-- at the end none is to come
pub rise_all : (rest : List (Leaf × Rank)) (listed : List Leaf) → rest ≡ [] → IsStrictlySortedBy leaf_cmp (listed ++ keys rest) → IsStrictlySortedBy leaf_cmp listed
rise_all rest listed none rise =
    subst (λ (ls : List Leaf). IsStrictlySortedBy leaf_cmp ls) (append-nil listed)
    (subst (λ (rows : List (Leaf × Rank)). IsStrictlySortedBy leaf_cmp (listed ++ keys rows)) none rise)
