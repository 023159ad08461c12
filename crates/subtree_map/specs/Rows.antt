-- Changes of the rows that a map of subtrees keeps. Only this crate's own contracts use these words.
use Rattle.std.specs.Prelude.{◌≡◌, ◌≢◌, ◌⊎◌, ℕ, ◌<◌, Bool, true, false, cond, List, [], Option, Some, None, IsSome}
use Rattle.std.specs.declared.cmp.Ordering.TheVariants.{Less}
use Rattle.std.specs.Ordering.{is_lt}
use Rattle.std.specs.FinMap as map
use Rattle.std.specs.FinMap.Entries.{where_key}
use Rattle.sorted_map.specs.SortedMap.{is_from}
use Rattle.mds_types.specs.declared.ids.Rank.{Rank}
use Rattle.mds_types.specs.Frag.{Fragment, child_of}
use Rattle.mds_types.specs.Leaf.{Leaf, leaf_cmp}
use Rattle.subtree_map.specs.Authority.{Roots}
use Rattle.subtree_map.specs.Changes.{leaf_in_dir, is_inside}

-- the first leaf that passes a test of those that have a rank
abbrev pub IsFirstBy : (Leaf → Option Rank) → (Leaf → Bool) → Option Leaf → Type 0
IsFirstBy look passes None = (leaf : Leaf) → passes leaf ≡ true → look leaf ≡ None
IsFirstBy look passes (Some first) =
    (passes first ≡ true) × IsSome (look first)
    × ((leaf : Leaf) → passes leaf ≡ true → IsSome (look leaf) → (leaf ≡ first) ⊎ (leaf_cmp first leaf ≡ Less))

-- the first leaf of the rows that passes a test
abbrev pub IsFirst : Roots → (Leaf → Bool) → Option Leaf → Type 0
IsFirst rows passes first = IsFirstBy (map.get rows) passes first

-- the first leaf of a list that passes a test
abbrev pub IsFirstRow : {X : Type 0} → map.FinMap leaf_cmp X → (Leaf → Bool) → Option Leaf → Type 0
IsFirstRow rows passes None = (leaf : Leaf) → passes leaf ≡ true → map.get rows leaf ≡ None
IsFirstRow rows passes (Some first) =
    (passes first ≡ true) × IsSome (map.get rows first)
    × ((leaf : Leaf) → passes leaf ≡ true → IsSome (map.get rows leaf) → (leaf ≡ first)
    ⊎ (leaf_cmp first leaf ≡ Less))

-- the rows from a leaf on, which is one of them; none where there is no leaf
abbrev pub rows_from : Roots → Option Leaf → List (Leaf × Rank)
rows_from rows None = []
rows_from rows (Some leaf) = where_key leaf_cmp (is_from leaf_cmp leaf) (map.entries rows)

abbrev pub IsRootIfSome : Roots → Option Leaf → Type 0
IsRootIfSome rows None = Unit {0}
IsRootIfSome rows (Some leaf) = IsSome (map.get rows leaf)

-- the lesser of two leaves
abbrev pub lesser_leaf : Leaf → Leaf → Leaf
lesser_leaf one other = cond (is_lt (leaf_cmp other one)) other one

abbrev pub lesser_of : Leaf → Option Leaf → Leaf
lesser_of leaf None = leaf
lesser_of leaf (Some other) = lesser_leaf leaf other

-- the first so many children of f by nb bits have this rank, and each other leaf what it had
pub record AreChildrenSet (old new : Roots) (d : ℕ) (f : Fragment) (nb count : ℕ) (rank : Rank) : Type 0 where
  pub children : (i : ℕ) → i < count → map.get new (leaf_in_dir d (child_of f i nb)) ≡ Some rank
  pub others : (leaf : Leaf) → ((i : ℕ) → i < count → leaf ≢ leaf_in_dir d (child_of f i nb))
      → map.get new leaf ≡ map.get old leaf
  pub made : (leaf : Leaf) → IsSome (map.get new leaf) → IsSome (map.get old leaf)
      ⊎ ((i : ℕ) × (i < count) × (leaf ≡ leaf_in_dir d (child_of f i nb)))

-- the roots of d inside f are taken out, with the rank of one of them; without any nothing changes
abbrev pub AreTakenOut : Roots → Roots → ℕ → Fragment → Option Rank → Type 0
AreTakenOut old new d f None = ((leaf : Leaf) → is_inside d f leaf ≡ true → map.get old leaf ≡ None)
AreTakenOut old new d f (Some rank) =
    ((leaf : Leaf) → is_inside d f leaf ≡ true → map.get new leaf ≡ None)
    × ((leaf : Leaf) → is_inside d f leaf ≡ false → map.get new leaf ≡ map.get old leaf)
    × ((leaf : Leaf) × (is_inside d f leaf ≡ true) × (map.get old leaf ≡ Some rank))

-- a leaf without a rank got this one, and nothing else changed
pub record IsFilled (old new : Roots) (leaf : Leaf) (rank : Rank) : Type 0 where
  pub absent : map.get old leaf ≡ None → map.get new leaf ≡ Some rank
  pub there : IsSome (map.get old leaf) → map.get new leaf ≡ map.get old leaf
  pub others : (other : Leaf) → other ≢ leaf → map.get new other ≡ map.get old other
