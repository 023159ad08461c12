-- The standing exports of each exporter, one after the other.
use Rattle.std.specs.Prelude.{◌≡◌, ◌⊎◌, ℕ, ◌==◌, Bool, true, false, List, [], ◌∷◌, Option, Some, None, IsSome, is_some}
use Rattle.std.specs.declared.cmp.Ordering.{Ordering}
use Rattle.std.specs.declared.cmp.Ordering.TheVariants.{Less}
use Rattle.std.specs.Ordering.{is_le, is_lt, nat_cmp, ordering_then}
use Rattle.std.specs.FinMap as map
use Rattle.mds_types.specs.declared.ids.Rank.{Rank}
use Rattle.mds_types.specs.Frag.{root_fragment}
use Rattle.mds_types.specs.Leaf.{Leaf, leaf_cmp}
use Rattle.export_steps.specs.declared.exports.StandingExport.{StandingExport}
use Rattle.export_steps.specs.Standing.{AreBetweenRanks, Standing}

-- a root that comes later in the order of leaves
abbrev pub IsRootBehind : Option Leaf → Leaf → Type 0
IsRootBehind None root = Unit {0}
IsRootBehind (Some one) root = leaf_cmp one root ≡ Less

-- the first export of a rank behind a root, in the order of roots
pub record IsFirstOf (standing : Standing) (rank : Rank) (after : Option Leaf) (root : Leaf)
    (export : StandingExport) : Type 0 where
  pub stands : map.get standing root ≡ Some export
  pub exporter : export.exporter ≡ rank
  pub behind : IsRootBehind after root
  pub least : (other : Leaf) (another : StandingExport) → map.get standing other ≡ Some another
      → another.exporter ≡ rank → IsRootBehind after other → (other ≡ root) ⊎ (leaf_cmp root other ≡ Less)

-- that export, or there is none
abbrev pub IsNextOf : Standing → Rank → Option Leaf → Option (Leaf × StandingExport) → Type 0
IsNextOf standing rank after (Some found) = IsFirstOf standing rank after found.0 found.1
IsNextOf standing rank after None =
    (root : Leaf) (export : StandingExport) → map.get standing root ≡ Some export → export.exporter ≡ rank
    → IsRootBehind after root → ⊥

-- ---- how they are kept. Only this crate's own contracts use these words

-- by exporter, and then by root
abbrev pub by_cmp : ℕ × Leaf → ℕ × Leaf → Ordering
by_cmp a b = ordering_then (nat_cmp a.0 b.0) (leaf_cmp a.1 b.1)

abbrev pub RootsBy : Type 0
RootsBy = map.FinMap by_cmp (Unit {0})

-- whether an export is that of a rank
abbrev pub is_export_of : ℕ → Option StandingExport → Bool
is_export_of rank None = false
is_export_of rank (Some export) = rank == export.exporter.0

-- the exports go from one of 16 ranks to another, and these are their roots by exporter
pub record AreExports (standing : Standing) (by : RootsBy) : Type 0 where
  pub between : AreBetweenRanks standing
  pub told : (rank : ℕ) (root : Leaf) → is_some (map.get by (rank, root)) ≡ is_export_of rank (map.get standing root)

-- whether a rank's root comes behind another one, or at all
abbrev pub comes : ℕ → Option Leaf → ℕ × Leaf → Bool
comes rank None key = is_le (by_cmp (rank, (record { 0 = 0 }, root_fragment)) key)
comes rank (Some root) key = is_lt (by_cmp (rank, root) key)

abbrev pub first_root_of : List ((ℕ × Leaf) × Unit {0}) → Option (ℕ × Leaf)
first_root_of [] = None
first_root_of (pair ∷ pairs) = Some pair.0

-- the first key that passes a test
abbrev pub IsFirstKey : RootsBy → (ℕ × Leaf → Bool) → Option (ℕ × Leaf) → Type 0
IsFirstKey by passes None = (key : ℕ × Leaf) → passes key ≡ true → map.get by key ≡ None
IsFirstKey by passes (Some first) =
    (passes first ≡ true) × IsSome (map.get by first)
    × ((key : ℕ × Leaf) → passes key ≡ true → IsSome (map.get by key) → (key ≡ first) ⊎ (by_cmp first key ≡ Less))

-- the first root of a rank behind another
abbrev pub IsNextRoot : RootsBy → ℕ → Option Leaf → Option Leaf → Type 0
IsNextRoot by rank after (Some root) =
    IsSome (map.get by (rank, root)) × IsRootBehind after root
    × ((other : Leaf) → IsSome (map.get by (rank, other)) → IsRootBehind after other → (other ≡ root)
    ⊎ (leaf_cmp root other ≡ Less))
IsNextRoot by rank after None = (root : Leaf) → IsSome (map.get by (rank, root)) → IsRootBehind after root → ⊥
