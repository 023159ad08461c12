-- What a directory's move makes of the authority of every leaf: nothing.
use Rattle.std.specs.Prelude.{◌≡◌, ◌≢◌, ◌⊎◌, ℕ, Option, Some, None, IsSome}
use Rattle.std.specs.FinMap as map
use Rattle.mds_types.specs.declared.ids.Rank.{Rank}
use Rattle.inode_table.specs.declared.dirs.Home.{Home}
use Rattle.inode_table.specs.Dirs.{Homes, Covers, IsLive}
use Rattle.mds_types.specs.Leaf.{Leaf}
use Rattle.subtree_map.specs.Authority.{Roots, HoldsDentry, HasAuthority, IsSubtrees}
use Rattle.subtree_map.specs.Changes.{KeepAuthority, Stays}

-- the rank that leaves inherit whose directory stands there: the authority of the leaf that holds its dentry
pub record IsInheritedAt (roots : Roots) (homes : Homes) (covers : Covers) (home : Home) (rank : Rank) : Type 0 where
  pub holder : Leaf
  pub holds : HoldsDentry covers home holder
  pub has : HasAuthority roots homes covers holder rank

-- the rank that leaves of a directory inherit where it stands, if they would inherit another at its new place
abbrev pub IsLostRank : Roots → Homes → Covers → ℕ → Home → Option Rank → Type 0
IsLostRank roots homes covers d home None =
    (was : Home) × (rank : Rank) × (map.get homes d ≡ Some was) × IsInheritedAt roots homes covers was rank
    × IsInheritedAt roots homes covers home rank
IsLostRank roots homes covers d home (Some rank) =
    (was : Home) × (other : Rank) × (map.get homes d ≡ Some was) × IsInheritedAt roots homes covers was rank
    × IsInheritedAt roots homes covers home other × (rank ≢ other)

-- before a directory moves: those of its leaves that inherit, and would inherit another rank at the new place, become
-- roots of the rank that they have; no other root changes
pub record KeepsRanksOf (old new : Roots) (homes : Homes) (covers : Covers) (d : ℕ) (home : Home) : Type 0 where
  pub elsewhere : (leaf : Leaf) → leaf.0.0 ≢ d → map.get new leaf ≡ map.get old leaf
  pub kept : (leaf : Leaf) → IsSome (map.get old leaf) → map.get new leaf ≡ map.get old leaf
  pub made : (leaf : Leaf) → IsSome (map.get new leaf) → IsSome (map.get old leaf) ⊎ IsLive homes covers leaf
  pub same : (leaf : Leaf) (rank : Rank) → IsLive homes covers leaf → leaf.0.0 ≡ d → map.get old leaf ≡ None
      → HasAuthority old homes covers leaf rank → IsInheritedAt old homes covers home rank → map.get new leaf ≡ None
  pub lost : (leaf : Leaf) (rank other : Rank) → IsLive homes covers leaf → leaf.0.0 ≡ d → map.get old leaf ≡ None
      → HasAuthority old homes covers leaf rank → IsInheritedAt old homes covers home other → rank ≢ other
      → map.get new leaf ≡ Some rank

-- where the directory stands at its new place, every leaf has the authority that it had
abbrev pub MovesSoundly : Roots → Roots → Homes → Covers → ℕ → Home → Type 0
MovesSoundly old new homes covers d home =
    KeepAuthority old new homes (map.insert homes d home) covers covers Stays
    × IsSubtrees new (map.insert homes d home) covers
