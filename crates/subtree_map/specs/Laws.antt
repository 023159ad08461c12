-- The laws of subtree roots that `src/laws.rt` states.
use Rattle.std.specs.Prelude.{◌≡◌, ◌≢◌, ℕ, IsSome}
use Rattle.std.specs.FinMap as map
use Rattle.mds_types.specs.declared.ids.Rank.{Rank}
use Rattle.inode_table.specs.declared.dirs.Home.{Home}
use Rattle.inode_table.specs.Dirs.{Homes, Covers, IsLive, IsTable, MayCome}
use Rattle.mds_types.specs.Leaf.{Leaf}
use Rattle.subtree_map.specs.Authority.{BoundsOneRegion, HasAuthority, HasOneRoot, IsInOneRegion, IsSubtrees, Roots}

-- each live leaf has one nearest root
abbrev pub EachLeafHasOneRoot : Type 0
EachLeafHasOneRoot =
    (roots : Roots) (homes : Homes) (covers : Covers) (leaf : Leaf) → IsTable homes covers
    → IsSubtrees roots homes covers → IsLive homes covers leaf → HasOneRoot roots homes covers leaf

-- each live leaf has an authority
abbrev pub EachLeafHasAuthority : Type 0
EachLeafHasAuthority =
    (roots : Roots) (homes : Homes) (covers : Covers) (leaf : Leaf) → IsTable homes covers
    → IsSubtrees roots homes covers → IsLive homes covers leaf → (rank : Rank)
    × HasAuthority roots homes covers leaf rank

-- no leaf has two authorities
abbrev pub NoLeafHasTwoAuthorities : Type 0
NoLeafHasTwoAuthorities =
    (roots : Roots) (homes : Homes) (covers : Covers) (leaf : Leaf) (a b : Rank)
    → HasAuthority roots homes covers leaf a → HasAuthority roots homes covers leaf b → a ≡ b

-- each live leaf is in one region
abbrev pub RegionsDivideLeaves : Type 0
RegionsDivideLeaves =
    (roots : Roots) (homes : Homes) (covers : Covers) (leaf : Leaf) → IsTable homes covers
    → IsSubtrees roots homes covers → IsLive homes covers leaf → IsInOneRegion roots homes covers leaf

-- each root but those of the root directory bounds one region
abbrev pub RootBoundsOneRegion : Type 0
RootBoundsOneRegion =
    (roots : Roots) (homes : Homes) (covers : Covers) (bound : Leaf) → IsTable homes covers
    → IsSubtrees roots homes covers → IsSome (map.get roots bound) → bound.0.0 ≢ 1
    → BoundsOneRegion roots homes covers bound

-- a new directory changes the authority of no leaf
abbrev pub NewDirectoryKeepsAuthority : Type 0
NewDirectoryKeepsAuthority =
    (roots : Roots) (homes : Homes) (covers : Covers) (d : ℕ) (home : Home) (leaf : Leaf) (rank : Rank)
    → IsTable homes covers → MayCome homes d home → IsLive homes covers leaf
    → HasAuthority roots homes covers leaf rank → HasAuthority roots (map.insert homes d home) covers leaf rank

-- the roots are those of the tree with a new directory too
abbrev pub NewDirectoryKeepsRoots : Type 0
NewDirectoryKeepsRoots =
    (roots : Roots) (homes : Homes) (covers : Covers) (d : ℕ) (home : Home) → IsTable homes covers
    → MayCome homes d home → IsSubtrees roots homes covers → IsSubtrees roots (map.insert homes d home) covers
