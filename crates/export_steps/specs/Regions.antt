-- While an export is frozen to imported, what happens elsewhere leaves its region as it is.
use Rattle.std.specs.Prelude.{◌≡◌, ◌≢◌, ◌↔◌, ℕ, true, Some, List}
use Rattle.std.specs.FinMap as map
use Rattle.mds_types.specs.Frag.{Fragment}
use Rattle.fragtree.specs.FragTree.{CanMerge, FitsSplit, HasLeaf, IsMerge, IsSplit, IsTree}
use Rattle.inode_table.specs.declared.dirs.Home.{Home}
use Rattle.inode_table.specs.Dirs.{Homes, Covers, IsChildless, IsLive, IsTable, MayCome, MayMove, leaves_of}
use Rattle.mds_types.specs.Leaf.{Leaf}
use Rattle.subtree_map.specs.Authority.{HoldsDentry, IsInRegion, IsSubtrees}
use Rattle.subtree_map.specs.Changes.{AreGone, IsRootMerge, IsRootSplit, Subtrees, is_inside, leaf_in_dir}
use Rattle.subtree_map.specs.Moves.{KeepsRanksOf}
use Rattle.export_steps.specs.declared.exports.StandingExport.{StandingExport}
use Rattle.export_steps.specs.Standing.{Standing, ArePlaced, is_freezing}
use Rattle.export_steps.specs.Holder.{IsFrozen}

-- each frozen region has just the leaves that it had, and what Finish changes keeps its place
pub record AreFrozenRegionsKept (standing : Standing) (was now : Subtrees) (homes later_homes : Homes)
    (covers later_covers : Covers) : Type 0 where
  pub regions : (root : Leaf) (export : StandingExport) → map.get standing root ≡ Some export
      → is_freezing export.state ≡ true
      → (leaf : Leaf)
      → IsInRegion was.roots homes covers root leaf ↔ IsInRegion now.roots later_homes later_covers root leaf
  pub placed : ArePlaced standing now

-- the exports that stand over well-formed subtrees
pub record StandsOver (standing : Standing) (subtrees : Subtrees) (homes : Homes) (covers : Covers) : Type 0 where
  pub table : IsTable homes covers
  pub valid : IsSubtrees subtrees.roots homes covers
  pub placed : ArePlaced standing subtrees

-- a leaf is split that isn't frozen
pub record IsSplitElsewhere (standing : Standing) (was now : Subtrees) (homes : Homes)
    (covers later : Covers) : Type 0 where
  pub dir : ℕ
  pub frag : Fragment
  pub bits : ℕ
  pub leaves : List Fragment
  pub thawed : IsFrozen standing was.roots homes covers (leaf_in_dir dir frag) → ⊥
  pub stands : HasLeaf (leaves_of covers dir) frag
  pub fits : FitsSplit frag bits
  pub split : IsSplit (leaves_of covers dir) leaves frag bits
  pub tree : IsTree leaves
  pub changed : later ≡ map.insert covers dir leaves
  pub roots : IsRootSplit was.roots now.roots dir frag bits
  pub promises : now.promises ≡ was.promises

-- leaves are merged of which none is frozen
pub record IsMergeElsewhere (standing : Standing) (was now : Subtrees) (homes : Homes)
    (covers later : Covers) : Type 0 where
  pub dir : ℕ
  pub frag : Fragment
  pub leaves : List Fragment
  pub thawed : (leaf : Leaf) → is_inside dir frag leaf ≡ true → IsLive homes covers leaf
      → IsFrozen standing was.roots homes covers leaf → ⊥
  pub can : CanMerge (leaves_of covers dir) frag
  pub merge : IsMerge (leaves_of covers dir) leaves frag
  pub tree : IsTree leaves
  pub changed : later ≡ map.insert covers dir leaves
  pub roots : IsRootMerge was.roots now.roots dir frag
  pub promises : now.promises ≡ was.promises

-- a directory moves between two leaves, which hold its dentry before and after, and neither is frozen
pub record IsMoveElsewhere (standing : Standing) (was now : Subtrees) (homes later : Homes)
    (covers : Covers) : Type 0 where
  pub dir : ℕ
  pub home : Home
  pub may : MayMove homes dir home
  pub from_thawed : (old : Home) (holder : Leaf) → map.get homes dir ≡ Some old → HoldsDentry covers old holder
      → IsFrozen standing was.roots homes covers holder → ⊥
  pub to_thawed : (holder : Leaf) → HoldsDentry covers home holder → IsFrozen standing was.roots homes covers holder → ⊥
  pub changed : later ≡ map.insert homes dir home
  pub roots : KeepsRanksOf was.roots now.roots homes covers dir home
  pub promises : now.promises ≡ was.promises

-- a directory comes in, whose dentry is held by a leaf that isn't frozen
pub record IsMakingElsewhere (standing : Standing) (subtrees : Subtrees) (homes later : Homes)
    (covers : Covers) : Type 0 where
  pub dir : ℕ
  pub home : Home
  pub may : MayCome homes dir home
  pub thawed : (holder : Leaf) → HoldsDentry covers home holder → IsFrozen standing subtrees.roots homes covers holder
      → ⊥
  pub changed : later ≡ map.insert homes dir home

-- a directory goes that is no one's parent, and none of its leaves is frozen
pub record IsRemovalElsewhere (standing : Standing) (was now : Subtrees) (homes later_homes : Homes)
    (covers later_covers : Covers) : Type 0 where
  pub dir : ℕ
  pub below : dir ≢ 1
  pub childless : IsChildless homes dir
  pub thawed : (leaf : Leaf) → leaf.0.0 ≡ dir → IsLive homes covers leaf → IsFrozen standing was.roots homes covers leaf
      → ⊥
  pub home_gone : later_homes ≡ map.remove homes dir
  pub leaves_gone : later_covers ≡ map.remove covers dir
  pub roots : AreGone was.roots now.roots dir
  pub promises : AreGone was.promises now.promises dir

-- once a directory has moved another one goes, which it replaces: none of its leaves was frozen before the move. What
-- the move leaves is a table, whose leaves are those of before
pub record IsReplacedElsewhere (standing : Standing) (was mid now : Subtrees) (homes later later_homes : Homes)
    (covers later_covers : Covers) : Type 0 where
  pub dir : ℕ
  pub table : IsTable later covers
  pub valid : IsSubtrees mid.roots later covers
  pub lived : (leaf : Leaf) → IsLive later covers leaf → IsLive homes covers leaf
  pub below : dir ≢ 1
  pub childless : IsChildless later dir
  pub thawed : (leaf : Leaf) → leaf.0.0 ≡ dir → IsLive homes covers leaf → IsFrozen standing was.roots homes covers leaf
      → ⊥
  pub home_gone : later_homes ≡ map.remove later dir
  pub leaves_gone : later_covers ≡ map.remove covers dir
  pub roots : AreGone mid.roots now.roots dir
  pub promises : AreGone mid.promises now.promises dir
