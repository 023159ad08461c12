-- The subtree roots of a tree that was mounted.
use Rattle.std.specs.Prelude.{◌≡◌, Some, IsSome}
use Rattle.std.specs.FinMap as map
use Rattle.mds_types.specs.Frag.{Fragment}
use Rattle.fragtree.specs.FragTree.{HasLeaf}
use Rattle.inode_table.specs.Dirs.{Covers, leaves_of}
use Rattle.subtree_map.specs.Authority.{Leaf, Roots}
use Rattle.subtree_map.specs.Changes.{leaf_in_dir}

-- the leaves of the root directory are rank 0's, and nothing else is a root
pub record AreTopRoots (covers : Covers) (roots : Roots) : Type 0 where
  pub ranked : (f : Fragment) → HasLeaf (leaves_of covers 1) f → map.get roots (leaf_in_dir 1 f) ≡ Some (record { 0 = 0 })
  pub alone : (leaf : Leaf) → IsSome (map.get roots leaf) → (leaf.0.0 ≡ 1) × HasLeaf (leaves_of covers 1) leaf.1
