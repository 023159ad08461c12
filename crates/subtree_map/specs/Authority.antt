-- Whose fragment it is: that of the nearest subtree root (Weil et al., OSDI 2006; CephFS's subtree map).
use Rattle.std.specs.Prelude.{◌≡◌, ℕ, true, Some, None, IsSome}
use Rattle.std.specs.FinMap as map
use Rattle.mds_types.specs.declared.ids.Ino.{Ino}
use Rattle.mds_types.specs.declared.ids.Rank.{Rank}
use Rattle.mds_types.specs.Frag.{Fragment}
pub use Rattle.mds_types.specs.Leaf.{Leaf, leaf_cmp}
use Rattle.fragtree.specs.FragTree.{HasLeaf, IsPick}
use Rattle.namehash.specs.Rjenkins.{hash_of}
use Rattle.inode_table.specs.declared.dirs.Home.{Home}
use Rattle.inode_table.specs.Dirs.{Homes, Covers, IsLive, is_known, leaves_of}

-- the subtree roots, each with its rank
abbrev pub Roots : Type 0
Roots = map.FinMap leaf_cmp Rank

-- a leaf holds the dentry of a directory: it is the one of its parent's leaves that the hash of its name picks
pub record HoldsDentry (covers : Covers) (home : Home) (leaf : Leaf) : Type 0 where
  pub parent : leaf.0 ≡ home.parent
  pub pick : IsPick (leaves_of covers home.parent.0) (hash_of home.name) leaf.1

-- the nearest root of a leaf: itself where it is one, otherwise that of the leaf that holds the dentry of its directory
pub data NearestRoot (roots : Roots) (homes : Homes) (covers : Covers) : Leaf → Leaf → Type 0 where
  itself : (root : Leaf) (rank : Rank) → map.get roots root ≡ Some rank → NearestRoot roots homes covers root root
  inherited : (leaf holder root : Leaf) (home : Home) → map.get roots leaf ≡ None → map.get homes leaf.0.0 ≡ Some home
      → HoldsDentry covers home holder
      → NearestRoot roots homes covers holder root → NearestRoot roots homes covers leaf root

-- the authority of a leaf: the rank of its nearest root
pub record HasAuthority (roots : Roots) (homes : Homes) (covers : Covers) (leaf : Leaf) (rank : Rank) : Type 0 where
  pub root : Leaf
  pub nearest : NearestRoot roots homes covers leaf root
  pub ranked : map.get roots root ≡ Some rank

-- a hash falls in a directory that stands: this leaf is the one that it picks, and this rank the leaf's authority
pub record LocatesLeaf (roots : Roots) (homes : Homes) (covers : Covers) (dir : Ino) (hash : ℕ) (frag : Fragment)
    (rank : Rank) : Type 0 where
  pub known : is_known homes dir.0 ≡ true
  pub pick : IsPick (leaves_of covers dir.0) hash frag
  pub has : HasAuthority roots homes covers (dir, frag) rank

-- the region of a root: every leaf whose nearest root it is
pub record IsInRegion (roots : Roots) (homes : Homes) (covers : Covers) (root leaf : Leaf) : Type 0 where
  pub stands : IsLive homes covers leaf
  pub nearest : NearestRoot roots homes covers leaf root

-- a bound of a root's region: a root next below, so that the dentry of its directory is held in the region
pub record IsBound (roots : Roots) (homes : Homes) (covers : Covers) (root bound : Leaf) : Type 0 where
  pub is_root : IsSome (map.get roots bound)
  pub home : Home
  pub holder : Leaf
  pub stands : map.get homes bound.0.0 ≡ Some home
  pub holds : HoldsDentry covers home holder
  pub nearest : NearestRoot roots homes covers holder root

-- each leaf of the root directory is a subtree root, and only leaves of directories are
pub record IsSubtrees (roots : Roots) (homes : Homes) (covers : Covers) : Type 0 where
  pub top : (f : Fragment) → HasLeaf (leaves_of covers 1) f → IsSome (map.get roots (record { 0 = 1 }, f))
  pub live : (root : Leaf) → IsSome (map.get roots root) → IsLive homes covers root

-- a leaf has one nearest root, which is a root, and no other
pub record HasOneRoot (roots : Roots) (homes : Homes) (covers : Covers) (leaf : Leaf) : Type 0 where
  pub root : Leaf
  pub is_root : IsSome (map.get roots root)
  pub nearest : NearestRoot roots homes covers leaf root
  pub alone : (other : Leaf) → NearestRoot roots homes covers leaf other → other ≡ root

-- a leaf is in one region, which is that of a root, and in no other
pub record IsInOneRegion (roots : Roots) (homes : Homes) (covers : Covers) (leaf : Leaf) : Type 0 where
  pub root : Leaf
  pub is_root : IsSome (map.get roots root)
  pub within : IsInRegion roots homes covers root leaf
  pub alone : (other : Leaf) → IsInRegion roots homes covers other leaf → other ≡ root

-- a root is a bound of one region, and of no other
pub record BoundsOneRegion (roots : Roots) (homes : Homes) (covers : Covers) (bound : Leaf) : Type 0 where
  pub root : Leaf
  pub is_root : IsSome (map.get roots root)
  pub bounds : IsBound roots homes covers root bound
  pub alone : (other : Leaf) → IsBound roots homes covers other bound → other ≡ root
