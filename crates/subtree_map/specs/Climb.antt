-- Where a climb along dentries ends. Only this crate's own contracts use these words.
use Rattle.std.specs.Prelude.{◌≡◌, Option, Some, None}
use Rattle.std.specs.FinMap as map
use Rattle.inode_table.specs.declared.dirs.Home.{Home}
use Rattle.inode_table.specs.Dirs.{Homes, Covers}
use Rattle.mds_types.specs.Leaf.{Leaf}
use Rattle.mds_types.specs.declared.ids.Rank.{Rank}
use Rattle.subtree_map.specs.Authority.{Roots, HoldsDentry, NearestRoot}

-- a row of the roots is that of a leaf's nearest root
pub record IsNearestRow (roots : Roots) (homes : Homes) (covers : Covers) (leaf : Leaf)
    (row : Leaf × Rank) : Type 0 where
  pub nearest : NearestRoot roots homes covers leaf row.0
  pub ranked : map.get roots row.0 ≡ Some row.1

-- a climb from a leaf finds its nearest root's row, and none exactly where no root is on the way up
abbrev pub FindsRow : Roots → Homes → Covers → Leaf → Option (Leaf × Rank) → Type 0
FindsRow roots homes covers leaf None = (root : Leaf) → NearestRoot roots homes covers leaf root → ⊥
FindsRow roots homes covers leaf (Some row) = IsNearestRow roots homes covers leaf row

-- a climb from the leaf that holds a dentry
abbrev pub FindsAbove : Roots → Homes → Covers → Home → Option (Leaf × Rank) → Type 0
FindsAbove roots homes covers home found =
    (holder : Leaf) × HoldsDentry covers home holder × FindsRow roots homes covers holder found

-- the dentry of a leaf's directory is held in the region of a root
pub record IsNextBelow (roots : Roots) (homes : Homes) (covers : Covers) (root leaf : Leaf) : Type 0 where
  pub home : Home
  pub holder : Leaf
  pub stands : map.get homes leaf.0.0 ≡ Some home
  pub holds : HoldsDentry covers home holder
  pub nearest : NearestRoot roots homes covers holder root

-- the way up ends at a leaf: it is a root, or its directory stands nowhere
abbrev pub IsTop : Roots → Homes → Leaf → Type 0
IsTop roots homes leaf = map.get roots leaf ≡ None → map.get homes leaf.0.0 ≡ None
