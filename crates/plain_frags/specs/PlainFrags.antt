-- What contracts see of the plain fragments.
use Rattle.std.specs.Prelude.{◌≡◌, ℕ, ◌<◌, Bool, true, false, ◌==◌, List, Option, Some, None}
use Rattle.mds_types.specs.declared.dentries.Dentry.{Dentry}
use Rattle.mds_types.specs.declared.inodes.Inode.{Inode}
use Rattle.mds_types.specs.Tree.{Tree, is_dir_kind}
use Rattle.inode_table.specs.Dirs.{Homes, Covers}
use Rattle.mds_types.specs.Leaf.{Leaf}
use Rattle.namespace_ops.specs.Kept.{IsStanding, ShowsTheSame}
use Rattle.namespace_ops.specs.declared.plans.Change.{Change}
use Rattle.namespace_ops.specs.declared.plans.Spot.{Spot}

-- the tree, the homes and the leaves of the directory table, how many entries and directories still fit with no growth,
-- and the name that is ready for a directory's home
pub record Kept : Type 0 where
  pub tree : Tree
  pub homes : Homes
  pub covers : Covers
  pub entries_left : ℕ
  pub dirs_left : ℕ
  pub spare : Option (List ℕ)

-- an entry's inode has this number
abbrev pub is_numbered : ℕ → Dentry × Inode → Bool
is_numbered n entry = entry.1.ino.0 == n

-- the change can be made with no growth: there is room for a new entry, and for a new home with its name
abbrev pub IsReadyBy : Kept → Option Spot → Option (Spot × Inode) → Bool → Type 0
IsReadyBy f takes None comes = Unit {0}
IsReadyBy f None (Some put) true =
    (0 < f.entries_left) × (is_dir_kind put.1.kind ≡ true → (0 < f.dirs_left) × (f.spare ≡ Some put.0.name))
IsReadyBy f None (Some put) false = Unit {0}
IsReadyBy f (Some spot) (Some put) comes = (0 < f.entries_left) × (f.spare ≡ Some put.0.name)

abbrev pub IsPreparedFor : Kept → Change → Type 0
IsPreparedFor f change = IsReadyBy f change.takes change.puts change.comes

-- reads and refusals keep the tree and the leaves of each directory, whatever room they leave
abbrev pub KeepsShown : Kept → Kept → Type 0
KeepsShown a b = (b.tree ≡ a.tree) × (b.covers ≡ a.covers)

-- a leaf that stood stands, and shows what it showed
abbrev pub LeafStays : Kept → Kept → Leaf → Type 0
LeafStays a b leaf = IsStanding a.tree a.covers leaf → ShowsTheSame a.tree b.tree b.covers leaf
