-- Which changes a tree with directories can take, and what they leave of each directory's leaves.
use Rattle.std.specs.Prelude.{◌≡◌, ℕ, ◌<◌, ◌^◌, true, false, ◌&&◌, Some, None}
use Rattle.std.specs.FinMap as map
use Rattle.mds_types.specs.declared.dentries.Dentry.{Dentry}
use Rattle.mds_types.specs.declared.inodes.Inode.{Inode}
use Rattle.mds_types.specs.Tree.{Tree, is_directory, is_dir_kind, entries_in, has_entries, HasPinOf, HasSize, IsUnused}
use Rattle.inode_table.specs.Dirs.{Covers, leaves_of}

-- a new inode may come: to a free dentry of a directory with fewer entries than the largest limit, with a number that
-- is unused, the size that its kind allows, and no pin
pub record MayAdd (tree : Tree) (dentry : Dentry) (inode : Inode) : Type 0 where
  pub free : map.get tree dentry ≡ None
  pub parent : is_directory tree dentry.dir.0 ≡ true
  pub spaced : entries_in tree dentry.dir.0 < 2 ^ 20
  pub unused : IsUnused tree inode.ino.0
  pub sized : HasSize inode.kind inode.size
  pub unpinned : inode.pin ≡ None

-- an inode may be altered: it has the number and the kind of the one that stands there, and a size and a pin that its
-- kind allows, where that had them
pub record MaySet (tree : Tree) (dentry : Dentry) (inode : Inode) : Type 0 where
  pub before : Inode
  pub stands : map.get tree dentry ≡ Some before
  pub number : inode.ino ≡ before.ino
  pub kind : inode.kind ≡ before.kind
  pub sized : HasSize before.kind before.size → HasSize inode.kind inode.size
  pub pinned : HasPinOf before.kind before.pin → HasPinOf inode.kind inode.pin

-- an entry may go: it is no directory that has entries
pub record MayRemove (tree : Tree) (dentry : Dentry) : Type 0 where
  pub inode : Inode
  pub stands : map.get tree dentry ≡ Some inode
  pub empty : (is_dir_kind inode.kind && has_entries tree inode.ino.0) ≡ false

-- each directory of the tree has the leaves that it had
abbrev pub KeepLeaves : Tree → (old new : Covers) → Type 0
KeepLeaves tree old new = (d : ℕ) → is_directory tree d ≡ true → leaves_of new d ≡ leaves_of old d
