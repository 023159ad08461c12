-- The directory table beside a tree: the table of the tree's directories, and what becomes of it where an inode comes,
-- goes or moves.
use Rattle.std.specs.Prelude.{◌≡◌, ◌==◌, ℕ, Bool, true, false, cond, Option, Some, None}
use Rattle.std.specs.Ordering.{nat_cmp}
use Rattle.std.specs.FinMap as map
use Rattle.mds_types.specs.declared.ids.Rank.{Rank}
use Rattle.mds_types.specs.declared.dentries.Dentry.{Dentry}
use Rattle.mds_types.specs.declared.inodes.Inode.{Inode}
use Rattle.mds_types.specs.Tree.{Tree, dentry_of, entries_in, is_dir_kind, IsWellFormed}
use Rattle.inode_table.specs.declared.dirs.Home.{Home}
use Rattle.inode_table.specs.Dirs.{Counts, Covers, DirPins, Homes, count_of, one_less, one_more, pinned_at}

-- where a directory with its entry at this dentry stands
abbrev pub home_at : Dentry → Home
home_at dentry = record { parent = dentry.dir; name = dentry.name }

-- the table has exactly the tree's directories, each where it stands
pub record HoldsHomes (tree : Tree) (homes : Homes) : Type 0 where
  -- each directory of the tree is in the table
  pub listed : (dentry : Dentry) (inode : Inode) → map.get tree dentry ≡ Some inode → is_dir_kind inode.kind ≡ true
      → map.get homes inode.ino.0 ≡ Some (home_at dentry)
  -- each in the table is one of the tree
  pub stands : (d : ℕ) (home : Home) → map.get homes d ≡ Some home → (inode : Inode)
      × (map.get tree (dentry_of home.parent.0 home.name) ≡ Some inode) × (inode.ino.0 ≡ d)
      × (is_dir_kind inode.kind ≡ true)

-- the tree is well formed, and the table is that of the tree
pub record IsTabled (tree : Tree) (homes : Homes) : Type 0 where
  pub whole : IsWellFormed tree
  pub holds : HoldsHomes tree homes

-- the counts are those of the tree's entries
abbrev pub HoldsCounts : Tree → Counts → Type 0
HoldsCounts tree counts = (d : ℕ) → count_of counts d ≡ entries_in tree d

-- the pins are exactly those of the tree's directories
pub record HoldsPins (tree : Tree) (pins : DirPins) : Type 0 where
  pub listed : (dentry : Dentry) (inode : Inode) → map.get tree dentry ≡ Some inode → is_dir_kind inode.kind ≡ true
      → map.get pins inode.ino.0 ≡ inode.pin
  pub stands : (d : ℕ) (rank : Rank) → map.get pins d ≡ Some rank → (dentry : Dentry) × (inode : Inode)
      × (map.get tree dentry ≡ Some inode) × (inode.ino.0 ≡ d) × (is_dir_kind inode.kind ≡ true)

-- the table has how many entries each directory of the tree has, and the pins of those that have one
pub record IsCounted (tree : Tree) (counts : Counts) (pins : DirPins) : Type 0 where
  pub each : HoldsCounts tree counts
  pub pinned : HoldsPins tree pins

-- the table with the home of an inode that came to a dentry, if that is a directory
abbrev pub with_home : Homes → Dentry → Inode → Homes
with_home homes dentry inode = cond (is_dir_kind inode.kind) (map.insert homes inode.ino.0 (home_at dentry)) homes

-- the table without an inode, if there was one
abbrev pub without_home : Homes → Option Inode → Homes
without_home homes None = homes
without_home homes (Some inode) = cond (is_dir_kind inode.kind) (map.remove homes inode.ino.0) homes

-- the leaves of the directories without those of an inode, if there was one
abbrev pub without_cover : Covers → Option Inode → Covers
without_cover covers None = covers
without_cover covers (Some inode) = cond (is_dir_kind inode.kind) (map.remove covers inode.ino.0) covers

-- the counts once an entry moved from one directory to another, where something stood at its new name, or nothing
abbrev pub counts_moved : Counts → (from to : ℕ) → (stood : Bool) → Counts
counts_moved counts from to true = one_less counts from
counts_moved counts from to false = cond (from == to) counts (one_more (one_less counts from) to)

-- the counts with that of an inode that came, if that is a directory: nothing is in it
abbrev pub with_count : Counts → Inode → Counts
with_count counts inode = cond (is_dir_kind inode.kind) (map.insert counts inode.ino.0 0) counts

-- the pins with that of an inode, if that is a directory
abbrev pub with_dir_pin : DirPins → Inode → DirPins
with_dir_pin pins inode = cond (is_dir_kind inode.kind) (pinned_at pins inode.ino.0 inode.pin) pins

-- rows of directories without that of an inode, if there was one
abbrev pub without_row : {X : Type 0} → map.FinMap nat_cmp X → Option Inode → map.FinMap nat_cmp X
without_row rows None = rows
without_row rows (Some inode) = cond (is_dir_kind inode.kind) (map.remove rows inode.ino.0) rows
