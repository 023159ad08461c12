-- Where the names of an operation lie.
use Rattle.std.specs.Prelude.{◌≡◌, ℕ, false, true, MatchOption, Option, Some, None}
use Rattle.mds_types.specs.declared.dentries.Dentry.{Dentry}
use Rattle.mds_types.specs.declared.dirfrags.Dirfrag.{Dirfrag}
use Rattle.mds_types.specs.declared.operations.Op.{Op}
use Rattle.mds_types.specs.Shape.{destination_of, main_dentry, source_of}
use Rattle.mds_types.specs.Tree.{Tree, entries_in, is_directory}
use Rattle.fragtree.specs.FragTree.{IsPick}
use Rattle.namehash.specs.Rjenkins.{hash_of}
use Rattle.inode_table.specs.Dirs.{Covers, leaves_of}
use Rattle.namespace_ops.specs.declared.locating.Located.{Located}
use Rattle.namespace_ops.specs.declared.locating.Places.{Places}

-- a hash falls there in a directory: the directory stands, the hash picks the leaf, and the rank holds it
pub record IsAt (tree : Tree) (covers : Covers) (Holds : Dirfrag → Type 0) (d hash : ℕ) (at : Dirfrag) : Type 0 where
  pub dir : at.dir.0 ≡ d
  pub stands : is_directory tree d ≡ true
  pub leaf : IsPick (leaves_of covers d) hash at.frag
  pub held : Holds at

-- a dentry lies there
abbrev pub LiesAt : Tree → Covers → (Dirfrag → Type 0) → Dentry → Dirfrag → Type 0
LiesAt tree covers Holds dentry at = IsAt tree covers Holds dentry.dir.0 (hash_of dentry.name) at

-- a hash was located in a directory: it falls there, and the directory has so many entries
pub record IsLocated (tree : Tree) (covers : Covers) (Holds : Dirfrag → Type 0) (d hash : ℕ)
    (located : Located) : Type 0 where
  pub at : IsAt tree covers Holds d hash located.at
  pub entries : located.entries ≡ entries_in tree d

-- a dentry was
abbrev pub IsLocatedAt : Tree → Covers → (Dirfrag → Type 0) → Dentry → Located → Type 0
IsLocatedAt tree covers Holds dentry located = IsLocated tree covers Holds dentry.dir.0 (hash_of dentry.name) located

-- where a hash falls in a directory; nowhere exactly where that isn't there
abbrev pub Locates : Tree → Covers → (Dirfrag → Type 0) → (dir hash : ℕ) → Option Located → Type 0
Locates tree covers Holds dir hash found =
    MatchOption found (is_directory tree dir ≡ false) (IsLocated tree covers Holds dir hash)

-- the hash of a dentry's name; where there is none, the first one
abbrev pub hash_at : Option Dentry → ℕ
hash_at None = 0
hash_at (Some dentry) = hash_of dentry.name

-- a hash that falls in the main leaf of an operation
abbrev pub main_hash : Op → ℕ
main_hash op = hash_at (main_dentry op)

-- where a dentry lies, if there is one
abbrev pub LocatesAt : Tree → Covers → (Dirfrag → Type 0) → Option Dentry → Option Located → Type 0
LocatesAt tree covers Holds None found = Unit {0}
LocatesAt tree covers Holds (Some dentry) found = Locates tree covers Holds dentry.dir.0 (hash_of dentry.name) found

-- where the main hash of an operation falls, and where the source of a rename lies
pub record AreLocated (tree : Tree) (covers : Covers) (Holds : Dirfrag → Type 0) (op : Op)
    (places : Places) : Type 0 where
  pub main : Locates tree covers Holds (destination_of op) (main_hash op) places.main
  pub source : LocatesAt tree covers Holds (source_of op) places.source
