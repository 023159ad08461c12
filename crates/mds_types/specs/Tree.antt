-- The plain tree: what the fragments, caches and objects of all ranks together mean.
use Rattle.std.specs.Prelude.{◌≡◌, ℕ, zero, suc, ◌<◌, Bool, true, false, ◌||◌, ◌&&◌, ◌==◌, ◌⊎◌, List, map, length, Option, Some, None}
use Rattle.std.specs.List.{list_any}
use Rattle.std.specs.declared.cmp.Ordering.{Ordering}
use Rattle.std.specs.Ordering.{nat_cmp, ordering_then}
use Rattle.std.specs.Cmp.Lexicographic.{slice_cmp}
use Rattle.std.specs.FinMap as map
use Rattle.mds_types.specs.declared.ids.Rank.{Rank}
use Rattle.mds_types.specs.declared.dentries.Dentry.{Dentry}
use Rattle.mds_types.specs.declared.inodes.Inode.{Inode}
use Rattle.mds_types.specs.declared.inodes.Kind.{Kind}
use Rattle.mds_types.specs.declared.inodes.Kind.TheVariants.{File, Dir, Symlink}

-- dentries in order: by directory, and then by the bytes of the name
abbrev pub dentry_cmp : Dentry → Dentry → Ordering
dentry_cmp a b = ordering_then (nat_cmp a.dir.0 b.dir.0) (slice_cmp nat_cmp a.name b.name)

-- the plain tree: a finite map from dentries, directory number and name, to inodes
abbrev pub Tree : Type 0
Tree = map.FinMap dentry_cmp Inode

-- the dentry of a name in the directory of a number
abbrev pub dentry_of : ℕ → List ℕ → Dentry
dentry_of dir name = record { dir = record { 0 = dir }; name = name }

-- what stands at a dentry
abbrev pub at : Tree → ℕ → List ℕ → Option Inode
at tree dir name = map.get tree (dentry_of dir name)

-- a kind is that of a directory
abbrev pub is_dir_kind : Kind → Bool
is_dir_kind File = false
is_dir_kind Dir = true
is_dir_kind (Symlink target) = false

-- an entry is that of the directory d
abbrev pub is_entry_of_directory : ℕ → Dentry × Inode → Bool
is_entry_of_directory d entry = is_dir_kind entry.1.kind && (entry.1.ino.0 == d)

-- d is a directory of the tree now: the root, 1, or the number of an entry's directory
unfoldable pub is_directory : Tree → ℕ → Bool
is_directory tree d = (d == 1) || list_any (is_entry_of_directory d) (map.entries tree)

-- the numbers of the inodes in the tree
abbrev pub numbers : Tree → List ℕ
numbers tree = map (λ e. e.1.ino.0) (map.entries tree)

-- d is above x: a chain of one or more entries leads from d to x
pub data IsAbove (tree : Tree) (d : ℕ) : ℕ → Type 0 where
  -- x is an entry of d
  child : (name : List ℕ) (inode : Inode) → at tree d name ≡ Some inode → IsAbove tree d inode.ino.0
  -- x is an entry of a directory that d is above of
  further : (m : ℕ) (name : List ℕ) (inode : Inode) → IsAbove tree d m → at tree m name ≡ Some inode
      → IsAbove tree d inode.ino.0

-- whether d is above x by a chain of at most so many entries
abbrev pub is_above_within : ℕ → Tree → ℕ → ℕ → Bool
is_above_within zero tree d x = false
is_above_within (suc n) tree d x =
    list_any (λ e. (e.1.ino.0 == x) && ((e.0.dir.0 == d) || is_above_within n tree d e.0.dir.0)) (map.entries tree)

-- whether d is above x, as the table asks it: in a well-formed tree no chain has more entries than the tree
unfoldable pub is_above : Tree → ℕ → ℕ → Bool
is_above tree d x = is_above_within (map.len tree) tree d x

-- a dentry is in the directory of this number
abbrev pub is_in : ℕ → Dentry → Bool
is_in d dentry = dentry.dir.0 == d

-- how many entries a directory has
unfoldable pub entries_in : Tree → ℕ → ℕ
entries_in tree d = map.len (map.retain_keys tree (is_in d))

-- whether a directory has an entry
unfoldable pub has_entries : Tree → ℕ → Bool
has_entries tree d = list_any (λ e. e.0.dir.0 == d) (map.entries tree)

-- the size that a kind prescribes: 0 for a directory, for a link the size of its target
abbrev pub HasSize : Kind → ℕ → Type 0
HasSize File size = Unit {0}
HasSize Dir size = size ≡ 0
HasSize (Symlink target) size = size ≡ length target

-- a pin stands on a directory alone, and names one of 16 ranks
abbrev pub HasPinOf : Kind → Option Rank → Type 0
HasPinOf kind None = Unit {0}
HasPinOf File (Some rank) = ⊥
HasPinOf Dir (Some rank) = rank.0 < 16
HasPinOf (Symlink target) (Some rank) = ⊥

-- what holds of every tree that operations lead to
pub record IsWellFormed (tree : Tree) : Type 0 where
  -- the root has no entry
  pub rootless : (d : ℕ) (name : List ℕ) (inode : Inode) → at tree d name ≡ Some inode → inode.ino.0 ≡ 1 → ⊥
  -- no number stands twice
  pub once : (d d' : ℕ) (name name' : List ℕ) (inode inode' : Inode) → at tree d name ≡ Some inode
      → at tree d' name' ≡ Some inode' → inode.ino ≡ inode'.ino → (d ≡ d') × (name ≡ name')
  -- each entry's directory is one of the tree
  pub parents : (d : ℕ) (name : List ℕ) (inode : Inode) → at tree d name ≡ Some inode → is_directory tree d ≡ true
  -- each entry's directory reaches the root by finitely many parents
  pub rooted : (d : ℕ) (name : List ℕ) (inode : Inode) → at tree d name ≡ Some inode → (d ≡ 1) ⊎ IsAbove tree 1 d
  pub sizes : (d : ℕ) (name : List ℕ) (inode : Inode) → at tree d name ≡ Some inode → HasSize inode.kind inode.size
  pub pins : (d : ℕ) (name : List ℕ) (inode : Inode) → at tree d name ≡ Some inode → HasPinOf inode.kind inode.pin

-- no entry is in what has this number
abbrev pub NothingIn : Tree → ℕ → Type 0
NothingIn tree d = (q : Dentry) (x : Inode) → map.get tree q ≡ Some x → q.dir.0 ≡ d → ⊥

-- a number that no inode of the tree has, and that isn't the root's
pub record IsUnused (tree : Tree) (n : ℕ) : Type 0 where
  pub not_root : n ≡ 1 → ⊥
  pub not_there : (d : ℕ) (name : List ℕ) (inode : Inode) → at tree d name ≡ Some inode → inode.ino.0 ≡ n → ⊥
