-- The operation table: what each operation answers on the plain tree, and what it leaves. Each operation's checks come
-- in the order in which they stand here; an errno changes nothing. What operations do when they succeed is POSIX.1's;
-- the order of the checks, the errno numbers and the limit of a directory's entries are this project's own profile.
use Rattle.std.specs.Prelude.{ℕ, Bool, true, false, cond, ◌&&◌, ◌||◌, ◌==◌, nat_lt, nat_le, List, map, filter, take, length, Option, Some, None, unwrap_or, ◌≡◌, ◌<◌, ◌^◌}
use Rattle.std.specs.Ordering.{is_lt, eq_by_cmp}
use Rattle.std.specs.Cmp.Lexicographic.{slice_cmp}
use Rattle.std.specs.Ordering.{nat_cmp, eq_by_cmp}
use Rattle.std.specs.FinMap as map
use Rattle.mds_types.specs.declared.ids.Ino.{Ino}
use Rattle.mds_types.specs.declared.ids.Rank.{Rank}
use Rattle.mds_types.specs.declared.dentries.Dentry.{Dentry}
use Rattle.mds_types.specs.declared.inodes.Alteration.{Alteration}
use Rattle.mds_types.specs.declared.inodes.Alteration.TheVariants.{Attributed, Pinned}
use Rattle.mds_types.specs.declared.inodes.Attributes.{Attributes}
use Rattle.mds_types.specs.declared.inodes.Birth.{Birth}
use Rattle.mds_types.specs.declared.inodes.Inode.{Inode}
use Rattle.mds_types.specs.declared.inodes.Kind.{Kind}
use Rattle.mds_types.specs.declared.inodes.Kind.TheVariants.{File, Dir, Symlink as Link}
use Rattle.mds_types.specs.declared.operations.Op.{Op}
use Rattle.mds_types.specs.declared.replies.Reply.{Reply}
use Rattle.mds_types.specs.declared.replies.Reply.TheVariants.{Entry, Entries, Done, Errno}
use Rattle.mds_types.specs.Shape.{Shape, Looks, Lists, Makes, Sets, Unlinks, Removes, Moves, destination_in, directory_in, shape}
use Rattle.mds_types.specs.Tree.{Tree, dentry_cmp, is_directory, is_dir_kind, is_above, entries_in, has_entries}

-- what one step of the table gives: the reply, the tree that it leaves, and whether it took the number that it was
-- offered
pub record Outcome : Type 0 where
  pub reply : Reply
  pub tree : Tree
  pub takes : Bool

-- a reply, and the tree that is left; no number is taken
abbrev pub answers : Tree → Reply → Outcome
answers tree reply = record { reply = reply; tree = tree; takes = false }

-- an errno, if there is one, changes nothing; otherwise what was to come
abbrev pub unless : Tree → Option ℕ → Outcome → Outcome
unless tree None outcome = outcome
unless tree (Some errno) outcome = answers tree (Errno errno)

-- the name is greater than `after`; every name is, if none is given
abbrev pub is_after : Option (List ℕ) → List ℕ → Bool
is_after None name = true
is_after (Some after) name = is_lt (slice_cmp nat_cmp after name)

-- the names of a directory greater than `after`, in order, with their inodes
unfoldable pub names_after : Tree → ℕ → Option (List ℕ) → List (List ℕ × Inode)
names_after tree dir after =
    map (λ e. (e.0.name, e.1)) (filter (λ e. (e.0.dir.0 == dir) && is_after after e.0.name) (map.entries tree))

-- lookup, readlink: absent ENOENT
abbrev pub looked : Tree → (Inode → Reply) → Option Inode → Outcome
looked tree answer None = answers tree (Errno 2)
looked tree answer (Some inode) = answers tree (answer inode)

-- the first `max` of these names, and whether further ones follow
abbrev pub page : Tree → ℕ → List (List ℕ × Inode) → Outcome
page tree max names = answers tree (Entries (take max names) (nat_lt max (length names)))

-- a directory with as many entries as the limit, or more, takes no further one: ENOSPC
abbrev pub full_errno : ℕ → Tree → ℕ → Option ℕ
full_errno limit tree d = cond (nat_le limit (entries_in tree d)) (Some 28) None

-- a new inode at a dentry: present EEXIST, then a full directory ENOSPC
abbrev pub made : ℕ → Tree → Dentry → Inode → Option Inode → Outcome
made limit tree dentry inode (Some other) = answers tree (Errno 17)
made limit tree dentry inode None =
    unless tree (full_errno limit tree dentry.dir.0) (record {
      reply =
          Entry inode;
      tree = map.insert tree dentry inode;
      takes = true;
    })

-- a new file or directory has size 0, and a link the size of its target
abbrev pub new_size : Kind → ℕ
new_size File = 0
new_size Dir = 0
new_size (Link target) = length target

-- a new inode has no pin
abbrev pub new_inode : ℕ → Kind → ℕ → Birth → Inode
new_inode number kind mode birth =
    record {
      ino = record { 0 = number };
      kind = kind;
      mode = mode;
      size = new_size kind;
      mtime = birth.mtime;
      uid =
          birth.uid;
      gid = birth.gid;
      pin = None;
    }

-- a size may be given to a file alone: to a directory EISDIR, to a link EINVAL
abbrev pub size_errno : Kind → Option ℕ → Option ℕ
size_errno kind None = None
size_errno File (Some size) = None
size_errno Dir (Some size) = Some 21
size_errno (Link target) (Some size) = Some 22

-- one of the 16 ranks, or none
abbrev pub is_pin : Option Rank → Bool
is_pin None = true
is_pin (Some rank) = nat_lt rank.0 16

-- what is no directory can't be pinned, ENOTDIR; then a rank that is none of the 16, EINVAL
abbrev pub pin_errno : Kind → Option Rank → Option ℕ
pin_errno kind pin = cond (is_dir_kind kind) (cond (is_pin pin) None (Some 22)) (Some 20)

-- why an inode of a kind can't be altered so, if it can't
abbrev pub alteration_errno : Kind → Alteration → Option ℕ
alteration_errno kind (Attributed given) = size_errno kind given.size
alteration_errno kind (Pinned pin) = pin_errno kind pin

-- the inode with the attributes that are given; the others stay
abbrev pub with_attributes : Attributes → Inode → Inode
with_attributes given inode =
    record inode {
      mode = unwrap_or given.mode inode.mode;
      size = unwrap_or given.size inode.size;
      mtime = unwrap_or given.mtime inode.mtime;
      uid = unwrap_or given.uid inode.uid;
      gid = unwrap_or given.gid inode.gid;
    }

-- the inode with this pin, or with none
abbrev pub with_pin : Option Rank → Inode → Inode
with_pin pin inode = record inode { pin = pin }

-- the inode altered so
abbrev pub altered : Alteration → Inode → Inode
altered (Attributed given) inode = with_attributes given inode
altered (Pinned pin) inode = with_pin pin inode

-- setattr, setpin: absent ENOENT, then what can't be altered so
abbrev pub altered_at : Tree → Dentry → Alteration → Option Inode → Outcome
altered_at tree dentry alteration None = answers tree (Errno 2)
altered_at tree dentry alteration (Some inode) =
    let changed = altered alteration inode in
    unless tree (alteration_errno inode.kind alteration) (answers (map.insert tree dentry changed) (Entry changed))

-- unlink: absent ENOENT, a directory EISDIR (where POSIX.1 names EPERM)
abbrev pub unlinked : Tree → Dentry → Option Inode → Outcome
unlinked tree dentry None = answers tree (Errno 2)
unlinked tree dentry (Some inode) =
    cond (is_dir_kind inode.kind) (answers tree (Errno 21)) (answers (map.remove tree dentry) Done)

-- what is no directory, or is not empty, can't be taken away as a directory
abbrev pub removal_errno : Tree → Inode → Option ℕ
removal_errno tree inode = cond (is_dir_kind inode.kind) (cond (has_entries tree inode.ino.0) (Some 39) None) (Some 20)

-- rmdir: absent ENOENT, no directory ENOTDIR, not empty ENOTEMPTY
abbrev pub dir_removed : Tree → Dentry → Option Inode → Outcome
dir_removed tree dentry None = answers tree (Errno 2)
dir_removed tree dentry (Some inode) = unless tree (removal_errno tree inode) (answers (map.remove tree dentry) Done)

-- a directory may replace an empty directory alone, anything else only what is no directory
abbrev pub replace_errno : Tree → Inode → Option Inode → Option ℕ
replace_errno tree inode None = None
replace_errno tree inode (Some target) =
    cond (is_dir_kind inode.kind)
    (cond (is_dir_kind target.kind) (cond (has_entries tree target.ino.0) (Some 39) None) (Some 20))
    (cond (is_dir_kind target.kind) (Some 21) None)

-- whether an inode is a directory that is d or above it
abbrev pub leads_to : Tree → Inode → ℕ → Bool
leads_to tree inode d = is_dir_kind inode.kind && ((inode.ino.0 == d) || is_above tree inode.ino.0 d)

-- the tree once an inode went from one dentry to another
abbrev pub with_moved : Tree → Dentry → Dentry → Inode → Tree
with_moved tree from to inode = map.insert (map.remove tree from) to inode

-- what is absent at the target comes to its directory, unless it stands in that already: then that may not be full
abbrev pub room_errno : ℕ → Tree → Dentry → Dentry → Option Inode → Option ℕ
room_errno limit tree from to None = cond (from.dir.0 == to.dir.0) None (full_errno limit tree to.dir.0)
room_errno limit tree from to (Some target) = None

-- rename: absent ENOENT; to itself, nothing happens; a directory below itself EINVAL; then what stands at the target;
-- then a full directory ENOSPC
abbrev pub renamed : ℕ → Tree → Dentry → Dentry → Option Inode → Option Inode → Outcome
renamed limit tree from to None target = answers tree (Errno 2)
renamed limit tree from to (Some inode) target =
    cond (eq_by_cmp dentry_cmp from to) (answers tree Done)
    (cond (leads_to tree inode to.dir.0) (answers tree (Errno 22))
    (unless tree (replace_errno tree inode target)
    (unless tree (room_errno limit tree from to target) (answers (with_moved tree from to inode) Done))))

-- what is done in directories that stand, by its shape, where a directory may have so many entries, offered the number
-- n
abbrev pub done_in : ℕ → Tree → Shape → ℕ → Outcome
done_in limit tree (Looks dentry answer) n = looked tree answer (map.get tree dentry)
done_in limit tree (Lists dir after max) n = page tree max (names_after tree dir after)
done_in limit tree (Makes dentry kind mode birth) n =
    made limit tree dentry (new_inode n kind mode birth) (map.get tree dentry)
done_in limit tree (Sets dentry alteration) n = altered_at tree dentry alteration (map.get tree dentry)
done_in limit tree (Unlinks dentry) n = unlinked tree dentry (map.get tree dentry)
done_in limit tree (Removes dentry) n = dir_removed tree dentry (map.get tree dentry)
done_in limit tree (Moves from to) n = renamed limit tree from to (map.get tree from) (map.get tree to)

-- one step by its shape: first of all, a number that is no directory of the tree now is ESTALE
abbrev pub step_in : ℕ → Tree → Shape → ℕ → Outcome
step_in limit tree s n =
    cond (is_directory tree (directory_in s)
    && is_directory tree (destination_in s)) (done_in limit tree s n) (answers tree (Errno 116))

-- the table, where a directory may have so many entries: what an operation does is told by its shape
abbrev pub step : ℕ → Tree → Op → ℕ → Outcome
step limit tree op n = step_in limit tree (shape op) n

-- the number in an option, if it counts
abbrev pub number_or : Option Ino → ℕ
number_or None = 0
number_or (Some ino) = ino.0

-- what comes to an absent name of another directory finds fewer entries there than the largest limit
abbrev pub HasSpace : Tree → (from to : Dentry) → Option Inode → Type 0
HasSpace tree from to None = (from.dir.0 == to.dir.0) ≡ false → entries_in tree to.dir.0 < 2 ^ 20
HasSpace tree from to (Some target) = Unit {0}

-- the table moves this inode from one dentry to another
pub record IsMove (tree : Tree) (from to : Dentry) (inode : Inode) : Type 0 where
  pub stands : map.get tree from ≡ Some inode
  pub apart : eq_by_cmp dentry_cmp from to ≡ false
  pub parent : is_directory tree to.dir.0 ≡ true
  pub outside : leads_to tree inode to.dir.0 ≡ false
  pub replaces : replace_errno tree inode (map.get tree to) ≡ None
  pub spaced : HasSpace tree from to (map.get tree to)
