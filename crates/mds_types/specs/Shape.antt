-- The shape of each operation: which names it reads, makes, sets, takes away or moves, whatever it is called. What
-- operations do when they succeed is POSIX.1's; that a directory is pinned to a rank is the CephFS documentation's
-- (`ceph.dir.pin`).
use Rattle.std.specs.Prelude.{ℕ, Bool, true, false, List, Option, Some, None}
use Rattle.mds_types.specs.declared.dentries.Dentry.{Dentry}
use Rattle.mds_types.specs.declared.inodes.Alteration.{Alteration}
use Rattle.mds_types.specs.declared.inodes.Alteration.TheVariants.{Attributed, Pinned}
use Rattle.mds_types.specs.declared.inodes.Birth.{Birth}
use Rattle.mds_types.specs.declared.inodes.Inode.{Inode}
use Rattle.mds_types.specs.declared.inodes.Kind.{Kind}
use Rattle.mds_types.specs.declared.inodes.Kind.TheVariants.{File, Dir, Symlink as Link}
use Rattle.mds_types.specs.declared.operations.Op.{Op}
use Rattle.mds_types.specs.declared.operations.Op.TheVariants.{Lookup, Readdir, Create, Mkdir, Readlink, Symlink, Setattr, SetPin, Unlink, Rmdir, Rename}
use Rattle.mds_types.specs.declared.replies.Reply.{Reply}
use Rattle.mds_types.specs.declared.replies.Reply.TheVariants.{Entry, Target, Errno}

pub data Shape : Type 0 where
  -- it reads what stands at a dentry, and answers this of it
  Looks : Dentry → (Inode → Reply) → Shape
  -- it lists so many names of a directory after one
  Lists : ℕ → Option (List ℕ) → ℕ → Shape
  -- it makes an inode of a kind and mode at a dentry
  Makes : Dentry → Kind → ℕ → Birth → Shape
  -- it alters the inode at a dentry
  Sets : Dentry → Alteration → Shape
  -- it takes away what stands at a dentry and is no directory
  Unlinks : Dentry → Shape
  -- it takes away the empty directory at a dentry
  Removes : Dentry → Shape
  -- it moves what stands at a dentry to another
  Moves : Dentry → Dentry → Shape

-- the mode of every link: octal 777
abbrev pub link_mode : ℕ
link_mode = 511

-- what a link points to: of what is no link EINVAL
abbrev pub target_of : Kind → Reply
target_of File = Errno 22
target_of Dir = Errno 22
target_of (Link target) = Target target

-- the shape of each operation
abbrev pub shape : Op → Shape
shape (Lookup dentry) = Looks dentry Entry
shape (Readdir dir after max) = Lists dir.0 after max
shape (Create dentry mode birth) = Makes dentry File mode birth
shape (Mkdir dentry mode birth) = Makes dentry Dir mode birth
shape (Readlink dentry) = Looks dentry (λ inode. target_of inode.kind)
shape (Symlink dentry target birth) = Makes dentry (Link target) link_mode birth
shape (Setattr dentry given) = Sets dentry (Attributed given)
shape (SetPin dentry pin) = Sets dentry (Pinned pin)
shape (Unlink dentry) = Unlinks dentry
shape (Rmdir dentry) = Removes dentry
shape (Rename from to) = Moves from to

-- the main dentry: its own, of a move the destination; a listing has none
abbrev pub main_in : Shape → Option Dentry
main_in (Looks dentry answer) = Some dentry
main_in (Lists dir after max) = None
main_in (Makes dentry kind mode birth) = Some dentry
main_in (Sets dentry alteration) = Some dentry
main_in (Unlinks dentry) = Some dentry
main_in (Removes dentry) = Some dentry
main_in (Moves from to) = Some to

-- the dentry that a move takes away
abbrev pub source_in : Shape → Option Dentry
source_in (Looks dentry answer) = None
source_in (Lists dir after max) = None
source_in (Makes dentry kind mode birth) = None
source_in (Sets dentry alteration) = None
source_in (Unlinks dentry) = None
source_in (Removes dentry) = None
source_in (Moves from to) = Some from

-- the directory that it works in; of a move, that of the source
abbrev pub directory_in : Shape → ℕ
directory_in (Looks dentry answer) = dentry.dir.0
directory_in (Lists dir after max) = dir
directory_in (Makes dentry kind mode birth) = dentry.dir.0
directory_in (Sets dentry alteration) = dentry.dir.0
directory_in (Unlinks dentry) = dentry.dir.0
directory_in (Removes dentry) = dentry.dir.0
directory_in (Moves from to) = from.dir.0

-- the directory that it leads to: of a move that of the target, otherwise the one that it works in
abbrev pub destination_in : Shape → ℕ
destination_in (Looks dentry answer) = dentry.dir.0
destination_in (Lists dir after max) = dir
destination_in (Makes dentry kind mode birth) = dentry.dir.0
destination_in (Sets dentry alteration) = dentry.dir.0
destination_in (Unlinks dentry) = dentry.dir.0
destination_in (Removes dentry) = dentry.dir.0
destination_in (Moves from to) = to.dir.0

-- whether it makes an inode where it succeeds
abbrev pub makes_in : Shape → Bool
makes_in (Looks dentry answer) = false
makes_in (Lists dir after max) = false
makes_in (Makes dentry kind mode birth) = true
makes_in (Sets dentry alteration) = false
makes_in (Unlinks dentry) = false
makes_in (Removes dentry) = false
makes_in (Moves from to) = false

-- the main dentry of an operation, and the dentry that a rename takes away
abbrev pub main_dentry : Op → Option Dentry
main_dentry op = main_in (shape op)

abbrev pub source_of : Op → Option Dentry
source_of op = source_in (shape op)

-- the directory that an operation works in; of a rename, that of the source
abbrev pub directory_of : Op → ℕ
directory_of op = directory_in (shape op)

-- the directory that an operation leads to: of a rename that of the target, otherwise the one that it works in
abbrev pub destination_of : Op → ℕ
destination_of op = destination_in (shape op)

-- whether an operation makes an inode where it succeeds
abbrev pub makes : Op → Bool
makes op = makes_in (shape op)
