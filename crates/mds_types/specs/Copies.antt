-- What is made where memory may be wanting, and what a copy takes memory for.
use Rattle.std.specs.Prelude.{◌≡◌, [], Option, Some, None, Result, Ok, Err}
use Rattle.mds_types.specs.declared.inodes.Inode.{Inode}
use Rattle.mds_types.specs.declared.inodes.Kind.{Kind}
use Rattle.mds_types.specs.declared.inodes.Kind.TheVariants.{File, Dir, Symlink}
use Rattle.mds_types.specs.declared.replies.Reply.{Reply}
use Rattle.mds_types.specs.declared.replies.Reply.TheVariants.{Entry, Entries, Target, Done, Errno}

-- the value is made; or memory is wanting, and then it was to be taken
abbrev pub IsMadeOrLacks : {A E : Type 0} → A → (TakesMemory : Type 0) → Result A E → Type 0
IsMadeOrLacks value TakesMemory (Ok made) = made ≡ value
IsMadeOrLacks value TakesMemory (Err refused) = TakesMemory

-- a link has a target
abbrev pub HasLink : Kind → Type 0
HasLink File = ⊥
HasLink Dir = ⊥
HasLink (Symlink target) = Unit {0}

abbrev pub IsLinkInode : Option Inode → Type 0
IsLinkInode None = ⊥
IsLinkInode (Some inode) = HasLink inode.kind

-- a reply has memory of its own: a listing that isn't empty, or the target of a link
abbrev pub OwnsMemory : Reply → Type 0
OwnsMemory (Entry inode) = HasLink inode.kind
OwnsMemory (Entries list more) = list ≡ [] → ⊥
OwnsMemory (Target target) = Unit {0}
OwnsMemory Done = ⊥
OwnsMemory (Errno number) = ⊥
