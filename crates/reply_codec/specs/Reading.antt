-- Reading a reply from the front of bytes: each reader gives what it finds there, and the bytes after it. Only this
-- crate's own contracts use these words.
use Rattle.std.specs.Prelude.{ℕ, zero, suc, ◌-◌, Bool, true, false, ◌==◌, nat_lt, nat_le, if◌then◌else◌, List, [], ◌∷◌, length, take, drop, get_or, Option, Some, None}
use Rattle.mds_types.specs.declared.ids.Rank.{Rank}
use Rattle.mds_types.specs.declared.inodes.Inode.{Inode}
use Rattle.mds_types.specs.declared.inodes.Kind.{Kind}
use Rattle.mds_types.specs.declared.inodes.Kind.TheVariants.{File, Dir, Symlink}
use Rattle.mds_types.specs.declared.replies.Reply.{Reply}
use Rattle.mds_types.specs.declared.replies.Reply.TheVariants.{Entry, Entries, Target, Done, Errno}
use Rattle.dirfrag_codec.specs.Reading.{◌>>=◌, byte_at, number_at, numbers_at}
use Rattle.dirfrag_codec.specs.Values.{has_target, is_name}
use Rattle.reply_codec.specs.ReplyBytes.{inode_widths}

-- so many bytes
abbrev pub bytes_at : ℕ → List ℕ → Option (List ℕ × List ℕ)
bytes_at n bytes = if nat_lt (length bytes) n then None else Some (take n bytes, drop n bytes)

-- bytes behind their number, which has so many bytes
abbrev pub counted_at : ℕ → List ℕ → Option (List ℕ × List ℕ)
counted_at width bytes = number_at width bytes >>= λ len. bytes_at len.0 len.1

-- the name of an entry
unfoldable pub entry_name_at : List ℕ → Option (List ℕ × List ℕ)
entry_name_at bytes = do
  name ← counted_at 1 bytes
  if is_name name.0 then Some name else None

-- whether these bytes are the target of a link
abbrev pub is_target : List ℕ → Bool
is_target bytes = has_target (Symlink bytes)

unfoldable pub target_at : List ℕ → Option (List ℕ × List ℕ)
target_at bytes = do
  target ← counted_at 2 bytes
  if is_target target.0 then Some target else None

-- the kind of a byte, with the target of a link; the other kinds have none
abbrev pub kind_from : ℕ → List ℕ → Option Kind
kind_from byte target =
    if byte == 3 then (if is_target target then Some (Symlink target) else None)
    else if length target == 0 then (if byte == 1 then Some File else if byte == 2 then Some Dir else None) else None

-- the pin of a number
abbrev pub pin_from : ℕ → Option (Option Rank)
pin_from number =
    if number == 0 then Some None else if nat_le number 256 then Some (Some (record { 0 = number - 1 })) else None

-- the fields of an inode, whatever they mean
pub record InodeFields : Type 0 where
  pub kind : ℕ
  pub ino : ℕ
  pub size : ℕ
  pub mtime : ℕ
  pub uid : ℕ
  pub gid : ℕ
  pub mode : ℕ
  pub pin : ℕ
  pub target : List ℕ

abbrev pub plain_fields : List ℕ → List ℕ → InodeFields
plain_fields n target =
    record {
      kind = get_or n 0 0;
      ino = get_or n 1 0;
      size = get_or n 2 0;
      mtime = get_or n 3 0;
      uid = get_or n 4 0;
      gid = get_or n 5 0;
      mode = get_or n 6 0;
      pin = get_or n 7 0;
      target = target;
    }

unfoldable pub plain_fields_at : List ℕ → Option (InodeFields × List ℕ)
plain_fields_at bytes = do
  numbers ← numbers_at inode_widths bytes
  target ← bytes_at (get_or numbers.0 8 0) numbers.1
  Some (plain_fields numbers.0 target.0, target.1)

-- the mode of a number
abbrev pub mode_from : ℕ → Option ℕ
mode_from bits = if nat_le bits 4095 then Some bits else None

abbrev pub inode_from : InodeFields → ℕ → Option Rank → Kind → Inode
inode_from f mode pin kind =
    record {
      ino = record { 0 = f.ino };
      kind = kind;
      size = f.size;
      mtime = f.mtime;
      uid = f.uid;
      gid = f.gid;
      mode = mode;
      pin = pin;
    }

-- the inode of these fields
unfoldable pub inode_said : InodeFields → Option Inode
inode_said f = do
  mode ← mode_from f.mode
  pin ← pin_from f.pin
  kind ← kind_from f.kind f.target
  Some (inode_from f mode pin kind)

-- an inode
unfoldable pub plain_inode_at : List ℕ → Option (Inode × List ℕ)
plain_inode_at bytes = do
  fields ← plain_fields_at bytes
  inode ← inode_said fields.0
  Some (inode, fields.1)

-- a name with its inode
unfoldable pub listed_at : List ℕ → Option ((List ℕ × Inode) × List ℕ)
listed_at bytes = do
  name ← entry_name_at bytes
  inode ← plain_inode_at name.1
  Some ((name.0, inode.0), inode.1)

-- so many names with their inodes
abbrev pub list_at : ℕ → List ℕ → Option (List (List ℕ × Inode) × List ℕ)
list_at zero bytes = Some ([], bytes)
list_at (suc n) bytes =
    listed_at bytes >>= λ first. list_at n first.1 >>= λ more. Some (first.0 ∷ more.0, more.1)

-- whether further names follow, as a byte says it
abbrev pub more_of : ℕ → Option Bool
more_of byte = if byte == 0 then Some false else if byte == 1 then Some true else None

-- what follows the byte of each kind
unfoldable pub found_at : List ℕ → Option (Reply × List ℕ)
found_at bytes = do
  inode ← plain_inode_at bytes
  Some (Entry inode.0, inode.1)

unfoldable pub listing_at : List ℕ → Option (Reply × List ℕ)
listing_at bytes = do
  byte ← byte_at bytes
  more ← more_of byte.0
  count ← number_at 8 byte.1
  list ← list_at count.0 count.1
  Some (Entries list.0 more, list.1)

unfoldable pub link_at : List ℕ → Option (Reply × List ℕ)
link_at bytes = do
  target ← target_at bytes
  Some (Target target.0, target.1)

unfoldable pub errno_at : List ℕ → Option (Reply × List ℕ)
errno_at bytes = do
  number ← number_at 2 bytes
  Some (Errno number.0, number.1)

abbrev pub said_at : ℕ → List ℕ → Option (Reply × List ℕ)
said_at kind bytes =
    if kind == 1 then found_at bytes else if kind == 2 then listing_at bytes else if kind == 3 then link_at bytes
    else if kind == 4 then Some (Done, bytes) else if kind == 5 then errno_at bytes else None

-- a reply
unfoldable pub reply_at : List ℕ → Option (Reply × List ℕ)
reply_at bytes = do
  kind ← byte_at bytes
  said_at kind.0 kind.1
