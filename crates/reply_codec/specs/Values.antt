-- What bytes say, as a function: the reply that they spell, none where they spell none. It reads a reply, and then asks
-- whether the bytes are the spelling of that reply.
use Rattle.std.specs.Prelude.{ℕ, ◌^◌, Bool, true, ◌&&◌, nat_lt, nat_le, if◌then◌else◌, List, length, Option, Some, None}
use Rattle.std.specs.List.{list_all}
use Rattle.std.specs.Str.{bytes_eq}
use Rattle.mds_types.specs.declared.ids.Rank.{Rank}
use Rattle.mds_types.specs.declared.inodes.Inode.{Inode}
use Rattle.mds_types.specs.declared.inodes.Kind.{Kind}
use Rattle.mds_types.specs.declared.inodes.Kind.TheVariants.{File, Dir, Symlink}
use Rattle.mds_types.specs.declared.replies.Reply.{Reply}
use Rattle.mds_types.specs.declared.replies.Reply.TheVariants.{Entry, Entries, Target, Done, Errno}
use Rattle.dirfrag_codec.specs.Reading.{◌>>=◌, has_widths}
use Rattle.dirfrag_codec.specs.Values.{is_name}
use Rattle.reply_codec.specs.ReplyBytes.{reply_bytes}
use Rattle.reply_codec.specs.Reading.{is_target, reply_at}

-- whether a pin is a rank of 8 bits
abbrev pub has_rank : Option Rank → Bool
has_rank None = true
has_rank (Some rank) = nat_lt rank.0 (2 ^ 8)

-- whether a link has a target
abbrev pub is_kind : Kind → Bool
is_kind File = true
is_kind Dir = true
is_kind (Symlink target) = is_target target

-- whether this is an inode, a name with its inode, a reply
abbrev pub is_inode : Inode → Bool
is_inode inode =
    nat_lt inode.ino.0 (2 ^ 64) && (has_widths inode
    && (nat_le inode.mode 4095 && (has_rank inode.pin && is_kind inode.kind)))

abbrev pub is_listed : List ℕ × Inode → Bool
is_listed entry = is_name entry.0 && is_inode entry.1

abbrev pub is_typed : Reply → Bool
is_typed (Entry inode) = is_inode inode
is_typed (Entries list more) = nat_lt (length list) (2 ^ 64) && list_all is_listed list
is_typed (Target target) = is_target target
is_typed Done = true
is_typed (Errno number) = nat_lt number (2 ^ 16)

-- whether the bytes spell the reply
abbrev pub is_reply_in : List ℕ → Reply → Bool
is_reply_in bytes reply = is_typed reply && bytes_eq bytes (reply_bytes reply)

-- the reply that bytes begin with, whatever follows
abbrev pub first_reply : List ℕ → Option Reply
first_reply bytes = reply_at bytes >>= λ read. Some read.0

-- the reply that the bytes are
unfoldable pub reply_from : List ℕ → Option Reply
reply_from bytes = do
  reply ← first_reply bytes
  if is_reply_in bytes reply then Some reply else None
