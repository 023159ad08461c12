-- The bytes of a reply (this project's own profile).
use Rattle.std.specs.Prelude.{◌≡◌, ◌⊎◌, ℕ, ◌+◌, ◌^◌, ◌<◌, ◌≤◌, Bool, true, false, List, [], ◌∷◌, ◌++◌, length, get_or, Option, Some, None}
use Rattle.std.specs.List.{flat_map, AllByRecursion}
use Rattle.byteorder.specs.Endian.{little_bytes}
use Rattle.mds_types.specs.Name.{IsName, IsTarget}
use Rattle.mds_types.specs.declared.ids.Rank.{Rank}
use Rattle.mds_types.specs.declared.inodes.Inode.{Inode}
use Rattle.mds_types.specs.declared.replies.Reply.{Reply}
use Rattle.mds_types.specs.declared.replies.Reply.TheVariants.{Entry, Entries, Target, Done, Errno}
use Rattle.dirfrag_codec.specs.EntryRecord.{HasTarget, HasWidths, fields_bytes, kind_byte, target_bytes}

-- ---- what holds of every reply, by its type

-- a pin is a rank, which has 8 bits
abbrev pub HasRank : Option Rank → Type 0
HasRank None = Unit {0}
HasRank (Some rank) = rank.0 < 2 ^ 8

-- an inode: its numbers have as many bits as their types, its mode has 12, and a link has a target
pub record IsInode (inode : Inode) : Type 0 where
  pub number : inode.ino.0 < 2 ^ 64
  pub widths : HasWidths inode
  pub mode : inode.mode ≤ 4095
  pub pin : HasRank inode.pin
  pub target : HasTarget inode.kind

-- a name with its inode
abbrev pub IsListed : List ℕ × Inode → Type 0
IsListed entry = IsName entry.0 × IsInode entry.1

-- the names of a listing with their inodes, fewer than 2 ^ 64
abbrev pub AreListedEntries : List (List ℕ × Inode) → Type 0
AreListedEntries list = (length list < 2 ^ 64) × AllByRecursion IsListed list

-- a reply
abbrev pub IsReply : Reply → Type 0
IsReply (Entry inode) = IsInode inode
IsReply (Entries list more) = AreListedEntries list
IsReply (Target target) = IsTarget target
IsReply Done = Unit {0}
IsReply (Errno number) = number < 2 ^ 16

-- ---- the bytes

-- the number of a pin: 0 for none, else the rank's number and 1
abbrev pub pin_number : Option Rank → ℕ
pin_number None = 0
pin_number (Some rank) = rank.0 + 1

-- the numbers of an inode: kind, number, size, time of the last change, owner, group, mode, pin and the length of the
-- target; and how many bytes each has
abbrev pub inode_numbers : Inode → List ℕ
inode_numbers inode =
    kind_byte inode.kind ∷ inode.ino.0 ∷ inode.size ∷ inode.mtime ∷ inode.uid ∷ inode.gid ∷ inode.mode
    ∷ pin_number inode.pin ∷ length (target_bytes inode.kind) ∷ []

abbrev pub inode_widths : List ℕ
inode_widths = 1 ∷ 8 ∷ 8 ∷ 8 ∷ 4 ∷ 4 ∷ 2 ∷ 2 ∷ 2 ∷ []

-- an inode: its numbers, and the target of a link
unfoldable pub plain_bytes : Inode → List ℕ
plain_bytes inode = fields_bytes inode_widths (inode_numbers inode) ++ target_bytes inode.kind

-- bytes behind their number, which has so many bytes
abbrev pub counted_bytes : ℕ → List ℕ → List ℕ
counted_bytes width bytes = little_bytes width (length bytes) ++ bytes

-- a name behind its length, and its inode
abbrev pub listed_bytes : List ℕ × Inode → List ℕ
listed_bytes entry = counted_bytes 1 entry.0 ++ plain_bytes entry.1

-- whether further names follow
abbrev pub more_byte : Bool → ℕ
more_byte false = 0
more_byte true = 1

-- a listing: whether further names follow, how many there are, and each of them
abbrev pub listing_bytes : List (List ℕ × Inode) → Bool → List ℕ
listing_bytes list more = more_byte more ∷ (little_bytes 8 (length list) ++ flat_map listed_bytes list)

-- a reply: its kind, and what it says
abbrev pub reply_bytes : Reply → List ℕ
reply_bytes (Entry inode) = 1 ∷ plain_bytes inode
reply_bytes (Entries list more) = 2 ∷ listing_bytes list more
reply_bytes (Target target) = 3 ∷ counted_bytes 2 target
reply_bytes Done = 4 ∷ []
reply_bytes (Errno number) = 5 ∷ little_bytes 2 number

-- the grammar of replies
pub record SpellsReply (bytes : List ℕ) (reply : Reply) : Type 0 where
  pub typed : IsReply reply
  pub spelled : bytes ≡ reply_bytes reply

-- bytes that begin as an inode whose kind is that of a link
abbrev pub BeginsLink : List ℕ → Type 0
BeginsLink bytes = get_or bytes 0 0 ≡ 3

-- bytes that begin as a listing, as a target or as a link's inode: what is read of others takes no memory
abbrev pub ReadsIntoMemory : List ℕ → Type 0
ReadsIntoMemory bytes =
    (get_or bytes 0 0 ≡ 2) ⊎ ((get_or bytes 0 0 ≡ 3) ⊎ ((get_or bytes 0 0 ≡ 1) × (get_or bytes 1 0 ≡ 3)))
