-- Reading fields from the front of bytes. Contracts of this crate and of crates that read formats of their own use
-- these words.
use Rattle.std.specs.Prelude.{◌≡◌, get_or, ℕ, ◌*◌, ◌^◌, Bool, true, false, ◌&&◌, ◌==◌, nat_lt, nat_le, if◌then◌else◌, List, [], ◌∷◌, length, drop, Option, Some, None}
use Rattle.byteorder.specs.Endian.{little_number}
use Rattle.mds_types.specs.Tree.{HasPinOf}
use Rattle.mds_types.specs.declared.ids.Rank.{Rank}
use Rattle.mds_types.specs.declared.inodes.Inode.{Inode}
use Rattle.mds_types.specs.declared.inodes.Kind.{Kind}
use Rattle.dirfrag_codec.specs.declared.headers.FragHeader.{FragHeader}
use Rattle.dirfrag_codec.specs.EntryRecord.{HasTarget, IsLink, IsRecordable, kind_byte, pin_byte, target_bytes, widths_v1, widths_v2}

infixl 10 ◌>>=◌
abbrev pub ◌>>=◌ : {A B : Type 0} → Option A → (A → Option B) → Option B
(Some x) >>= f = f x
None >>= f = None

-- what a function returned, seen by view, is what was read
abbrev pub Gives : {X Y : Type 0} → (X → Y) → Option X → Option Y → Type 0
Gives view (Some x) read = read ≡ Some (view x)
Gives view None read = read ≡ None

-- what follows the letter of a format and its version
abbrev pub after_tag : ℕ → ℕ → List ℕ → Option (List ℕ)
after_tag letter version [] = None
after_tag letter version (a ∷ []) = None
after_tag letter version (a ∷ b ∷ rest) = if (a == letter) && (b == version) then Some rest else None

-- a byte, and the bytes after it
abbrev pub byte_at : List ℕ → Option (ℕ × List ℕ)
byte_at [] = None
byte_at (b ∷ rest) = Some (b, rest)

-- a number of n bytes, and the bytes after it
abbrev pub number_at : ℕ → List ℕ → Option (ℕ × List ℕ)
number_at n bytes = if nat_lt (length bytes) n then None else Some (little_number n bytes, drop n bytes)

-- the version behind the letter of a format, and the bytes after it
abbrev pub version_at : ℕ → List ℕ → Option (ℕ × List ℕ)
version_at letter [] = None
version_at letter (a ∷ []) = None
version_at letter (a ∷ b ∷ rest) = if a == letter then Some (b, rest) else None

-- the numbers at the front, each of so many bytes, and the bytes after them
abbrev pub numbers_at : List ℕ → List ℕ → Option (List ℕ × List ℕ)
numbers_at [] bytes = Some ([], bytes)
numbers_at (width ∷ widths) bytes =
    number_at width bytes >>= λ n. numbers_at widths n.1 >>= λ more. Some (n.0 ∷ more.0, more.1)

-- the fields of a record, whatever they mean; those that version 1 hasn't got are 0, 0 and 255
pub record RecordFields : Type 0 where
  pub kind : ℕ
  pub ino : ℕ
  pub mode : ℕ
  pub size : ℕ
  pub mtime : ℕ
  pub uid : ℕ
  pub gid : ℕ
  pub pin : ℕ
  pub target : List ℕ

abbrev pub fields_v1 : List ℕ → List ℕ → RecordFields
fields_v1 n target =
    record {
      kind = get_or n 0 0;
      ino = get_or n 1 0;
      mode = get_or n 2 0;
      size = get_or n 3 0;
      mtime = get_or n 4 0;
      uid = 0;
      gid = 0;
      pin = 255;
      target = target;
    }

abbrev pub fields_v2 : List ℕ → List ℕ → RecordFields
fields_v2 n target =
    record {
      kind = get_or n 0 0;
      ino = get_or n 1 0;
      mode = get_or n 2 0;
      size = get_or n 3 0;
      mtime = get_or n 4 0;
      uid = get_or n 5 0;
      gid = get_or n 6 0;
      pin = get_or n 7 0;
      target = target;
    }

-- fields whose stated length, at this place, is that of the target
abbrev pub where_whole : ℕ → (List ℕ → List ℕ → RecordFields) → List ℕ × List ℕ → Option RecordFields
where_whole place fields read = if length read.1 == get_or read.0 place 0 then Some (fields read.0 read.1) else None

-- the fields behind the letter and each version
abbrev pub fields_at_v1 : List ℕ → Option RecordFields
fields_at_v1 bytes = numbers_at widths_v1 bytes >>= where_whole 5 fields_v1

abbrev pub fields_at_v2 : List ℕ → Option RecordFields
fields_at_v2 bytes = numbers_at widths_v2 bytes >>= where_whole 8 fields_v2

abbrev pub fields_of_version : ℕ × List ℕ → Option RecordFields
fields_of_version tagged =
    if tagged.0 == 1 then fields_at_v1 tagged.1 else (if tagged.0 == 2 then fields_at_v2 tagged.1 else None)

unfoldable pub fields_at : List ℕ → Option RecordFields
fields_at bytes = version_at 73 bytes >>= fields_of_version

-- the fields of an inode
abbrev pub fields_of_inode : Inode → RecordFields
fields_of_inode inode =
    record {
      kind = kind_byte inode.kind;
      ino = inode.ino.0;
      mode = inode.mode;
      size = inode.size;
      mtime = inode.mtime;
      uid = inode.uid;
      gid = inode.gid;
      pin = pin_byte inode.pin;
      target = target_bytes inode.kind;
    }

-- the pin of a byte
abbrev pub pin_of_byte : ℕ → Option Rank
pin_of_byte byte = if byte == 255 then None else Some (record { 0 = byte })

-- the inode of these fields, be it allowed or not
abbrev pub inode_with : RecordFields → Kind → Inode
inode_with f kind =
    record {
      ino = record { 0 = f.ino };
      kind = kind;
      mode = f.mode;
      size = f.size;
      mtime = f.mtime;
      uid = f.uid;
      gid =
          f.gid;
      pin = pin_of_byte f.pin;
    }

-- whether its numbers have their bits
abbrev pub has_widths : Inode → Bool
has_widths inode = nat_lt inode.size (2 ^ 64) && (nat_lt inode.mtime (2 ^ 64)
    && (nat_lt inode.uid (2 ^ 32) && nat_lt inode.gid (2 ^ 32)))

-- whether version 1 can say it
abbrev pub has_no_pin : Option Rank → Bool
has_no_pin None = true
has_no_pin (Some rank) = false

abbrev pub is_plain : Inode → Bool
is_plain inode = (inode.uid == 0) && ((inode.gid == 0) && has_no_pin inode.pin)

-- the inode that a record allows and that has these fields; none if there is none
abbrev pub IsInodeOf : RecordFields → Option Inode → Type 0
IsInodeOf fields (Some inode) = IsRecordable inode × (fields_of_inode inode ≡ fields)
IsInodeOf fields None = (inode : Inode) → IsRecordable inode → fields_of_inode inode ≡ fields → ⊥

-- a link that a record allows has these fields
abbrev pub IsFieldsOfLink : RecordFields → Type 0
IsFieldsOfLink fields = (inode : Inode) × IsRecordable inode × (fields_of_inode inode ≡ fields) × IsLink inode.kind

-- whether a record allows the number and the size of these fields
abbrev pub fits_kind : RecordFields → Bool
fits_kind f =
    (nat_le (2 ^ 40) f.ino && nat_lt f.ino (17 * 2 ^ 40))
    && (if f.kind == 2 then f.size == 0 else if f.kind == 3 then f.size == length f.target else true)

-- the kind of this byte with this target; none if there is none
abbrev pub IsKindOf : ℕ → List ℕ → Option Kind → Type 0
IsKindOf byte target (Some kind) = HasTarget kind × (kind_byte kind ≡ byte) × (target_bytes kind ≡ target)
IsKindOf byte target None = (kind : Kind) → HasTarget kind → kind_byte kind ≡ byte → target_bytes kind ≡ target → ⊥

-- the pin of this byte in a record of this kind; none if there is none
abbrev pub IsPinOf : ℕ → ℕ → Option (Option Rank) → Type 0
IsPinOf kind byte (Some pin) = (pin_byte pin ≡ byte) × ((k : Kind) → kind_byte k ≡ kind → HasPinOf k pin)
IsPinOf kind byte None = (k : Kind) (pin : Option Rank) → HasPinOf k pin → kind_byte k ≡ kind → pin_byte pin ≡ byte → ⊥

unfoldable pub header_read_at : List ℕ → Option FragHeader
header_read_at bytes = do
  tagged ← after_tag 70 1 bytes
  version ← number_at 8 tagged
  files ← number_at 8 version.1
  dirs ← number_at 8 files.1
  if nat_lt 0 version.0 && (length dirs.1 == 0) then Some (record {
    version = version.0;
    files = files.0;
    dirs =
        dirs.0;
  }) else None

-- the bytes of a tree's leaves, as many as were stated, 2 at least
unfoldable pub words_at : List ℕ → Option (List ℕ)
words_at bytes = do
  tagged ← after_tag 84 1 bytes
  count ← number_at 2 tagged
  if nat_lt 1 count.0 && (length count.1 == 4 * count.0) then Some count.1 else None
