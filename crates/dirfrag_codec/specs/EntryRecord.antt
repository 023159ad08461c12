-- The record of a directory entry, which embeds its inode as CephFS does; the bytes are this project's own profile.
use Rattle.std.specs.Prelude.{◌≡◌, ◌⊎◌, ℕ, ◌*◌, ◌^◌, ◌<◌, ◌≤◌, List, [], ◌∷◌, ◌++◌, length, codes, Option, Some, None}
use Rattle.byteorder.specs.Endian.{little_bytes}
use Rattle.mds_types.specs.Name.{IsTarget}
use Rattle.mds_types.specs.Tree.{HasPinOf, HasSize}
use Rattle.mds_types.specs.declared.ids.Rank.{Rank}
use Rattle.mds_types.specs.declared.inodes.Inode.{Inode}
use Rattle.mds_types.specs.declared.inodes.Kind.{Kind}
use Rattle.mds_types.specs.declared.inodes.Kind.TheVariants.{File, Dir, Symlink}

-- the byte of a kind
abbrev pub kind_byte : Kind → ℕ
kind_byte File = 1
kind_byte Dir = 2
kind_byte (Symlink target) = 3

-- what a link points to; nothing for the other kinds
abbrev pub target_bytes : Kind → List ℕ
target_bytes File = []
target_bytes Dir = []
target_bytes (Symlink target) = target

-- a link has a target as POSIX.1 bounds it: 1 to 4095 bytes, none zero
abbrev pub HasTarget : Kind → Type 0
HasTarget File = Unit {0}
HasTarget Dir = Unit {0}
HasTarget (Symlink target) = IsTarget target

-- a link, whose record has a target
abbrev pub IsLink : Kind → Type 0
IsLink File = ⊥
IsLink Dir = ⊥
IsLink (Symlink target) = Unit {0}

-- a number that a rank hands out: ranks 0 to 15 have 2 ^ 40 numbers each, from 2 ^ 40 on
pub record IsRankNumber (number : ℕ) : Type 0 where
  pub least : 2 ^ 40 ≤ number
  pub most : number < 17 * 2 ^ 40

-- the inodes that a record allows: a number of a rank, a mode of 12 bits, size 0 for a directory and the target's
-- length for a link, a link's target, and a pin of a directory alone
pub record IsRecordable (inode : Inode) : Type 0 where
  pub number : IsRankNumber inode.ino.0
  pub mode : inode.mode ≤ 4095
  pub size : HasSize inode.kind inode.size
  pub target : HasTarget inode.kind
  pub pin : HasPinOf inode.kind inode.pin

-- the numbers of an inode have as many bits as their types
pub record HasWidths (inode : Inode) : Type 0 where
  pub size : inode.size < 2 ^ 64
  pub mtime : inode.mtime < 2 ^ 64
  pub uid : inode.uid < 2 ^ 32
  pub gid : inode.gid < 2 ^ 32

-- what version 1 can say: no owner and no group but 0, and no pin
pub record IsPlain (inode : Inode) : Type 0 where
  pub uid : inode.uid ≡ 0
  pub gid : inode.gid ≡ 0
  pub pin : inode.pin ≡ None

-- the byte of a pin: 255 for none
abbrev pub pin_byte : Option Rank → ℕ
pin_byte None = 255
pin_byte (Some rank) = rank.0

-- numbers side by side, each in as many bytes as its width says
abbrev pub fields_bytes : List ℕ → List ℕ → List ℕ
fields_bytes [] numbers = []
fields_bytes (width ∷ widths) [] = []
fields_bytes (width ∷ widths) (n ∷ numbers) = little_bytes width n ++ fields_bytes widths numbers

-- what both versions begin with: kind, number, mode, size and time of the last change
abbrev pub widths_front : List ℕ
widths_front = 1 ∷ 8 ∷ 2 ∷ 8 ∷ 8 ∷ []

abbrev pub numbers_front : Inode → List ℕ
numbers_front inode = kind_byte inode.kind ∷ inode.ino.0 ∷ inode.mode ∷ inode.size ∷ inode.mtime ∷ []

-- version 1: then the target's length
abbrev pub widths_v1 : List ℕ
widths_v1 = widths_front ++ 2 ∷ []

abbrev pub numbers_v1 : Inode → List ℕ
numbers_v1 inode = numbers_front inode ++ length (target_bytes inode.kind) ∷ []

-- version 2: then owner, group and pin, and the target's length
abbrev pub widths_v2 : List ℕ
widths_v2 = widths_front ++ 4 ∷ 4 ∷ 1 ∷ 2 ∷ []

abbrev pub numbers_v2 : Inode → List ℕ
numbers_v2 inode =
    numbers_front inode ++ inode.uid ∷ inode.gid ∷ pin_byte inode.pin ∷ length (target_bytes inode.kind) ∷ []

-- the letter I, the version, the fields and the target
abbrev pub record_with : ℕ → List ℕ → List ℕ → Inode → List ℕ
record_with version widths numbers inode = codes "I" ++ version ∷ (fields_bytes widths numbers ++ target_bytes inode.kind)

abbrev pub record_v1 : Inode → List ℕ
record_v1 inode = record_with 1 widths_v1 (numbers_v1 inode) inode

abbrev pub record_v2 : Inode → List ℕ
record_v2 inode = record_with 2 widths_v2 (numbers_v2 inode) inode

-- the bytes are the record of the inode in version 1, which has no owner, no group and no pin
pub record IsRecordV1 (bytes : List ℕ) (inode : Inode) : Type 0 where
  pub allowed : IsRecordable inode
  pub widths : HasWidths inode
  pub plain : IsPlain inode
  pub spelled : bytes ≡ record_v1 inode

-- the bytes are the record of the inode in version 2
pub record IsRecordV2 (bytes : List ℕ) (inode : Inode) : Type 0 where
  pub allowed : IsRecordable inode
  pub widths : HasWidths inode
  pub spelled : bytes ≡ record_v2 inode

-- the record grammar: the bytes are a record of the inode, in a version that is read
abbrev pub SpellsEntry : List ℕ → Inode → Type 0
SpellsEntry bytes inode = IsRecordV1 bytes inode ⊎ IsRecordV2 bytes inode

-- the bytes are the record of a link
abbrev pub SpellsLink : List ℕ → Type 0
SpellsLink bytes = (inode : Inode) × SpellsEntry bytes inode × IsLink inode.kind

-- the bytes are the record of the inode in the version that is written
abbrev pub WritesEntry : List ℕ → Inode → Type 0
WritesEntry bytes inode = IsRecordV2 bytes inode

-- the bytes are the record of a link in the version that is written
abbrev pub WritesLink : List ℕ → Type 0
WritesLink bytes = (inode : Inode) × WritesEntry bytes inode × IsLink inode.kind

-- the bytes that are written for an inode
abbrev pub entry_bytes : Inode → List ℕ
entry_bytes inode = record_v2 inode

-- a record can be written for the inode
abbrev pub HasRecord : Inode → Type 0
HasRecord inode = WritesEntry (entry_bytes inode) inode

-- a value with no owner, no group and no pin has one spelling in each version, any other value one in version 2 and
-- none in version 1
pub record HasItsSpellings : Type 0 where
  pub first : (x y : List ℕ) (inode : Inode) → IsRecordV1 x inode → IsRecordV1 y inode → x ≡ y
  pub second : (x y : List ℕ) (inode : Inode) → IsRecordV2 x inode → IsRecordV2 y inode → x ≡ y
  pub plain : (inode : Inode) → IsRecordable inode → HasWidths inode → IsPlain inode
      → IsRecordV1 (record_v1 inode) inode × IsRecordV2 (record_v2 inode) inode
  pub other : (x : List ℕ) (inode : Inode) → (IsPlain inode → ⊥) → IsRecordV1 x inode → ⊥
  pub written : (inode : Inode) → IsRecordable inode → HasWidths inode → IsRecordV2 (record_v2 inode) inode
  pub apart : (bytes : List ℕ) (a b : Inode) → IsRecordV1 bytes a → IsRecordV2 bytes b → ⊥
