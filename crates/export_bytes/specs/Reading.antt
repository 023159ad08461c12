-- Reading an export from the front of bytes: each reader gives what stands there, if it may stand there, and the bytes
-- after it.
use Rattle.std.specs.Prelude.{◌≡◌, ℕ, zero, suc, Bool, not, ◌&&◌, ◌==◌, nat_lt, if◌then◌else◌, List, [], ◌∷◌, length, take, drop, Option, Some, None}
use Rattle.std.specs.Str.{bytes_eq}
use Rattle.mds_types.specs.Frag.{Fragment}
use Rattle.mds_types.specs.declared.inodes.Inode.{Inode}
use Rattle.dirfrag_codec.specs.Reading.{◌>>=◌, after_tag, byte_at, number_at}
use Rattle.dirfrag_codec.specs.Values.{written_of, word_fragment, is_fragment, is_name}
use Rattle.cached_frag.specs.declared.bases.Base.{Base}
use Rattle.cached_frag.specs.declared.bases.Base.TheVariants.{Fresh, Stored}
use Rattle.export_bytes.specs.declared.exports.Export.{Export}
use Rattle.export_bytes.specs.declared.exports.SentFrag.{SentFrag}
use Rattle.export_bytes.specs.Export.{SentName, export_bytes, is_base_of, is_frag_before, is_name_before, is_sendable, rise}

-- so many bytes
abbrev pub part_at : ℕ → List ℕ → Option (List ℕ × List ℕ)
part_at n bytes = if nat_lt (length bytes) n then None else Some (take n bytes, drop n bytes)

-- bytes behind their number in one byte, and in two
abbrev pub short_part_at : List ℕ → Option (List ℕ × List ℕ)
short_part_at bytes = byte_at bytes >>= λ len. part_at len.0 len.1

abbrev pub long_part_at : List ℕ → Option (List ℕ × List ℕ)
long_part_at bytes = number_at 2 bytes >>= λ len. part_at len.0 len.1

-- the fragment of a word
abbrev pub frag_of_word : ℕ → Option Fragment
frag_of_word word = if is_fragment (word_fragment word) then Some (word_fragment word) else None

-- the base of a byte and a commit version
abbrev pub base_of : ℕ → ℕ → Option Base
base_of byte version =
    if (byte == 0) && (version == 0) then Some Fresh else if (byte == 1)
    && nat_lt 0 version then Some (Stored version) else None

-- what stands before the names of a fragment
pub record Head : Type 0 where
  pub ino : ℕ
  pub frag : Fragment
  pub base : Base
  pub count : ℕ

unfoldable pub head_at : List ℕ → Option (Head × List ℕ)
head_at bytes = do
  ino ← number_at 8 bytes
  word ← number_at 4 ino.1
  frag ← frag_of_word word.0
  byte ← byte_at word.1
  version ← number_at 8 byte.1
  base ← base_of byte.0 version.0
  count ← number_at 4 version.1
  if is_base_of base count.0 then Some (
    record {
      ino =
          ino.0;
      frag = frag;
      base = base;
      count = count.0;
    },
    count.1,
  ) else None

-- a name behind its length
unfoldable pub name_at : List ℕ → Option (List ℕ × List ℕ)
name_at bytes = do
  name ← short_part_at bytes
  if is_name name.0 then Some name else None

-- an inode's record behind its length
unfoldable pub record_at : List ℕ → Option (Inode × List ℕ)
record_at bytes = do
  part ← long_part_at bytes
  inode ← written_of part.0
  Some (inode, part.1)

-- what became of a name: it is there, or it was removed
abbrev pub present_at : List ℕ → Option (Option Inode × List ℕ)
present_at bytes = record_at bytes >>= λ inode. Some (Some inode.0, inode.1)

abbrev pub sent_inode_at : List ℕ → Option (Option Inode × List ℕ)
sent_inode_at [] = None
sent_inode_at (byte ∷ rest) = if byte == 0 then Some (None, rest) else if byte == 1 then present_at rest else None

unfoldable pub sent_name_at : List ℕ → Option (SentName × List ℕ)
sent_name_at bytes = do
  name ← name_at bytes
  inode ← sent_inode_at name.1
  Some ((name.0, inode.0), inode.1)

-- so many items, one after another
abbrev pub items_at : {A : Type 0} → (List ℕ → Option (A × List ℕ)) → ℕ → List ℕ → Option (List A × List ℕ)
items_at item_at zero bytes = Some ([], bytes)
items_at item_at (suc n) bytes =
    item_at bytes >>= λ first. items_at item_at n first.1 >>= λ more. Some (first.0 ∷ more.0, more.1)

-- a fragment with its names, which rise
unfoldable pub sent_frag_at : List ℕ → Option (SentFrag × List ℕ)
sent_frag_at bytes = do
  head ← head_at bytes
  names ← items_at sent_name_at head.0.count head.1
  if rise is_name_before None names.0 then Some (
    record {
      ino =
          record { 0 = head.0.ino };
      frag = head.0.frag;
      base = head.0.base;
      names = names.0;
    },
    names.1,
  ) else None

-- what stands before the fragments of an export
pub record Front : Type 0 where
  pub ino : ℕ
  pub frag : Fragment
  pub exporter : ℕ
  pub importer : ℕ
  pub count : ℕ

unfoldable pub front_at : List ℕ → Option (Front × List ℕ)
front_at bytes = do
  tagged ← after_tag 88 2 bytes
  ino ← number_at 8 tagged
  word ← number_at 4 ino.1
  frag ← frag_of_word word.0
  exporter ← byte_at word.1
  importer ← byte_at exporter.1
  count ← number_at 4 importer.1
  if nat_lt exporter.0 16 && (nat_lt importer.0 16 && not (exporter.0 == importer.0)) then Some (
    record {
      ino =
          ino.0;
      frag = frag;
      exporter = exporter.0;
      importer = importer.0;
      count = count.0;
    },
    count.1,
  ) else None

-- the export that the bytes are, by its parts: the fragments rise, and nothing follows
unfoldable pub parts_at : List ℕ → Option Export
parts_at bytes = do
  front ← front_at bytes
  frags ← items_at sent_frag_at front.0.count front.1
  if rise is_frag_before None frags.0 && (length frags.1 == 0) then Some (record {
    ino =
        record { 0 = front.0.ino };
    frag = front.0.frag;
    exporter = record { 0 = front.0.exporter };
    importer =
        record { 0 = front.0.importer };
    frags = frags.0;
  }) else None

-- whether the bytes spell the export
abbrev pub is_export : List ℕ → Export → Bool
is_export bytes export = is_sendable export && bytes_eq bytes (export_bytes export)

-- the export that the bytes are
unfoldable pub export_of : List ℕ → Option Export
export_of bytes = do
  export ← parts_at bytes
  if is_export bytes export then Some export else None

-- what stands before the names of a fragment is there: the least for which memory is taken
pub record StatesHead (bytes : List ℕ) : Type 0 where
  pub head : Head
  pub names : List ℕ
  pub headed : head_at bytes ≡ Some (head, names)

-- the front of an export is there, and behind it that of a fragment
pub record StatesFragment (bytes : List ℕ) : Type 0 where
  pub front : Front
  pub frags : List ℕ
  pub fronted : front_at bytes ≡ Some (front, frags)
  pub first : StatesHead frags
