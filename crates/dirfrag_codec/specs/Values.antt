-- What bytes say, as functions: the value that they spell, none where they spell none. Each reads the fields, and then
-- asks whether the value of these fields is spelled by these bytes.
use Rattle.std.specs.Prelude.{ℕ, zero, suc, ◌-◌, ◌+◌, ◌*◌, ◌/◌, ◌%◌, ◌^◌, Bool, true, false, not, ◌&&◌, ◌||◌, ◌==◌, nat_lt, nat_le, if◌then◌else◌, List, [], ◌∷◌, length, take, drop, Option, Some, None}
use Rattle.std.specs.Str.{bytes_eq}
use Rattle.std.specs.List.{list_all}
use Rattle.byteorder.specs.Endian.{little_number}
use Rattle.mds_types.specs.Frag.{Fragment, span}
use Rattle.mds_types.specs.Name.{fits_name, fits_target, is_dots}
use Rattle.mds_types.specs.declared.ids.Rank.{Rank}
use Rattle.mds_types.specs.declared.inodes.Inode.{Inode}
use Rattle.mds_types.specs.declared.inodes.Kind.{Kind}
use Rattle.mds_types.specs.declared.inodes.Kind.TheVariants.{File, Dir, Symlink}
use Rattle.objstore.specs.EntryKeys.{entry_key}
use Rattle.dirfrag_codec.specs.declared.headers.FragHeader.{FragHeader}
use Rattle.dirfrag_codec.specs.EntryRecord.{record_v1, record_v2}
use Rattle.dirfrag_codec.specs.FragHeader.{header_bytes}
use Rattle.dirfrag_codec.specs.TreeObject.{tree_bytes}
use Rattle.dirfrag_codec.specs.Reading.{◌>>=◌, fields_at, has_widths, header_read_at, inode_with, is_plain, words_at}

-- ---- records

-- the kind of a byte, with this target if it is a link
abbrev pub kind_of : ℕ → List ℕ → Option Kind
kind_of byte target =
    if byte == 1 then Some File else if byte == 2 then Some Dir else if byte == 3 then Some (Symlink target) else None

-- whether the kind prescribes this size
abbrev pub has_size : Kind → ℕ → Bool
has_size File size = true
has_size Dir size = size == 0
has_size (Symlink target) size = size == length target

-- whether a link has a target of 1 to 4095 bytes, none zero
abbrev pub has_target : Kind → Bool
has_target File = true
has_target Dir = true
has_target (Symlink target) = nat_lt 0 (length target) && (nat_le (length target) 4095 && list_all fits_target target)

-- whether the kind may have the pin
abbrev pub may_have_pin : Kind → Option Rank → Bool
may_have_pin kind None = true
may_have_pin File (Some rank) = false
may_have_pin Dir (Some rank) = nat_lt rank.0 16
may_have_pin (Symlink target) (Some rank) = false

-- whether a record allows the inode
abbrev pub allows : Inode → Bool
allows inode =
    (nat_le (2 ^ 40) inode.ino.0 && nat_lt inode.ino.0 (17 * 2 ^ 40))
    && (nat_le inode.mode 4095 && (has_size inode.kind inode.size
    && (has_target inode.kind && may_have_pin inode.kind inode.pin)))

-- whether the bytes are the record of the inode in a version
abbrev pub is_record_v1 : List ℕ → Inode → Bool
is_record_v1 bytes inode = allows inode && (has_widths inode && (is_plain inode && bytes_eq bytes (record_v1 inode)))

abbrev pub is_record_v2 : List ℕ → Inode → Bool
is_record_v2 bytes inode = allows inode && (has_widths inode && bytes_eq bytes (record_v2 inode))

-- whether the bytes are what is written for the inode
abbrev pub is_written : List ℕ → Inode → Bool
is_written bytes inode = is_record_v2 bytes inode

-- the inode whose fields the bytes begin with, be it allowed or not
unfoldable pub inode_at : List ℕ → Option Inode
inode_at bytes = do
  fields ← fields_at bytes
  kind ← kind_of fields.kind fields.target
  Some (inode_with fields kind)

-- the inode whose record the bytes are
unfoldable pub inode_of_record : List ℕ → Option Inode
inode_of_record bytes = do
  inode ← inode_at bytes
  if is_record_v1 bytes inode || is_record_v2 bytes inode then Some inode else None

-- the inode whose written record the bytes are
unfoldable pub written_of : List ℕ → Option Inode
written_of bytes = do
  inode ← inode_at bytes
  if is_written bytes inode then Some inode else None

-- ---- headers

-- whether the bytes spell the header
abbrev pub is_header : List ℕ → FragHeader → Bool
is_header bytes header = nat_le 1 header.version && (nat_lt header.version (2 ^ 64)
    && (nat_lt header.files (2 ^ 64) && (nat_lt header.dirs (2 ^ 64) && bytes_eq bytes (header_bytes header))))

-- the header that the bytes are
unfoldable pub header_of : List ℕ → Option FragHeader
header_of bytes = do
  header ← header_read_at bytes
  if is_header bytes header then Some header else None

-- ---- fragment trees

-- the fragment of a word, be it one or not
abbrev pub word_fragment : ℕ → Fragment
word_fragment word = record { bits = word / 2 ^ 24; value = word % 2 ^ 24 }

-- the fragments of so many words
abbrev pub leaves_of_numbers : ℕ → List ℕ → List Fragment
leaves_of_numbers zero words = []
leaves_of_numbers (suc n) words = word_fragment (little_number 4 words) ∷ leaves_of_numbers n (drop 4 words)

-- whether this is a fragment
abbrev pub is_fragment : Fragment → Bool
is_fragment f = nat_le f.bits 24 && (nat_lt f.value (2 ^ 24) && (f.value % span f.bits == 0))

-- whether the fragments tile the hashes from low up to high
abbrev pub do_tile : ℕ → ℕ → List Fragment → Bool
do_tile low high [] = low == high
do_tile low high (f ∷ fs) = is_fragment f && ((f.value == low) && do_tile (low + span f.bits) high fs)

-- whether the bytes spell the tree of these leaves
abbrev pub spells_tree : List ℕ → List Fragment → Bool
spells_tree bytes leaves =
    (do_tile 0 (2 ^ 24) leaves && nat_le (length leaves) 4096)
    && (nat_le 2 (length leaves) && bytes_eq bytes (tree_bytes leaves))

-- the leaves whose words the bytes begin with, be they a tree or not
unfoldable pub all_leaves_at : List ℕ → Option (List Fragment)
all_leaves_at bytes = do
  words ← words_at bytes
  Some (leaves_of_numbers (length words / 4) words)

-- the leaves of the tree that the bytes are
unfoldable pub tree_of_bytes : List ℕ → Option (List Fragment)
tree_of_bytes bytes = do
  leaves ← all_leaves_at bytes
  if spells_tree bytes leaves then Some leaves else None

-- ---- keys

-- whether this is the name of an entry
abbrev pub is_name : List ℕ → Bool
is_name bytes =
    nat_lt 0 (length bytes) && (nat_le (length bytes) 255 && (list_all fits_name bytes && not (is_dots bytes)))

-- what stands before the last five bytes
abbrev pub front_of : List ℕ → List ℕ
front_of key = take (length key - 5) key

-- the name whose key this is
unfoldable pub name_of_key : List ℕ → Option (List ℕ)
name_of_key key = if is_name (front_of key) && bytes_eq key (entry_key (front_of key)) then Some (front_of key) else None
