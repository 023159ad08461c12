-- What an export hands over, and its bytes (this project's own profile).
use Rattle.std.specs.Prelude.{◌≡◌, ℕ, ◌^◌, Bool, true, not, ◌&&◌, ◌||◌, ◌==◌, nat_lt, List, [], ◌∷◌, ◌++◌, length, codes, Option, Some, None}
use Rattle.std.specs.List.{flat_map, list_all}
use Rattle.std.specs.Ordering.{is_lt}
use Rattle.byteorder.specs.Endian.{little_bytes}
use Rattle.mds_types.specs.Frag.{word_of}
use Rattle.mds_types.specs.declared.inodes.Inode.{Inode}
use Rattle.objstore.specs.Omap.{key_cmp}
use Rattle.dirfrag_codec.specs.EntryRecord.{entry_bytes}
use Rattle.dirfrag_codec.specs.Values.{is_fragment, is_name, is_written}
use Rattle.cached_frag.specs.declared.bases.Base.{Base}
use Rattle.cached_frag.specs.declared.bases.Base.TheVariants.{Fresh, Stored}
use Rattle.export_bytes.specs.declared.exports.Export.{Export}
use Rattle.export_bytes.specs.declared.exports.SentFrag.{SentFrag}

-- a dirty name as it is sent: with its inode, or removed
abbrev pub SentName : Type 0
SentName = List ℕ × Option Inode

-- ---- what may be sent

-- whether each item comes after the one before it, the first after `last`
abbrev pub rise : {A : Type 0} → (A → A → Bool) → Option A → List A → Bool
rise is_before last [] = true
rise is_before None (x ∷ xs) = rise is_before (Some x) xs
rise is_before (Some last) (x ∷ xs) = is_before last x && rise is_before (Some x) xs

-- names rise by their bytes
abbrev pub is_name_before : SentName → SentName → Bool
is_name_before a b = is_lt (key_cmp a.0 b.0)

-- fragments rise by inode, and then by value
abbrev pub is_frag_before : SentFrag → SentFrag → Bool
is_frag_before a b = nat_lt a.ino.0 b.ino.0 || ((a.ino.0 == b.ino.0) && nat_lt a.frag.value b.frag.value)

-- whether an inode, if there is one, has a record
abbrev pub has_record : Option Inode → Bool
has_record None = true
has_record (Some inode) = is_written (entry_bytes inode) inode

abbrev pub is_sent_name : SentName → Bool
is_sent_name sent = is_name sent.0 && has_record sent.1

-- whether a fragment that isn't clean has this base and so many dirty names: one whose object counts has a commit
-- version of 1 at least, and some names
abbrev pub is_base_of : Base → ℕ → Bool
is_base_of Fresh count = true
is_base_of (Stored version) count = nat_lt 0 version && (nat_lt version (2 ^ 64) && nat_lt 0 count)

abbrev pub is_sent_frag : SentFrag → Bool
is_sent_frag sent =
    (nat_lt sent.ino.0 (2 ^ 64) && is_fragment sent.frag) && (is_base_of sent.base (length sent.names)
    && (nat_lt (length sent.names) (2 ^ 32)
    && (rise is_name_before None sent.names && list_all is_sent_name sent.names)))

-- whether an export may hand this over: exporter and importer are two ranks of 16, the fragments rise, and each may be
-- sent
abbrev pub is_sendable : Export → Bool
is_sendable export =
    (nat_lt export.ino.0 (2 ^ 64) && is_fragment export.frag)
    && ((nat_lt export.exporter.0 16
    && (nat_lt export.importer.0 16 && not (export.exporter.0 == export.importer.0)))
    && (nat_lt (length export.frags) (2 ^ 32)
    && (rise is_frag_before None export.frags && list_all is_sent_frag export.frags)))

-- ---- the bytes

-- 0 for a removed name, 1 for one that is there, with its record behind the record's length
abbrev pub inode_bytes : Option Inode → List ℕ
inode_bytes None = 0 ∷ []
inode_bytes (Some inode) = 1 ∷ (little_bytes 2 (length (entry_bytes inode)) ++ entry_bytes inode)

-- the length of the name, the name, and what became of it
abbrev pub name_bytes : SentName → List ℕ
name_bytes sent = length sent.0 ∷ (sent.0 ++ inode_bytes sent.1)

-- 0 and no commit version, or 1 and the commit version
abbrev pub base_bytes : Base → List ℕ
base_bytes Fresh = 0 ∷ little_bytes 8 0
base_bytes (Stored version) = 1 ∷ little_bytes 8 version

-- the inode, the word, the base, the number of dirty names, and each of them
abbrev pub frag_bytes : SentFrag → List ℕ
frag_bytes sent = little_bytes 8 sent.ino.0 ++ (little_bytes 4 (word_of sent.frag)
    ++ (base_bytes sent.base ++ (little_bytes 4 (length sent.names) ++ flat_map name_bytes sent.names)))

-- the letter X, the version of the format, the root's inode and word, exporter and importer, the number of fragments,
-- and each of them
abbrev pub export_bytes : Export → List ℕ
export_bytes export = codes "X" ++ 2 ∷ (little_bytes 8 export.ino.0
    ++ (little_bytes 4 (word_of export.frag)
    ++ (export.exporter.0 ∷ export.importer.0 ∷ (little_bytes 4 (length export.frags)
    ++ flat_map frag_bytes export.frags))))

-- the grammar of exports
pub record SpellsExport (bytes : List ℕ) (export : Export) : Type 0 where
  pub sendable : is_sendable export ≡ true
  pub spelled : bytes ≡ export_bytes export
