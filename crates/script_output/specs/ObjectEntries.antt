-- The pairs of an object, counted one after the other. Only this crate's own contracts use these words.
use Rattle.std.specs.Prelude.{ℕ, suc, Bool, true, false, List, [], ◌∷◌, Option, Some, None}
use Rattle.mds_types.specs.Tree.{is_dir_kind}
use Rattle.mds_types.specs.declared.inodes.Inode.{Inode}
use Rattle.dirfrag_codec.specs.declared.headers.FragHeader.{FragHeader}
use Rattle.dirfrag_codec.specs.Reading.{◌>>=◌}
use Rattle.dirfrag_codec.specs.Values.{inode_of_record, name_of_key}

-- whether what stands under a name is a directory
abbrev pub is_dir_under : Option (List ℕ) → Option Inode → Option Bool
is_dir_under (Some name) (Some inode) = Some (is_dir_kind inode.kind)
is_dir_under (Some name) None = None
is_dir_under None inode = None

-- whether the entry of a pair is a directory; none, where its key is no name's or its value is no record
abbrev pub is_dir_in : List ℕ × List ℕ → Option Bool
is_dir_in pair = is_dir_under (name_of_key pair.0) (inode_of_record pair.1)

-- a header that counts one entry more
abbrev pub with_one : FragHeader → Bool → FragHeader
with_one header true = record { version = header.version; files = header.files; dirs = suc header.dirs }
with_one header false = record { version = header.version; files = suc header.files; dirs = header.dirs }

-- a header that counts these pairs too; none, where one of them is no entry's
abbrev pub counted_after : FragHeader → List (List ℕ × List ℕ) → Option FragHeader
counted_after header [] = Some header
counted_after header (pair ∷ pairs) = is_dir_in pair >>= λ is_dir. counted_after (with_one header is_dir) pairs

-- the header that these pairs have at a commit version; none, where one of them is no entry's
abbrev pub counted_header : ℕ → List (List ℕ × List ℕ) → Option FragHeader
counted_header version pairs = counted_after (record { version = version; files = 0; dirs = 0 }) pairs
