-- The header of a fragment's object, the fragment's own record (this project's own profile).
use Rattle.std.specs.Prelude.{◌≡◌, ℕ, ◌^◌, ◌<◌, ◌≤◌, List, ◌∷◌, ◌++◌, codes}
use Rattle.byteorder.specs.Endian.{little_bytes}
use Rattle.dirfrag_codec.specs.declared.headers.FragHeader.{FragHeader}

-- the letter F, the version of the format, the commit version, the number of entries that aren't directories and that
-- of directories
abbrev pub header_bytes : FragHeader → List ℕ
header_bytes header =
    codes "F" ++ 1 ∷ (little_bytes 8 header.version ++ (little_bytes 8 header.files ++ little_bytes 8 header.dirs))

-- the grammar of headers: numbers of 64 bits, and a commit version of 1 at least
pub record SpellsHeader (bytes : List ℕ) (header : FragHeader) : Type 0 where
  pub committed : 1 ≤ header.version
  pub version : header.version < 2 ^ 64
  pub files : header.files < 2 ^ 64
  pub dirs : header.dirs < 2 ^ 64
  pub spelled : bytes ≡ header_bytes header
