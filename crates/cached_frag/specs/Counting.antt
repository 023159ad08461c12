-- Entries counted mark by mark. Only this crate's own contracts use these words.
use Rattle.std.specs.Prelude.{ℕ, ◌+◌, Bool, false, cond, not, List, [], ◌∷◌, Option, Some, None}
use Rattle.mds_types.specs.Tree.{is_dir_kind}
use Rattle.mds_types.specs.declared.inodes.Inode.{Inode}
use Rattle.cached_frag.specs.declared.marks.Mark.{Mark}

-- whether a name is a directory now, and whether it is a file or link now
abbrev pub is_dir : Option Inode → Bool
is_dir None = false
is_dir (Some inode) = is_dir_kind inode.kind

abbrev pub is_file : Option Inode → Bool
is_file None = false
is_file (Some inode) = not (is_dir_kind inode.kind)

-- how many of the names are directories now, and how many are files or links
abbrev pub dirs_among : List (List ℕ × Mark) → ℕ
dirs_among [] = 0
dirs_among (e ∷ es) = cond (is_dir e.1.inode) 1 0 + dirs_among es

abbrev pub files_among : List (List ℕ × Mark) → ℕ
files_among [] = 0
files_among (e ∷ es) = cond (is_file e.1.inode) 1 0 + files_among es
