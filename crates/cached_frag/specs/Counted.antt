-- What a name counts as. Only this crate's own contracts use these words.
use Rattle.std.specs.Prelude.{cond, Option, Some, None}
use Rattle.mds_types.specs.declared.inodes.Inode.{Inode}
use Rattle.cached_frag.specs.Counting.{is_dir, is_file}
use Rattle.cached_frag.specs.declared.bases.EntryCounts.{EntryCounts}
use Rattle.cached_frag.specs.declared.marks.Mark.{Mark}

abbrev pub counted : Option Inode → EntryCounts
counted inode = record { files = cond (is_file inode) 1 0; dirs = cond (is_dir inode) 1 0 }

-- a dirty name counts as what it became, any other as what it was
abbrev pub counted_or : Option Mark → EntryCounts → EntryCounts
counted_or (Some mark) below = counted mark.inode
counted_or None below = below
