-- Directories in order.
use Rattle.std.specs.Prelude.{ℕ, ◌==◌, cond, List, ◌∷◌, filter, is_some, Option, Some, None}
use Rattle.std.specs.Ordering.{is_lt, nat_cmp}
use Rattle.std.specs.FinMap as map
use Rattle.mds_types.specs.declared.ids.Ino.{Ino}
use Rattle.inode_table.specs.Dirs.{Covers, Homes}

-- the numbers of the directories that come after one, all where none is named: the root first, then the others by
-- number
abbrev pub dirs_after : Homes → Option Ino → List ℕ
dirs_after homes None = 1 ∷ map.keys homes
dirs_after homes (Some d) = cond (d.0 == 1) (map.keys homes) (filter (λ k. is_lt (nat_cmp d.0 k)) (map.keys homes))

-- those of them that have leaves of their own, as they were set
abbrev pub trees_after : Homes → Covers → Option Ino → List ℕ
trees_after homes covers after = filter (λ d. is_some (map.get covers d)) (dirs_after homes after)
