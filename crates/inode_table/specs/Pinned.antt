-- The directories that have a pin, in order.
use Rattle.std.specs.Prelude.{◌≡◌, ℕ, ◌<◌, ◌≤◌, List, Option, Some, None, IsSome}
use Rattle.std.specs.Ordering.{nat_cmp}
use Rattle.std.specs.FinMap as map
use Rattle.std.specs.FinMap.{find}
use Rattle.mds_types.specs.declared.ids.Ino.{Ino}
use Rattle.inode_table.specs.declared.dirs.Directory.{Directory}
use Rattle.inode_table.specs.Dirs.{DirPins}
use Rattle.inode_table.specs.Rows.{pin_in}

-- a directory with a greater number
abbrev pub IsAfter : Option Ino → ℕ → Type 0
IsAfter None d = Unit {0}
IsAfter (Some last) d = last.0 < d

-- the first directory with a pin after another, or there is none
abbrev pub IsNextPinned : DirPins → Option Ino → Option Ino → Type 0
IsNextPinned pins after None = (d : ℕ) → IsSome (map.get pins d) → IsAfter after d → ⊥
IsNextPinned pins after (Some dir) =
    IsSome (map.get pins dir.0) × IsAfter after dir.0
    × ((d : ℕ) → IsSome (map.get pins d) → IsAfter after d → dir.0 ≤ d)

-- ---- words of this crate's own contracts

-- the first row with a pin
abbrev pub IsFirstPinned : List (ℕ × Directory) → Option Ino → Type 0
IsFirstPinned rows None = (d : ℕ) → pin_in (find nat_cmp d rows) ≡ None
IsFirstPinned rows (Some dir) =
    IsSome (pin_in (find nat_cmp dir.0 rows)) × ((d : ℕ) → IsSome (pin_in (find nat_cmp d rows)) → dir.0 ≤ d)
