-- The rows in which a directory table keeps what it knows, and what contracts see of them.
use Rattle.std.specs.Prelude.{ℕ, Bool, cond, is_some, map, Option, Some, None, List, [], ◌∷◌}
use Rattle.std.specs.Ordering.{nat_cmp}
use Rattle.std.specs.FinMap as map
use Rattle.mds_types.specs.Frag.{Fragment}
use Rattle.mds_types.specs.declared.ids.Rank.{Rank}
use Rattle.inode_table.specs.declared.dirs.Directory.{Directory}
use Rattle.inode_table.specs.Dirs.{Counts, Covers, DirPins, Homes, or_whole}

-- the directories below the root by number
abbrev pub DirRows : Type 0
DirRows = map.FinMap nat_cmp Directory

-- the leaves of the row that was found, if they were set
abbrev pub leaves_of_row : Option Directory → Option (List Fragment)
leaves_of_row None = None
leaves_of_row (Some row) = row.settings.leaves

-- whether a directory below the root has leaves that were set
abbrev pub has_leaves : DirRows → ℕ → Bool
has_leaves rows d = is_some (leaves_of_row (map.get rows d))

-- the numbers of those rows whose leaves were set
abbrev pub set_in : List (ℕ × Directory) → List ℕ
set_in [] = []
set_in (e ∷ es) = cond (is_some e.1.settings.leaves) (e.0 ∷ set_in es) (set_in es)

-- where each directory stands
unfoldable pub homes_of : DirRows → Homes
homes_of rows = map.from_sorted (map (λ e. (e.0, e.1.home)) (map.entries rows))

-- the leaves that were set of directories below the root
unfoldable pub covers_below : DirRows → Covers
covers_below rows =
    map.from_sorted (map (λ e. (e.0, or_whole e.1.settings.leaves)) (map.entries (map.retain_keys rows (has_leaves rows))))

-- and with those of the root, if they were set
abbrev pub covers_of : Option (List Fragment) → DirRows → Covers
covers_of None rows = covers_below rows
covers_of (Some leaves) rows = map.insert (covers_below rows) 1 leaves

-- how many entries each directory below the root has
unfoldable pub counts_below : DirRows → Counts
counts_below rows = map.from_sorted (map (λ e. (e.0, e.1.entries)) (map.entries rows))

-- and with those of the root
abbrev pub counts_with_root : ℕ → DirRows → Counts
counts_with_root root rows = map.insert (counts_below rows) 1 root

-- the pin of the row that was found, if it has one
abbrev pub pin_in : Option Directory → Option Rank
pin_in None = None
pin_in (Some row) = row.settings.pin

-- whether a directory below the root has a pin
abbrev pub has_pin : DirRows → ℕ → Bool
has_pin rows d = is_some (pin_in (map.get rows d))

-- the rank that a pin names; where there is none, any
abbrev pub or_first : Option Rank → Rank
or_first None = record { 0 = 0 }
or_first (Some rank) = rank

-- the pins
unfoldable pub pins_of : DirRows → DirPins
pins_of rows = map.from_sorted (map (λ e. (e.0, or_first e.1.settings.pin)) (map.entries (map.retain_keys rows (has_pin rows))))
