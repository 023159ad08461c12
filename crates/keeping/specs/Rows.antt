-- The rows that a store keeps beside its objects, such as its session map.
use Rattle.std.specs.Prelude.{ℕ, List, [], ◌∷◌, Option, Some, None}
use Rattle.std.specs.FinMap as map
use Rattle.objstore.specs.Omap.{key_cmp}
use Rattle.keeping.specs.declared.rows.RowEdit.{RowEdit}

-- the rows: a value for each of some keys
abbrev pub SessionRows : Type 0
SessionRows = map.FinMap key_cmp (List ℕ)

-- the rows, in which a key has this value, or no row
abbrev pub with_row_value : Option (List ℕ) → List ℕ → SessionRows → SessionRows
with_row_value None key rows = map.remove rows key
with_row_value (Some value) key rows = map.insert rows key value

-- the rows after edits, which are made one after the other
abbrev pub rows_after_edits : List RowEdit → SessionRows → SessionRows
rows_after_edits [] rows = rows
rows_after_edits (edit ∷ edits) rows = rows_after_edits edits (with_row_value edit.value edit.key rows)
