-- The session map: how a third table has its rows, each a key and a value, both of them bytes.
use Rattle.std.specs.Prelude.{◌≡◌, ℕ, List, [], ◌∷◌, Option, Some, None}
use Rattle.std.specs.FinMap as finmap
use Rattle.objstore.specs.Omap.{key_cmp}
use Rattle.sqlite_value.specs.declared.value.Value.TheVariants.{Blob}
use Rattle.sqlite_value.specs.Order.{Row}
use Rattle.sqlite_trees.specs.Tree.{Trees}
use Rattle.keeping.specs.declared.rows.RowEdit.{RowEdit}
use Rattle.keeping.specs.Rows.{SessionRows, rows_after_edits}
use Rattle.object_tables.specs.Entries.{IsKeyedTable, Says, entry, one_blob}
use Rattle.object_tables.specs.Noted.{Noted, has_key, has_name}
use Rattle.object_tables.specs.Spelled.{HaveOwners, SpellsBut, SpellsObjects}
use Rattle.objstore.specs.Objects.{Objects}

-- a key in its table
abbrev pub session_key : List ℕ → Row
session_key key = Blob key ∷ []

-- a table's rows are exactly these
pub record SpellsRows (table : List Row) (rows : SessionRows) : Type 0 where
  pub keyed : IsKeyedTable one_blob table
  pub values : (key : List ℕ) → Says table (session_key key) (finmap.get rows key)

-- table 2 has exactly these rows
abbrev pub HasSessionRows : Trees → SessionRows → Type 0
HasSessionRows trees rows = SpellsRows (trees 2) rows

-- tables have at most one session map
abbrev pub HaveOneSessionMap : Type 0
HaveOneSessionMap = (trees : Trees) (a b : SessionRows) → HasSessionRows trees a → HasSessionRows trees b → a ≡ b

-- what a transaction brings into tables. Where the old ones have spelled all objects but those names and keys that
-- changed, with a row for each pair's object, the new ones spell exactly the objects, and have exactly the rows edited
abbrev pub Brings : Trees → Trees → Objects → Noted → List RowEdit → Type 0
Brings old new objects changes edits =
    SpellsBut old objects (has_name changes) (has_key changes) → HaveOwners old
    → SpellsObjects new objects × ((rows : SessionRows) → HasSessionRows old rows → HasSessionRows new (rows_after_edits edits rows))

-- a row is added, which the table's row spells
pub record AddsRow (old new : SessionRows) (row : Row) : Type 0 where
  pub key : List ℕ
  pub value : List ℕ
  pub is : row ≡ entry (session_key key) value
  pub absent : finmap.get old key ≡ None
  pub added : new ≡ finmap.insert old key value
