-- What a schema lists.
use Rattle.std.specs.Prelude.{◌≢◌, ℕ, List}
use Rattle.std.specs.List.{AllByRecursion}
use Rattle.sqlite_value.specs.declared.value.Value.TheVariants.{Text}
use Rattle.sqlite_value.specs.Order.{column}
use Rattle.sqlite_store.specs.declared.catalog.Wanted.{Wanted}

-- no object of this name: a description has the type, the name, the table and the SQL text
abbrev pub HasNoName : List Wanted → List ℕ → Type 0
HasNoName schema name = AllByRecursion (λ w. column w.row 1 ≢ Text name) schema
