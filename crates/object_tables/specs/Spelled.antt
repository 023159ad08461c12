-- How two tables spell objects: the one has a row for each object with its header, the other one for each pair.
use Rattle.std.specs.Prelude.{◌≡◌, ℕ, Bool, true, false, List, [], ◌∷◌, Option, Some, is_some}
use Rattle.std.specs.Option.{option_and_then}
use Rattle.std.specs.FinMap as finmap
use Rattle.objstore.specs.Omap.{Omap}
use Rattle.objstore.specs.Objects.{Objects, header_at}
use Rattle.sqlite_value.specs.declared.value.Value.TheVariants.{Text}
use Rattle.sqlite_value.specs.Order.{Row}
use Rattle.sqlite_value.specs.Keys.{plain}
use Rattle.sqlite_trees.specs.declared.store.Shape.TheVariants.{Index}
use Rattle.sqlite_trees.specs.Tree.{Trees}
use Rattle.sqlite_trees.specs.View.{View}
use Rattle.object_tables.specs.Entries.{HasRow, IsElement, IsKeyedTable, Says, entry, one_text, two_texts}

-- an object's key in its table, and a pair's in its own
abbrev pub object_key : List ℕ → Row
object_key name = Text name ∷ []

abbrev pub pair_key : List ℕ → List ℕ → Row
pair_key name key = Text name ∷ Text key ∷ []

-- the value of a key in an object, if the object is there and has the key
abbrev pub value_at : Objects → List ℕ → List ℕ → Option (List ℕ)
value_at objects name key = option_and_then (λ (o : Omap). finmap.get o.pairs key) (finmap.get objects name)

-- table 0 has the objects, each with its header, and table 1 the pairs, but for these names and keys, of which nothing
-- is said
pub record SpellsBut (trees : Trees) (objects : Objects) (names : List ℕ → Bool) (keys : List ℕ → List ℕ → Bool)
    : Type 0 where
  pub objects_are : IsKeyedTable one_text (trees 0)
  pub pairs_are : IsKeyedTable two_texts (trees 1)
  pub headers : (name : List ℕ) → names name ≡ false → Says (trees 0) (object_key name) (header_at objects name)
  pub values : (name key : List ℕ) → keys name key ≡ false → Says (trees 1) (pair_key name key) (value_at objects name key)

-- the tables have exactly the objects
abbrev pub SpellsObjects : Trees → Objects → Type 0
SpellsObjects trees objects = SpellsBut trees objects (λ _. false) (λ _ _. false)

-- each pair's object has a row: so an object that has none has no pairs there
abbrev pub HaveOwners : Trees → Type 0
HaveOwners trees =
    (name key value : List ℕ) → IsElement (entry (pair_key name key) value) (trees 1) → HasRow (trees 0) (object_key name)

-- of these names there is no pair but those that the objects have
abbrev pub AreRight : List Row → Objects → (List ℕ → Bool) → Type 0
AreRight rows objects names =
    (name key value : List ℕ) → names name ≡ true → IsElement (entry (pair_key name key) value) rows → value_at objects name key ≡ Some value

-- no object that is there has lost its row
abbrev pub StayListed : List Row → List Row → Objects → Type 0
StayListed old new objects =
    (name : List ℕ) → is_some (header_at objects name) ≡ true → HasRow old (object_key name) → HasRow new (object_key name)

-- tables spell at most one set of objects
abbrev pub HaveOneSpelling : Type 0
HaveOneSpelling = (trees : Trees) (a b : Objects) → SpellsObjects trees a → SpellsObjects trees b → a ≡ b

-- the store has the three tables: the objects, the pairs, and the session map
pub record HasTables (v : View) : Type 0 where
  pub objects : v.shape 0 ≡ Index plain
  pub pairs : v.shape 1 ≡ Index plain
  pub sessions : v.shape 2 ≡ Index plain
