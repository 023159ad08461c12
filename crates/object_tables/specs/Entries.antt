-- The rows of a table whose rows are each a key, of texts and blobs, and one value.
use Rattle.std.specs.Prelude.{◌≡◌, ◌⊎◌, ◌↔◌, ℕ, Bool, true, false, List, [], ◌∷◌, ◌++◌, Option, None, Some}
use Rattle.std.specs.declared.cmp.Ordering.TheVariants.{Equal}
use Rattle.sqlite_value.specs.declared.value.Value.{Value}
use Rattle.sqlite_value.specs.declared.value.Value.TheVariants.{Null, Int, Real, Text, Blob}
use Rattle.sqlite_value.specs.Order.{Row, column}
use Rattle.sqlite_value.specs.Keys.{plain, prefix_cmp}
use Rattle.sqlite_trees.specs.View.{OnlyWrites, View}

-- an element of a list
abbrev pub IsElement : {X : Type 0} → X → List X → Type 0
IsElement x [] = ⊥
IsElement x (y ∷ ys) = (y ≡ x) ⊎ IsElement x ys

-- a column of a key is a text or a blob
abbrev pub IsKeyColumn : Value → Type 0
IsKeyColumn Null = ⊥
IsKeyColumn (Int n) = ⊥
IsKeyColumn (Real x) = ⊥
IsKeyColumn (Text t) = Unit {0}
IsKeyColumn (Blob b) = Unit {0}

abbrev pub IsKey : Row → Type 0
IsKey [] = Unit {0}
IsKey (v ∷ vs) = IsKeyColumn v × IsKey vs

-- which columns of a key are texts: each other one is a blob
abbrev pub is_text_column : Value → Bool
is_text_column Null = false
is_text_column (Int n) = false
is_text_column (Real x) = false
is_text_column (Text t) = true
is_text_column (Blob b) = false

abbrev pub texts_of : Row → List Bool
texts_of [] = []
texts_of (v ∷ vs) = is_text_column v ∷ texts_of vs

-- the row of a key and its value
abbrev pub entry : Row → List ℕ → Row
entry key value = key ++ Blob value ∷ []

-- the row is a key of such columns and a value
pub record IsEntryRow (texts : List Bool) (row : Row) : Type 0 where
  pub key : Row
  pub value : List ℕ
  pub is_key : IsKey key
  pub columns : texts_of key ≡ texts
  pub is : row ≡ entry key value

-- each row is such, and no key has two values
pub record IsKeyedTable (texts : List Bool) (rows : List Row) : Type 0 where
  pub entries : (row : Row) → IsElement row rows → IsEntryRow texts row
  pub once : (key : Row) (a b : List ℕ) → IsElement (entry key a) rows → IsElement (entry key b) rows → a ≡ b

-- a table's key may be one text, two of them, or one blob
abbrev pub one_text : List Bool
one_text = true ∷ []

abbrev pub two_texts : List Bool
two_texts = true ∷ true ∷ []

abbrev pub one_blob : List Bool
one_blob = false ∷ []

-- a key has a row; and it has none but that of this value
abbrev pub HasRow : List Row → Row → Type 0
HasRow rows key = (value : List ℕ) × IsElement (entry key value) rows

abbrev pub HasNoOther : List Row → Row → List ℕ → Type 0
HasNoOther rows key value = (v : List ℕ) → IsElement (entry key v) rows → v ≡ value

-- the key has just this value there, or none
abbrev pub Says : List Row → Row → Option (List ℕ) → Type 0
Says rows key value = (v : List ℕ) → IsElement (entry key v) rows ↔ (value ≡ Some v)

-- the key has this value now, or none, and each other what it had
pub record SetsEntry (old new : List Row) (key : Row) (value : Option (List ℕ)) : Type 0 where
  pub table : IsKeyedTable (texts_of key) new
  pub here : Says new key value
  pub others : (k : Row) (v : List ℕ) → (k ≡ key → ⊥) → IsElement (entry k v) new ↔ IsElement (entry k v) old

-- each tree but one is as it was
abbrev pub LeavesOthers : View → View → ℕ → Type 0
LeavesOthers old new tree = (t : ℕ) → (t ≡ tree → ⊥) → new.trees t ≡ old.trees t

-- a row of one tree of a store was put, changed or removed; each other tree is as it was, and nothing else changed but cursors
pub record PutsRow (old new : View) (tree : ℕ) (key : Row) (value : Option (List ℕ)) : Type 0 where
  pub sound : old.is_broken ≡ false
  pub sets : SetsEntry (old.trees tree) (new.trees tree) key value
  pub others : LeavesOthers old new tree
  pub only : OnlyWrites old new

-- whether a key had a row: where it had none, this is told
abbrev pub Misses : List Row → Row → Bool → Type 0
Misses rows key true = Unit {0}
Misses rows key false = HasRow rows key → ⊥

-- the row is of this key; or none is
abbrev pub FindsEntry : List Row → Row → Row → Bool → Type 0
FindsEntry rows key row true = IsElement row rows × (prefix_cmp plain row key ≡ Equal)
FindsEntry rows key row false = (r : Row) → IsElement r rows → prefix_cmp plain r key ≡ Equal → ⊥

-- a look for a row changes nothing but cursors
pub record Looks (old new : View) (tree : ℕ) (key row : Row) (found : Bool) : Type 0 where
  pub sound : old.is_broken ≡ false
  pub finds : FindsEntry (old.trees tree) key row found
  pub is : new ≡ record old { cursors = new.cursors }

-- the row has just this value in a column
abbrev pub HoldsValue : Row → ℕ → Option (List ℕ) → Type 0
HoldsValue row at None = ⊥
HoldsValue row at (Some value) = column row at ≡ Blob value
