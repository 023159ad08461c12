-- What rows that were read so far spell: words of the contracts of private functions.
use Rattle.std.specs.Prelude.{◌≡◌, ℕ, false, List, ◌++◌, Option, Some, None}
use Rattle.std.specs.FinMap as finmap
use Rattle.std.specs.declared.cmp.Ordering.TheVariants.{Less}
use Rattle.sorted_map.specs.Overlay.{overlaid}
use Rattle.objstore.specs.declared.write_ops.WriteOp.{WriteOp}
use Rattle.objstore.specs.Omap.{Omap, PairMap, key_cmp}
use Rattle.objstore.specs.Objects.{Objects, header_at, written}
use Rattle.objstore.specs.Writes.{nothing}
use Rattle.sqlite_value.specs.Order.{Row}
use Rattle.sqlite_trees.specs.View.{View}
use Rattle.object_tables.specs.declared.batches.Batch.{Batch}
use Rattle.object_tables.specs.Entries.{IsKeyedTable, Says, entry, one_text, two_texts}
use Rattle.object_tables.specs.Spelled.{object_key, pair_key, value_at}

-- an object with a header and no pairs is added, which the row spells
pub record AddsObject (old new : Objects) (row : Row) : Type 0 where
  pub name : List ℕ
  pub header : List ℕ
  pub is : row ≡ entry (object_key name) header
  pub absent : finmap.get old name ≡ None
  pub added : new ≡ finmap.insert old name (record { header = header; pairs = finmap.empty })

-- a pair is added to an object, which the row spells
pub record AddsPair (old new : Objects) (row : Row) : Type 0 where
  pub name : List ℕ
  pub key : List ℕ
  pub value : List ℕ
  pub is : row ≡ entry (pair_key name key) value
  pub object : Omap
  pub there : finmap.get old name ≡ Some object
  pub absent : finmap.get object.pairs key ≡ None
  pub added : new ≡ finmap.insert old name (record { header = object.header; pairs = finmap.insert object.pairs key value })

-- the operation that sets these pairs, and does nothing else
abbrev pub sets_pairs : PairMap → WriteOp
sets_pairs set = record nothing { set = set }

-- the object of a name is there, and with the pairs of an operation, which sets pairs alone, it has no key after the last
pub record IsBatch (objects : Objects) (name : List ℕ) (op : WriteOp) (last : List ℕ) : Type 0 where
  pub object : Omap
  pub there : finmap.get objects name ≡ Some object
  pub sets : op ≡ sets_pairs op.set
  pub past : (k : List ℕ) → key_cmp last k ≡ Less → finmap.get (overlaid object.pairs op.set) k ≡ None

-- if a key was read of the object of that name, the last of them, then so it is with the pairs that wait; if none was,
-- none waits
abbrev pub HoldsBatch : Objects → List ℕ → WriteOp → Option (List ℕ) → Type 0
HoldsBatch objects name op None = op ≡ nothing
HoldsBatch objects name op (Some last) = IsBatch objects name op last

abbrev pub HasBatch : Objects → Batch → Type 0
HasBatch objects batch = HoldsBatch objects batch.name batch.pairs batch.last

-- a key comes after the last one
abbrev pub Precedes : Option (List ℕ) → List ℕ → Type 0
Precedes None key = ⊥
Precedes (Some last) key = key_cmp last key ≡ Less

-- the objects once the pairs that wait are set
abbrev pub with_unset : Objects → List ℕ → WriteOp → Option (List ℕ) → Objects
with_unset objects name op None = objects
with_unset objects name op (Some last) = written objects name op

abbrev pub with_batch : Objects → Batch → Objects
with_batch objects batch = with_unset objects batch.name batch.pairs batch.last

-- the object of a name has, with the pairs that wait, no such key and none after it; and all is as it was before
pub record IsReadUpTo (objects : Objects) (name : List ℕ) (op : WriteOp) (key : List ℕ) (before : Objects) : Type 0 where
  pub object : Omap
  pub there : finmap.get objects name ≡ Some object
  pub sets : op ≡ sets_pairs op.set
  pub absent : finmap.get (overlaid object.pairs op.set) key ≡ None
  pub past : (k : List ℕ) → key_cmp key k ≡ Less → finmap.get (overlaid object.pairs op.set) k ≡ None
  pub same : written objects name op ≡ before

-- these rows spell the objects' headers, and the objects have no pairs
pub record SpellHeaders (rows : List Row) (objects : Objects) : Type 0 where
  pub table : IsKeyedTable one_text rows
  pub headers : (name : List ℕ) → Says rows (object_key name) (header_at objects name)
  pub bare : (name key : List ℕ) → value_at objects name key ≡ None

-- these rows spell the objects' pairs, and those the headers
pub record SpellPairs (heads rows : List Row) (objects : Objects) : Type 0 where
  pub heads_are : IsKeyedTable one_text heads
  pub headers : (name : List ℕ) → Says heads (object_key name) (header_at objects name)
  pub table : IsKeyedTable two_texts rows
  pub values : (name key : List ℕ) → Says rows (pair_key name key) (value_at objects name key)

-- a cursor has the rest of a table's rows, of which some were seen
pub record HasRowsLeft (v : View) (tree : ℕ) (seen : List Row) : Type 0 where
  pub sound : v.is_broken ≡ false
  pub left : List Row
  pub cursor : v.cursors 0 ≡ Some left
  pub whole : seen ++ left ≡ v.trees tree
