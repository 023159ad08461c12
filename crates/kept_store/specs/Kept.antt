-- A store that is mirrored in tables, as contracts see it, and the law of every such store.
use Rattle.std.specs.Prelude.{◌≡◌, ◌≤◌, IsTrue, List}
use Rattle.objstore.specs.Objects.{Objects}
use Rattle.sqlite_trees.specs.Tree.{Trees}
use Rattle.sqlite_trees.specs.View.{IsClean, View, doubt}
use Rattle.sqlite_trees.specs.declared.error.StoreError.{StoreError}
use Rattle.sqlite_trees.specs.declared.error.StoreError.TheVariants.{OutOfMemory, Io, Corrupt, Full, Broken, Unstorable}
use Rattle.keeping.specs.declared.unkept.Unkept.{Unkept}
use Rattle.keeping.specs.declared.unkept.Unkept.TheVariants as told
use Rattle.object_tables.specs.Noted.{Noted, has_key, has_name, none_noted}
use Rattle.keeping.specs.declared.rows.RowEdit.{RowEdit}
use Rattle.object_tables.specs.Sessions.{HasSessionRows}
use Rattle.keeping.specs.Rows.{SessionRows, rows_after_edits}
use Rattle.object_tables.specs.Spelled.{HasTables, HaveOwners, SpellsObjects, SpellsBut}

-- the objects; the names and keys that changed since they were last written into the tables; and the tables
pub record KeptObjects (T : Type 0) : Type 0 where
  pub objects : Objects
  pub noted : Noted
  pub tables : T

-- tables on which a transaction may begin: they exist, as the last commit left them
pub record MayBegin (v : View) : Type 0 where
  pub tables : HasTables v
  pub shapes : v.committed_shape ≡ v.shape
  pub fresh : v.trees ≡ v.committed

-- the law, if the disk was honest: whatever a crash would leave of the tables now spells the objects, but for what was
-- noted, and has a row for the object of each pair; while the tables are open they are ready
pub record IsMirrored (v : View) (recovers : Trees → Type 0) (objects : Objects) (noted : Noted) : Type 0 where
  pub ready : IsTrue v.is_open → MayBegin v
  pub outcomes : (db : Trees) → recovers db → SpellsBut db objects (has_name noted) (has_key noted)
  pub owners : (db : Trees) → recovers db → HaveOwners db

-- tables that can become a mirror: they were just opened
pub record IsFreshMirror (v : View) : Type 0 where
  pub is_open : IsTrue v.is_open
  pub ready : MayBegin v

-- an outcome of a crash spells the objects
abbrev pub RecoversObjects : (Trees → Type 0) → Objects → Type 0
RecoversObjects recovers objects = (db : Trees) × recovers db × SpellsObjects db objects

-- whatever a crash would leave of the tables now has exactly these rows of the session map
abbrev pub StoresRows : (Trees → Type 0) → SessionRows → Type 0
StoresRows recovers rows = (db : Trees) → recovers db → HasSessionRows db rows

-- tables have both: exactly the objects, and the rows that edits make of those that were stored before
abbrev pub HasBoth : (Trees → Type 0) → Trees → Objects → List RowEdit → Type 0
HasBoth before db objects edits =
    SpellsObjects db objects × ((rows : SessionRows) → StoresRows before rows → HasSessionRows db (rows_after_edits edits rows))

-- a store took edits: nothing is noted any more. If the disk is honest, whatever a crash leaves spells the objects, and
-- has the rows that the edits make of those that were stored before
pub record TakesEdits {T : Type 0} (view : T → View) (recovers : T → Trees → Type 0) (old : KeptObjects T)
    (edits : List RowEdit) (new : KeptObjects T) : Type 0 where
  pub kept : new.noted ≡ none_noted
  pub objects : new.objects ≡ old.objects
  pub spelled : IsClean (view new.tables) → (db : Trees) → recovers new.tables db → SpellsObjects db new.objects
  pub rows : IsClean (view new.tables) → (rows : SessionRows) → StoresRows (recovers old.tables) rows
      → StoresRows (recovers new.tables) (rows_after_edits edits rows)
  pub clean : doubt (view old.tables).is_clean ≤ doubt (view new.tables).is_clean

-- an outcome of a crash is found: it spells the objects, and is all that a crash would leave of the tables now. So the
-- session map is that of the outcome, too
pub record FindsOutcome (before after : Trees → Type 0) (objects : Objects) : Type 0 where
  pub db : Trees
  pub was : before db
  pub spelled : SpellsObjects db objects
  pub now : (d : Trees) → after d → d ≡ db

-- the public form of an error of the tables
abbrev pub unkept_of : StoreError → Unkept
unkept_of OutOfMemory = told.NoMemory
unkept_of Io = told.Io
unkept_of Corrupt = told.Corrupt
unkept_of Full = told.Full
unkept_of Broken = told.Shut
unkept_of Unstorable = told.Full
