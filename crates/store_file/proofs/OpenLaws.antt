-- What a file has once it is open.
use Rattle.std.proofs.Common.{◌≡◌, ◌≢◌, ◌∷◌, ◌++◌, ◌∙◌, ◌+◌, [], ℕ, Bool, IsTrue, List, ap, arith, false, if◌then◌else◌, map, refl, slice_index_or, subst, sym, true}
use Rattle.std.specs.List.{AllByRecursion}
use Rattle.sqlite_disk.specs.declared.Disk.{Ghosts}
use Rattle.sqlite_value.specs.declared.value.Value.TheVariants.{Text}
use Rattle.sqlite_value.specs.Keys.{plain}
use Rattle.sqlite_value.specs.Order.{Row, column}
use Rattle.sqlite_trees.specs.Objects.{Creates, IsFreeFor, catalog_tree, is_frozen, set_at, with_version}
use Rattle.sqlite_trees.specs.Tree.{no_trees}
use Rattle.sqlite_trees.specs.View.{Commits, IsClean, SetsTree, View}
use Rattle.sqlite_trees.specs.declared.store.Shape.{Shape}
use Rattle.sqlite_trees.specs.declared.store.Shape.TheVariants.{Absent, FrozenIndex, FrozenTable, Index, Pageless, Table}
use Rattle.sqlite_trees.specs.declared.schema.Object.{Object}
use Rattle.sqlite_store.specs.declared.catalog.Wanted.{Wanted}
use Rattle.sqlite_store.specs.declared.store.FileStore.{FileStore}
use Rattle.sqlite_store.specs.FileStore.{IsReady, schema_of, view, view_of}
use Rattle.sqlite_store.specs.Listing.{all_shapes, all_trees, listed, listed_from}
use Rattle.sqlite_store.specs.Catalog.{Describes, wanted_of}
use Rattle.object_tables.specs.Spelled.{HasTables}
use Rattle.kept_store.specs.Kept.{IsFreshMirror}
use Rattle.store_file.specs.Names.{HasNoName}

-- the shape of a tree is that of the schema, but for the two that each store has
pub three_tables : {D : Type 0} {g : Ghosts D} (it : FileStore D g) → map (λ w. w.shape) (schema_of it) ≡ Index plain ∷ Index plain ∷ Index plain ∷ [] → HasTables (view it)
unfolding all_shapes
three_tables it is = record {
  objects = ap (λ (shapes : List Shape). slice_index_or shapes 0 Absent) is;
  pairs = ap (λ (shapes : List Shape). slice_index_or shapes 1 Absent) is;
  sessions = ap (λ (shapes : List Shape). slice_index_or shapes 2 Absent) is;
}

pub fresh_of : {D : Type 0} {g : Ghosts D} (it : FileStore D g) → IsReady it → map (λ w. w.shape) (schema_of it) ≡ Index plain ∷ Index plain ∷ Index plain ∷ []
    → IsClean (view it) → IsFreshMirror (view it)
fresh_of it ready is clean = record {
  is_open = ready.is_open clean;
  ready = record {
    tables = three_tables it is;
    shapes = subst (λ o. (view_of it.pool (schema_of it) o it.is_numbered it.cursors.items it.has_failed).committed_shape ≡ all_shapes (schema_of it)) (sym ready.unaltered) refl;
    fresh = ready.clean;
  };
}

pub shapes_wanted : (objects : List Object) → map (λ w. w.shape) (map wanted_of objects) ≡ map (λ (o : Object). o.shape) objects
shapes_wanted [] = refl
shapes_wanted (o ∷ os) = ap (λ l. o.shape ∷ l) (shapes_wanted os)

-- what a schema that describes objects has of their shapes
pub shapes_described : (schema : List Wanted) (objects : List Object) (shapes : List Shape) → Describes schema objects → map (λ (o : Object). o.shape) objects ≡ shapes
    → map (λ w. w.shape) schema ≡ shapes
shapes_described schema objects shapes is same = ap (λ ws. map (λ w. w.shape) ws) is ∙ (shapes_wanted objects ∙ same)

-- ---- a table more

-- a schema of objects of other names has none of this name
pub unnamed_wanted : (name : List ℕ) (objects : List Object) → AllByRecursion (λ n. n ≢ name) (map (λ (o : Object). o.name.now) objects)
    → HasNoName (map wanted_of objects) name
unnamed_wanted name [] all = tt
unnamed_wanted name (o ∷ os) all = (λ e. all.0 cc, unnamed_wanted name os all.1)

-- a schema that describes objects of other names has none of this name
pub unnamed_described : (schema : List Wanted) (objects : List Object) (names : List (List ℕ)) (name : List ℕ) → Describes schema objects
    → map (λ (o : Object). o.name.now) objects ≡ names → AllByRecursion (λ n. n ≢ name) names → HasNoName schema name
unnamed_described schema objects names name is same all =
    subst (λ ws. HasNoName ws name) (sym is) (unnamed_wanted name objects (subst (AllByRecursion (λ n. n ≢ name)) (sym same) all))

-- and lists none
unnamed_from : (name : List ℕ) (tree : ℕ) (schema : List Wanted) → HasNoName schema name → AllByRecursion (λ r. column r 2 ≢ Text name) (listed_from tree schema)
unnamed_from name tree [] all = tt
unnamed_from name tree (w ∷ ws) all = go w.shape (unnamed_from name (tree + 1) ws all.1)
  where
    go : (s : Shape) → AllByRecursion (λ r. column r 2 ≢ Text name) (listed_from (tree + 1) ws)
        → AllByRecursion (λ r. column r 2 ≢ Text name) (listed tree w s ++ listed_from (tree + 1) ws)
    go Absent rest = rest
    go Table rest = (all.0, rest)
    go (Index o) rest = (all.0, rest)
    go Pageless rest = (all.0, rest)
    go FrozenTable rest = (all.0, rest)
    go (FrozenIndex o) rest = (all.0, rest)

unnamed_shown : (name : List ℕ) (schema : List Wanted) (size version : ℕ) (pages : _) → HasNoName schema name → (clean : Bool)
    → AllByRecursion (λ r. column r 2 ≢ Text name) ((if clean then with_version (all_trees size schema pages) version else no_trees) catalog_tree)
unfolding all_trees
unnamed_shown name schema size version pages none true = unnamed_from name 0 schema none
unnamed_shown name schema size version pages none false = tt

two_shapes : {D : Type 0} {g : Ghosts D} (it : FileStore D g) → map (λ w. w.shape) (schema_of it) ≡ Index plain ∷ Index plain ∷ [] → (view it).shape 2 ≡ Absent
unfolding all_shapes
two_shapes it is = ap (λ (shapes : List Shape). slice_index_or shapes 2 Absent) is

-- so the store is free for a table of that name
pub free_for : {D : Type 0} {g : Ghosts D} (it : FileStore D g) (o : Object) → IsTrue (view it).is_numbered → map (λ w. w.shape) (schema_of it) ≡ Index plain ∷ Index plain ∷ []
    → HasNoName (schema_of it) o.name.now → o.shape ≡ Index plain → IsFreeFor (view it) 2 o
free_for it o numbered is none shape = record {
  numbered = numbered;
  low = omega arith;
  unused = two_shapes it is;
  shaped = λ e. absurd (let f : Index plain ≡ Absent = sym shape ∙ e in cc);
  thawed = ap is_frozen shape;
  unnamed = unnamed_shown o.name.now (schema_of it) _ _ _ none _;
}

-- once it is made and committed, the tables can be taken as a mirror
pub fresh_added : {D : Type 0} {g : Ghosts D} (it : FileStore D g) (mid new : View) (o : Object) → IsReady it
    → map (λ w. w.shape) (schema_of it) ≡ Index plain ∷ Index plain ∷ [] → o.shape ≡ Index plain → Creates (view it) mid 2 o → Commits mid new
    → IsClean (view it) → IsFreshMirror new
unfolding all_shapes
fresh_added it mid new o ready is shape made done clean =
    let shapes : new.shape ≡ set_at (view it).shape 2 o.shape = ap (λ (v : View). v.shape) done.is ∙ ap (λ (v : View). v.shape) made.is in
    record {
      is_open = ap (λ (v : View). v.is_open) done.is ∙ (ap (λ (v : View). v.is_open) made.is ∙ ready.is_open clean);
      ready = record {
        tables = record {
          objects = ap (λ (f : ℕ → Shape). f 0) shapes ∙ ap (λ (shapes : List Shape). slice_index_or shapes 0 Absent) is;
          pairs = ap (λ (f : ℕ → Shape). f 1) shapes ∙ ap (λ (shapes : List Shape). slice_index_or shapes 1 Absent) is;
          sessions = ap (λ (f : ℕ → Shape). f 2) shapes ∙ shape;
        };
        shapes = ap (λ (v : View). v.committed_shape) done.is ∙ sym (ap (λ (v : View). v.shape) done.is);
        fresh = ap (λ (v : View). v.trees) done.is ∙ sym (ap (λ (v : View). v.committed) done.is);
      };
    }

-- a tree that isn't one of the three was set, and that was committed
pub fresh_on : (old mid new : View) (tree : ℕ) (edit : List Row → List Row) → IsFreshMirror old → SetsTree old mid tree edit → Commits mid new → IsFreshMirror new
fresh_on old mid new tree edit fresh set done =
    let shape : new.shape ≡ old.shape = ap (λ (v : View). v.shape) done.is ∙ ap (λ (v : View). v.shape) set.is in
    record {
      is_open = ap (λ (v : View). v.is_open) done.is ∙ (ap (λ (v : View). v.is_open) set.is ∙ fresh.is_open);
      ready = record {
        tables = record {
          objects = ap (λ (f : ℕ → _). f 0) shape ∙ fresh.ready.tables.objects;
          pairs = ap (λ (f : ℕ → _). f 1) shape ∙ fresh.ready.tables.pairs;
          sessions = ap (λ (f : ℕ → _). f 2) shape ∙ fresh.ready.tables.sessions;
        };
        shapes = ap (λ (v : View). v.committed_shape) done.is ∙ sym (ap (λ (v : View). v.shape) done.is);
        fresh = ap (λ (v : View). v.trees) done.is ∙ sym (ap (λ (v : View). v.committed) done.is);
      };
    }
