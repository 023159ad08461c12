-- What a mirror stands for after each call.
use Rattle.std.proofs.Common.{◌≡◌, ◌⊎◌, ℕ, Bool, true, false, List, [], Err, IsTrue, Ok, OnErr, Result, refl, sym, ap, subst, ◌∙◌, inl, inr, true≢false}
use Rattle.std.specs.FinMap.{get-empty}
use Rattle.objstore.specs.Omap.{key_cmp}
use Rattle.objstore.specs.Objects.{Objects}
use Rattle.sqlite_trees.specs.Tree.{Trees}
use Rattle.sqlite_trees.specs.View.{IsClean, IsReopened, View}
use Rattle.object_tables.specs.Entries.{Says}
use Rattle.object_tables.specs.Noted.{Noted, has_key, has_name, none_noted, spot_cmp}
use Rattle.keeping.specs.declared.rows.RowEdit.{RowEdit}
use Rattle.object_tables.specs.Sessions.{Brings, HasSessionRows}
use Rattle.keeping.specs.Rows.{SessionRows}
use Rattle.object_tables.specs.Spelled.{HasTables, HaveOwners, SpellsObjects, SpellsBut, object_key, pair_key}
use Rattle.object_tables.proofs.SpelledLaws.{one_spelling, spells_less, spells_owned}
use Rattle.kept_store.specs.Kept.{HasBoth, IsFreshMirror, IsMirrored, MayBegin, StoresRows}
use Rattle.kept_store.specs.Noting.{AgreeBut, IsMore}

is_false : (b : Bool) → (b ≡ true → ⊥) → b ≡ false
is_false true away = absurd (away refl)
is_false false away = refl

-- what holds anyway holds where there is an error
pub on_err : {A E P : Type 0} (r : Result A E) → P → OnErr r P
on_err (Ok a) p = tt
on_err (Err e) p = p

-- nothing is among no names and no keys
pub no_name : (n : List ℕ) → has_name none_noted n ≡ false
no_name n = rw (get-empty key_cmp n) refl

pub no_key : (n k : List ℕ) → has_key none_noted n k ≡ false
no_key n k = rw (get-empty spot_cmp (n, k)) refl

pub spells_all : (db : Trees) (objects : Objects) → SpellsBut db objects (has_name none_noted) (has_key none_noted) → SpellsObjects db objects
spells_all db objects s = spells_less db objects _ _ _ _ (λ n out. no_name n) (λ n k out. no_key n k) s

pub spells_some : (db : Trees) (objects : Objects) (noted : Noted) → SpellsObjects db objects → SpellsBut db objects (has_name noted) (has_key noted)
spells_some db objects noted s = spells_less db objects _ _ _ _ (λ n out. refl) (λ n k out. refl) s

-- other objects that agree but for what is noted are spelled as well
pub spells_other : (db : Trees) (a b : Objects) (old new : Noted) → IsMore old new → AgreeBut a b new
    → SpellsBut db a (has_name old) (has_key old) → SpellsBut db b (has_name new) (has_key new)
spells_other db a b old new more agree s = record {
  objects_are = s.objects_are;
  pairs_are = s.pairs_are;
  headers = λ n out. subst (Says (db 0) (object_key n)) (agree.headers n out) (s.headers n (more.names n out));
  values = λ n k out. subst (Says (db 1) (pair_key n k)) (agree.values n k out) (s.values n k (more.keys n k out));
}

pub mirrored_other : (v : View) (recovers : Trees → Type 0) (a b : Objects) (old new : Noted) → IsMore old new → AgreeBut a b new
    → IsMirrored v recovers a old → IsMirrored v recovers b new
mirrored_other v recovers a b old new more agree m = record {
  ready = m.ready;
  outcomes = λ db may. spells_other db a b old new more agree (m.outcomes db may);
  owners = m.owners;
}

-- the tables are there after a call that keeps the shapes
pub tables_stay : (old new : View) → new.shape ≡ old.shape → HasTables old → HasTables new
tables_stay old new same t = record {
  objects = ap (λ (f : ℕ → _). f 0) same ∙ t.objects;
  pairs = ap (λ (f : ℕ → _). f 1) same ∙ t.pairs;
  sessions = ap (λ (f : ℕ → _). f 2) same ∙ t.sessions;
}

-- ---- an open

pub opened : (old new : View) (before after : Trees → Type 0) (objects : Objects) → IsFreshMirror old → new ≡ record old { cursors = new.cursors }
    → SpellsObjects old.trees objects → ((db : Trees) → after db → before db) → ((db : Trees) → before db → db ≡ old.committed) → IsMirrored new after objects none_noted
opened old new before after objects fresh same spelled fewer settled =
    let spells : (db : Trees) → after db → SpellsObjects db objects = λ db may. subst (λ t. SpellsObjects t objects) (fresh.ready.fresh ∙ sym (settled db (fewer db may))) spelled in
    record {
      ready = λ is_open. record {
        tables = tables_stay old new (ap (λ (v : View). v.shape) same) fresh.ready.tables;
        shapes = ap (λ (v : View). v.committed_shape) same ∙ (fresh.ready.shapes ∙ sym (ap (λ (v : View). v.shape) same));
        fresh = ap (λ (v : View). v.trees) same ∙ (fresh.ready.fresh ∙ sym (ap (λ (v : View). v.committed) same));
      };
      outcomes = λ db may. spells_some db objects none_noted (spells db may);
      owners = λ db may. spells_owned db objects (spells db may);
    }

-- ---- a save

-- what the transaction sees spells the objects but for what is noted, and has a row for each pair's object
pub seen : (v : View) (recovers : Trees → Type 0) (objects : Objects) (noted : Noted) → IsMirrored v recovers objects noted → IsTrue v.is_open
    → (IsTrue v.is_open → recovers v.committed) → SpellsBut v.trees objects (has_name noted) (has_key noted) × HaveOwners v.trees
seen v recovers objects noted m is_open stays =
    let same = sym (m.ready is_open).fresh in
    (subst (λ t. SpellsBut t objects (has_name noted) (has_key noted)) same (m.outcomes v.committed (stays is_open)), subst HaveOwners same (m.owners v.committed (stays is_open)))

-- what the transaction brings into tables: both
pub both_of : (v : View) (recovers : Trees → Type 0) (objects : Objects) (noted : Noted) (edits : List RowEdit) → IsMirrored v recovers objects noted
    → IsTrue v.is_open → (IsTrue v.is_open → recovers v.committed) → (db : Trees) → Brings v.trees db objects noted edits → HasBoth recovers db objects edits
both_of v recovers objects noted edits m is_open stays db brings =
    let all = seen v recovers objects noted m is_open stays in
    let both = brings all.0 all.1 in
    (both.0, λ rows stored. both.1 rows (subst (λ t. HasSessionRows t rows) (sym (m.ready is_open).fresh) (stored v.committed (stays is_open))))

ready_after : (old new : View) → MayBegin old → (new.shape ≡ old.shape) × (new.committed_shape ≡ old.shape) → (IsTrue new.is_open → new.trees ≡ new.committed)
    → IsTrue new.is_open → MayBegin new
ready_after old new was shapes fresh is_open = record {
  tables = tables_stay old new shapes.0 was.tables;
  shapes = shapes.1 ∙ sym shapes.0;
  fresh = fresh is_open;
}

-- whatever a save answers
pub kept_anyway : (old new : View) (before after : Trees → Type 0) (objects : Objects) (noted : Noted) → IsMirrored old before objects noted → IsTrue old.is_open
    → (new.shape ≡ old.shape) × (new.committed_shape ≡ old.shape) → (IsTrue new.is_open → new.trees ≡ new.committed)
    → ((db : Trees) → after db → before db ⊎ SpellsObjects db objects) → IsMirrored new after objects noted
kept_anyway old new before after objects noted m is_open shapes fresh crash = record {
  ready = ready_after old new (m.ready is_open) shapes fresh;
  outcomes = λ db may. elim (crash db may) [ inl was ↦ m.outcomes db was | inr is ↦ spells_some db objects noted is ];
  owners = λ db may. elim (crash db may) [ inl was ↦ m.owners db was | inr is ↦ spells_owned db objects is ];
}

-- where it answers Ok
pub kept_all : (old new : View) (before after : Trees → Type 0) (objects : Objects) (noted : Noted) → IsMirrored old before objects noted → IsTrue old.is_open
    → (new.shape ≡ old.shape) × (new.committed_shape ≡ old.shape) → (IsTrue new.is_open → new.trees ≡ new.committed)
    → ((db : Trees) → after db → db ≡ new.committed) → SpellsObjects new.committed objects → IsMirrored new after objects none_noted
kept_all old new before after objects noted m is_open shapes fresh settled spelled =
    let spells : (db : Trees) → after db → SpellsObjects db objects = λ db may. subst (λ t. SpellsObjects t objects) (sym (settled db may)) spelled in
    record {
      ready = ready_after old new (m.ready is_open) shapes fresh;
      outcomes = λ db may. spells_some db objects none_noted (spells db may);
      owners = λ db may. spells_owned db objects (spells db may);
    }

-- ---- an end

-- where the tables were settled: they show what they did, or are shut
pub settled_on : (old new : View) (before after : Trees → Type 0) (objects : Objects) (noted : Noted) → IsMirrored old before objects noted
    → (IsTrue new.is_open → new ≡ old) → ((db : Trees) → after db → before db) → IsMirrored new after objects noted
settled_on old new before after objects noted m same fewer = record {
  ready = λ is_open. subst MayBegin (sym (same is_open)) (m.ready (sym (ap (λ (v : View). v.is_open) (same is_open)) ∙ is_open));
  outcomes = λ db may. m.outcomes db (fewer db may);
  owners = λ db may. m.owners db (fewer db may);
}

-- tables that aren't broken are open
pub open_of : (is_open is_broken : Bool) → (is_open ≡ false → is_broken ≡ true) → is_broken ≡ false → is_open ≡ true
open_of true b shut sound = refl
open_of false b shut sound = absurd (true≢false (sym (shut refl) ∙ sound))

-- what a crash leaves of a save
pub crash_of : (old : View) (before after : Trees → Type 0) (objects : Objects) (noted : Noted) (edits : List RowEdit) → IsMirrored old before objects noted
    → (old.is_open ≡ false → old.is_broken ≡ true) → (IsTrue old.is_open → before old.committed)
    → ((db : Trees) → after db → before db ⊎ ((old.is_broken ≡ false) × Brings old.trees db objects noted edits))
    → (db : Trees) → after db → before db ⊎ HasBoth before db objects edits
crash_of old before after objects noted edits m shut stays crash db may = elim (crash db may) [
  | inl was ↦ inl was
  | inr it ↦ inr (both_of old before objects noted edits m (open_of old.is_open old.is_broken shut it.0) stays db it.1)
]

-- and of its objects alone
pub objects_of : (before : Trees → Type 0) (db : Trees) (objects : Objects) (edits : List RowEdit) → before db ⊎ HasBoth before db objects edits
    → before db ⊎ SpellsObjects db objects
objects_of before db objects edits crash = elim crash [ inl was ↦ inl was | inr both ↦ inr both.0 ]

-- and of its rows, where there are no edits
pub rows_of : (before : Trees → Type 0) (db : Trees) (objects : Objects) (rows : SessionRows) → before db ⊎ HasBoth before db objects [] → StoresRows before rows
    → HasSessionRows db rows
rows_of before db objects rows crash stored = elim crash [ inl was ↦ stored db was | inr both ↦ both.1 rows stored ]

-- ---- after a crash

-- tables that were opened again can be taken as a mirror, if they are there
pub fresh_again : (old new : View) → IsClean new → IsReopened old new → HasTables new → (new.is_open ≡ false → new.is_broken ≡ true)
    → (new.is_broken ≡ false → new.trees ≡ new.committed → new.shape ≡ new.committed_shape) → IsFreshMirror new
fresh_again old new clean again tables shut unaltered = record {
  is_open = open_of new.is_open new.is_broken shut (again.sound clean);
  ready = record { tables = tables; shapes = sym (unaltered (again.sound clean) again.clean); fresh = again.clean };
}

-- what comes back is what was, where nothing was noted
pub back_again : (old new : View) (before : Trees → Type 0) (a b : Objects) (noted : Noted) → IsMirrored old before a noted
    → before new.committed → SpellsObjects new.committed b → noted ≡ none_noted → b ≡ a
back_again old new before a b noted m may spelled all =
    one_spelling new.committed b a spelled
    (spells_all new.committed a (subst (λ (n : Noted). SpellsBut new.committed a (has_name n) (has_key n)) all (m.outcomes new.committed may)))

-- the session map of tables that were read, or that couldn't be
pub read_on : (old new : View) (before after : Trees → Type 0) (objects : Objects) (noted : Noted) → IsMirrored old before objects noted → IsTrue old.is_open
    → (new.shape ≡ old.shape) × (new.committed_shape ≡ old.shape) → (IsTrue new.is_open → new.trees ≡ new.committed)
    → ((db : Trees) → after db → before db) → IsMirrored new after objects noted
read_on old new before after objects noted m is_open shapes fresh fewer = record {
  ready = ready_after old new (m.ready is_open) shapes fresh;
  outcomes = λ db may. m.outcomes db (fewer db may);
  owners = λ db may. m.owners db (fewer db may);
}
