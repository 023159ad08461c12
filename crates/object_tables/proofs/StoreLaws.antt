-- What calls leave of a store: a look, and a key that is given a value.
use Rattle.std.proofs.Common.{◌≡◌, ℕ, Bool, true, false, ◌==◌, cond, Err, Ok, OnErr, OnOk, Result, List, [], ◌∷◌, ◌++◌, append_assoc, length, Option, Some, None, refl, sym, ap, subst, ◌∙◌, eq-eqb, eqb-true, true≢false, IsTrue}
use Rattle.std.proofs.lemmas.List.{append-nil}
use Rattle.std.specs.Ordering.{is_eq}
use Rattle.sqlite_value.specs.declared.value.Value.TheVariants.{Blob}
use Rattle.sqlite_value.specs.Order.{Row}
use Rattle.sqlite_value.specs.Keys.{plain, prefix_cmp}
use Rattle.sqlite_trees.specs.declared.store.Shape.TheVariants.{Index}
use Rattle.sqlite_trees.specs.declared.store.Direction.TheVariants.{Forward}
use Rattle.sqlite_trees.specs.Tree.{IsIndex, Trees, from_key, insert_entry, order_of, remove_entry, sought}
use Rattle.sqlite_trees.specs.View.{Advances, Commits, IsOrdered, IsClean, IsRolledBack, IsShaped, KeepsSchema, OnlyWrites, SetsTree, View, with_cursor}
use Rattle.object_tables.specs.Entries.{IsKey, HasNoOther, HoldsValue, IsKeyedTable, LeavesOthers, Looks, Misses, PutsRow, SetsEntry, entry, texts_of}
use Rattle.object_tables.specs.Reading.{HasRowsLeft}
use Rattle.object_tables.proofs.ReadLaws.{from_no_key}
use Rattle.object_tables.proofs.EntryLaws.{begins_itself, looked, looked_past, none_other, set_absent, set_added, set_already, set_removed, set_then}

-- ---- looks

pub moved_on : (a b c : View) → b ≡ record a { cursors = b.cursors } → c ≡ record b { cursors = c.cursors } → c ≡ record a { cursors = c.cursors }
moved_on a b c p q = q ∙ ap (λ (v : View). record v { cursors = c.cursors }) p

pub placed : (a b : View) (at : ℕ) (left : List Row) → b ≡ with_cursor a at left → b ≡ record a { cursors = b.cursors }
placed a b at left e = e ∙ ap (λ f. record a { cursors = f }) (sym (ap (λ (v : View). v.cursors) e))

-- a table's rows rise
pub rising : (v : View) (tree : ℕ) → IsOrdered v.shape v.trees → v.shape tree ≡ Index plain → IsIndex plain (v.trees tree)
rising v tree ordered shape = subst (λ s. IsShaped s (v.trees tree)) shape (ordered tree)

-- what a cursor has after a seek forward
pub sought_rows : (old mid : View) (tree : ℕ) (key : Row) → old.shape tree ≡ Index plain
    → mid ≡ with_cursor old 0 (sought (order_of (old.shape tree)) Forward key (old.trees tree)) → mid.cursors 0 ≡ Some (from_key plain key (old.trees tree))
sought_rows old mid tree key shape e =
    ap (λ (v : View). v.cursors 0) e ∙ ap (λ s. Some (from_key (order_of s) key (old.trees tree))) shape

some_same : {X : Type 0} (a b : X) → Some a ≡ Some b → a ≡ b
some_same a b e = cc

pub found_look : (old mid new : View) (tree : ℕ) (key row : Row) → old.shape tree ≡ Index plain → old.is_broken ≡ false → IsOrdered old.shape old.trees
    → mid ≡ with_cursor old 0 (sought (order_of (old.shape tree)) Forward key (old.trees tree)) → (found : Bool) → Advances mid new 0 row found → found ≡ true
    → (b : Bool) → is_eq (prefix_cmp plain row key) ≡ b → Looks old new tree key row b
found_look old mid new tree key row shape sound ordered seek true moved f b e = record {
  sound = sound;
  finds = looked (old.trees tree) key row moved.0 (rising old tree ordered shape)
      (some_same _ _ (sym (sought_rows old mid tree key shape seek) ∙ moved.1)) b e;
  is = moved_on old mid new (placed old mid 0 _ seek) (placed mid new 0 moved.0 moved.2);
}
found_look old mid new tree key row shape sound ordered seek false moved f b e = absurd (true≢false (sym f))

pub missed_look : (old mid new : View) (tree : ℕ) (key row : Row) → old.shape tree ≡ Index plain → old.is_broken ≡ false → IsOrdered old.shape old.trees
    → mid ≡ with_cursor old 0 (sought (order_of (old.shape tree)) Forward key (old.trees tree)) → (found : Bool) → Advances mid new 0 row found → found ≡ false
    → Looks old new tree key row found
missed_look old mid new tree key row shape sound ordered seek false moved f = record {
  sound = sound;
  finds = looked_past (old.trees tree) key row (rising old tree ordered shape)
      (some_same _ _ (sym (sought_rows old mid tree key shape seek) ∙ moved.0));
  is = moved_on old mid new (placed old mid 0 _ seek) (moved.1 ∙ ap (λ f. record mid { cursors = f }) (sym (ap (λ (v : View). v.cursors) moved.1)));
}
missed_look old mid new tree key row shape sound ordered seek true moved f = absurd (true≢false f)

-- ---- a tree that is edited

apart_false : (a b : ℕ) → (a ≡ b → ⊥) → (a == b) ≡ false
apart_false a b away = go (a == b) refl
  where
    go : (t : Bool) → (a == b) ≡ t → t ≡ false
    go true e = absurd (away (eqb-true a b e))
    go false e = refl

pub edited_there : (old new : View) (tree : ℕ) (edit : List Row → List Row) → SetsTree old new tree edit → new.trees tree ≡ edit (old.trees tree)
edited_there old new tree edit set =
    ap (λ (v : View). v.trees tree) set.is ∙ ap (λ b. cond b (edit (old.trees tree)) (old.trees tree)) (eq-eqb tree tree refl)

pub edited_not : (old new : View) (tree t : ℕ) (edit : List Row → List Row) → SetsTree old new tree edit → (t ≡ tree → ⊥) → new.trees t ≡ old.trees t
edited_not old new tree t edit set away =
    ap (λ (v : View). v.trees t) set.is ∙ ap (λ b. cond b (edit (old.trees tree)) (old.trees t)) (apart_false t tree away)

-- trees other than one, over two calls
pub others_then : (a b c : View) (tree : ℕ) → LeavesOthers a b tree → LeavesOthers b c tree → LeavesOthers a c tree
others_then a b c tree p q t away = q t away ∙ p t away

pub writes_on : (a b c : View) → OnlyWrites a b → OnlyWrites b c → OnlyWrites a c
writes_on a b c p q = q ∙ ap (λ (v : View). record v { trees = c.trees; cursors = c.cursors }) p

looks_only : (old new : View) (tree : ℕ) (key row : Row) (found : Bool) → Looks old new tree key row found → OnlyWrites old new
looks_only old new tree key row found look =
    look.is ∙ ap (λ (t : Trees). record old { trees = t; cursors = new.cursors }) (sym (ap (λ (v : View). v.trees) look.is))

-- ---- a key that is given a value

pub put_already : (old new : View) (tree : ℕ) (key row : Row) (value : Option (List ℕ)) → IsKeyedTable (texts_of key) (old.trees tree) → IsKey key
    → Looks old new tree key row true → HoldsValue row (length key) value → PutsRow old new tree key value
put_already old new tree key row None table texts look holds = absurd holds
put_already old new tree key row (Some value) table texts look holds =
    let same : new.trees ≡ old.trees = ap (λ (v : View). v.trees) look.is in
    record {
      sound = look.sound;
      sets = subst (λ rows. SetsEntry (old.trees tree) rows key (Some value)) (sym (ap (λ (t : Trees). t tree) same))
          (set_already (old.trees tree) key row value table texts look.finds.0 look.finds.1 holds);
      others = λ t away. ap (λ (f : Trees). f t) same;
      only = looks_only old new tree key row true look;
    }

pub put_absent : (old new : View) (tree : ℕ) (key row : Row) → IsKeyedTable (texts_of key) (old.trees tree) → Looks old new tree key row false
    → PutsRow old new tree key None
put_absent old new tree key row table look =
    let same : new.trees ≡ old.trees = ap (λ (v : View). v.trees) look.is in
    record {
      sound = look.sound;
      sets = subst (λ rows. SetsEntry (old.trees tree) rows key None) (sym (ap (λ (t : Trees). t tree) same))
          (set_absent (old.trees tree) key table look.finds);
      others = λ t away. ap (λ (f : Trees). f t) same;
      only = looks_only old new tree key row false look;
    }

pub put_removed : (old mid new : View) (tree : ℕ) (key row : Row) → IsKeyedTable (texts_of key) (old.trees tree) → IsKey key
    → Looks old mid tree key row true → mid.shape tree ≡ Index plain → SetsTree mid new tree (remove_entry (order_of (mid.shape tree)) row)
    → OnlyWrites mid new → PutsRow old new tree key None
put_removed old mid new tree key row table texts look shape set only =
    let same : mid.trees ≡ old.trees = ap (λ (v : View). v.trees) look.is in
    let there : new.trees tree ≡ remove_entry plain row (old.trees tree) =
    edited_there mid new tree _ set ∙ (ap (λ s. remove_entry (order_of s) row (mid.trees tree)) shape ∙ ap (λ (t : Trees). remove_entry plain row (t tree)) same) in
    record {
      sound = look.sound;
      sets = subst (λ rows. SetsEntry (old.trees tree) rows key None) (sym there)
          (set_removed (old.trees tree) key row table texts look.finds.0 look.finds.1);
      others = λ t away. edited_not mid new tree t _ set away ∙ ap (λ (f : Trees). f t) same;
      only = writes_on old mid new (looks_only old mid tree key row true look) only;
    }

pub put_added : (old new : View) (tree : ℕ) (key row : Row) (value : List ℕ) → IsKey key → old.shape tree ≡ Index plain → row ≡ entry key value
    → SetsTree old new tree (insert_entry (order_of (old.shape tree)) row) → OnlyWrites old new → IsKeyedTable (texts_of key) (old.trees tree)
    → HasNoOther (old.trees tree) key value → PutsRow old new tree key (Some value)
put_added old new tree key row value texts shape is set only table alone =
    let there : new.trees tree ≡ insert_entry plain (entry key value) (old.trees tree) =
    edited_there old new tree _ set ∙ (ap (λ s. insert_entry (order_of s) row (old.trees tree)) shape ∙ ap (λ r. insert_entry plain r (old.trees tree)) is) in
    record {
      sound = set.sound;
      sets = subst (λ rows. SetsEntry (old.trees tree) rows key (Some value)) (sym there) (set_added (old.trees tree) key value texts table alone);
      others = λ t away. edited_not old new tree t _ set away;
      only = only;
    }

-- a key is given none, and then a value
pub put_then : (old mid new : View) (tree : ℕ) (key : Row) (value : List ℕ) → PutsRow old mid tree key None
    → (IsKeyedTable (texts_of key) (mid.trees tree) → HasNoOther (mid.trees tree) key value → PutsRow mid new tree key (Some value)) → PutsRow old new tree key (Some value)
put_then old mid new tree key value p more =
    let q = more p.sets.table (none_other (mid.trees tree) key value p.sets.here) in
    record {
      sound = p.sound;
      sets = set_then (old.trees tree) (mid.trees tree) (new.trees tree) key value p.sets q.sets;
      others = λ t away. q.others t away ∙ p.others t away;
      only = writes_on old mid new p.only q.only;
    }

-- what a look tells
pub missed : (old mid : View) (tree : ℕ) (key row : Row) (found : Bool) → Looks old mid tree key row found → Misses (old.trees tree) key found
missed old mid tree key row true look = tt
missed old mid tree key row false look = λ has. look.finds (entry key has.0) has.1 (begins_itself key (Blob has.0 ∷ []))

-- what follows from two facts of an answer that is Ok
pub on_ok_both : {A E : Type 0} (r : Result A E) (P Q R : Type 0) → (P → Q → R) → OnOk r P → OnOk r Q → OnOk r R
on_ok_both (Ok a) P Q R f p q = f p q
on_ok_both (Err e) P Q R f p q = tt

-- ---- reads

pub reads_start : (old mid : View) (tree : ℕ) (key : Row) → key ≡ [] → old.shape tree ≡ Index plain → old.is_broken ≡ false
    → mid ≡ with_cursor old 0 (sought (order_of (old.shape tree)) Forward key (old.trees tree)) → HasRowsLeft mid tree []
reads_start old mid tree key none shape sound seek = record {
  sound = ap (λ (v : View). v.is_broken) seek ∙ sound;
  left = old.trees tree;
  cursor = sought_rows old mid tree key shape seek ∙ (ap (λ k. Some (from_key plain k (old.trees tree))) none ∙ ap Some (from_no_key (old.trees tree)));
  whole = sym (ap (λ (v : View). v.trees tree) seek);
}

pub reads_more : (mid new : View) (tree : ℕ) (seen : List Row) (row : Row) (found : Bool) → HasRowsLeft mid tree seen → Advances mid new 0 row found → found ≡ true
    → HasRowsLeft new tree (seen ++ row ∷ [])
reads_more mid new tree seen row true reads moved f =
    let left : reads.left ≡ row ∷ moved.0 = some_same _ _ (sym reads.cursor ∙ moved.1) in
    record {
      sound = ap (λ (v : View). v.is_broken) moved.2 ∙ reads.sound;
      left = moved.0;
      cursor = ap (λ (v : View). v.cursors 0) moved.2;
      whole = append_assoc seen (row ∷ []) moved.0 ∙ (ap (λ l. seen ++ l) (sym left) ∙ (reads.whole ∙ sym (ap (λ (v : View). v.trees tree) moved.2)));
    }
reads_more mid new tree seen row false reads moved f = absurd (true≢false (sym f))

pub reads_all : (mid new : View) (tree : ℕ) (seen : List Row) (row : Row) (found : Bool) → HasRowsLeft mid tree seen → Advances mid new 0 row found → found ≡ false
    → seen ≡ mid.trees tree
reads_all mid new tree seen row false reads moved f =
    let left : reads.left ≡ [] = some_same _ _ (sym reads.cursor ∙ moved.0) in
    sym (append-nil seen) ∙ (ap (λ l. seen ++ l) (sym left) ∙ reads.whole)
reads_all mid new tree seen row true reads moved f = absurd (true≢false f)

-- ---- commits

pub committed_spells : (old mid new : View) → OnlyWrites old mid → Commits mid new → (old.is_broken ≡ false) × (new.committed ≡ mid.trees)
committed_spells old mid new only done = (sym (ap (λ (v : View). v.is_broken) only) ∙ done.sound, ap (λ (v : View). v.committed) done.is)

pub on_either : {A E : Type 0} (r : Result A E) (P Q R : Type 0) → (P → R) → (Q → R) → OnOk r P → OnErr r Q → R
on_either (Ok a) P Q R f g p q = f p
on_either (Err e) P Q R f g p q = g q

pub committed_shapes : (old mid new : View) → KeepsSchema old mid → Commits mid new → old.shape ≡ old.committed_shape
    → (new.shape ≡ old.shape) × (new.committed_shape ≡ old.shape)
committed_shapes old mid new kept done same =
    (ap (λ (v : View). v.shape) done.is ∙ kept.shape, ap (λ (v : View). v.committed_shape) done.is ∙ kept.shape)

pub undone_shapes : (old mid new : View) → KeepsSchema old mid → IsRolledBack mid new → old.shape ≡ old.committed_shape
    → (new.shape ≡ old.shape) × (new.committed_shape ≡ old.shape)
undone_shapes old mid new kept undone same =
    (undone.shape (kept.shape ∙ (same ∙ sym kept.committed_shape)) ∙ kept.shape, undone.committed_shape ∙ (kept.committed_shape ∙ sym same))

pub sound_before : (old mid : View) → OnlyWrites old mid → mid.is_broken ≡ false → old.is_broken ≡ false
sound_before old mid only sound = sym (ap (λ (v : View). v.is_broken) only) ∙ sound

-- a commit that failed, and left the store open
pub undone_commit : (old mid new : View) → OnlyWrites old mid → IsRolledBack mid new → IsClean new → IsTrue new.is_open
    → IsTrue old.is_open × (new.committed ≡ old.committed)
undone_commit old mid new only undone clean is_open =
    let kept = undone.kept clean in (
      sym (ap (λ (v : View). v.is_open) only) ∙ kept.was_open is_open,
      kept.committed is_open ∙ ap (λ (v : View). v.committed) only,
    )
