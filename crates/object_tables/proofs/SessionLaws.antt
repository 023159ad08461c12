-- The session map: that tables have at most one, how it is read row by row, and how it is edited.
use Rattle.std.proofs.Common.{◌≡◌, ◌⊎◌, ℕ, Bool, true, false, cond, List, [], ◌∷◌, ◌++◌, Option, Some, None, refl, sym, ap, subst, ◌∙◌, arith, ◌+◌, ◌<◌, ◌≤◌, drop, get_or, inl, inr, length}
use Rattle.std.specs.Ordering.{eq_by_cmp}
use Rattle.std.specs.Cmp.Lexicographic.{nat_list_cmp_total}
use Rattle.std.specs.FinMap as finmap
use Rattle.std.specs.FinMap.{get-empty, get-insert, get-remove, same_map}
use Rattle.std.proofs.lemmas.Map.Lookups.{exact_bytes}
use Rattle.std.proofs.lemmas.List.{drop_all, drop_more}
use Rattle.objstore.specs.Omap.{key_cmp}
use Rattle.objstore.specs.Objects.{Objects, header_at}
use Rattle.sqlite_value.specs.Order.{Row}
use Rattle.sqlite_trees.specs.Tree.{Trees}
use Rattle.sqlite_trees.specs.View.{View}
use Rattle.keeping.specs.declared.rows.RowEdit.{RowEdit}
use Rattle.object_tables.specs.Entries.{IsKeyedTable, LeavesOthers, PutsRow, Says, one_blob, one_text, two_texts}
use Rattle.object_tables.specs.Noted.{Noted, has_key, has_name}
use Rattle.object_tables.specs.Spelled.{HaveOwners, SpellsBut, SpellsObjects, object_key, pair_key, value_at}
use Rattle.object_tables.specs.Sessions.{AddsRow, Brings, HasSessionRows, HaveOneSessionMap, SpellsRows, session_key}
use Rattle.keeping.specs.Rows.{SessionRows, rows_after_edits, with_row_value}
use Rattle.object_tables.proofs.ReadLaws.{none_some, says_pushed, table_pushed}
use Rattle.object_tables.proofs.SpelledLaws.{apart_names, said_same, said_still, same_name}

-- ---- one map

pub one_session_map : HaveOneSessionMap
one_session_map trees a b s t =
    same_map nat_list_cmp_total exact_bytes a b (λ k. said_same (trees 2) (session_key k) (finmap.get a k) (finmap.get b k) (s.values k) (t.values k))

-- ---- rows that are read

pub no_rows : SpellsRows [] finmap.empty
no_rows = record {
  keyed = record { entries = λ r h. absurd h; once = λ k a b h l. absurd h };
  values = λ k v. ((λ h. absurd h), (λ e. none_some _ v (rw get-empty refl) e));
}

pub row_added : (table : List Row) (old new : SessionRows) (row : Row) → SpellsRows table old → AddsRow old new row → SpellsRows (table ++ row ∷ []) new
row_added table old new row s a =
    let key = session_key a.key in
    rw a.is (record {
      keyed = table_pushed one_blob table key a.value s.keyed (tt, tt) refl (subst (Says table key) a.absent (s.values a.key));
      values = λ k. says_pushed table key a.value (session_key k) (finmap.get old k) (finmap.get new k) (s.values k) (at k (eq_by_cmp key_cmp k a.key) refl);
    })
  where
    at : (k : List ℕ) (b : Bool) → eq_by_cmp key_cmp k a.key ≡ b
        → ((session_key k ≡ session_key a.key) × (finmap.get old k ≡ None) × (finmap.get new k ≡ Some a.value)) ⊎ ((session_key k ≡ session_key a.key → ⊥) × (finmap.get new k ≡ finmap.get old k))
    at k true e =
        let same : k ≡ a.key = same_name k a.key e in
        inl (ap session_key same, ap (finmap.get old) same ∙ a.absent, ap (λ m. finmap.get m k) a.added ∙ rw (get-insert nat_list_cmp_total, e) refl)
    at k false e = inr (λ same. apart_names k a.key e cc, ap (λ m. finmap.get m k) a.added ∙ rw (get-insert nat_list_cmp_total, e) refl)

-- ---- rows that are edited

-- what a key has after an edit
get_edited : (rows : SessionRows) (value : Option (List ℕ)) (key k : List ℕ) (b : Bool) → eq_by_cmp key_cmp k key ≡ b
    → finmap.get (with_row_value value key rows) k ≡ cond b value (finmap.get rows k)
get_edited rows None key k true e = rw (get-remove nat_list_cmp_total, e) refl
get_edited rows None key k false e = rw (get-remove nat_list_cmp_total, e) refl
get_edited rows (Some v) key k true e = rw (get-insert nat_list_cmp_total, e) refl
get_edited rows (Some v) key k false e = rw (get-insert nat_list_cmp_total, e) refl

pub row_put : (old new : View) (rows : SessionRows) (key : List ℕ) (value : Option (List ℕ)) → PutsRow old new 2 (session_key key) value
    → HasSessionRows old.trees rows → HasSessionRows new.trees (with_row_value value key rows)
row_put old new rows key value put s = record {
  keyed = put.sets.table;
  values = λ k. at k (eq_by_cmp key_cmp k key) refl;
}
  where
    at : (k : List ℕ) (b : Bool) → eq_by_cmp key_cmp k key ≡ b → Says (new.trees 2) (session_key k) (finmap.get (with_row_value value key rows) k)
    at k true e =
        subst (Says (new.trees 2) (session_key k)) (sym (get_edited rows value key k true e))
        (subst (λ x. Says (new.trees 2) (session_key x) value) (sym (same_name k key e)) put.sets.here)
    at k false e =
        subst (Says (new.trees 2) (session_key k)) (sym (get_edited rows value key k false e))
        (said_still (old.trees 2) (new.trees 2) (session_key key) (session_key k) value (finmap.get rows k) put.sets (λ same. apart_names k key e cc) (s.values k))

-- the rows so far, of which the rest of the edits makes what all edits make of the first rows
pub record IsEdited (trees : Trees) (all left : List RowEdit) (rows : SessionRows) : Type 0 where
  pub now : SessionRows
  pub has : HasSessionRows trees now
  pub same : rows_after_edits left now ≡ rows_after_edits all rows

pub one_more : (old new : View) (all : List RowEdit) (at : ℕ) (edit : RowEdit) (rows : SessionRows) → at < length all → edit ≡ get_or all at edit
    → (IsKeyedTable one_blob (old.trees 2) → PutsRow old new 2 (session_key edit.key) edit.value)
    → IsEdited old.trees all (drop at all) rows → IsEdited new.trees all (drop (at + 1) all) rows
one_more old new all at edit rows less is put it =
    let behind : drop at all ≡ edit ∷ drop (at + 1) all = drop_more all at edit less ∙ ap (λ e. e ∷ drop (at + 1) all) (sym is) in
    record {
      now = with_row_value edit.value edit.key it.now;
      has = row_put old new it.now edit.key edit.value (put it.has.keyed) it.has;
      same = sym (ap (λ left. rows_after_edits left it.now) behind) ∙ it.same;
    }

pub none_left : (trees : Trees) (all : List RowEdit) (at : ℕ) (rows : SessionRows) → length all ≤ at → IsEdited trees all (drop at all) rows
    → HasSessionRows trees (rows_after_edits all rows)
none_left trees all at rows past it =
    subst (HasSessionRows trees) (sym (ap (λ left. rows_after_edits left it.now) (drop_all at all past)) ∙ it.same) it.has

-- ---- beside the objects

-- what headers and pairs leave, and then the edits
pub brought : (old mid late new : View) (objects : Objects) (changes : Noted) (edits : List RowEdit)
    → LeavesOthers old mid 0 → LeavesOthers mid late 1 → LeavesOthers late new 2
    → (SpellsBut old.trees objects (has_name changes) (has_key changes) → HaveOwners old.trees → SpellsObjects late.trees objects)
    → ((rows : SessionRows) → HasSessionRows late.trees rows → HasSessionRows new.trees (rows_after_edits edits rows))
    → Brings old.trees new.trees objects changes edits
brought old mid late new objects changes edits headers pairs others spell edit spelled owners =
    let all = spell spelled owners in
    let heads : new.trees 0 ≡ late.trees 0 = others 0 (λ e. omega (arith, e)) in
    let values : new.trees 1 ≡ late.trees 1 = others 1 (λ e. omega (arith, e)) in
    let sessions : late.trees 2 ≡ old.trees 2 = pairs 2 (λ e. omega (arith, e)) ∙ headers 2 (λ e. omega (arith, e)) in (
      record {
        objects_are = subst (IsKeyedTable one_text) (sym heads) all.objects_are;
        pairs_are = subst (IsKeyedTable two_texts) (sym values) all.pairs_are;
        headers = λ n out. subst (λ t. Says t (object_key n) (header_at objects n)) (sym heads) (all.headers n out);
        values = λ n k out. subst (λ t. Says t (pair_key n k) (value_at objects n k)) (sym values) (all.values n k out);
      },
      λ rows has. edit rows (subst (λ t. SpellsRows t rows) (sym sessions) has),
    )
