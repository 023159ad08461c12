-- What rows spell that are read one after the other.
use Rattle.std.proofs.Common.{◌≡◌, ◌⊎◌, ◌↔◌, ℕ, Bool, true, false, cond, List, [], ◌∷◌, ◌++◌, Option, Some, None, refl, sym, ap, subst, ◌∙◌, inl, inr}
use Rattle.std.specs.Ordering.{eq_by_cmp}
use Rattle.std.specs.Option.{option_and_then, option_map}
use Rattle.std.specs.Cmp.Lexicographic.{nat_list_cmp_total}
use Rattle.std.specs.FinMap as finmap
use Rattle.std.specs.FinMap.{get-empty, get-insert}
use Rattle.objstore.specs.Omap.{Omap, key_cmp}
use Rattle.objstore.specs.Objects.{Objects, header_at}
use Rattle.sqlite_value.specs.Order.{Row}
use Rattle.sqlite_value.specs.Keys.{plain}
use Rattle.sqlite_trees.specs.Tree.{from_key}
use Rattle.object_tables.specs.Entries.{IsKey, IsEntryRow, IsElement, IsKeyedTable, Says, entry, one_text, texts_of, two_texts}
use Rattle.object_tables.specs.Reading.{AddsObject, AddsPair, SpellHeaders, SpellPairs}
use Rattle.object_tables.specs.Spelled.{SpellsObjects, object_key, pair_key, value_at}
use Rattle.object_tables.proofs.EntryLaws.{entry_parts}
use Rattle.object_tables.proofs.SpelledLaws.{apart_names, same_name}

-- a look from no key on gives all rows
pub from_no_key : (rows : List Row) → from_key plain [] rows ≡ rows
from_no_key [] = refl
from_no_key (r ∷ rows) = refl

pub in_pushed : (x row : Row) (rows : List Row) → IsElement x (rows ++ row ∷ []) ↔ (IsElement x rows ⊎ (row ≡ x))
in_pushed x row [] = ((λ h. elim h [ inl is ↦ inr is | inr away ↦ absurd away ]), (λ h. elim h [ inl away ↦ absurd away | inr is ↦ inl is ]))
in_pushed x row (y ∷ rows) =
    let both = in_pushed x row rows in (
      (λ h. elim h [ inl is ↦ inl (inl is) | inr rest ↦ elim (both.0 rest) [ inl there ↦ inl (inr there) | inr is ↦ inr is ] ]),
      (λ h. elim h [ inl there ↦ elim there [ inl is ↦ inl is | inr rest ↦ inr (both.1 (inl rest)) ] | inr is ↦ inr (both.1 (inr is)) ]),
    )

pub none_some : {X : Type 0} (o : Option X) (v : X) → o ≡ None → o ≡ Some v → ⊥
none_some o v a b = absurd cc

-- a row of a key that has none comes to a table
pub table_pushed : (texts : List Bool) (rows : List Row) (key : Row) (value : List ℕ) → IsKeyedTable texts rows → IsKey key → texts_of key ≡ texts
    → Says rows key None → IsKeyedTable texts (rows ++ entry key value ∷ [])
table_pushed texts rows key value table is_key columns none = record {
  entries = λ r h. elim ((in_pushed r (entry key value) rows).0 h) [ inl there ↦ table.entries r there | inr is ↦ subst (IsEntryRow texts) is new ];
  once = λ k a b h l. one k a b ((in_pushed (entry k a) (entry key value) rows).0 h) ((in_pushed (entry k b) (entry key value) rows).0 l);
}
  where
    new : IsEntryRow texts (entry key value)
    new = record { key = key; value = value; is_key = is_key; columns = columns; is = refl }

    never : (v : List ℕ) → IsElement (entry key v) rows → ⊥
    never v h = none_some None v refl ((none v).0 h)

    one : (k : Row) (a b : List ℕ) → IsElement (entry k a) rows ⊎ (entry key value ≡ entry k a) → IsElement (entry k b) rows ⊎ (entry key value ≡ entry k b) → a ≡ b
    one k a b (inl x) (inl y) = table.once k a b x y
    one k a b (inl x) (inr y) = absurd (never a (subst (λ l. IsElement (entry l a) rows) (sym (entry_parts key k value b y).0) x))
    one k a b (inr x) (inl y) = absurd (never b (subst (λ l. IsElement (entry l b) rows) (sym (entry_parts key k value a x).0) y))
    one k a b (inr x) (inr y) = sym (entry_parts key k value a x).1 ∙ (entry_parts key k value b y).1

-- what a key says then: the value, if it is that key, and else what it said
pub says_pushed : (rows : List Row) (key : Row) (value : List ℕ) (k : Row) (was now : Option (List ℕ)) → Says rows k was
    → ((k ≡ key) × (was ≡ None) × (now ≡ Some value)) ⊎ ((k ≡ key → ⊥) × (now ≡ was)) → Says (rows ++ entry key value ∷ []) k now
says_pushed rows key value k was now says (inl it) = λ v. (
  (λ h. elim ((in_pushed (entry k v) (entry key value) rows).0 h) [
    | inl there ↦ absurd (none_some was v it.1 ((says v).0 there))
    | inr is ↦ it.2 ∙ ap Some (entry_parts key k value v is).1
  ]),
  (λ e. (in_pushed (entry k v) (entry key value) rows).1 (inr (let same : value ≡ v = let m : Some value ≡ Some v = sym it.2 ∙ e in cc in
      ap (λ l. entry l value) (sym it.0) ∙ ap (entry k) same))),
)
says_pushed rows key value k was now says (inr it) = λ v. (
  (λ h. elim ((in_pushed (entry k v) (entry key value) rows).0 h) [
    | inl there ↦ it.1 ∙ (says v).0 there
    | inr is ↦ absurd (it.0 (sym (entry_parts key k value v is).0))
  ]),
  (λ e. (in_pushed (entry k v) (entry key value) rows).1 (inl ((says v).1 (sym it.1 ∙ e)))),
)

-- ---- headers

pub no_headers : SpellHeaders [] finmap.empty
no_headers = record {
  table = record { entries = λ r h. absurd h; once = λ k a b h l. absurd h };
  headers = λ n v. ((λ h. absurd h), (λ e. none_some _ v (rw get-empty refl) e));
  bare = λ n k. rw get-empty refl;
}

header_after : (old : Objects) (name header : List ℕ) (n : List ℕ) (b : Bool) → eq_by_cmp key_cmp n name ≡ b
    → header_at (finmap.insert old name (record { header = header; pairs = finmap.empty })) n ≡ cond b (Some header) (header_at old n)
header_after old name header n true e = rw (get-insert nat_list_cmp_total, e) refl
header_after old name header n false e = rw (get-insert nat_list_cmp_total, e) refl

pub header_added : (rows : List Row) (old new : Objects) (row : Row) → SpellHeaders rows old → AddsObject old new row
    → SpellHeaders (rows ++ row ∷ []) new
header_added rows old new row s a =
    let key = object_key a.name in
    let gone : header_at old a.name ≡ None = ap (option_map (λ (o : Omap). o.header)) a.absent in
    rw a.is (record {
      table = table_pushed one_text rows key a.header s.table (tt, tt) refl (subst (Says rows key) gone (s.headers a.name));
      headers = λ n. says_pushed rows key a.header (object_key n) (header_at old n) (header_at new n) (s.headers n) (at n (eq_by_cmp key_cmp n a.name) refl);
      bare = λ n k. none n k (eq_by_cmp key_cmp n a.name) refl;
    })
  where
    at : (n : List ℕ) (b : Bool) → eq_by_cmp key_cmp n a.name ≡ b
        → ((object_key n ≡ object_key a.name) × (header_at old n ≡ None) × (header_at new n ≡ Some a.header)) ⊎ ((object_key n ≡ object_key a.name → ⊥) × (header_at new n ≡ header_at old n))
    at n true e =
        let same : n ≡ a.name = same_name n a.name e in
        inl (ap object_key same, ap (header_at old) same ∙ ap (option_map (λ (o : Omap). o.header)) a.absent, ap (λ o. header_at o n) a.added ∙ header_after old a.name a.header n true e)
    at n false e = inr (λ same. apart_names n a.name e cc, ap (λ o. header_at o n) a.added ∙ header_after old a.name a.header n false e)

    none : (n k : List ℕ) (b : Bool) → eq_by_cmp key_cmp n a.name ≡ b → value_at new n k ≡ None
    none n k true e = ap (λ o. value_at o n k) a.added ∙ rw (get-insert nat_list_cmp_total, e) (get-empty key_cmp k)
    none n k false e = ap (λ o. value_at o n k) a.added ∙ rw (get-insert nat_list_cmp_total, e) (s.bare n k)

-- ---- pairs

pub no_pairs : (heads : List Row) (objects : Objects) → SpellHeaders heads objects → SpellPairs heads [] objects
no_pairs heads objects s = record {
  heads_are = s.table;
  headers = s.headers;
  table = record { entries = λ r h. absurd h; once = λ k a b h l. absurd h };
  values = λ n k v. ((λ h. absurd h), (λ e. none_some _ v (s.bare n k) e));
}

pub pair_added : (heads rows : List Row) (old new : Objects) (row : Row) → SpellPairs heads rows old → AddsPair old new row
    → SpellPairs heads (rows ++ row ∷ []) new
pair_added heads rows old new row s a =
    let key = pair_key a.name a.key in
    let gone : value_at old a.name a.key ≡ None = ap (option_and_then (λ (o : Omap). finmap.get o.pairs a.key)) a.there ∙ a.absent in
    rw a.is (record {
      heads_are = s.heads_are;
      headers = λ n. subst (Says heads (object_key n)) (sym (header_same n (eq_by_cmp key_cmp n a.name) refl)) (s.headers n);
      table = table_pushed two_texts rows key a.value s.table (tt, (tt, tt)) refl (subst (Says rows key) gone (s.values a.name a.key));
      values = λ n k. says_pushed rows key a.value (pair_key n k) (value_at old n k) (value_at new n k) (s.values n k) (at n k (eq_by_cmp key_cmp n a.name) (eq_by_cmp key_cmp k a.key) refl refl);
    })
  where
    put : Omap
    put = record { header = a.object.header; pairs = finmap.insert a.object.pairs a.key a.value }

    header_same : (n : List ℕ) (b : Bool) → eq_by_cmp key_cmp n a.name ≡ b → header_at new n ≡ header_at old n
    header_same n true e =
        ap (λ o. header_at o n) a.added ∙ (rw (get-insert nat_list_cmp_total, e) refl ∙ sym (ap (header_at old) (same_name n a.name e) ∙ ap (option_map (λ (o : Omap). o.header)) a.there))
    header_same n false e = ap (λ o. header_at o n) a.added ∙ rw (get-insert nat_list_cmp_total, e) refl

    was : (n k : List ℕ) → n ≡ a.name → value_at old n k ≡ finmap.get a.object.pairs k
    was n k same = ap (λ m. value_at old m k) same ∙ ap (option_and_then (λ (o : Omap). finmap.get o.pairs k)) a.there

    at : (n k : List ℕ) (b c : Bool) → eq_by_cmp key_cmp n a.name ≡ b → eq_by_cmp key_cmp k a.key ≡ c
        → ((pair_key n k ≡ pair_key a.name a.key) × (value_at old n k ≡ None) × (value_at new n k ≡ Some a.value)) ⊎ ((pair_key n k ≡ pair_key a.name a.key → ⊥) × (value_at new n k ≡ value_at old n k))
    at n k true true e f =
        let one : n ≡ a.name = same_name n a.name e in
        let two : k ≡ a.key = same_name k a.key f in
        inl (cc, was n k one ∙ (ap (finmap.get a.object.pairs) two ∙ a.absent), ap (λ o. value_at o n k) a.added ∙ rw (get-insert nat_list_cmp_total, e, get-insert nat_list_cmp_total, f) refl)
    at n k true false e f =
        let one : n ≡ a.name = same_name n a.name e in
        inr (λ same. apart_names k a.key f cc, ap (λ o. value_at o n k) a.added ∙ (rw (get-insert nat_list_cmp_total, e, get-insert nat_list_cmp_total, f) refl ∙ sym (was n k one)))
    at n k false c e f = inr (λ same. apart_names n a.name e cc, ap (λ o. value_at o n k) a.added ∙ rw (get-insert nat_list_cmp_total, e) refl)

pub all_read : (heads rows : List Row) (objects : Objects) (trees : ℕ → List Row) → heads ≡ trees 0 → rows ≡ trees 1 → SpellPairs heads rows objects → SpellsObjects trees objects
all_read heads rows objects trees a b s = record {
  objects_are = subst (IsKeyedTable one_text) a s.heads_are;
  pairs_are = subst (IsKeyedTable two_texts) b s.table;
  headers = λ n out. subst (λ r. Says r (object_key n) (header_at objects n)) a (s.headers n);
  values = λ n k out. subst (λ r. Says r (pair_key n k) (value_at objects n k)) b (s.values n k);
}
