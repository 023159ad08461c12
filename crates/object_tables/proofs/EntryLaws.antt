-- What a look, a removal and an insertion do to the rows of a table of keys and values.
use Rattle.std.proofs.Common.{◌≡◌, ◌⊎◌, ◌↔◌, ℕ, suc, Bool, true, false, not, List, [], ◌∷◌, ◌++◌, length, filter, Option, Some, None, refl, sym, ap, subst, ◌∙◌, inl, inr, true≢false, arith}
use Rattle.std.specs.List.{AllByRecursion}
use Rattle.std.specs.declared.cmp.Ordering.{Ordering}
use Rattle.std.specs.declared.cmp.Ordering.TheVariants.{Less, Equal, Greater}
use Rattle.std.specs.Ordering.{is_lt, is_gt, is_eq}
use Rattle.std.specs.Cmp.{tied_itself}
use Rattle.std.proofs.lemmas.Map.Lookups.{exact_bytes}
use Rattle.sqlite_value.specs.declared.value.Value.{Value}
use Rattle.sqlite_value.specs.declared.value.Value.TheVariants.{Null, Int, Real, Text, Blob}
use Rattle.sqlite_value.specs.Order.{Row, column, value_cmp}
use Rattle.sqlite_value.specs.Keys.{plain, first_key, later, by_key, entry_cmp, prefix_cmp}
use Rattle.sqlite_value.proofs.OrderLemmas.{value_cmp_total, value_cmp-Text, value_cmp-Blob, value_cmp-apart}
use Rattle.sqlite_value.proofs.KeyLemmas.{first_key-plain, then_tied, entry_cmp_total}
use Rattle.sqlite_trees.specs.Tree.{IsIndex, from_key, insert_entry, remove_entry}
use Rattle.sqlite_trees.proofs.TreeLemmas.{AtMost, IsSortedTree, prefix_cmp_follows, sorted_index}
use Rattle.object_tables.specs.Entries.{IsElement, IsKeyColumn, IsKey, texts_of, entry, IsEntryRow, IsKeyedTable, HasNoOther, Says, SetsEntry, FindsEntry}

abbrev None_bytes : Option (List ℕ)
None_bytes = None

-- ---- columns

pub by_plain : (v w : Value) → by_key (first_key plain) v w ≡ value_cmp v w
by_plain v w = rw first_key-plain

less_equal : Less ≡ Equal → ⊥
less_equal e = cc

greater_equal : Greater ≡ Equal → ⊥
greater_equal e = cc

-- columns of keys that tie are one: a text and a blob never do
same_column : (v w : Value) → IsKeyColumn v → IsKeyColumn w → value_cmp v w ≡ Equal → v ≡ w
same_column (Text s) (Text t) a b e = ap Text (exact_bytes s t (sym (value_cmp-Text s t) ∙ e))
same_column (Text s) (Blob t) a b e = absurd (less_equal (sym (value_cmp-apart (Text s) (Blob t) (λ is. omega (arith, is))) ∙ e))
same_column (Text s) Null a b e = absurd b
same_column (Text s) (Int n) a b e = absurd b
same_column (Text s) (Real x) a b e = absurd b
same_column (Blob s) (Blob t) a b e = ap Blob (exact_bytes s t (sym (value_cmp-Blob s t) ∙ e))
same_column (Blob s) (Text t) a b e = absurd (greater_equal (sym (value_cmp-apart (Blob s) (Text t) (λ is. omega (arith, is))) ∙ e))
same_column (Blob s) Null a b e = absurd b
same_column (Blob s) (Int n) a b e = absurd b
same_column (Blob s) (Real x) a b e = absurd b
same_column Null w a b e = absurd a
same_column (Int n) w a b e = absurd a
same_column (Real x) w a b e = absurd a

-- keys with the same columns have as many
as_wide : (k l : Row) → texts_of k ≡ texts_of l → length k ≡ length l
as_wide [] [] e = refl
as_wide [] (w ∷ l) e = absurd cc
as_wide (v ∷ k) [] e = absurd cc
as_wide (v ∷ k) (w ∷ l) e =
    let rest : texts_of k ≡ texts_of l = cc in
    ap suc (as_wide k l rest)

-- a row that begins as a key does, with as many columns, begins with that key
pub begins_same : (k key tail : Row) → IsKey k → IsKey key → length k ≡ length key → prefix_cmp plain (k ++ tail) key ≡ Equal → k ≡ key
begins_same [] [] tail a b n e = refl
begins_same [] (w ∷ key) tail a b n e = absurd (omega arith)
begins_same (v ∷ k) [] tail a b n e = absurd (omega arith)
begins_same (v ∷ k) (w ∷ key) tail a b n e =
    let both = then_tied _ _ e in
    let first : v ≡ w = same_column v w a.0 b.0 (sym (by_plain v w) ∙ both.0) in
    let rest : k ≡ key = begins_same k key tail a.1 b.1 (omega arith) both.1 in
    cc

-- and the row of a key begins with it
pub begins_itself : (key tail : Row) → prefix_cmp plain (key ++ tail) key ≡ Equal
begins_itself [] tail = refl
begins_itself (v ∷ key) tail = rw (by_plain v v ∙ tied_itself value_cmp_total v) (begins_itself key tail)

-- ---- rows of keys and values

pub entry_parts : (k l : Row) (a b : List ℕ) → entry k a ≡ entry l b → (k ≡ l) × (a ≡ b)
entry_parts [] [] a b e = (refl, cc)
entry_parts [] (w ∷ []) a b e = absurd cc
entry_parts [] (w ∷ (x ∷ l)) a b e = absurd cc
entry_parts (v ∷ []) [] a b e = absurd cc
entry_parts (v ∷ (x ∷ k)) [] a b e = absurd cc
entry_parts (v ∷ k) (w ∷ l) a b e =
    let rest : entry k a ≡ entry l b = cc in
    let first : v ≡ w = cc in
    let both = entry_parts k l a b rest in
    let keys : k ≡ l = both.0 in
    (cc, both.1)

-- two rows of keys and values that tie are one
tied_rest : (k l : Row) (a b : List ℕ) → IsKey k → IsKey l → length k ≡ length l → entry_cmp plain (entry k a) (entry l b) ≡ Equal → entry k a ≡ entry l b
tied_rest [] [] a b p q n e =
    let both = then_tied _ _ e in
    let same : a ≡ b = exact_bytes a b (sym (value_cmp-Blob a b) ∙ (sym (by_plain (Blob a) (Blob b)) ∙ both.0)) in
    cc
tied_rest [] (w ∷ l) a b p q n e = absurd (omega arith)
tied_rest (v ∷ k) [] a b p q n e = absurd (omega arith)
tied_rest (v ∷ k) (w ∷ l) a b p q n e =
    let both = then_tied _ _ e in
    let first : v ≡ w = same_column v w p.0 q.0 (sym (by_plain v w) ∙ both.0) in
    let rest : entry k a ≡ entry l b = tied_rest k l a b p.1 q.1 (omega arith) both.1 in
    cc

pub tied_entries : (texts : List Bool) (r s : Row) → IsEntryRow texts r → IsEntryRow texts s → entry_cmp plain r s ≡ Equal → r ≡ s
tied_entries texts r s p q e =
    let n = as_wide p.key q.key (p.columns ∙ sym q.columns) in
    p.is ∙ (tied_rest p.key q.key p.value q.value p.is_key q.is_key n (subst (λ x. entry_cmp plain x (entry q.key q.value) ≡ Equal) p.is (subst (λ y. entry_cmp plain r y ≡ Equal) q.is e)) ∙ sym q.is)

pub column_value : (key : Row) (value : List ℕ) → column (entry key value) (length key) ≡ Blob value
column_value [] value = refl
column_value (v ∷ key) value = column_value key value

-- ---- members

pub in_filter : (p : Row → Bool) (x : Row) (rows : List Row) → IsElement x (filter p rows) ↔ (IsElement x rows × (p x ≡ true))
in_filter p x [] = (λ h. absurd h, λ h. h.0)
in_filter p x (y ∷ rows) = go (p y) refl (in_filter p x rows)
  where
    go : (b : Bool) → p y ≡ b → (IsElement x (filter p rows) ↔ (IsElement x rows × (p x ≡ true))) → IsElement x (filter p (y ∷ rows)) ↔ (IsElement x (y ∷ rows) × (p x ≡ true))
    go true e both = rw e (
      (λ h. elim h [ inl same ↦ (inl same, ap p (sym same) ∙ e) | inr rest ↦ (inr (both.0 rest).0, (both.0 rest).1) ]),
      (λ h. elim h.0 [ inl same ↦ inl same | inr rest ↦ inr (both.1 (rest, h.1)) ]),
    )
    go false e both = rw e (
      (λ h. (inr (both.0 h).0, (both.0 h).1)),
      (λ h. elim h.0 [ inl same ↦ absurd (true≢false (sym h.1 ∙ (ap p (sym same) ∙ e))) | inr rest ↦ both.1 (rest, h.1) ]),
    )

-- where no other row ties with the new one, the new one comes to those that are there
pub in_insert : (new x : Row) (rows : List Row) → ((r : Row) → IsElement r rows → entry_cmp plain r new ≡ Equal → r ≡ new)
    → IsElement x (insert_entry plain new rows) ↔ ((new ≡ x) ⊎ IsElement x rows)
in_insert new x [] same = (λ h. h, λ h. h)
in_insert new x (y ∷ rows) same = go (entry_cmp plain y new) refl (in_insert new x rows (λ r h. same r (inr h)))
  where
    go : (o : Ordering) → entry_cmp plain y new ≡ o → (IsElement x (insert_entry plain new rows) ↔ ((new ≡ x) ⊎ IsElement x rows)) → IsElement x (insert_entry plain new (y ∷ rows)) ↔ ((new ≡ x) ⊎ IsElement x (y ∷ rows))
    go Less e both = rw e (
      (λ h. elim h [ inl is ↦ inr (inl is) | inr rest ↦ elim (both.0 rest) [ inl is ↦ inl is | inr there ↦ inr (inr there) ] ]),
      (λ h. elim h [ inl is ↦ inr (both.1 (inl is)) | inr there ↦ elim there [ inl is ↦ inl is | inr rest ↦ inr (both.1 (inr rest)) ] ]),
    )
    go Equal e both = rw e (
      (λ h. inr h),
      (λ h. elim h [ inl is ↦ inl (same y (inl refl) e ∙ is) | inr there ↦ there ]),
    )
    go Greater e both = rw e ((λ h. h), (λ h. h))

-- ---- a look

pub in_from_key : (key x : Row) (rows : List Row) → IsElement x (from_key plain key rows) → IsElement x rows
in_from_key key x [] h = h
in_from_key key x (y ∷ rows) h = go (is_lt (prefix_cmp plain y key)) refl (in_from_key key x rows) h
  where
    go : (b : Bool) → is_lt (prefix_cmp plain y key) ≡ b → (IsElement x (from_key plain key rows) → IsElement x rows) → IsElement x (from_key plain key (y ∷ rows)) → IsElement x (y ∷ rows)
    go true e more = rw e (λ h. inr (more h))
    go false e more = rw e (λ h. h)

is_equal : (o : Ordering) → is_eq o ≡ true → o ≡ Equal
is_equal Less e = absurd (true≢false (sym e))
is_equal Equal e = refl
is_equal Greater e = absurd (true≢false (sym e))

-- the first of some rows isn't of the key, if there is one
abbrev pub FirstIsNot : List Row → Row → Type 0
FirstIsNot [] key = Unit {0}
FirstIsNot (x ∷ xs) key = is_eq (prefix_cmp plain x key) ≡ false

not_eq : (o : Ordering) → is_lt o ≡ true → o ≡ Equal → ⊥
not_eq o below is = true≢false (sym below ∙ ap is_lt is)

greater : (o : Ordering) → is_lt o ≡ false → is_eq o ≡ false → is_gt o ≡ true
greater Less a b = absurd (true≢false a)
greater Equal a b = absurd (true≢false b)
greater Greater a b = refl

not_gt : (o : Ordering) → is_gt o ≡ true → o ≡ Equal → ⊥
not_gt o above is = true≢false (sym above ∙ ap is_gt is)

at_most_in : (e r : Row) (rows : List Row) → AllByRecursion (AtMost plain e) rows → IsElement r rows → AtMost plain e r
at_most_in e r [] all h = absurd h
at_most_in e r (y ∷ rows) all (inl is) = subst (AtMost plain e) is all.0
at_most_in e r (y ∷ rows) all (inr rest) = at_most_in e r rows all.1 rest

pub none_of_key : (key : Row) (rows : List Row) → IsSortedTree plain rows → FirstIsNot (from_key plain key rows) key
    → (r : Row) → IsElement r rows → prefix_cmp plain r key ≡ Equal → ⊥
none_of_key key [] up first r h e = h
none_of_key key (y ∷ rows) up first r h e = go (λ f there. none_of_key key rows up.1 f r there e) (is_lt (prefix_cmp plain y key)) refl first
  where
    go : (FirstIsNot (from_key plain key rows) key → IsElement r rows → ⊥) → (b : Bool) → is_lt (prefix_cmp plain y key) ≡ b → FirstIsNot (from_key plain key (y ∷ rows)) key → ⊥
    go later true t = rw t (λ f. elim h [ inl is ↦ not_eq _ t (ap (λ x. prefix_cmp plain x key) is ∙ e) | inr there ↦ later f there ])
    go later false t = rw t (λ f.
        let above : is_gt (prefix_cmp plain y key) ≡ true = greater _ t f in
        elim h [
          | inl is ↦ not_gt _ above (ap (λ x. prefix_cmp plain x key) is ∙ e)
          | inr there ↦ not_gt _ ((prefix_cmp_follows plain key y r (at_most_in y r rows up.0 there)).1 above) e
        ])

-- ---- what a call leaves of a table

-- a key's row, where a table has a row that begins with the key
pub row_of_key : (rows : List Row) (key row : Row) → IsKeyedTable (texts_of key) rows → IsKey key → IsElement row rows → prefix_cmp plain row key ≡ Equal
    → (v : List ℕ) × (row ≡ entry key v)
row_of_key rows key row table is_key there begins =
    let it = table.entries row there in
    let same : it.key ≡ key = begins_same it.key key (Blob it.value ∷ []) it.is_key is_key (as_wide it.key key it.columns) (subst (λ x. prefix_cmp plain x key ≡ Equal) it.is begins) in
    (it.value, it.is ∙ ap (λ k. entry k it.value) same)

-- the key has the value already
pub set_already : (rows : List Row) (key row : Row) (value : List ℕ) → IsKeyedTable (texts_of key) rows → IsKey key → IsElement row rows
    → prefix_cmp plain row key ≡ Equal → column row (length key) ≡ Blob value → SetsEntry rows rows key (Some value)
set_already rows key row value table is_key there begins at =
    let found = row_of_key rows key row table is_key there begins in
    let same : found.0 ≡ value = let e : Blob found.0 ≡ Blob value = sym (column_value key found.0) ∙ (ap (λ r. column r (length key)) (sym found.1) ∙ at) in cc in
    let here : IsElement (entry key value) rows = subst (λ r. IsElement r rows) (found.1 ∙ ap (entry key) same) there in
    record {
      table = table;
      here = λ v. ((λ h. ap Some (table.once key value v here h)), (λ e. let is : value ≡ v = cc in subst (λ w. IsElement (entry key w) rows) is here));
      others = λ k v apart. ((λ h. h), (λ h. h));
    }

-- no row is of the key
pub set_absent : (rows : List Row) (key : Row) → IsKeyedTable (texts_of key) rows → ((r : Row) → IsElement r rows → prefix_cmp plain r key ≡ Equal → ⊥)
    → SetsEntry rows rows key None
set_absent rows key table none = record {
  table = table;
  here = λ v. ((λ h. absurd (none _ h (begins_itself key (Blob v ∷ [])))), (λ e. absurd cc));
  others = λ k v apart. ((λ h. h), (λ h. h));
}

-- the one row of a key is removed
pub set_removed : (rows : List Row) (key row : Row) → IsKeyedTable (texts_of key) rows → IsKey key → IsElement row rows → prefix_cmp plain row key ≡ Equal
    → SetsEntry rows (remove_entry plain row rows) key None
set_removed rows key row table is_key there begins =
    let found = row_of_key rows key row table is_key there begins in
    let kept = λ (x : Row). in_filter (λ e. not (is_eq (entry_cmp plain e row))) x rows in
    let gone : (v : List ℕ) → IsElement (entry key v) (remove_entry plain row rows) → ⊥ = λ v h.
    let was = (kept (entry key v)).0 h in
    let only : v ≡ found.0 = table.once key v found.0 was.0 (subst (λ r. IsElement r rows) found.1 there) in
    let tied : entry_cmp plain (entry key v) row ≡ Equal = subst (λ w. entry_cmp plain (entry key w) row ≡ Equal) (sym only) (subst (λ r. entry_cmp plain r row ≡ Equal) found.1 (tied_itself (entry_cmp_total plain) row)) in
    true≢false (sym was.1 ∙ ap (λ o. not (is_eq o)) tied) in
    record {
      table = record {
        entries = λ r h. table.entries r ((kept r).0 h).0;
        once = λ k a b h l. table.once k a b ((kept (entry k a)).0 h).0 ((kept (entry k b)).0 l).0;
      };
      here = λ v. ((λ h. absurd (gone v h)), (λ e. absurd cc));
      others = λ k v apart. (
        (λ h. ((kept (entry k v)).0 h).0),
        (λ h. (kept (entry k v)).1 (h, stays (entry k v) row rows (table.entries _ h) (table.entries _ there) (λ e. apart ((entry_parts k key v found.0 (e ∙ found.1)).0)))),
      );
    }
  where
    stays : (x y : Row) (rows : List Row) → IsEntryRow (texts_of key) x → IsEntryRow (texts_of key) y → (x ≡ y → ⊥) → not (is_eq (entry_cmp plain x y)) ≡ true
    stays x y rows a b apart = tell (entry_cmp plain x y) (λ e. apart (tied_entries (texts_of key) x y a b e))
      where
        tell : (o : Ordering) → (o ≡ Equal → ⊥) → not (is_eq o) ≡ true
        tell Less never = refl
        tell Equal never = absurd (never refl)
        tell Greater never = refl

-- the row of a key that had none, or none but this one, is put in
pub set_added : (rows : List Row) (key : Row) (value : List ℕ) → IsKey key → IsKeyedTable (texts_of key) rows → HasNoOther rows key value
    → SetsEntry rows (insert_entry plain (entry key value) rows) key (Some value)
set_added rows key value is_key table only =
    let new = entry key value in
    let is_new : IsEntryRow (texts_of key) new = record { key = key; value = value; is_key = is_key; columns = refl; is = refl } in
    let ties : (r : Row) → IsElement r rows → entry_cmp plain r new ≡ Equal → r ≡ new = λ r h e. tied_entries (texts_of key) r new (table.entries r h) is_new e in
    let come = λ (x : Row). in_insert new x rows ties in
    record {
      table = record {
        entries = λ r h. elim ((come r).0 h) [ inl is ↦ subst (IsEntryRow (texts_of key)) is is_new | inr there ↦ table.entries r there ];
        once = λ k a b h l. one k a b ((come (entry k a)).0 h) ((come (entry k b)).0 l);
      };
      here = λ v. (
        (λ h. elim ((come (entry key v)).0 h) [ inl is ↦ ap Some (entry_parts key key value v is).1 | inr there ↦ ap Some (sym (only v there)) ]),
        (λ e. (come (entry key v)).1 (inl (let same : value ≡ v = cc in ap (entry key) same))),
      );
      others = λ k v apart. (
        (λ h. elim ((come (entry k v)).0 h) [ inl is ↦ absurd (apart (sym (entry_parts key k value v is).0)) | inr there ↦ there ]),
        (λ h. (come (entry k v)).1 (inr h)),
      );
    }
  where
    one : (k : Row) (a b : List ℕ) → (entry key value ≡ entry k a) ⊎ IsElement (entry k a) rows → (entry key value ≡ entry k b) ⊎ IsElement (entry k b) rows → a ≡ b
    one k a b (inl x) (inl y) = sym (entry_parts key k value a x).1 ∙ (entry_parts key k value b y).1
    one k a b (inl x) (inr y) = sym (entry_parts key k value a x).1 ∙ sym (only b (subst (λ l. IsElement (entry l b) rows) (sym (entry_parts key k value a x).0) y))
    one k a b (inr x) (inl y) = only a (subst (λ l. IsElement (entry l a) rows) (sym (entry_parts key k value b y).0) x) ∙ (entry_parts key k value b y).1
    one k a b (inr x) (inr y) = table.once k a b x y

-- a key is given none, and then a value
pub set_then : (old mid new : List Row) (key : Row) (value : List ℕ) → SetsEntry old mid key None → SetsEntry mid new key (Some value)
    → SetsEntry old new key (Some value)
set_then old mid new key value p q = record {
  table = q.table;
  here = q.here;
  others = λ k v apart. ((λ h. (p.others k v apart).0 ((q.others k v apart).0 h)), (λ h. (q.others k v apart).1 ((p.others k v apart).1 h)));
}

-- a key that has no value has no other
pub none_other : (rows : List Row) (key : Row) (value : List ℕ) → Says rows key None → HasNoOther rows key value
none_other rows key value says v h = let e : None_bytes ≡ Some v = (says v).0 h in absurd cc

-- ---- what a call leaves of a store

pub looked : (rows : List Row) (key row : Row) (left : List Row) → IsIndex plain rows → from_key plain key rows ≡ row ∷ left
    → (b : Bool) → is_eq (prefix_cmp plain row key) ≡ b → FindsEntry rows key row b
looked rows key row left up first true e = (in_from_key key row rows (subst (IsElement row) (sym first) (inl refl)), is_equal (prefix_cmp plain row key) e)
looked rows key row left up first false e = none_of_key key rows (sorted_index plain rows up) (subst (λ x. FirstIsNot x key) (sym first) e)

pub looked_past : (rows : List Row) (key row : Row) → IsIndex plain rows → from_key plain key rows ≡ [] → FindsEntry rows key row false
looked_past rows key row up first = none_of_key key rows (sorted_index plain rows up) (subst (λ x. FirstIsNot x key) (sym first) tt)
