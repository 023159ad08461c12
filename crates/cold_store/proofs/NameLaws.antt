-- The names of a store, read page by page, and what is left of them.
use Rattle.cold_store.proofs.Common.{AreAllBut, AreNamesOf, Bool, Covers, EndsNames, Ino, IsIn, IsLastOf, Keys, List, NameList, None, Objects, Omap, Option, Some, [], all_kept, ap, arith, cond, drop, drop-map, drop_more, entries_sorted, eq_by_cmp, false, filter, find, first_names, get-empty, get-entries, get-insert, get_left, get_or, get_or-take, get_or_from_slice_get, get_removed, greater_than_row, inl, inr, is_after, is_lt, is_some, is_sorted-where_key, key_cmp, length, length-append, length-take-le, less_is, map_push, nat_list_cmp_total, nat_lt, nat_tests, option_map, refl, same_Some, same_or_apart, slice_get, slice_get-get_or, slice_get-map, subst, suc, sym, take, take-append-drop, take_all, texts_from, texts_in, true, with_keys, keys_without, zero, ℕ, ◌++◌, ◌+◌, ◌-◌, ◌<◌, ◌||◌, ◌∙◌, ◌∷◌, ◌≡◌, ◌≤◌, ◌⊎◌}
use Rattle.std.proofs.Common.{map as each}
use Rattle.std.specs.FinMap as map
use Rattle.objstore.specs.Objects.{object_names_after}
use Rattle.cold_store.specs.Calls.{NamesLeft, name_pages_beyond}
use Rattle.cold_store.proofs.CallSteps.{few_beyond, more_beyond}

-- ---- keys, more of them and less of them

pub with_keys-append : (keys : Keys) (a b : List (List ℕ)) → with_keys keys (a ++ b) ≡ with_keys (with_keys keys a) b
with_keys-append keys [] b = refl
with_keys-append keys (name ∷ a) b = with_keys-append (map.insert keys name tt) a b

pub without_keys-append : (keys : Keys) (a b : List (List ℕ)) → keys_without keys (a ++ b) ≡ keys_without (keys_without keys a) b
without_keys-append keys [] b = refl
without_keys-append keys (name ∷ a) b = without_keys-append (map.remove keys name) a b

-- one name more, of names in another form
pub keys_more : {A : Type 0} (f : A → List ℕ) (keys before now : Keys) (names : List A) (name : A) → before ≡ with_keys keys (each f names) → now ≡ map.insert before (f name) tt → now ≡ with_keys keys (each f (names ++ name ∷ []))
keys_more f keys before now names name so_far put =
    put ∙ ap (λ k. map.insert k (f name) tt) so_far ∙ sym (with_keys-append keys (each f names) (f name ∷ [])) ∙ sym (ap (with_keys keys) (map_push f names name))

-- one directory less
pub dirs_step : (covers : Covers) (queue : List Ino) (i : ℕ) (none : Ino) (before now : Keys) → i < length queue → now ≡ keys_without before (texts_in covers (get_or queue i none))
    → keys_without now (texts_from covers (drop (i + 1) queue)) ≡ keys_without before (texts_from covers (drop i queue))
dirs_step covers queue i none before now less is =
    ap (λ k. keys_without k (texts_from covers (drop (i + 1) queue))) is
    ∙ sym (without_keys-append before (texts_in covers (get_or queue i none)) (texts_from covers (drop (i + 1) queue)))
    ∙ sym (ap (λ ds. keys_without before (texts_from covers ds)) (drop_more queue i none less))

-- what is left was there, and is none of those that went
removed_there : (keys : Keys) (k name : List ℕ) → map.contains_key (map.remove keys k) name ≡ true → (map.contains_key keys name ≡ true) × (name ≡ k → ⊥)
removed_there keys k name stays = go (same_or_apart name k)
  where
    go : (name ≡ k) ⊎ (name ≡ k → ⊥) → (map.contains_key keys name ≡ true) × (name ≡ k → ⊥)
    go (inl same) = let clash : false ≡ true = sym (ap is_some (get_removed keys k)) ∙ ap (λ n. map.contains_key (map.remove keys k) n) (sym same) ∙ stays in absurd cc
    go (inr apart) = (sym (ap is_some (get_left keys k name apart)) ∙ stays, apart)

pub left_there : (keys : Keys) (names : List (List ℕ)) (name : List ℕ) → map.contains_key (keys_without keys names) name ≡ true → map.contains_key keys name ≡ true
left_there keys [] name stays = stays
left_there keys (k ∷ names) name stays = (removed_there keys k name (left_there (map.remove keys k) names name stays)).0

pub left_apart : (keys : Keys) (names : List (List ℕ)) (name : List ℕ) → map.contains_key (keys_without keys names) name ≡ true → IsIn name names → ⊥
left_apart keys [] name stays h = h
left_apart keys (k ∷ names) name stays (inl same) = (removed_there keys k name (left_there (map.remove keys k) names name stays)).1 (sym same)
left_apart keys (k ∷ names) name stays (inr rest) = left_apart (map.remove keys k) names name stays rest

-- what was there went, or is left
pub gone_or_left : (keys : Keys) (names : List (List ℕ)) (name : List ℕ) → map.contains_key keys name ≡ true → IsIn name names ⊎ (map.contains_key (keys_without keys names) name ≡ true)
gone_or_left keys [] name there = inr there
gone_or_left keys (k ∷ names) name there = go (same_or_apart name k) (gone_or_left (map.remove keys k) names name)
  where
    go : (name ≡ k) ⊎ (name ≡ k → ⊥) → (map.contains_key (map.remove keys k) name ≡ true → IsIn name names ⊎ (map.contains_key (keys_without keys (k ∷ names)) name ≡ true))
        → IsIn name (k ∷ names) ⊎ (map.contains_key (keys_without keys (k ∷ names)) name ≡ true)
    go (inl same) more = inl (inl (sym same))
    go (inr apart) more = behind (more (ap is_some (get_left keys k name apart) ∙ there))
      where
        behind : IsIn name names ⊎ (map.contains_key (keys_without keys (k ∷ names)) name ≡ true) → IsIn name (k ∷ names) ⊎ (map.contains_key (keys_without keys (k ∷ names)) name ≡ true)
        behind (inl h) = inl (inr h)
        behind (inr h) = inr h

pub are_left : (objects : Objects) (keys left : Keys) (texts : List (List ℕ)) → AreNamesOf objects keys → left ≡ keys_without keys texts → AreAllBut objects texts left
are_left objects keys left texts named is = record {
  there = λ name stays. sym (named name) ∙ left_there keys texts name (ap (λ k. map.contains_key k name) (sym is) ∙ stays);
  apart = λ name stays. left_apart keys texts name (ap (λ k. map.contains_key k name) (sym is) ∙ stays);
  others = λ name there. subst (λ k. IsIn name texts ⊎ (map.contains_key k name ≡ true)) (sym is) (gone_or_left keys texts name (named name ∙ there));
}

-- ---- all names

one_key : {X : Type 0} (b : Bool) (old : Option (Unit {0})) (value : X) (later : Option X) → (is_some (cond b (Some tt) old) || is_some later) ≡ (is_some old || is_some (cond b (Some value) later))
one_key true None value later = refl
one_key true (Some u) value later = refl
one_key false old value later = refl

contains-with_keys : (keys : Keys) (es : List (List ℕ × Omap)) (name : List ℕ) → map.contains_key (with_keys keys (each (λ e. e.0) es)) name ≡ (map.contains_key keys name || is_some (find key_cmp name es))
contains-with_keys keys [] name = go (map.contains_key keys name)
  where
    go : (b : Bool) → b ≡ (b || false)
    go true = refl
    go false = refl
contains-with_keys keys (e ∷ es) name =
    contains-with_keys (map.insert keys e.0 tt) es name
    ∙ ap (λ o. is_some o || is_some (find key_cmp name es)) (get-insert nat_list_cmp_total keys e.0 tt name)
    ∙ one_key (eq_by_cmp key_cmp name e.0) (map.get keys name) e.1 (find key_cmp name es)

all_named : (objects : Objects) (keys : Keys) → keys ≡ with_keys map.empty (object_names_after objects None) → AreNamesOf objects keys
unfolding object_names_after
all_named objects keys is name =
    ap (λ k. map.contains_key k name) (is ∙ ap (λ es. with_keys map.empty (each (λ e. e.0) es)) (all_kept (map.entries objects)))
    ∙ contains-with_keys map.empty (map.entries objects) name
    ∙ ap (λ o. is_some o || is_some (find key_cmp name (map.entries objects))) (get-empty key_cmp name)
    ∙ sym (ap is_some (get-entries objects name))

-- so with a last page, asked for behind the names that were read
pub all_read : (objects now : Objects) (after asked : Option (List ℕ)) (before keys : Keys) → now ≡ objects → asked ≡ after → with_keys before (object_names_after objects after) ≡ with_keys map.empty (object_names_after objects None)
    → keys ≡ with_keys before (object_names_after now asked) → AreNamesOf objects keys
all_read objects now after asked before keys same a whole read =
    all_named objects keys (read ∙ ap (λ o. with_keys before (object_names_after now o)) a ∙ ap (λ (o : Objects). with_keys before (object_names_after o after)) same ∙ whole)

-- ---- pages of names

-- a test after one that it implies
module _ {A : Type 0} (p q : A → Bool) (implies : (x : A) → q x ≡ true → p x ≡ true) where
  test_first : (x : A) (xs ys : List A) → filter q xs ≡ filter q ys → (b c : Bool) → p x ≡ b → q x ≡ c → filter q (x ∷ xs) ≡ filter q (cond b (x ∷ ys) ys)
  test_first x xs ys same true c passed told = λ i. cond (q x) (x ∷ same i) (same i)
  test_first x xs ys same false true passed told = let never : false ≡ true = sym passed ∙ implies x told in absurd cc
  test_first x xs ys same false false passed told = ap (λ t. cond t (x ∷ filter q xs) (filter q xs)) told ∙ same

  tested : (xs : List A) → filter q xs ≡ filter q (filter p xs)
  tested [] = refl
  tested (x ∷ xs) = test_first x xs (filter p xs) (tested xs) (p x) (q x) refl refl

-- what is kept passed the test
kept_passed : {A : Type 0} (p : A → Bool) (xs : List A) (i : ℕ) (x : A) → slice_get (filter p xs) i ≡ Some x → p x ≡ true
kept_passed p [] i x is = absurd cc
kept_passed {A} p (y ∷ xs) i x is = at (p y) refl i is (λ j there. kept_passed p xs j x there)
  where
    at : (b : Bool) → p y ≡ b → (j : ℕ) → slice_get (cond b (y ∷ filter p xs) (filter p xs)) j ≡ Some x → ((k : ℕ) → slice_get (filter p xs) k ≡ Some x → p x ≡ true) → p x ≡ true
    at false told j here more = more j here
    at true told (suc j) here more = more j here
    at true told zero here more = ap p (sym (same_Some y x here)) ∙ told

module _ (objects : Objects) (after : Option (List ℕ)) where
  abbrev es : List (List ℕ × Omap)
  es = filter (λ e. is_after after e.0) (map.entries objects)

  follows : (o : Option (List ℕ)) (x key : List ℕ) → is_after o x ≡ true → is_lt (key_cmp x key) ≡ true → is_after o key ≡ true
  follows None x key past less = refl
  follows (Some a) x key past less = ap is_lt (nat_list_cmp_total.trans a x key (less_is _ past) (less_is _ less))

  behind_entry : (i : ℕ) (e : List ℕ × Omap) → slice_get es i ≡ Some e → filter (λ (d : List ℕ × Omap). is_after (Some e.0) d.0) (map.entries objects) ≡ drop (suc i) es
  behind_entry i e is =
      tested (λ (d : List ℕ × Omap). is_after after d.0) (λ d. is_after (Some e.0) d.0) (λ d. follows after e.0 d.0 (kept_passed (λ (d : List ℕ × Omap). is_after after d.0) (map.entries objects) i e is)) (map.entries objects)
      ∙ greater_than_row nat_list_cmp_total es i e (is_sorted-where_key key_cmp (is_after after) (map.entries objects) (entries_sorted objects)) is

  -- the names behind one of them
  behind_name : (i : ℕ) (name : List ℕ) → slice_get (object_names_after objects after) i ≡ Some name → object_names_after objects (Some name) ≡ drop (suc i) (object_names_after objects after)
  unfolding object_names_after
  behind_name i name is = go (slice_get es i) refl (sym (slice_get-map (λ (e : List ℕ × Omap). e.0) es i) ∙ is)
    where
      go : (o : Option (List ℕ × Omap)) → slice_get es i ≡ o → option_map (λ (e : List ℕ × Omap). e.0) o ≡ Some name → each (λ e. e.0) (filter (λ e. is_after (Some name) e.0) (map.entries objects)) ≡ drop (suc i) (each (λ e. e.0) es)
      go None at none = absurd cc
      go (Some e) at here =
          ap (λ n. each (λ e. e.0) (filter (λ e. is_after (Some n) e.0) (map.entries objects))) (sym (same_Some e.0 name here))
          ∙ ap (each (λ e. e.0)) (behind_entry i e at)
          ∙ sym (drop-map (λ (e : List ℕ × Omap). e.0) (suc i) es)

  module _ (page : NameList) (is : page ≡ first_names 64 (object_names_after objects after)) where
    abbrev xs : List (List ℕ)
    xs = object_names_after objects after

    items : page.names ≡ take 64 xs
    items = ap (λ (p : NameList). p.names) is

    flag : page.more ≡ nat_lt 64 (length xs)
    flag = ap (λ (p : NameList). p.more) is

    none_taken : (ys : List (List ℕ)) → take 64 ys ≡ [] → ys ≡ []
    none_taken [] none = refl
    none_taken (y ∷ ys) none = absurd cc

    -- more names than those of the page, and which
    behind_page : (last : List ℕ) → page.more ≡ true → slice_get page.names (length page.names - 1) ≡ Some last → (64 < length xs) × (object_names_after objects (Some last) ≡ drop 64 xs)
    behind_page last more at =
        let told : nat_lt 64 (length xs) ≡ true = sym flag ∙ more in
        let long : 64 < length xs = grind (arith, nat_tests) in
        let count : length page.names ≡ 64 = ap (length {A = List ℕ}) items ∙ length-take-le 64 xs (omega (arith, long)) in
        let i : length page.names - 1 ≡ 63 = omega (arith, count) in
        let read : slice_get (take 64 xs) 63 ≡ Some last = sym (λ t. slice_get (items t) (i t)) ∙ at in
        let same : get_or xs 63 last ≡ last = sym (get_or-take 64 xs 63 last (omega arith)) ∙ get_or_from_slice_get (take 64 xs) 63 last last read in
        (long, behind_name 63 last (slice_get-get_or xs 63 last (omega (arith, long)) ∙ ap Some same))

    ends : (old new : Keys) (last : Option (List ℕ)) → new ≡ with_keys old page.names → IsLastOf page.more page.names last → EndsNames objects after old new last
    ends old new None put (inl more) = let few : length xs ≤ 64 = grind (arith, nat_tests) in put ∙ ap (with_keys old) (items ∙ take_all 64 xs few)
    ends old new None put (inr none) = put ∙ ap (with_keys old) (none ∙ sym (none_taken xs (sym items ∙ none)))
    ends old new (Some last) put (more, at) =
        let its = behind_page last more at in
        let long = its.0 in
        let rest = its.1 in
        let count : length page.names ≡ 64 = ap (length {A = List ℕ}) items ∙ length-take-le 64 xs (omega (arith, long)) in
        let split : page.names ++ object_names_after objects (Some last) ≡ xs = (λ t. items t ++ rest t) ∙ take-append-drop 64 xs in
        let total : length page.names + length (object_names_after objects (Some last)) ≡ length xs = sym (length-append page.names (object_names_after objects (Some last))) ∙ ap (length {A = List ℕ}) split in
        (ap (λ k. with_keys k (object_names_after objects (Some last))) put ∙ sym (with_keys-append old page.names (object_names_after objects (Some last))) ∙ ap (with_keys old) split, omega (arith, total, count))

  -- what a page leaves of the names
  pub page_left : (page : NameList) → page ≡ first_names 64 (object_names_after objects after) → (last : Option (List ℕ)) → IsLastOf page.more page.names last → NamesLeft objects after last
  page_left page is None (inl more) =
      let told : nat_lt 64 (length (object_names_after objects after)) ≡ false = sym (flag page is) ∙ more in
      let few : length (object_names_after objects after) ≤ 64 = grind (arith, nat_tests) in
      ap suc (few_beyond 64 (object_names_after objects after) few)
  page_left page is None (inr none) = ap (λ ys. suc (name_pages_beyond 64 ys)) (none_taken page is (object_names_after objects after) (sym (items page is) ∙ none))
  page_left page is (Some last) (more, at) =
      let its = behind_page page is last more at in
      ap suc (more_beyond 64 (object_names_after objects after) its.0) ∙ ap (λ ys. suc (suc (name_pages_beyond 64 ys))) (sym its.1)

-- so as a call read it
pub names_left : (objects : Objects) (after asked : Option (List ℕ)) (page : NameList) (last : Option (List ℕ)) (told : Bool) (names : List (List ℕ)) → asked ≡ after → page ≡ first_names 64 (object_names_after objects asked) → told ≡ page.more → names ≡ page.names
    → IsLastOf told names last → NamesLeft objects after last
names_left objects after asked page last told names a p m n h =
    page_left objects after page (p ∙ ap (λ o. first_names 64 (object_names_after objects o)) a) last (subst (λ b. IsLastOf b page.names last) m (subst (λ (ns : List (List ℕ)). IsLastOf told ns last) n h))

-- what a page leaves, as a call read it: what it asked for, and what it made of the answer
pub page_read : (objects : Objects) (after asked : Option (List ℕ)) (page : NameList) (old new : Keys) (last : Option (List ℕ)) (told : Bool) (names taken : List (List ℕ)) → asked ≡ after → page ≡ first_names 64 (object_names_after objects asked)
    → told ≡ page.more → names ≡ page.names → taken ≡ page.names → new ≡ with_keys old taken → IsLastOf told names last → EndsNames objects after old new last
page_read objects after asked page old new last told names taken a p m n k put h =
    ends objects after page (p ∙ ap (λ o. first_names 64 (object_names_after objects o)) a) old new last (put ∙ ap (with_keys old) k) (subst (λ b. IsLastOf b page.names last) m (subst (λ (ns : List (List ℕ)). IsLastOf told ns last) n h))
