-- What tables spell while names and keys are brought into them one by one, and that they spell one set of objects.
use Rattle.std.proofs.Common.{◌≡◌, ◌⊎◌, ℕ, Bool, true, false, ◌||◌, List, ◌∷◌, Option, Some, None, is_some, inl, inr, cond, Result, Ok, Err, OnOk, OnErr, refl, sym, ap, subst, ◌∙◌, true≢false}
use Rattle.std.specs.declared.cmp.Ordering.{Ordering}
use Rattle.std.specs.declared.cmp.Ordering.TheVariants.{Less, Equal, Greater}
use Rattle.std.specs.Ordering.{is_eq, eq_by_cmp}
use Rattle.std.specs.Cmp.{tied_itself}
use Rattle.std.specs.Cmp.Lexicographic.{nat_list_cmp_total}
use Rattle.std.specs.Option.{option_and_then, option_map}
use Rattle.std.specs.FinMap as finmap
use Rattle.std.specs.FinMap.{contains_key-keys, get-empty, get-insert, same_map}
use Rattle.std.proofs.lemmas.Map.Lookups.{exact_bytes, exact_pairs}
use Rattle.objstore.specs.Omap.{Keys, Omap, key_cmp}
use Rattle.objstore.specs.Objects.{Objects, header_at}
use Rattle.sqlite_value.specs.Order.{Row}
use Rattle.sqlite_trees.specs.Tree.{Trees}
use Rattle.sqlite_trees.specs.View.{View}
use Rattle.object_tables.specs.Entries.{HasRow, IsElement, IsKeyedTable, PutsRow, Says, SetsEntry, entry, one_text, two_texts}
use Rattle.object_tables.specs.Noted.{Noted, Spot, has_key, has_name, is_key_of, is_name_of, spot_cmp}
use Rattle.object_tables.specs.Spelled.{AreRight, HaveOneSpelling, HaveOwners, SpellsObjects, SpellsBut, StayListed, object_key, pair_key, value_at}

is_equal : (o : Ordering) → is_eq o ≡ true → o ≡ Equal
is_equal Less e = absurd (true≢false (sym e))
is_equal Equal e = refl
is_equal Greater e = absurd (true≢false (sym e))

either_false : (a b : Bool) → a ≡ false → b ≡ false → (a || b) ≡ false
either_false a b p q = rw (p, q)

-- names, and keys in objects, are one or apart, as their orders tell
pub same_name : (a b : List ℕ) → eq_by_cmp key_cmp a b ≡ true → a ≡ b
same_name a b e = exact_bytes a b (is_equal (key_cmp a b) e)

pub apart_names : (a b : List ℕ) → eq_by_cmp key_cmp a b ≡ false → a ≡ b → ⊥
apart_names a b out same = true≢false (ap is_eq (sym (subst (λ x. key_cmp a x ≡ Equal) same (tied_itself nat_list_cmp_total a))) ∙ out)

pub same_spot : (a b : Spot) → eq_by_cmp spot_cmp a b ≡ true → a ≡ b
same_spot a b e = exact_pairs key_cmp key_cmp exact_bytes exact_bytes a b (is_equal (spot_cmp a b) e)

pub spot_itself : (a : Spot) → spot_cmp a a ≡ Equal
spot_itself a = rw (tied_itself nat_list_cmp_total a.0) (tied_itself nat_list_cmp_total a.1)

pub apart_spots : (a b : Spot) → eq_by_cmp spot_cmp a b ≡ false → a ≡ b → ⊥
apart_spots a b out same = true≢false (ap is_eq (sym (subst (λ x. spot_cmp a x ≡ Equal) same (spot_itself a))) ∙ out)

-- nothing is said of more names and keys
pub spells_less : (trees : Trees) (objects : Objects) (names more_names : List ℕ → Bool) (keys more_keys : List ℕ → List ℕ → Bool)
    → ((n : List ℕ) → more_names n ≡ false → names n ≡ false) → ((n k : List ℕ) → more_keys n k ≡ false → keys n k ≡ false)
    → SpellsBut trees objects names keys → SpellsBut trees objects more_names more_keys
spells_less trees objects names more_names keys more_keys p q s = record {
  objects_are = s.objects_are;
  pairs_are = s.pairs_are;
  headers = λ n out. s.headers n (p n out);
  values = λ n k out. s.values n k (q n k out);
}

-- all that was noted is among what is to be brought in
pub noted_names : (noted : Noted) (n : List ℕ) → has_name noted n ≡ is_name_of (finmap.entries noted.names) n
noted_names noted n = contains_key-keys noted.names n

pub noted_keys : (noted : Noted) (n k : List ℕ) → has_key noted n k ≡ is_key_of (finmap.entries noted.keys) n k
noted_keys noted n k = contains_key-keys noted.keys (n, k)

pub spells_listed : (trees : Trees) (objects : Objects) (noted : Noted) → SpellsBut trees objects (has_name noted) (has_key noted)
    → SpellsBut trees objects (is_name_of (finmap.entries noted.names)) (is_key_of (finmap.entries noted.keys))
spells_listed trees objects noted s =
    spells_less trees objects (has_name noted) _ (has_key noted) _ (λ n out. noted_names noted n ∙ out) (λ n k out. noted_keys noted n k ∙ out) s

-- what a key says where another one was put
pub said_still : (old new : List Row) (key other : Row) (value said : Option (List ℕ)) → SetsEntry old new key value → (other ≡ key → ⊥)
    → Says old other said → Says new other said
said_still old new key other value said set apart says = λ v. (
  (λ h. (says v).0 ((set.others other v apart).0 h)),
  (λ e. (set.others other v apart).1 ((says v).1 e)),
)

-- one name fewer
pub header_put : (old new : View) (objects : Objects) (name : List ℕ) (rest : List (List ℕ × Unit {0})) (keys : List ℕ → List ℕ → Bool)
    → PutsRow old new 0 (object_key name) (header_at objects name)
    → SpellsBut old.trees objects (is_name_of ((name, tt) ∷ rest)) keys → SpellsBut new.trees objects (is_name_of rest) keys
header_put old new objects name rest keys put s =
    let kept : new.trees 1 ≡ old.trees 1 = put.others 1 (λ e. absurd cc) in
    record {
      objects_are = put.sets.table;
      pairs_are = subst (IsKeyedTable two_texts) (sym kept) s.pairs_are;
      headers = λ n out. at n out (eq_by_cmp key_cmp n name) refl;
      values = λ n k out. subst (λ rows. Says rows (pair_key n k) (value_at objects n k)) (sym kept) (s.values n k out);
    }
  where
    at : (n : List ℕ) → is_name_of rest n ≡ false → (b : Bool) → eq_by_cmp key_cmp n name ≡ b → Says (new.trees 0) (object_key n) (header_at objects n)
    at n out true e = subst (λ x. Says (new.trees 0) (object_key x) (header_at objects x)) (sym (same_name n name e)) put.sets.here
    at n out false e =
        said_still (old.trees 0) (new.trees 0) (object_key name) (object_key n) (header_at objects name) (header_at objects n) put.sets
        (λ same. apart_names n name e cc) (s.headers n (either_false _ _ e out))

-- one key fewer
pub value_put : (old new : View) (objects : Objects) (name key : List ℕ) (rest : List (Spot × Unit {0})) (names : List ℕ → Bool)
    → PutsRow old new 1 (pair_key name key) (value_at objects name key)
    → SpellsBut old.trees objects names (is_key_of (((name, key), tt) ∷ rest)) → SpellsBut new.trees objects names (is_key_of rest)
value_put old new objects name key rest names put s =
    let kept : new.trees 0 ≡ old.trees 0 = put.others 0 (λ e. absurd cc) in
    record {
      objects_are = subst (IsKeyedTable one_text) (sym kept) s.objects_are;
      pairs_are = put.sets.table;
      headers = λ n out. subst (λ rows. Says rows (object_key n) (header_at objects n)) (sym kept) (s.headers n out);
      values = λ n k out. at n k out (eq_by_cmp spot_cmp (n, k) (name, key)) refl;
    }
  where
    at : (n k : List ℕ) → is_key_of rest n k ≡ false → (b : Bool) → eq_by_cmp spot_cmp (n, k) (name, key) ≡ b
        → Says (new.trees 1) (pair_key n k) (value_at objects n k)
    at n k out true e =
        let same : ◌≡◌ {A = Spot} (n, k) (name, key) = same_spot (n, k) (name, key) e in
        subst (λ (x : Spot). Says (new.trees 1) (pair_key x.0 x.1) (value_at objects x.0 x.1)) (sym same) put.sets.here
    at n k out false e =
        said_still (old.trees 1) (new.trees 1) (pair_key name key) (pair_key n k) (value_at objects name key) (value_at objects n k) put.sets
        (λ same. apart_spots (n, k) (name, key) e (let a : n ≡ name = cc in let b : k ≡ key = cc in λ i. (a i, b i)))
        (s.values n k (either_false _ _ e out))

-- ---- objects that are new in the tables

-- tables that spell objects have a row for each pair's object
pub spells_owned : (trees : Trees) (objects : Objects) → SpellsObjects trees objects → HaveOwners trees
spells_owned trees objects s name key value row = go (finmap.get objects name) refl ((s.values name key refl value).0 row)
  where
    go : (o : Option Omap) → finmap.get objects name ≡ o → option_and_then (λ (x : Omap). finmap.get x.pairs key) o ≡ Some value → HasRow (trees 0) (object_key name)
    go None is e = absurd cc
    go (Some x) is e = (x.header, (s.headers name refl x.header).1 (ap (option_map (λ (o : Omap). o.header)) is))

-- what holds while headers are brought in: the pairs are as they were, no object that is there has lost its row, and the
-- fresh ones have no wrong pair
pub record Listing (old new : Trees) (objects : Objects) (fresh : Keys) : Type 0 where
  pub pairs : new 1 ≡ old 1
  pub listed : StayListed (old 0) (new 0) objects
  pub right : AreRight (old 1) objects (finmap.contains_key fresh)

pub none_fresh : (old new : Trees) (objects : Objects) (fresh : Keys) → new ≡ old → fresh ≡ finmap.empty → Listing old new objects fresh
none_fresh old new objects fresh same none = record {
  pairs = ap (λ (t : Trees). t 1) same;
  listed = λ name some row. subst (λ (t : Trees). HasRow (t 0) (object_key name)) (sym same) row;
  right = λ name key value there row. absurd (true≢false (sym there ∙ (ap (λ (f : Keys). finmap.contains_key f name) none ∙ ap is_some (get-empty key_cmp name))));
}

some_of : {X : Type 0} (o : Option X) → is_some o ≡ true → (x : X) × (o ≡ Some x)
some_of (Some x) some = (x, refl)
some_of None some = absurd (true≢false (sym some))

-- a name that is among those to which one was added is that one, or was among them
pub put_in : {E : Type 0} (r : Result (Unit {0}) E) (old new : Keys) (name n : List ℕ) → OnOk r (new ≡ finmap.insert old name tt) → OnErr r (new ≡ old)
    → finmap.contains_key new n ≡ true → (finmap.contains_key old n ≡ true) ⊎ (n ≡ name)
put_in (Err e) old new name n ok err there = inl (ap (λ (m : Keys). finmap.contains_key m n) (sym err) ∙ there)
put_in (Ok done) old new name n ok err there =
    go (eq_by_cmp key_cmp n name) refl (ap is_some (sym (get-insert nat_list_cmp_total old name tt n)) ∙ (ap (λ (m : Keys). finmap.contains_key m n) (sym ok) ∙ there))
  where
    go : (b : Bool) → eq_by_cmp key_cmp n name ≡ b → is_some (cond b (Some tt) (finmap.get old n)) ≡ true → (finmap.contains_key old n ≡ true) ⊎ (n ≡ name)
    go true e h = inr (same_name n name e)
    go false e h = inl h

pub listing_put : (old : Trees) (mid new : View) (objects : Objects) (name : List ℕ) (fresh more : Keys) (is_new : Bool) → HaveOwners old
    → Listing old mid.trees objects fresh → PutsRow mid new 0 (object_key name) (header_at objects name)
    → (is_new ≡ true → (is_some (header_at objects name) ≡ true) × (HasRow (mid.trees 0) (object_key name) → ⊥))
    → ((n : List ℕ) → finmap.contains_key more n ≡ true → (finmap.contains_key fresh n ≡ true) ⊎ ((n ≡ name) × (is_new ≡ true)))
    → Listing old new.trees objects more
listing_put old mid new objects name fresh more is_new owners l put tells puts = record {
  pairs = put.others 1 (λ e. absurd cc) ∙ l.pairs;
  listed = λ n some row. at n some (l.listed n some row) (eq_by_cmp key_cmp n name) refl;
  right = λ n k v there row. elim (puts n there) [
    | inl early ↦ l.right n k v early row
    | inr late ↦
        let it = tells late.1 in
        let had : HasRow (old 0) (object_key name) = subst (λ x. HasRow (old 0) (object_key x)) late.0 (owners n k v row) in
        absurd (it.1 (l.listed name it.0 had))
  ];
}
  where
    at : (n : List ℕ) → is_some (header_at objects n) ≡ true → HasRow (mid.trees 0) (object_key n) → (b : Bool) → eq_by_cmp key_cmp n name ≡ b
        → HasRow (new.trees 0) (object_key n)
    at n some row true e =
        let same = same_name n name e in
        let it = some_of (header_at objects name) (subst (λ x. is_some (header_at objects x) ≡ true) same some) in
        subst (λ x. HasRow (new.trees 0) (object_key x)) (sym same) (it.0, (put.sets.here it.0).1 it.1)
    at n some row false e = (row.0, (put.sets.others (object_key n) row.0 (λ same. apart_names n name e cc)).1 row.1)

pub right_after : (old new : Trees) (objects : Objects) (fresh : Keys) → Listing old new objects fresh → AreRight (new 1) objects (finmap.contains_key fresh)
right_after old new objects fresh l = subst (λ rows. AreRight rows objects (finmap.contains_key fresh)) (sym l.pairs) l.right

-- a pair is brought in
pub right_put : (old new : View) (objects : Objects) (name key : List ℕ) (fresh : List ℕ → Bool) → PutsRow old new 1 (pair_key name key) (value_at objects name key)
    → AreRight (old.trees 1) objects fresh → AreRight (new.trees 1) objects fresh
right_put old new objects name key fresh put right n k v there row = at (eq_by_cmp spot_cmp (n, k) (name, key)) refl
  where
    at : (b : Bool) → eq_by_cmp spot_cmp (n, k) (name, key) ≡ b → value_at objects n k ≡ Some v
    at true e =
        let same : ◌≡◌ {A = Spot} (n, k) (name, key) = same_spot (n, k) (name, key) e in
        let here = subst (λ (x : Spot). IsElement (entry (pair_key x.0 x.1) v) (new.trees 1)) same row in
        subst (λ (x : Spot). value_at objects x.0 x.1 ≡ Some v) (sym same) ((put.sets.here v).0 here)
    at false e =
        right n k v there ((put.sets.others (pair_key n k) v (λ same. apart_spots (n, k) (name, key) e (let a : n ≡ name = cc in let b : k ≡ key = cc in λ i. (a i, b i)))).0 row)

-- ---- one spelling

same_option : {X : Type 0} (x y : Option X) → ((v : X) → x ≡ Some v → y ≡ Some v) → ((v : X) → y ≡ Some v → x ≡ Some v) → x ≡ y
same_option (Some v) y p q = sym (p v refl)
same_option None (Some w) p q = q w refl
same_option None None p q = refl

pub said_same : (rows : List Row) (key : Row) (x y : Option (List ℕ)) → Says rows key x → Says rows key y → x ≡ y
said_same rows key x y p q = same_option x y (λ v e. (q v).0 ((p v).1 e)) (λ v e. (p v).0 ((q v).1 e))

same_omap : (a b : Option Omap) → option_map (λ (o : Omap). o.header) a ≡ option_map (λ (o : Omap). o.header) b
    → ((k : List ℕ) → option_and_then (λ (o : Omap). finmap.get o.pairs k) a ≡ option_and_then (λ (o : Omap). finmap.get o.pairs k) b) → a ≡ b
same_omap None None h v = refl
same_omap None (Some p) h v = absurd cc
same_omap (Some o) None h v = absurd cc
same_omap (Some o) (Some p) h v =
    let headers : o.header ≡ p.header = cc in
    let pairs : o.pairs ≡ p.pairs = same_map nat_list_cmp_total exact_bytes o.pairs p.pairs v in
    λ i. Some (record { header = headers i; pairs = pairs i })

pub one_spelling : HaveOneSpelling
one_spelling trees a b s t = same_map nat_list_cmp_total exact_bytes a b (λ n.
    same_omap (finmap.get a n) (finmap.get b n)
    (said_same (trees 0) (object_key n) (header_at a n) (header_at b n) (s.headers n refl) (t.headers n refl))
    (λ k. said_same (trees 1) (pair_key n k) (value_at a n k) (value_at b n k) (s.values n k refl) (t.values n k refl)))
