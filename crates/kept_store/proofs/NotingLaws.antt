-- What was noted, and what a write leaves that wasn't.
use Rattle.std.proofs.Common.{◌≡◌, ◌⊎◌, ℕ, Bool, true, false, cond, List, [], ◌∷◌, Option, Some, None, is_some, refl, sym, ap, subst, ◌∙◌, inl, inr, true≢false, OnOk, OnErr, Result, Ok, Err, is_err}
use Rattle.std.specs.Ordering.{eq_by_cmp, is_eq}
use Rattle.std.specs.Option.{option_and_then, option_or, unwrap_or}
use Rattle.std.specs.Cmp.{IsTotalOrder, tied_itself}
use Rattle.std.specs.Cmp.Lexicographic.{nat_list_cmp_total}
use Rattle.std.specs.FinMap as map
use Rattle.std.specs.FinMap.{find, get-empty, get-entries, get-insert}
use Rattle.std.proofs.lemmas.Map.Lookups.{exact_bytes}
use Rattle.std.proofs.lemmas.Cmp.{then_total, on_total}
use Rattle.sorted_map.specs.Overlay.{overlaid}
use Rattle.sorted_map.proofs.MapLaws.{get-overlaid, get-without_keys}
use Rattle.objstore.specs.Omap.{Omap, PairMap, empty_omap, key_cmp}
use Rattle.objstore.specs.Objects.{Objects, header_at, written}
use Rattle.objstore.specs.Writes.{applied, pairs_before}
use Rattle.objstore.specs.declared.write_ops.WriteOp.{WriteOp}
use Rattle.objstore.proofs.WriteLaws.{applied-parts}
use Rattle.object_tables.specs.Noted.{Noted, Spot, has_key, has_name, spot_cmp}
use Rattle.object_tables.specs.Spelled.{value_at}
use Rattle.object_tables.proofs.SpelledLaws.{same_name, spot_itself}
use Rattle.kept_store.specs.Noting.{AgreeBut, IsMore}

-- ---- more and more is noted

pub more_same : (a : Noted) → IsMore a a
more_same a = record { names = λ n out. out; keys = λ n k out. out }

pub more_then : (a b c : Noted) → IsMore a b → IsMore b c → IsMore a c
more_then a b c p q = record { names = λ n out. p.names n (q.names n out); keys = λ n k out. p.keys n k (q.keys n k out) }

some_left : {X : Type 0} (b : Bool) (x : X) (o : Option X) → is_some (cond b (Some x) o) ≡ false → is_some o ≡ false
some_left true x o out = absurd (true≢false out)
some_left false x o out = out

spot_total : IsTotalOrder spot_cmp
spot_total = then_total (on_total (λ (x : Spot). x.0) nat_list_cmp_total) (on_total (λ (x : Spot). x.1) nat_list_cmp_total)

pub more_name : (a b : Noted) (name : List ℕ) → b ≡ record a { names = map.insert a.names name tt } → IsMore a b
more_name a b name is = rw is (record {
  names = λ n out. some_left (eq_by_cmp key_cmp n name) tt (map.get a.names n) (ap is_some (sym (get-insert nat_list_cmp_total a.names name tt n)) ∙ out);
  keys = λ n k out. out;
})

pub more_key : (a b : Noted) (spot : Spot) → b ≡ record a { keys = map.insert a.keys spot tt } → IsMore a b
more_key a b spot is = rw is (record {
  names = λ n out. out;
  keys = λ n k out. some_left (eq_by_cmp spot_cmp (n, k) spot) tt (map.get a.keys (n, k)) (ap is_some (sym (get-insert spot_total a.keys spot tt (n, k))) ∙ out);
})

pub name_noted : (a b : Noted) (name : List ℕ) → b ≡ record a { names = map.insert a.names name tt } → has_name b name ≡ true
name_noted a b name is = rw is (ap is_some (get-insert nat_list_cmp_total a.names name tt name) ∙ ap (λ o. is_some (cond (is_eq o) (Some tt) (map.get a.names name))) (tied_itself nat_list_cmp_total name))

pub key_noted : (a b : Noted) (name key : List ℕ) → b ≡ record a { keys = map.insert a.keys (name, key) tt } → has_key b name key ≡ true
key_noted a b name key is = rw is (ap is_some (get-insert spot_total a.keys (name, key) tt (name, key)) ∙ ap (λ o. is_some (cond (is_eq o) (Some tt) (map.get a.keys (name, key)))) (spot_itself (name, key)))

by_false : (x y : Bool) → (y ≡ false → x ≡ false) → x ≡ true → y ≡ true
by_false x true back h = refl
by_false x false back h = absurd (true≢false (sym h ∙ back refl))

pub name_stays : (a b : Noted) (n : List ℕ) → IsMore a b → has_name a n ≡ true → has_name b n ≡ true
name_stays a b n more = by_false (has_name a n) (has_name b n) (more.names n)

pub key_stays : (a b : Noted) (n k : List ℕ) → IsMore a b → has_key a n k ≡ true → has_key b n k ≡ true
key_stays a b n k more = by_false (has_key a n k) (has_key b n k) (more.keys n k)

-- ---- all keys of an object

-- each key of some entries is noted, or among those that are left
abbrev pub NotedBut : {V : Type 0} → Noted → List ℕ → List (List ℕ × V) → List (List ℕ × V) → Type 0
NotedBut noted name all left =
    (key : List ℕ) → is_some (find key_cmp key all) ≡ true → (has_key noted name key ≡ true) ⊎ (is_some (find key_cmp key left) ≡ true)

-- one more of them is noted
pub noted_one : {V : Type 0} (a b : Noted) (name : List ℕ) (all rest : List (List ℕ × V)) (e : List ℕ × V) → IsMore a b
    → has_key b name e.0 ≡ true → NotedBut a name all (e ∷ rest) → NotedBut b name all rest
noted_one {V} a b name all rest e more here so_far key some = elim (so_far key some) [
  | inl early ↦ inl (key_stays a b name key more early)
  | inr late ↦ go (eq_by_cmp key_cmp key e.0) refl late
]
  where
    go : (t : Bool) → eq_by_cmp key_cmp key e.0 ≡ t → is_some (cond t (Some e.1) (find key_cmp key rest)) ≡ true
        → (has_key b name key ≡ true) ⊎ (is_some (find key_cmp key rest) ≡ true)
    go true same h = inl (subst (λ k. has_key b name k ≡ true) (sym (same_name key e.0 same)) here)
    go false same h = inr h

-- all are
pub noted_all : {V : Type 0} (noted : Noted) (name : List ℕ) (m : map.FinMap key_cmp V) (left : List (List ℕ × V)) → left ≡ []
    → NotedBut noted name (map.entries m) left → (key : List ℕ) → is_some (map.get m key) ≡ true → has_key noted name key ≡ true
noted_all noted name m left none so_far key some = elim (so_far key (sym (ap is_some (get-entries m key)) ∙ some)) [
  | inl early ↦ early
  | inr late ↦ absurd (true≢false (sym late ∙ ap (λ l. is_some (find key_cmp key l)) none))
]

-- ---- what a write leaves

apart_name : (noted : Noted) (name n : List ℕ) → has_name noted name ≡ true → has_name noted n ≡ false → eq_by_cmp key_cmp n name ≡ false
apart_name noted name n there out = go (eq_by_cmp key_cmp n name) refl
  where
    go : (b : Bool) → eq_by_cmp key_cmp n name ≡ b → b ≡ false
    go true e = absurd (true≢false (sym there ∙ (sym (ap (has_name noted) (same_name n name e)) ∙ out)))
    go false e = refl

pub header_left : (objects : Objects) (name : List ℕ) (op : WriteOp) (n : List ℕ) → eq_by_cmp key_cmp n name ≡ false
    → header_at objects n ≡ header_at (written objects name op) n
unfolding written
header_left objects name op n e = rw (get-insert nat_list_cmp_total, e) refl

value_left : (objects : Objects) (name : List ℕ) (op : WriteOp) (n k : List ℕ) → eq_by_cmp key_cmp n name ≡ false
    → value_at objects n k ≡ value_at (written objects name op) n k
unfolding written
value_left objects name op n k e = rw (get-insert nat_list_cmp_total, e) refl

none_of : {X : Type 0} (o : Option X) → (is_some o ≡ true → ⊥) → o ≡ None
none_of None away = refl
none_of (Some x) away = absurd (away refl)

old_value : (objects : Objects) (name k : List ℕ) → map.get (unwrap_or (map.get objects name) empty_omap).pairs k ≡ value_at objects name k
old_value objects name k = go (map.get objects name)
  where
    go : (o : Option Omap) → map.get (unwrap_or o empty_omap).pairs k ≡ option_and_then (λ (x : Omap). map.get x.pairs k) o
    go None = get-empty key_cmp k
    go (Some x) = refl

-- the value that a write leaves at a key of its object
pub value_written : (objects : Objects) (name : List ℕ) (op : WriteOp) (k : List ℕ)
    → value_at (written objects name op) name k
    ≡ cond (map.contains_key op.remove k) None (option_or (map.get op.set k) (map.get (pairs_before op.clear (unwrap_or (map.get objects name) empty_omap).pairs) k))
unfolding written
value_written objects name op k =
    let old = unwrap_or (map.get objects name) empty_omap in
    ap (option_and_then (λ (x : Omap). map.get x.pairs k)) (get-insert nat_list_cmp_total objects name (applied op old) name ∙ ap (λ o. cond (is_eq o) (Some (applied op old)) (map.get objects name)) (tied_itself nat_list_cmp_total name))
    ∙ (ap (λ (x : Omap). map.get x.pairs k) (applied-parts op old)
    ∙ (get-without_keys exact_bytes (overlaid (pairs_before op.clear old.pairs) op.set) op.remove k
    ∙ ap (cond (map.contains_key op.remove k) None) (get-overlaid nat_list_cmp_total (pairs_before op.clear old.pairs) op.set k)))

-- a key that the write doesn't set, and that the object hadn't
gone_still : (b c : Bool) (pairs : PairMap) (k : List ℕ) (set : Option (List ℕ)) → set ≡ None → map.get pairs k ≡ None
    → cond b None (option_or set (map.get (pairs_before c pairs) k)) ≡ None
gone_still true c pairs k set s p = refl
gone_still false true pairs k set s p = rw (s, get-empty key_cmp k) refl
gone_still false false pairs k set s p = rw (s, p) refl

-- a key that the write doesn't set, where it removes and clears nothing
same_still : (b c : Bool) (pairs : PairMap) (k : List ℕ) (set : Option (List ℕ)) → b ≡ false → c ≡ false → set ≡ None
    → map.get pairs k ≡ cond b None (option_or set (map.get (pairs_before c pairs) k))
same_still b c pairs k set x y s = rw (x, y, s) refl

is_false : (b : Bool) → (b ≡ true → ⊥) → b ≡ false
is_false true away = absurd (away refl)
is_false false away = refl

-- where the object's name, all keys that are set, and all keys of the object are noted, all else is as it was; or the
-- keys that are set or removed, where nothing is cleared
pub agree_written : (objects : Objects) (name : List ℕ) (op : WriteOp) (noted : Noted) → has_name noted name ≡ true
    → ((k : List ℕ) → is_some (map.get op.set k) ≡ true → has_key noted name k ≡ true)
    → ((k : List ℕ) → is_some (value_at objects name k) ≡ true → has_key noted name k ≡ true) ⊎ ((op.clear ≡ false) × ((k : List ℕ) → map.contains_key op.remove k ≡ true → has_key noted name k ≡ true))
    → AgreeBut objects (written objects name op) noted
agree_written objects name op noted there sets all = record {
  headers = λ n out. header_left objects name op n (apart_name noted name n there out);
  values = λ n k out. at n k out (eq_by_cmp key_cmp n name) refl;
}
  where
    unset : (k : List ℕ) → has_key noted name k ≡ false → map.get op.set k ≡ None
    unset k out = none_of (map.get op.set k) (λ some. true≢false (sym (sets k some) ∙ out))

    here : (k : List ℕ) → has_key noted name k ≡ false
        → ((k : List ℕ) → is_some (value_at objects name k) ≡ true → has_key noted name k ≡ true) ⊎ ((op.clear ≡ false) × ((k : List ℕ) → map.contains_key op.remove k ≡ true → has_key noted name k ≡ true))
        → value_at objects name k ≡ value_at (written objects name op) name k
    here k out (inl has) =
        let none : value_at objects name k ≡ None = none_of (value_at objects name k) (λ some. true≢false (sym (has k some) ∙ out)) in
        none ∙ sym (value_written objects name op k ∙ gone_still (map.contains_key op.remove k) op.clear _ k (map.get op.set k) (unset k out) (old_value objects name k ∙ none))
    here k out (inr kept) =
        sym (old_value objects name k)
        ∙ (same_still (map.contains_key op.remove k) op.clear _ k (map.get op.set k) (is_false (map.contains_key op.remove k) (λ some. true≢false (sym (kept.1 k some) ∙ out))) kept.0 (unset k out)
        ∙ sym (value_written objects name op k))

    at : (n k : List ℕ) → has_key noted n k ≡ false → (b : Bool) → eq_by_cmp key_cmp n name ≡ b → value_at objects n k ≡ value_at (written objects name op) n k
    at n k out true e =
        let same : n ≡ name = same_name n name e in
        subst (λ m. value_at objects m k ≡ value_at (written objects name op) m k) (sym same) (here k (subst (λ m. has_key noted m k ≡ false) same out) all)
    at n k out false e = value_left objects name op n k e

-- of a call that was done
pub of_ok : {A E : Type 0} (r : Result A E) (P : Type 0) → is_err r ≡ false → OnOk r P → P
of_ok (Ok x) P done p = p
of_ok (Err e) P done p = absurd (true≢false done)

pub one_way : {A E : Type 0} (r : Result A E) (P Q : Type 0) → OnOk r P → OnErr r Q → P ⊎ Q
one_way (Ok x) P Q p q = inl p
one_way (Err e) P Q p q = inr q

pub agree_same : (objects : Objects) (noted : Noted) → AgreeBut objects objects noted
agree_same objects noted = record { headers = λ n out. refl; values = λ n k out. refl }

-- so it is where an object is removed, all of whose keys are noted
pub agree_removed : (objects : Objects) (name : List ℕ) (noted : Noted) → has_name noted name ≡ true
    → ((k : List ℕ) → is_some (value_at objects name k) ≡ true → has_key noted name k ≡ true) → AgreeBut objects (map.remove objects name) noted
agree_removed objects name noted there all = record {
  headers = λ n out. rw (map.get-remove nat_list_cmp_total, apart_name noted name n there out) refl;
  values = λ n k out. at n k out (eq_by_cmp key_cmp n name) refl;
}
  where
    at : (n k : List ℕ) → has_key noted n k ≡ false → (b : Bool) → eq_by_cmp key_cmp n name ≡ b → value_at objects n k ≡ value_at (map.remove objects name) n k
    at n k out true e =
        let same : n ≡ name = same_name n name e in
        let none : value_at objects n k ≡ None = none_of (value_at objects n k) (λ some. true≢false (sym (subst (λ m. is_some (value_at objects m k) ≡ true → has_key noted m k ≡ true) (sym same) (all k) some) ∙ out)) in
        none ∙ sym (rw (map.get-remove nat_list_cmp_total, e) refl)
    at n k out false e = rw (map.get-remove nat_list_cmp_total, e) refl

pub agree_either : (a b c : Objects) (noted : Noted) → AgreeBut a c noted → (b ≡ c) ⊎ (b ≡ a) → AgreeBut a b noted
agree_either a b c noted agree way = elim way [
  | inl is ↦ subst (λ x. AgreeBut a x noted) (sym is) agree
  | inr is ↦ subst (λ x. AgreeBut a x noted) (sym is) (agree_same a noted)
]
