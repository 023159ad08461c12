-- Members of lists, and the pairs of an ordered list by their keys.
use Rattle.std.specs.Prelude.{◌≡◌, ◌⊎◌, Bool, true, false, cond, T, List, [], ◌∷◌, ◌++◌, is_some, Option, Some, None, refl}
use Rattle.std.proofs.Common.{sym, ap, ◌∙◌, inl, inr, subst}
use Rattle.std.proofs.lemmas.Option.{same_Some}
use Rattle.std.specs.declared.cmp.Ordering.{Ordering}
use Rattle.std.specs.declared.cmp.Ordering.TheVariants.{Less, Equal}
use Rattle.std.specs.Ordering.{is_eq, eq_by_cmp}
use Rattle.std.specs.Cmp.{IsTotalOrder, tied_itself}
use Rattle.std.specs.FinMap as map
use Rattle.std.specs.FinMap.{IsAntisymmetric, find, is_sorted, entries_sorted, get-empty, get-entries, get-insert}
use Rattle.std.specs.FinMap.Entries.{below_all}
use Rattle.sorted_map.proofs.Bools.{left_of, right_of}
use Rattle.sorted_map.proofs.MapLaws.{tie}
use Rattle.sorted_map.proofs.PlaceLaws.{less}
use Rattle.mds_types.proofs.EntrySearch.{found_behind}
use Rattle.cold_store.specs.Rows.{IsIn}

module _ {X : Type 0} where
  pub in_left : (x : X) (a b : List X) → IsIn x a → IsIn x (a ++ b)
  in_left x [] b h = absurd h
  in_left x (y ∷ a) b (inl same) = inl same
  in_left x (y ∷ a) b (inr rest) = inr (in_left x a b rest)

  pub in_right : (x : X) (a b : List X) → IsIn x b → IsIn x (a ++ b)
  in_right x [] b h = h
  in_right x (y ∷ a) b h = inr (in_right x a b h)

  pub in_either : (x : X) (a b : List X) → IsIn x (a ++ b) → IsIn x a ⊎ IsIn x b
  in_either x [] b h = inr h
  in_either x (y ∷ a) b (inl same) = inl (inl same)
  in_either x (y ∷ a) b (inr rest) = go (in_either x a b rest)
    where
      go : IsIn x a ⊎ IsIn x b → IsIn x (y ∷ a) ⊎ IsIn x b
      go (inl h) = inl (inr h)
      go (inr h) = inr h

  -- no two of a list are the same
  abbrev pub AreApart : List X → Type 0
  AreApart [] = Unit {0}
  AreApart (x ∷ xs) = (IsIn x xs → ⊥) × AreApart xs

  -- what stands behind isn't among what stands before
  pub apart_split : (a : List X) (x : X) (b : List X) → AreApart (a ++ x ∷ b) → IsIn x a → ⊥
  apart_split [] x b apart h = h
  apart_split (y ∷ a) x b apart (inl same) = apart.0 (subst (λ z. IsIn z (a ++ x ∷ b)) (sym same) (in_right x a (x ∷ b) (inl refl)))
  apart_split (y ∷ a) x b apart (inr rest) = apart_split a x b apart.1 rest

-- what is there
pub value_of : {X : Type 0} (o : Option X) → is_some o ≡ true → (x : X) × (o ≡ Some x)
value_of None some = absurd cc
value_of (Some x) some = (x, refl)

module _ {K X : Type 0} {R : K → K → Ordering} (o : IsTotalOrder R) where
  -- a key that is there is there still once another has a value
  pub some_stays : (m : map.FinMap R X) (k : K) (v : X) (q : K) → is_some (map.get m q) ≡ true → is_some (map.get (map.insert m k v) q) ≡ true
  some_stays m k v q some = ap is_some (get-insert o m k v q) ∙ go (eq_by_cmp R q k)
    where
      go : (b : Bool) → is_some (cond b (Some v) (map.get m q)) ≡ true
      go true = refl
      go false = some

  -- a key that is below all of a list isn't among its keys
  pub below_apart : (k : K) (es : List (K × X)) (e : K × X) → T (below_all R k es) → IsIn e es → e.0 ≡ k → ⊥
  below_apart k [] e below h same = h
  below_apart k (f ∷ es) e below (inl here) same =
      let lower : R k f.0 ≡ Less = less (R k f.0) (left_of _ _ below) in
      let level : R k f.0 ≡ Equal = ap (R k) (ap (λ (p : K × X). p.0) here ∙ same) ∙ tied_itself o k in
      let clash : Less ≡ Equal = sym lower ∙ level in
      absurd cc
  below_apart k (f ∷ es) e below (inr rest) same = below_apart k es e (right_of _ _ below) rest same

  -- a pair of an ordered list is found at its key
  pub pair_found : (es : List (K × X)) (e : K × X) → T (is_sorted R es) → IsIn e es → find R e.0 es ≡ Some e.1
  pair_found [] e sorted h = absurd h
  pair_found (f ∷ es) e sorted (inl here) = subst (λ (x : K × X). find R x.0 (f ∷ es) ≡ Some x.1) here (ap (λ r. cond (is_eq r) (Some f.1) (find R f.0 es)) (tied_itself o f.0))
  pair_found (f ∷ es) e sorted (inr rest) = found_behind o f e es (eq_by_cmp R e.0 f.0) refl (left_of _ _ sorted) (pair_found es e (right_of _ _ sorted) rest)

  pub get_entry : (m : map.FinMap R X) (e : K × X) → IsIn e (map.entries m) → map.get m e.0 ≡ Some e.1
  get_entry m e h = get-entries m e.0 ∙ pair_found (map.entries m) e (entries_sorted m) h

module _ {K X : Type 0} {R : K → K → Ordering} (exact : IsAntisymmetric R) where
  -- what is found is a pair of the list
  pub found_pair : (es : List (K × X)) (k : K) (v : X) → find R k es ≡ Some v → IsIn (k, v) es
  found_pair [] k v found = absurd cc
  found_pair (e ∷ es) k v found = go (eq_by_cmp R k e.0) refl found (found_pair es k v)
    where
      go : (b : Bool) → eq_by_cmp R k e.0 ≡ b → cond b (Some e.1) (find R k es) ≡ Some v → (find R k es ≡ Some v → IsIn (k, v) es) → IsIn (k, v) (e ∷ es)
      go true tied found more =
          let key : k ≡ e.0 = exact k e.0 (tie (R k e.0) tied) in
          let value : e.1 ≡ v = same_Some e.1 v found in
          inl (λ i. (sym key i, value i))
      go false apart found more = inr (more found)

  pub entry_of : (m : map.FinMap R X) (k : K) (v : X) → map.get m k ≡ Some v → IsIn (k, v) (map.entries m)
  entry_of m k v stands = found_pair (map.entries m) k v (sym (get-entries m k) ∙ stands)

-- nothing is there in an empty map
pub in_empty : {K X P : Type 0} (R : K → K → Ordering) (k : K) (v : X) → map.get (map.empty {X = X} {R = R}) k ≡ Some v → P
in_empty R k v is = let clash : None ≡ Some v = sym (get-empty R k) ∙ is in absurd cc
