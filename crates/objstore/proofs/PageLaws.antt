-- Pages, each of the pairs after the last key of the one before, make up the whole.
use Rattle.std.specs.Prelude.{◌≡◌, ℕ, zero, suc, Bool, true, false, cond, List, [], ◌∷◌, ◌++◌, filter, take, drop, slice_get, Option, Some, None, refl}
use Rattle.std.proofs.Common.{sym, ap, subst, ◌∙◌}
use Rattle.std.proofs.lemmas.List.{take-append-drop}
use Rattle.std.specs.Ordering.{is_lt}
use Rattle.std.specs.Cmp.Lexicographic.{nat_list_cmp_total}
use Rattle.std.specs.FinMap as map
use Rattle.std.specs.FinMap.Entries.{is_sorted-where_key}
use Rattle.mds_types.specs.Step.{is_after}
use Rattle.mds_types.proofs.ListingLaws.{greater_than_row, less_is}
use Rattle.objstore.specs.Omap.{key_cmp, pairs_after, PagesMakeUpWhole}

-- a key greater than one that comes after `after` comes after it too
chained : (after : Option (List ℕ)) (x : List ℕ) → is_after after x ≡ true → (key : List ℕ) → is_lt (key_cmp x key) ≡ true → is_after after key ≡ true
chained None x past key less = refl
chained (Some a) x past key less = ap is_lt (nat_list_cmp_total.trans a x key (less_is _ past) (less_is _ less))

-- what is found in a filtered list passes the test
passes : {A : Type 0} (p : A → Bool) (es : List A) (i : ℕ) (x : A) → slice_get (filter p es) i ≡ Some x → p x ≡ true
passes p [] i x is = cc
passes {A} p (e ∷ es) i x is = go (p e) refl (λ j. passes p es j x) i is
  where
    go : (b : Bool) → p e ≡ b → ((j : ℕ) → slice_get (filter p es) j ≡ Some x → p x ≡ true) → (j : ℕ) → slice_get (cond b (e ∷ filter p es) (filter p es)) j ≡ Some x → p x ≡ true
    go true told rest zero here = let same : e ≡ x = cc in subst (λ y. p y ≡ true) same told
    go true told rest (suc j) here = rest j here
    go false told rest j here = rest j here

-- a stronger test, by itself and after a weaker one
narrowed : {A : Type 0} (p q : A → Bool) → ((x : A) → q x ≡ true → p x ≡ true) → (es : List A) → filter q es ≡ filter q (filter p es)
narrowed p q implies [] = refl
narrowed {A} p q implies (e ∷ es) = go (p e) (q e) refl refl (narrowed p q implies es)
  where
    go : (b c : Bool) → p e ≡ b → q e ≡ c → filter q es ≡ filter q (filter p es) → cond c (e ∷ filter q es) (filter q es) ≡ filter q (cond b (e ∷ filter p es) (filter p es))
    go true true s t rest = ap (λ xs. e ∷ xs) rest ∙ ap (λ c. cond c (e ∷ filter q (filter p es)) (filter q (filter p es))) (sym t)
    go true false s t rest = rest ∙ ap (λ c. cond c (e ∷ filter q (filter p es)) (filter q (filter p es))) (sym t)
    go false true s t rest = let never : false ≡ true = sym s ∙ implies e t in cc
    go false false s t rest = rest

pub pages_make_up : PagesMakeUpWhole
unfolding pairs_after
pages_make_up pairs after i pair is =
    let es = map.entries pairs in
    let here : List (List ℕ × List ℕ) = filter (λ e. is_after after e.0) es in
    let past : is_after after pair.0 ≡ true = passes (λ (e : List ℕ × List ℕ). is_after after e.0) es i pair is in
    let rest : filter (λ (e : List ℕ × List ℕ). is_lt (key_cmp pair.0 e.0)) es ≡ drop (suc i) here =
    narrowed (λ (e : List ℕ × List ℕ). is_after after e.0) (λ e. is_lt (key_cmp pair.0 e.0)) (λ e less. chained after pair.0 past e.0 less) es
    ∙ greater_than_row nat_list_cmp_total here i pair (is_sorted-where_key key_cmp (is_after after) es (map.entries_sorted pairs)) is in
    ap (λ xs. take (suc i) here ++ xs) rest ∙ take-append-drop (suc i) here
