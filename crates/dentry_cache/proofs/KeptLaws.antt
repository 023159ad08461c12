-- Places that are kept one after the other, and given up again.
use Rattle.std.proofs.Common.{◌≡◌, ℕ, ◌<◌, Bool, true, false, cond, not, ◌&&◌, ◌||◌, List, [], ◌∷◌, length, filter, Option, Some, None, refl, sym, ap, subst, ◌∙◌, get_or-set_same}
use Rattle.std.specs.List.{AllByRecursion, IsDistinct, list_any}
use Rattle.std.specs.FinMap as finmap
use Rattle.std.proofs.lemmas.Map.Keys.{IsDistinct-cons, IsDistinct-head, IsDistinct-tail}
use Rattle.cached_frag.specs.Cached.{Cached}
use Rattle.dentry_cache.specs.Cache.{Leaf, leaf_is, is_to_stay}
use Rattle.dentry_cache.specs.CacheCalls.{IsAbsent}
use Rattle.dentry_cache.specs.CacheMap.{At, CacheMap, at_rank, clean_in, moved_first, given_up, goes, has_place, here, less, order, roomy, used_at}
use Rattle.dentry_cache.specs.CacheSplits.{IsKeptFor}
use Rattle.dentry_cache.proofs.CameLaws.{absent_roomy}
use Rattle.dentry_cache.proofs.StepLaws.{any_less, by_room, get_beside}
use Rattle.dentry_cache.proofs.LeafLaws.{flips, leaf_itself, one_leaf}

-- ---- lists of leaves

pub less_apart : (leaf : Leaf) (xs : List Leaf) → IsDistinct leaf_is xs → AllByRecursion (λ (x : Leaf). leaf_is leaf x ≡ false) (less leaf xs)
less_apart leaf [] distinct = tt
less_apart leaf (x ∷ xs) distinct = go (leaf_is leaf x) refl (less_apart leaf xs (IsDistinct-tail leaf_is x xs distinct))
  where
    others : (ys : List Leaf) → AllByRecursion (λ (y : Leaf). leaf_is x y ≡ false) ys → leaf_is leaf x ≡ true → AllByRecursion (λ (y : Leaf). leaf_is leaf y ≡ false) ys
    others [] apart same = tt
    others (y ∷ ys) apart same = (ap (λ (l : Leaf). leaf_is l y) (one_leaf leaf x same) ∙ apart.0, others ys apart.1 same)

    go : (b : Bool) → leaf_is leaf x ≡ b → AllByRecursion (λ (x : Leaf). leaf_is leaf x ≡ false) (less leaf xs) → AllByRecursion (λ (x : Leaf). leaf_is leaf x ≡ false) (cond b xs (x ∷ less leaf xs))
    go true same rest = others xs (IsDistinct-head leaf_is x xs distinct) same
    go false apart rest = (apart, rest)

all_less : (P : Leaf → Type 0) (leaf : Leaf) (xs : List Leaf) → AllByRecursion P xs → AllByRecursion P (less leaf xs)
all_less P leaf [] all = tt
all_less P leaf (x ∷ xs) all = go (leaf_is leaf x) (all_less P leaf xs all.1)
  where
    go : (b : Bool) → AllByRecursion P (less leaf xs) → AllByRecursion P (cond b xs (x ∷ less leaf xs))
    go true rest = all.1
    go false rest = (all.0, rest)

pub less_distinct : (leaf : Leaf) (xs : List Leaf) → IsDistinct leaf_is xs → IsDistinct leaf_is (less leaf xs)
less_distinct leaf [] distinct = distinct
less_distinct leaf (x ∷ xs) distinct = go (leaf_is leaf x) (less_distinct leaf xs (IsDistinct-tail leaf_is x xs distinct))
  where
    go : (b : Bool) → IsDistinct leaf_is (less leaf xs) → IsDistinct leaf_is (cond b xs (x ∷ less leaf xs))
    go true rest = IsDistinct-tail leaf_is x xs distinct
    go false rest = IsDistinct-cons leaf_is x (less leaf xs) (all_less (λ (y : Leaf). leaf_is x y ≡ false) leaf xs (IsDistinct-head leaf_is x xs distinct)) rest

pub first_distinct : (leaf : Leaf) (xs : List Leaf) → IsDistinct leaf_is xs → IsDistinct leaf_is (moved_first leaf xs)
first_distinct leaf xs distinct = IsDistinct-cons leaf_is leaf (less leaf xs) (less_apart leaf xs distinct) (less_distinct leaf xs distinct)

pub same_filter : (p q : Leaf → Bool) (xs : List Leaf) → AllByRecursion (λ (x : Leaf). p x ≡ q x) xs → filter p xs ≡ filter q xs
same_filter p q [] all = refl
same_filter p q (x ∷ xs) all = ap (λ (b : Bool). cond b (x ∷ filter p xs) (filter p xs)) all.0 ∙ ap (λ (rest : List Leaf). cond (q x) (x ∷ rest) rest) (same_filter p q xs all.1)

none_less : (q leaf : Leaf) (xs : List Leaf) → list_any (leaf_is q) xs ≡ false → list_any (leaf_is q) (less leaf xs) ≡ false
none_less q leaf [] none = refl
none_less q leaf (x ∷ xs) none = go (leaf_is q x) refl none (leaf_is leaf x) (λ rest. none_less q leaf xs rest)
  where
    go : (a : Bool) → leaf_is q x ≡ a → (a || list_any (leaf_is q) xs) ≡ false → (b : Bool) → (list_any (leaf_is q) xs ≡ false → list_any (leaf_is q) (less leaf xs) ≡ false) → list_any (leaf_is q) (cond b xs (x ∷ less leaf xs)) ≡ false
    go true seen none b rest = let clash : true ≡ false = none in absurd cc
    go false seen none true rest = none
    go false seen none false rest = ap (λ (a : Bool). a || list_any (leaf_is q) (less leaf xs)) seen ∙ rest none

-- ---- one step at a rank

module _ (c : CacheMap) (r : ℕ) (there : r < length c.used) where
  pub order_used : (leaf : Leaf) → order (used_at c r leaf) r ≡ moved_first leaf (order c r)
  order_used leaf = get_or-set_same c.used r (moved_first leaf (order c r)) [] there

  pub order_given_up : (leaf : Leaf) → order (given_up c r leaf) r ≡ less leaf (order c r)
  order_given_up leaf = get_or-set_same c.used r (less leaf (order c r)) [] there

here_given_up : (c : CacheMap) (r : ℕ) (v q : Leaf) → leaf_is v q ≡ false → here (given_up c r v) r q ≡ here c r q
here_given_up c r v q apart = ap (at_rank r) (get_beside c r v q (flips q v ∙ apart))

-- ---- how many places of a rank have what passes a test

abbrev pub counted : (Option Cached → Bool) → CacheMap → ℕ → ℕ
counted P c r = length (filter (λ (leaf : Leaf). P (here c r leaf)) (order c r))

-- ---- what a free place leaves

module _ (c mid : CacheMap) (r : ℕ) (stay : Option Leaf) (there : r < length c.used) (made : roomy c r stay ≡ Some mid) where
  pub roomy_distinct : IsDistinct leaf_is (order c r) → IsDistinct leaf_is (order mid r)
  roomy_distinct distinct = by_room c mid r stay made (λ (k : CacheMap). IsDistinct leaf_is (order k r)) distinct (λ v passes. subst (IsDistinct leaf_is) (sym (order_given_up c r there v)) (less_distinct v (order c r) distinct))

  pub roomy_absent : (q : Leaf) → IsAbsent c r q → IsAbsent mid r q
  roomy_absent q none = (
    by_room c mid r stay made (λ (k : CacheMap). has_place k r q ≡ false) none.0 (λ v passes. ap (list_any (leaf_is q)) (order_given_up c r there v) ∙ none_less q v (order c r) none.0),
    absent_roomy c mid r stay q made none.1,
  )

  -- what goes has a fragment, so it is none for which a place is kept
  not_kept : (q v : Leaf) → finmap.get c.held q ≡ None → goes c r stay v ≡ true → leaf_is q v ≡ false
  not_kept q v none passes = go (leaf_is q v) refl
    where
      go : (b : Bool) → leaf_is q v ≡ b → b ≡ false
      go false seen = refl
      go true seen =
          let clash : false ≡ true = ap (λ (o : Option At). clean_in (at_rank r o) && not (is_to_stay stay v)) (sym (ap (finmap.get c.held) (sym (one_leaf q v seen)) ∙ none)) ∙ passes in absurd cc

  pub roomy_kept : (q : Leaf) → IsKeptFor c r q → IsKeptFor mid r q
  roomy_kept q kept = (
    by_room c mid r stay made (λ (k : CacheMap). has_place k r q ≡ true) kept.0
        (λ v passes. ap (list_any (leaf_is q)) (order_given_up c r there v) ∙ any_less q v (order c r) (not_kept q v kept.1 passes) ∙ kept.0),
    absent_roomy c mid r stay q made kept.1,
  )

-- the one to stay is where it was, as it was
pub roomy_stays : (c mid : CacheMap) (r : ℕ) (one : Leaf) → r < length c.used → roomy c r (Some one) ≡ Some mid → finmap.get mid.held one ≡ finmap.get c.held one
roomy_stays c mid r one there made =
    by_room c mid r (Some one) made (λ (k : CacheMap). finmap.get k.held one ≡ finmap.get c.held one) refl (λ v passes. get_beside c r v one (apart v (clean_in (here c r v)) (leaf_is one v) refl passes))
  where
    apart : (v : Leaf) (a b : Bool) → leaf_is one v ≡ b → (a && not b) ≡ true → leaf_is one v ≡ false
    apart v a false seen passes = seen
    apart v true true seen passes = let clash : false ≡ true = passes in absurd cc
    apart v false true seen passes = let clash : false ≡ true = passes in absurd cc

-- ---- a place that is used or kept

pub used_kept : (c : CacheMap) (r : ℕ) (leaf q : Leaf) → r < length c.used → IsKeptFor c r q → IsKeptFor (used_at c r leaf) r q
used_kept c r leaf q there kept = (ap (list_any (leaf_is q)) (order_used c r there leaf) ∙ go (leaf_is q leaf) refl, kept.1)
  where
    go : (b : Bool) → leaf_is q leaf ≡ b → (b || list_any (leaf_is q) (less leaf (order c r))) ≡ true
    go true same = refl
    go false apart = any_less q leaf (order c r) apart ∙ kept.0

pub just_kept : (c : CacheMap) (r : ℕ) (leaf : Leaf) → r < length c.used → finmap.get c.held leaf ≡ None → IsKeptFor (used_at c r leaf) r leaf
just_kept c r leaf there none = (ap (list_any (leaf_is leaf)) (order_used c r there leaf) ∙ ap (λ (b : Bool). b || list_any (leaf_is leaf) (less leaf (order c r))) (leaf_itself leaf), none)

pub used_absent : (c : CacheMap) (r : ℕ) (leaf q : Leaf) → r < length c.used → leaf_is q leaf ≡ false → IsAbsent c r q → IsAbsent (used_at c r leaf) r q
used_absent c r leaf q there apart none = (
  ap (list_any (leaf_is q)) (order_used c r there leaf) ∙ ap (λ (b : Bool). b || list_any (leaf_is q) (less leaf (order c r))) apart ∙ none_less q leaf (order c r) none.0,
  none.1,
)
