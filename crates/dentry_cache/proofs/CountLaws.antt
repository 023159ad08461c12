-- How many places of a rank can't become free, where none is.
use Rattle.std.proofs.Common.{◌≡◌, ℕ, suc, ◌+◌, ◌≤◌, ◌⊎◌, inl, inr, Bool, true, false, cond, not, ◌&&◌, List, [], ◌∷◌, length, filter, nat_lt, is_some, option_map, Option, Some, None, refl, ap, ◌∙◌, arith}
use Rattle.std.proofs.lemmas.Bool.Decides.{nat_tests}
use Rattle.std.specs.List.{AllByRecursion, IsDistinct}
use Rattle.std.proofs.lemmas.Map.Keys.{IsDistinct-head, IsDistinct-tail}
use Rattle.cached_frag.specs.Cached.{Cached, is_clean}
use Rattle.dentry_cache.specs.Cache.{Leaf, leaf_is, is_to_stay}
use Rattle.dentry_cache.specs.CacheCalls.{kept_at, unclean_at, unclean_in}
use Rattle.dentry_cache.specs.CacheMap.{AreCaches, CacheMap, clean_in, given_up, goes, here, last_by, or_this, order, roomy, victim}
use Rattle.dentry_cache.proofs.LeafLaws.{one_leaf}

pub none_last : (p : Leaf → Bool) (xs : List Leaf) → last_by p xs ≡ None → AllByRecursion (λ (x : Leaf). p x ≡ false) xs
none_last p [] is = tt
none_last p (x ∷ xs) is = go (λ none. none_last p xs none) (last_by p xs) refl (p x) refl is
  where
    go : (last_by p xs ≡ None → AllByRecursion (λ (x : Leaf). p x ≡ false) xs) → (o : Option Leaf) → last_by p xs ≡ o → (b : Bool) → p x ≡ b → or_this o (cond b (Some x) None) ≡ None → AllByRecursion (λ (x : Leaf). p x ≡ false) (x ∷ xs)
    go rest (Some y) seen b passes is = let clash : Some y ≡ None = is in absurd cc
    go rest None seen true passes is = let clash : Some x ≡ None = is in absurd cc
    go rest None seen false passes is = (passes, rest seen)

-- each passes one of three tests
three : (t u v : Leaf → Bool) (xs : List Leaf) → AllByRecursion (λ (x : Leaf). (t x ≡ true) ⊎ (u x ≡ true) ⊎ (v x ≡ true)) xs → length xs ≤ length (filter t xs) + length (filter u xs) + length (filter v xs)
three t u v [] all = omega arith
three t u v (x ∷ xs) all = go (t x) (u x) (v x) all.0 (three t u v xs all.1)
  where
    add : Bool → List Leaf → List Leaf
    add b rest = cond b (x ∷ rest) rest

    go : (a b c : Bool) → (a ≡ true) ⊎ (b ≡ true) ⊎ (c ≡ true) → length xs ≤ length (filter t xs) + length (filter u xs) + length (filter v xs) → suc (length xs) ≤ length (add a (filter t xs)) + length (add b (filter u xs)) + length (add c (filter v xs))
    go true true true is le = omega (arith, le)
    go true true false is le = omega (arith, le)
    go true false true is le = omega (arith, le)
    go true false false is le = omega (arith, le)
    go false true true is le = omega (arith, le)
    go false true false is le = omega (arith, le)
    go false false true is le = omega (arith, le)
    go false false false (inl is) le = let clash : false ≡ true = is in absurd cc
    go false false false (inr (inl is)) le = let clash : false ≡ true = is in absurd cc
    go false false false (inr (inr is)) le = let clash : false ≡ true = is in absurd cc

-- how many leaves stay
abbrev pub staying : Option Leaf → ℕ
staying None = 0
staying (Some one) = 1

pub none_passes : (p : Leaf → Bool) (xs : List Leaf) → AllByRecursion (λ (x : Leaf). p x ≡ false) xs → length (filter p xs) ≡ 0
none_passes p [] none = refl
none_passes p (x ∷ xs) none = ap (λ (b : Bool). length (cond b (x ∷ filter p xs) (filter p xs))) none.0 ∙ none_passes p xs none.1

pub stays_once : (stay : Option Leaf) (xs : List Leaf) → IsDistinct leaf_is xs → length (filter (is_to_stay stay) xs) ≤ staying stay
stays_once None xs distinct = let none : length (filter (is_to_stay None) xs) ≡ 0 = none_passes (is_to_stay None) xs (never xs) in omega (arith, none)
  where
    never : (xs : List Leaf) → AllByRecursion (λ (x : Leaf). is_to_stay None x ≡ false) xs
    never [] = tt
    never (x ∷ xs) = (refl, never xs)
stays_once (Some one) [] distinct = omega arith
stays_once (Some one) (x ∷ xs) distinct = go (leaf_is one x) refl (stays_once (Some one) xs (IsDistinct-tail leaf_is x xs distinct))
  where
    others : (ys : List Leaf) → AllByRecursion (λ (y : Leaf). leaf_is x y ≡ false) ys → leaf_is one x ≡ true → AllByRecursion (λ (y : Leaf). leaf_is one y ≡ false) ys
    others [] apart same = tt
    others (y ∷ ys) apart same = (ap (λ (l : Leaf). leaf_is l y) (one_leaf one x same) ∙ apart.0, others ys apart.1 same)

    go : (b : Bool) → leaf_is one x ≡ b → length (filter (is_to_stay (Some one)) xs) ≤ 1 → length (cond b (x ∷ filter (is_to_stay (Some one)) xs) (filter (is_to_stay (Some one)) xs)) ≤ 1
    go true same rest =
        let none : length (filter (is_to_stay (Some one)) xs) ≡ 0 = none_passes (is_to_stay (Some one)) xs (others xs (IsDistinct-head leaf_is x xs distinct) same) in
        omega (arith, none)
    go false apart rest = rest

-- where no place of a rank is free and none can become so, each is that of a fragment that isn't clean, or kept, or that of the leaf that stays
pub full_where : (c : CacheMap) (r : ℕ) (stay : Option Leaf) → IsDistinct leaf_is (order c r) → roomy c r stay ≡ None → c.cap ≤ length (unclean_at c r) + length (kept_at c r) + staying stay
full_where c r stay distinct full = go (nat_lt (length (order c r)) c.cap) refl (victim c r stay) refl full
  where
    each : (leaf : Leaf) → goes c r stay leaf ≡ false → (unclean_in (here c r leaf) ≡ true) ⊎ (not (is_some (here c r leaf)) ≡ true) ⊎ (is_to_stay stay leaf ≡ true)
    each leaf is = on (here c r leaf) (is_to_stay stay leaf) is
      where
        clean : (f : Cached) (b s : Bool) → is_clean f ≡ b → (b && not s) ≡ false → (not (is_clean f) ≡ true) ⊎ (false ≡ true) ⊎ (s ≡ true)
        clean f true true seen is = inr (inr refl)
        clean f true false seen is = let clash : true ≡ false = is in absurd cc
        clean f false s seen is = inl (ap not seen)

        on : (o : Option Cached) (s : Bool) → (clean_in o && not s) ≡ false → (unclean_in o ≡ true) ⊎ (not (is_some o) ≡ true) ⊎ (s ≡ true)
        on (Some f) s is = clean f (is_clean f) s refl is
        on None s is = inr (inl refl)

    all : (xs : List Leaf) → AllByRecursion (λ (x : Leaf). goes c r stay x ≡ false) xs → AllByRecursion (λ (x : Leaf). (unclean_in (here c r x) ≡ true) ⊎ (not (is_some (here c r x)) ≡ true) ⊎ (is_to_stay stay x ≡ true)) xs
    all [] none = tt
    all (x ∷ xs) none = (each x none.0, all xs none.1)

    go : (b : Bool) → nat_lt (length (order c r)) c.cap ≡ b → (v : Option Leaf) → victim c r stay ≡ v → cond b (Some c) (option_map (given_up c r) v) ≡ None → c.cap ≤ length (unclean_at c r) + length (kept_at c r) + staying stay
    go true lt v seen is = let clash : Some c ≡ None = is in absurd cc
    go false lt (Some v) seen is = let clash : Some (given_up c r v) ≡ None = is in absurd cc
    go false lt None seen is =
        let taken : c.cap ≤ length (order c r) = grind (arith, nat_tests, lt) in
        let counted = three (λ (leaf : Leaf). unclean_in (here c r leaf)) (λ (leaf : Leaf). not (is_some (here c r leaf))) (is_to_stay stay) (order c r) (all (order c r) (none_last (goes c r stay) (order c r) seen)) in
        let once = stays_once stay (order c r) distinct in
        omega (arith, taken, counted, once)

pub full_counts : (c : CacheMap) (r : ℕ) (stay : Option Leaf) → AreCaches c → roomy c r stay ≡ None → c.cap ≤ length (unclean_at c r) + length (kept_at c r) + staying stay
full_counts c r stay valid full = full_where c r stay (valid.distinct r) full
