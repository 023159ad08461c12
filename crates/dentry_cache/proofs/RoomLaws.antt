-- Places for several fragments: as many as are free or can become so can be kept, one after the other.
use Rattle.std.proofs.Common.{◌≡◌, ℕ, suc, ◌+◌, ◌<◌, ◌≤◌, ◌==◌, ◌⊎◌, inl, inr, Bool, true, false, cond, not, ◌&&◌, ◌||◌, List, [], ◌∷◌, length, filter, nat_lt, is_some, option_map, Option, Some, None, refl, sym, ap, subst, ◌∙◌, arith}
use Rattle.std.proofs.lemmas.Bool.Decides.{nat_tests}
use Rattle.std.proofs.lemmas.Option.{same_Some}
use Rattle.std.specs.List.{AllByRecursion, IsDistinct, list_any}
use Rattle.mds_types.specs.declared.refusals.Refusal.{Refusal}
use Rattle.mds_types.specs.declared.refusals.Refusal.TheVariants.{NoMemory, NothingToEvict}
use Rattle.cached_frag.specs.Cached.{Cached, is_clean}
use Rattle.dentry_cache.specs.Cache.{Leaf, leaf_is, is_to_stay}
use Rattle.dentry_cache.specs.CacheCalls.{CanKeep, CanNotKeep, IsRefusedAt, MayNotKeepAt, Rewrites, going_at, kept_at, unclean_at, unclean_in}
use Rattle.dentry_cache.specs.CacheMap.{AreCaches, CacheMap, at_rank, clean_in, moved_first, given_up, goes, here, last_by, less, or_this, order, rewritten, roomy, used_at, victim}
use Rattle.dentry_cache.specs.CacheSplits.{IsButPlaces}
use Rattle.dentry_cache.proofs.CountLaws.{none_last, none_passes, stays_once}
use Rattle.dentry_cache.proofs.KeptLaws.{less_apart, order_given_up, order_used, same_filter}
use Rattle.dentry_cache.proofs.LeafLaws.{flips, leaf_itself, one_leaf}
use Rattle.dentry_cache.proofs.StepLaws.{by_rewrites, get_beside, here_with_frag}

-- ---- lists of leaves

-- the last that passes is one of them
among_last : (t : Leaf → Bool) (xs : List Leaf) (x : Leaf) → last_by t xs ≡ Some x → list_any (leaf_is x) xs ≡ true
among_last t [] x is = let clash : None ≡ Some x = is in absurd cc
among_last t (y ∷ ys) x is = go (λ at. among_last t ys x at) (last_by t ys) refl (t y) is
  where
    later : (b c : Bool) → c ≡ true → (b || c) ≡ true
    later true c is = refl
    later false c is = is

    go : (last_by t ys ≡ Some x → list_any (leaf_is x) ys ≡ true) → (o : Option Leaf) → last_by t ys ≡ o → (b : Bool) → or_this o (cond b (Some y) None) ≡ Some x → (leaf_is x y || list_any (leaf_is x) ys) ≡ true
    go rest (Some z) seen b is = later (leaf_is x y) (list_any (leaf_is x) ys) (rest (seen ∙ is))
    go rest None seen true is = ap (λ (b : Bool). b || list_any (leaf_is x) ys) (ap (λ (l : Leaf). leaf_is x l) (same_Some y x is) ∙ leaf_itself x)
    go rest None seen false is = let clash : None ≡ Some x = is in absurd cc

-- one of them less
one_less : (leaf : Leaf) (xs : List Leaf) → list_any (leaf_is leaf) xs ≡ true → suc (length (less leaf xs)) ≤ length xs
one_less leaf [] among = let clash : false ≡ true = among in absurd cc
one_less leaf (x ∷ xs) among = go (leaf_is leaf x) among (λ rest. one_less leaf xs rest)
  where
    go : (b : Bool) → (b || list_any (leaf_is leaf) xs) ≡ true → (list_any (leaf_is leaf) xs ≡ true → suc (length (less leaf xs)) ≤ length xs) → suc (length (cond b xs (x ∷ less leaf xs))) ≤ suc (length xs)
    go true among rest = omega arith
    go false among rest = let le = rest among in omega (arith, le)

few_less : (leaf : Leaf) (xs : List Leaf) → length (less leaf xs) ≤ length xs
few_less leaf [] = omega arith
few_less leaf (x ∷ xs) = go (leaf_is leaf x) (few_less leaf xs)
  where
    go : (b : Bool) → length (less leaf xs) ≤ length xs → length (cond b xs (x ∷ less leaf xs)) ≤ suc (length xs)
    go true le = omega arith
    go false le = omega (arith, le)

abbrev one_if : Bool → ℕ
one_if true = 1
one_if false = 0

-- what a test counts of one more
passing : (p : Leaf → Bool) (x : Leaf) (xs : List Leaf) → length (filter p (x ∷ xs)) ≡ one_if (p x) + length (filter p xs)
passing p x xs = go (p x)
  where
    go : (b : Bool) → length (cond b (x ∷ filter p xs) (filter p xs)) ≡ one_if b + length (filter p xs)
    go true = omega arith
    go false = omega arith

at_most_one : (b : Bool) → one_if b ≤ 1
at_most_one true = omega arith
at_most_one false = omega arith

-- without one of them, all pass but it, if it did
filter_left : (p : Leaf → Bool) (leaf : Leaf) (xs : List Leaf) → length (filter p xs) ≤ one_if (p leaf) + length (filter p (less leaf xs))
filter_left p leaf [] = omega arith
filter_left p leaf (x ∷ xs) = go (leaf_is leaf x) refl (filter_left p leaf xs)
  where
    go : (b : Bool) → leaf_is leaf x ≡ b → length (filter p xs) ≤ one_if (p leaf) + length (filter p (less leaf xs)) → length (filter p (x ∷ xs)) ≤ one_if (p leaf) + length (filter p (cond b xs (x ∷ less leaf xs)))
    go true one le =
        let here : length (filter p (x ∷ xs)) ≡ one_if (p x) + length (filter p xs) = passing p x xs in
        let same : one_if (p x) ≡ one_if (p leaf) = ap (λ (l : Leaf). one_if (p l)) (sym (one_leaf leaf x one)) in
        omega (arith, here, same)
    go false one le =
        let here : length (filter p (x ∷ xs)) ≡ one_if (p x) + length (filter p xs) = passing p x xs in
        let there : length (filter p (x ∷ less leaf xs)) ≡ one_if (p x) + length (filter p (less leaf xs)) = passing p x (less leaf xs) in
        omega (arith, here, there, le)

-- each passes one of four tests
four : (g t u v : Leaf → Bool) (xs : List Leaf) → ((x : Leaf) → (g x ≡ true) ⊎ (t x ≡ true) ⊎ (u x ≡ true) ⊎ (v x ≡ true))
    → length xs ≤ length (filter g xs) + length (filter t xs) + length (filter u xs) + length (filter v xs)
four g t u v [] each = omega arith
four g t u v (x ∷ xs) each =
    let in_g : length (filter g (x ∷ xs)) ≡ one_if (g x) + length (filter g xs) = passing g x xs in
    let in_t : length (filter t (x ∷ xs)) ≡ one_if (t x) + length (filter t xs) = passing t x xs in
    let in_u : length (filter u (x ∷ xs)) ≡ one_if (u x) + length (filter u xs) = passing u x xs in
    let in_v : length (filter v (x ∷ xs)) ≡ one_if (v x) + length (filter v xs) = passing v x xs in
    let rest : length xs ≤ length (filter g xs) + length (filter t xs) + length (filter u xs) + length (filter v xs) = four g t u v xs each in
    let some : 1 ≤ one_if (g x) + one_if (t x) + one_if (u x) + one_if (v x) = one (each x) in
    omega (arith, in_g, in_t, in_u, in_v, rest, some)
  where
    one : (g x ≡ true) ⊎ (t x ≡ true) ⊎ (u x ≡ true) ⊎ (v x ≡ true) → 1 ≤ one_if (g x) + one_if (t x) + one_if (u x) + one_if (v x)
    one (inl is) = let it : one_if (g x) ≡ 1 = ap (λ (b : Bool). one_if b) is in omega (arith, it)
    one (inr (inl is)) = let it : one_if (t x) ≡ 1 = ap (λ (b : Bool). one_if b) is in omega (arith, it)
    one (inr (inr (inl is))) = let it : one_if (u x) ≡ 1 = ap (λ (b : Bool). one_if b) is in omega (arith, it)
    one (inr (inr (inr is))) = let it : one_if (v x) ≡ 1 = ap (λ (b : Bool). one_if b) is in omega (arith, it)

-- ---- at a rank

-- so many places were kept of those that are to be
abbrev pub CanKeepOn : ℕ → ℕ → CacheMap → ℕ → Option Leaf → Type 0
CanKeepOn n count c r stay = length (order c r) + count ≤ c.cap + length (going_at c r stay) + n

pub first_can : (count : ℕ) (c : CacheMap) (r : ℕ) (stay : Option Leaf) → CanKeep count c r stay → CanKeepOn 0 count c r stay
first_can count c r stay can = omega (arith, can)

module _ (c : CacheMap) (r : ℕ) (stay : Option Leaf) (there : r < length c.used) (n count : ℕ) (can : CanKeepOn n count c r stay) where
  -- a place is free for one more, or can become so
  pub some_room : n < count → roomy c r stay ≡ None → ⊥
  some_room more full = go (nat_lt (length (order c r)) c.cap) refl (victim c r stay) refl full
    where
      go : (b : Bool) → nat_lt (length (order c r)) c.cap ≡ b → (v : Option Leaf) → victim c r stay ≡ v → cond b (Some c) (option_map (given_up c r) v) ≡ None → ⊥
      go true lt v seen is = let clash : Some c ≡ None = is in absurd cc
      go false lt (Some v) seen is = let clash : Some (given_up c r v) ≡ None = is in absurd cc
      go false lt None seen is =
          let taken : c.cap ≤ length (order c r) = grind (arith, nat_tests, lt) in
          let none : length (going_at c r stay) ≡ 0 = none_passes (goes c r stay) (order c r) (none_last (goes c r stay) (order c r) seen) in
          absurd (omega (arith, taken, none, more, can))

  -- where one became free, no fewer are left
  pub room_left : IsDistinct leaf_is (order c r) → (mid : CacheMap) → roomy c r stay ≡ Some mid → CanKeepOn n count mid r stay
  room_left distinct mid is = go (nat_lt (length (order c r)) c.cap) (victim c r stay) refl is
    where
      one : (v : Leaf) → victim c r stay ≡ Some v → CanKeepOn n count (given_up c r v) r stay
      one v seen =
          let fewer : suc (length (less v (order c r))) ≤ length (order c r) = one_less v (order c r) (among_last (goes c r stay) (order c r) v seen) in
          let size : length (order (given_up c r v) r) ≡ length (less v (order c r)) = ap (λ (xs : List Leaf). length xs) (order_given_up c r there v) in
          let same : going_at (given_up c r v) r stay ≡ filter (goes c r stay) (less v (order c r)) =
          ap (filter (goes (given_up c r v) r stay)) (order_given_up c r there v) ∙ same_filter (goes (given_up c r v) r stay) (goes c r stay) (less v (order c r)) (each (less v (order c r)) (less_apart v (order c r) distinct)) in
          let going : length (going_at (given_up c r v) r stay) ≡ length (filter (goes c r stay) (less v (order c r))) = ap (λ (xs : List Leaf). length xs) same in
          let left : length (going_at c r stay) ≤ one_if (goes c r stay v) + length (filter (goes c r stay) (less v (order c r))) = filter_left (goes c r stay) v (order c r) in
          let most = at_most_one (goes c r stay v) in
          omega (arith, fewer, size, going, left, most, can)
        where
          each : (xs : List Leaf) → AllByRecursion (λ (x : Leaf). leaf_is v x ≡ false) xs → AllByRecursion (λ (x : Leaf). goes (given_up c r v) r stay x ≡ goes c r stay x) xs
          each [] apart = tt
          each (x ∷ xs) apart = (ap (λ o. clean_in (at_rank r o) && not (is_to_stay stay x)) (get_beside c r v x (flips x v ∙ apart.0)), each xs apart.1)

      go : (b : Bool) (v : Option Leaf) → victim c r stay ≡ v → cond b (Some c) (option_map (given_up c r) v) ≡ Some mid → CanKeepOn n count mid r stay
      go true v seen is = subst (λ (k : CacheMap). CanKeepOn n count k r stay) (same_Some c mid is) can
      go false None seen is = let clash : None ≡ Some mid = is in absurd cc
      go false (Some v) seen is = subst (λ (k : CacheMap). CanKeepOn n count k r stay) (same_Some (given_up c r v) mid is) (one v seen)

  -- where one is kept, one less is to be
  pub kept_left : (leaf : Leaf) → CanKeepOn (suc n) count (used_at c r leaf) r stay
  kept_left leaf =
      let few = few_less leaf (order c r) in
      let size : length (order (used_at c r leaf) r) ≡ suc (length (less leaf (order c r))) = ap (λ (xs : List Leaf). length xs) (order_used c r there leaf) in
      let going : length (going_at (used_at c r leaf) r stay) ≡ length (filter (goes c r stay) (moved_first leaf (order c r))) = ap (λ (xs : List Leaf). length (filter (goes c r stay) xs)) (order_used c r there leaf) in
      let front : length (filter (goes c r stay) (moved_first leaf (order c r))) ≡ one_if (goes c r stay leaf) + length (filter (goes c r stay) (less leaf (order c r))) = passing (goes c r stay) leaf (less leaf (order c r)) in
      let left : length (going_at c r stay) ≤ one_if (goes c r stay leaf) + length (filter (goes c r stay) (less leaf (order c r))) = filter_left (goes c r stay) leaf (order c r) in
      omega (arith, few, size, going, front, left, can)

-- so a refusal is want of memory, and comes once a place is free
pub only_memory : (c : CacheMap) (r : ℕ) (stay : Option Leaf) → r < length c.used → (n count : ℕ) → CanKeepOn n count c r stay → n < count → (reason : Refusal) → MayNotKeepAt r stay c reason → reason ≡ NoMemory
only_memory c r stay there n count can more reason (inl memory) = memory
only_memory c r stay there n count can more reason (inr full) = absurd (some_room c r stay there n count can more full.1)

pub refused_room : (r : ℕ) (stay : Option Leaf) (old new : CacheMap) (reason : Refusal) → reason ≡ NoMemory → IsRefusedAt r stay old new reason → roomy old r stay ≡ Some new
refused_room r stay old new reason memory (inl none) = let clash : NoMemory ≡ NothingToEvict = sym memory ∙ none.0 in absurd cc
refused_room r stay old new reason memory (inr after) = after.1

-- the fragment that stays has other room
pub edit_can : (r : ℕ) (leaf : Leaf) (old mid : CacheMap) → Rewrites IsButPlaces r leaf old mid → (count : ℕ) → CanKeep count old r (Some leaf) → CanKeep count mid r (Some leaf)
edit_can r leaf old mid e count can = by_rewrites r leaf IsButPlaces old mid e (λ (k : CacheMap). CanKeep count k r (Some leaf)) (λ f now seen same. so now)
  where
    so : (now : Cached) → CanKeep count (rewritten old r leaf now) r (Some leaf)
    so now =
        let alike : length (going_at (rewritten old r leaf now) r (Some leaf)) ≡ length (going_at old r (Some leaf)) =
        ap (λ (xs : List Leaf). length xs) (same_filter (goes (rewritten old r leaf now) r (Some leaf)) (goes old r (Some leaf)) (order old r) (each (order old r))) in
        omega (arith, alike, can)
      where
        none_goes : (a b : Bool) → (a && not true) ≡ (b && not true)
        none_goes true true = refl
        none_goes true false = refl
        none_goes false true = refl
        none_goes false false = refl

        on : (x : Leaf) (b : Bool) → leaf_is x leaf ≡ b → (clean_in (cond b (cond (r == r) (Some now) None) (here old r x)) && not (leaf_is leaf x)) ≡ (clean_in (here old r x) && not (leaf_is leaf x))
        on x false apart = refl
        on x true one =
            let it : leaf_is leaf x ≡ true = flips leaf x ∙ one in
            ap (λ (b : Bool). clean_in (cond (r == r) (Some now) None) && not b) it ∙ none_goes (clean_in (cond (r == r) (Some now) None)) (clean_in (here old r x)) ∙ ap (λ (b : Bool). clean_in (here old r x) && not b) (sym it)

        each : (xs : List Leaf) → AllByRecursion (λ (x : Leaf). goes (rewritten old r leaf now) r (Some leaf) x ≡ goes old r (Some leaf) x) xs
        each [] = tt
        each (x ∷ xs) = (ap (λ (o : Option Cached). clean_in o && not (leaf_is leaf x)) (here_with_frag old r leaf now r x) ∙ on x (leaf_is x leaf) refl, each xs)

-- where fewer can, each place but so many is that of a fragment that isn't clean, or kept, or that of the one that stays
pub lacks_all : (count : ℕ) (c : CacheMap) (r : ℕ) (leaf : Leaf) → AreCaches c → CanNotKeep count c r (Some leaf) → c.cap < length (unclean_at c r) + length (kept_at c r) + count + 1
lacks_all count c r leaf valid lacks =
    let all = four (goes c r (Some leaf)) (λ (x : Leaf). unclean_in (here c r x)) (λ (x : Leaf). not (is_some (here c r x))) (is_to_stay (Some leaf)) (order c r) (λ x. on (here c r x) (leaf_is leaf x)) in
    let once = stays_once (Some leaf) (order c r) (valid.distinct r) in
    omega (arith, lacks, all, once)
  where
    clean : (b s : Bool) → ((b && not s) ≡ true) ⊎ (not b ≡ true) ⊎ (false ≡ true) ⊎ (s ≡ true)
    clean true true = inr (inr (inr refl))
    clean true false = inl refl
    clean false s = inr (inl refl)

    on : (o : Option Cached) (s : Bool) → ((clean_in o && not s) ≡ true) ⊎ (unclean_in o ≡ true) ⊎ (not (is_some o) ≡ true) ⊎ (s ≡ true)
    on (Some f) s = clean (is_clean f) s
    on None s = inr (inr (inl refl))
