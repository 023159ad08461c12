-- Caches with no place taken.
use Rattle.dentry_cache.proofs.Common.{AreAtOneRank, Held, IsCache, Leaf, List, None, [], ap, arith, at_rank, cache_map, found, frag_at, get-empty, get_or, held_of, leaf_cmp, length, lru_cache, no_cache, no_caches, orders, refl, replicate, same_map, subst, suc, sym, zero, ℕ, ◌<◌, ◌∙◌, ◌∷◌, ◌≡◌, ◌≤◌}
use Rattle.std.specs.FinMap as finmap
use Rattle.dentry_cache.proofs.MapLaws.{get_held}
use Rattle.dentry_cache.proofs.OneCache.{none_distinct}
use Rattle.dentry_cache.proofs.LeafLaws.{leaf-exact, leaf-total}

-- CacheMap with no place taken.

abbrev pub empties : ℕ → ℕ → List Held
empties n places = replicate n (lru_cache [] places)

found_none : (n k places : ℕ) (q : Leaf) → found k (empties n places) q ≡ None
found_none zero k places q = refl
found_none (suc n) k places q = found_none n (suc k) places q

none_at : (n r places : ℕ) (q : Leaf) → frag_at (empties n places) r q ≡ None
none_at zero r places q = refl
none_at (suc n) zero places q = refl
none_at (suc n) (suc r) places q = none_at n r places q

cap_at : (n r places : ℕ) → r < length (empties n places) → (get_or (empties n places) r no_cache).cap ≡ places
cap_at zero r places lt = absurd (omega (arith, lt))
cap_at (suc n) zero places lt = refl
cap_at (suc n) (suc r) places lt = cap_at n r places (omega (arith, lt))

valid_at : (n r places : ℕ) → r < length (empties n places) → IsCache (get_or (empties n places) r no_cache)
valid_at zero r places lt = absurd (omega (arith, lt))
valid_at (suc n) zero places lt = record { distinct = none_distinct; fits = omega arith }
valid_at (suc n) (suc r) places lt = valid_at n r places (omega (arith, lt))

no_orders : (n places : ℕ) → orders (empties n places) ≡ replicate n []
no_orders zero places = refl
no_orders (suc n) places = ap (λ (xs : List (List Leaf)). [] ∷ xs) (no_orders n places)

pub new_sound : (n places : ℕ) (cs : List Held) → places ≤ 65536 → cs ≡ empties n places → AreAtOneRank places cs
new_sound n places cs most is = subst (AreAtOneRank places) (sym is) (record {
  most = most;
  one = λ r q. none_at n r places q ∙ sym (ap (at_rank r) (found_none n 0 places q));
  each = λ r lt. cap_at n r places lt;
  valid = λ r lt. valid_at n r places lt;
})

pub new_is : (n places : ℕ) (cs : List Held) → cs ≡ empties n places → cache_map cs places ≡ no_caches n places
new_is n places cs is = ap (λ (xs : List Held). cache_map xs places) is ∙ (λ i. record { held = none i; used = no_orders n places i; cap = places })
  where
    none : held_of (empties n places) ≡ finmap.empty
    none = same_map leaf-total leaf-exact _ _ (λ q. get_held (empties n places) q ∙ found_none n 0 places q ∙ sym (get-empty leaf_cmp q))
