-- What an eviction leaves: what isn't clean, and whose each fragment is.
use Rattle.ranked_tree.proofs.Common.{At, Bool, CacheMap, Came, Core, Err, IfErr, IsOwned, IsSoundCore, KeepsState, Leaf, None, NoneEnds, NothingToEvict, Ok, OnErr, OnOk, Option, Refusal, Result, Roots, Some, State, ap, arith, at_rank, came_cap, came_ranks, clean_there, cond, ends, evicted, false, faults_in, get_unclean_of, given_up, goes, here, here_given_up, keeps_itself, keeps_refused, last_passes, leaf-exact, leaf-total, leaf_is, one_leaf, option_map, order, refl, result_err, rules, same_Some, same_map, state_of, stays, subst, sym, true, unclean_of, unsaved_at, unsaved_in, victim, ℕ, ◌&&◌, ◌==◌, ◌∙◌, ◌≡◌}
use Rattle.std.specs.FinMap as map
use Rattle.ranked_tree.proofs.HeldLaws.{owned_came}

-- any leaf ends
abbrev AnyEnds : ℕ → Leaf → Type 0
AnyEnds r leaf = Unit {0}

clean_beyond : (s : ℕ) (o : Option At) → unsaved_at o ≡ None → unsaved_in (at_rank s o) ≡ None
clean_beyond s o clean = search rules

-- a clean fragment went
gone_unclean : (c : CacheMap) (r : ℕ) (v : Leaf) → goes c r None v ≡ true → (s : ℕ) → unclean_of (given_up c r v) s ≡ unclean_of c s
gone_unclean c r v passes s = same_map leaf-total leaf-exact (unclean_of (given_up c r v) s) (unclean_of c s) (λ q. get_unclean_of (given_up c r v) s q ∙ ap unsaved_in (here_given_up c r v s q) ∙ at q (leaf_is q v) refl (r == s) ∙ sym (get_unclean_of c s q))
  where
    at : (q : Leaf) (b : Bool) → leaf_is q v ≡ b → (k : Bool) → unsaved_in (cond (b && k) None (here c s q)) ≡ unsaved_in (here c s q)
    at q true one true = sym (ap (λ (l : Leaf). unsaved_in (here c s l)) (one_leaf q v one) ∙ clean_beyond s (map.get c.held v) (clean_there r (map.get c.held v) true passes))
    at q true one false = refl
    at q false beside k = refl

module _ (old new : Core) (r : ℕ) where
  by_victim : (P : CacheMap → Type 0) → ((v : Leaf) → goes old.caches r None v ≡ true → P (given_up old.caches r v)) → evicted old.caches r None ≡ Some new.caches → P new.caches
  by_victim P went gone = go (victim old.caches r None) refl gone
    where
      go : (o : Option Leaf) → victim old.caches r None ≡ o → option_map (given_up old.caches r) o ≡ Some new.caches → P new.caches
      go None at h = let clash : None ≡ Some new.caches = h in absurd cc
      go (Some v) at h = subst P (same_Some (given_up old.caches r v) new.caches h) (went v (last_passes (goes old.caches r None) (order old.caches r) v at))

  came : evicted old.caches r None ≡ Some new.caches → Came NoneEnds AnyEnds old.caches new.caches
  came = by_victim (Came NoneEnds AnyEnds old.caches) (λ v passes. ends old.caches r v stays tt)

  module _ (state : state_of new ≡ state_of old) where
    pub evict_keeps : (result : Result (Unit {0}) Refusal) → OnOk result (evicted old.caches r None ≡ Some new.caches) → OnErr result (new ≡ old) → IfErr result (λ reason. reason ≡ NothingToEvict) → new.faults ≡ old.faults → KeepsState old new (result_err result)
    evict_keeps (Ok done) went left why faults = record {
      state = state;
      unclean = by_victim (λ (k : CacheMap). (s : ℕ) → unclean_of k s ≡ unclean_of old.caches s) (λ v passes s. gone_unclean old.caches r v passes s) went;
      count = came_ranks NoneEnds AnyEnds old.caches new.caches (came went);
      cap = came_cap NoneEnds AnyEnds old.caches new.caches (came went);
      counted = omega (arith, faults);
    }
    evict_keeps (Err reason) went left why faults = subst (λ (k : Core). KeepsState old k (Some reason)) (sym left) (keeps_refused old old reason (ap faults_in why) (keeps_itself old))

    pub evict_owned : (result : Result (Unit {0}) Refusal) → OnOk result (evicted old.caches r None ≡ Some new.caches) → OnErr result (new ≡ old) → (roots : Roots) → IsSoundCore new → IsOwned old roots → IsOwned new roots
    evict_owned (Ok done) went left roots sound owned = owned_came NoneEnds AnyEnds old new (came went) sound roots (ap (λ (s : State). s.homes) state) (ap (λ (s : State). s.covers) state) (λ r q never live. absurd never) owned
    evict_owned (Err reason) went left roots sound owned = subst (λ (k : Core). IsOwned k roots) (sym left) owned
