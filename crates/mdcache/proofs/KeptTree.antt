-- What each step of a flush keeps.
use Rattle.mdcache.proofs.Common.{At, CacheMap, Came, Core, HasFragment, IsThere, Jobs, KeepsTree, Keys, Leaf, None, NoneEnds, Objects, Option, Some, StepsKeepTree, at_rank, came_held, came_then, came_weaker, cond, cond_both, eq-eqb, eqb-true, refl, rules, shown_tree, state_of, subst, sym, ℕ, ⊎_elim, ◌==◌, ◌≡◌}
use Rattle.std.specs.FinMap as map
use Rattle.dentry_cache.specs.Came.Came.{stays as it_stays}

-- a fragment that is there is at its rank
pub there_at : (r : ℕ) (o : Option At) → IsThere (at_rank r o) → (a : At) × (o ≡ Some a) × (a.rank ≡ r)
there_at r None there = absurd there
there_at r (Some a) there = cond_both (a.rank == r) (Some a.frag) None (λ o. IsThere o → (x : At) × (Some a ≡ Some x) × (x.rank ≡ r)) (λ is it. (a, refl, eqb-true a.rank r is)) (λ off it. absurd it) there

-- a fragment that is there after such steps was there before
module _ (old mid : CacheMap) (came : Came (HasFragment old) NoneEnds old mid) where
  pub was_there : (r : ℕ) (q : Leaf) → HasFragment mid r q → HasFragment old r q
  was_there r q there =
      let its = there_at r (map.get mid.held q) there in
      ⊎_elim (λ same. subst (λ o. IsThere (at_rank r o)) (sym same) (subst (λ b. IsThere (cond b (Some its.0.frag) None)) (sym (eq-eqb its.0.rank r its.2)) tt)) (λ used. subst (λ k. HasFragment old k q) its.2 used) (came_held (HasFragment old) NoneEnds old mid came q its.0 its.1)

pub kept_itself : (c : Core) → KeepsTree c c
kept_itself c = record { limit = refl; homes = refl; covers = refl; counts = refl; pins = refl; tree = refl; generation = refl; version = refl; caches = it_stays }

pub steps_keep_tree : StepsKeepTree
steps_keep_tree old mid new first second =
    let caches : Came (HasFragment old.caches) NoneEnds old.caches new.caches = came_then (HasFragment old.caches) NoneEnds old.caches mid.caches new.caches first.caches
    (came_weaker (HasFragment mid.caches) NoneEnds (HasFragment old.caches) NoneEnds (was_there old.caches mid.caches first.caches) (λ r q ends. ends) mid.caches new.caches second.caches) in
    search rules

-- a step that leaves the caches, and of the state all but objects, jobs, purge list and the next job's number
pub keeps_tree : (old new : Core) → new.caches ≡ old.caches → (objects : Objects) (jobs : Jobs) (purge : Keys) (next : ℕ)
    → state_of new ≡ record (state_of old) { objects = objects; jobs = jobs; purge = purge; next_job = next } → shown_tree (state_of new) ≡ shown_tree (state_of old) → KeepsTree old new
keeps_tree old new caches objects jobs purge next left tree =
    let came : Came (HasFragment old.caches) NoneEnds old.caches new.caches = subst (λ c. Came (HasFragment old.caches) NoneEnds old.caches c) (sym caches) it_stays in
    search rules
