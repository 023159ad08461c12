-- What a step of an export leaves where the tree and the roots stay: whose each leaf is, and which rank holds it.
use Rattle.cluster_core.proofs.Common.{AreRoots, Core, Entry, IsSound, KeepsAuthorities, KeepsHolders, List, Opening, arith, length, suc, zero, ℕ, ◌<◌, ◌≡◌, ◌≤◌}
use Rattle.cluster_core.specs.State.{held_roots}

module _ (old new : Core) (tree : new.state.tree ≡ old.state.tree) where
  pub roots_stay : new.state.roots ≡ old.state.roots → KeepsAuthorities old.state.tree new.state.tree old.state.roots new.state.roots
  roots_stay roots leaf rank was is rules = rw (tree, roots) rules

  pub holders_stay : held_roots new.state ≡ held_roots old.state → KeepsHolders old.state.tree new.state.tree old.state.roots new.state.roots old.state.exports new.state.exports
  holders_stay holders leaf rank was is rules = rw (tree, holders) rules

  pub valid_still : new.state.roots ≡ old.state.roots → AreRoots old.state.tree old.state.roots → AreRoots new.state.tree new.state.roots
  valid_still roots valid = rw (tree, roots) valid

-- each rank has a range of numbers of its own, so there are no more than the ranges
few_below : (count : ℕ) → ((rank : ℕ) → rank < count → rank < 16) → count ≤ 16
few_below zero all = omega arith
few_below (suc count) all = let last = all count (omega arith) in omega (arith, last)

pub few_ranks : (opening : Opening) (past : List Entry) (core : Core) → IsSound opening past core → length core.caches.used ≤ 16
few_ranks opening past core sound =
    let few = few_below (length core.state.numbers) (λ rank there. let s = sound.supplied rank there in let ranked = s.supply.ranked in let own = s.own in omega (arith, ranked, own)) in
    let is = sound.ranks.caches in
    omega (arith, few, is)
