-- Where fragments are cached: what a sound cluster keeps of it, said of fragments.
use Rattle.cluster_core.proofs.Common.{AreCached, At, Cached, Core, HasCached, IsHolder, LieAtHolder, None, Option, Rank, Some, Unsaved, ap, lies_by, at_rank, cond, get_unclean, here, here_is, is_same, one_authority, refl, subst, sym, unsaved_at, unsaved_of, ◌∙◌, ◌≡◌}
use Rattle.std.specs.FinMap as map
use Rattle.dentry_cache.specs.Cache.{Leaf}
use Rattle.cluster_core.specs.State.{held_roots}

module _ (core : Core) (all : AreCached core) where
  held_there : (rank : Rank) (leaf : Leaf) (f : Cached) → here core.caches rank.0 leaf ≡ Some f → IsHolder core.state leaf rank
  held_there rank leaf f is = all.held.cached leaf (lies_by rank.0 f) (here_is rank.0 (map.get core.caches.held leaf) f is)

  -- what isn't clean of a leaf is cached somewhere, and so at the rank that holds the leaf
  unclean_there : (leaf : Leaf) (u : Unsaved) (rank : Rank) → map.get core.state.tree.unsaved leaf ≡ Some u → IsHolder core.state leaf rank → HasCached (here core.caches rank.0 leaf) (λ (f : Cached). unsaved_of f ≡ Some u)
  unclean_there leaf u rank is mine = go (map.get core.caches.held leaf) refl (sym (get_unclean core.caches leaf) ∙ ap (λ m. map.get m leaf) (sym all.unsaved) ∙ is)
    where
      go : (o : Option At) → map.get core.caches.held leaf ≡ o → unsaved_at o ≡ Some u → HasCached (at_rank rank.0 o) (λ (f : Cached). unsaved_of f ≡ Some u)
      go None found h = let clash : None ≡ Some u = h in absurd cc
      go (Some a) found h =
          let one = one_authority (held_roots core.state) core.state.tree.homes core.state.tree.covers leaf (record { 0 = a.rank }) rank (all.held.cached leaf a found) mine in
          subst (λ b. HasCached (cond {A = Option Cached} b (Some a.frag) None) (λ (f : Cached). unsaved_of f ≡ Some u)) (sym (is_same a.rank rank.0 (ap (λ (r : Rank). r.0) one))) h

  pub lie_at_holder : LieAtHolder core
  lie_at_holder = record { held = held_there; unclean = unclean_there }
