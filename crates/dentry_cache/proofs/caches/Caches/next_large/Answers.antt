use Rattle.dentry_cache.proofs.Common.{IsLargeIn, IsNextLeaf, Sizes, size_in, subst}
use Rattle.dentry_cache.proofs.MapCalls.{cached_is}
use Rattle.dentry_cache.proofs.caches.Caches.next_large.Goals as goal

pub returns : goal.returns
returns c =
    subst (λ (sizes : Sizes). IsNextLeaf (IsLargeIn sizes) c.args.after c.next_large.result)
    (λ i leaf. size_in (cached_is c.self.inside.caches.items c.self.inside.places c.args.rank.0 c.args.self.now c.self.view_is c.self.invariant c.requires c.index.result.now c.index.ensures leaf i)) c.next_large.ensures
