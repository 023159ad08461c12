use Rattle.dentry_cache.proofs.Common.{Held, IsLargeIn, IsNextLeaf, sizes_of, subst}
use Rattle.dentry_cache.proofs.cache.Cache.next_large.Goals as goal

pub returns : goal.returns
returns c =
    subst (λ (h : Held). IsNextLeaf (IsLargeIn (sizes_of h.entries)) c.args.after.now c.next_large.result) c.self.view_is
    (c.next_large.ensures (sizes_of c.self.inside.places.entries) c.self.invariant.sets)
