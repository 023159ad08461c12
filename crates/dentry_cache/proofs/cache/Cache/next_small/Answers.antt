use Rattle.dentry_cache.proofs.Common.{Held, IsNextLeaf, IsSmallIn, sizes_of, subst}
use Rattle.dentry_cache.proofs.cache.Cache.next_small.Goals as goal

pub returns : goal.returns
returns c =
    subst (λ (h : Held). IsNextLeaf (IsSmallIn (sizes_of h.entries)) c.args.after.now c.next_small.result) c.self.view_is
    (c.next_small.ensures (sizes_of c.self.inside.places.entries) c.self.invariant.sets)
