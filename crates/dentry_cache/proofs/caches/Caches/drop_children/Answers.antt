use Rattle.dentry_cache.proofs.Common.{CacheMap, Dirfrag, ap, length, subst, sym, ℕ, ◌<◌, ◌∙◌}
use Rattle.dentry_cache.proofs.ChildLaws.{ranks_without}
use Rattle.dentry_cache.proofs.caches.Caches.drop_children.Goals as goal

pub forget-requires : goal.forget-requires
forget-requires c =
    subst (λ (x : Dirfrag). x.rank.0 < length c.loop-i.self.used) (sym c.child_at.ensures)
    (subst (λ (n : ℕ). c.args.at.rank.0 < n) (sym (ap (λ (k : CacheMap). length k.used) c.loop-i.invariant ∙ ranks_without c.args.at.rank.0 c.args.at.dir c.args.at.frag c.args.bits c.loop-i.i c.args.self.now)) c.requires.there)
