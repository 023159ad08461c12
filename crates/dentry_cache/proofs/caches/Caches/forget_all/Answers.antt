use Rattle.dentry_cache.proofs.Common.{CacheMap, Dirfrag, ap, drop, length, subst, sym, ℕ, ◌<◌, ◌∙◌}
use Rattle.dentry_cache.proofs.KeepingLaws.{ranks_without_all}
use Rattle.dentry_cache.proofs.caches.Caches.forget_all.Goals as goal

pub forget-requires : goal.forget-requires
forget-requires c =
    subst (λ (x : Dirfrag). x.rank.0 < length c.loop-i.self.used) (sym c.at.ensures)
    (subst (λ (n : ℕ). c.args.rank.0 < n) (sym (ap (λ (k : CacheMap). length k.used) c.loop-i.invariant.without ∙ ranks_without_all c.args.self.now c.args.rank.0 (drop c.loop-i.i c.args.leaves.now))) c.requires)
