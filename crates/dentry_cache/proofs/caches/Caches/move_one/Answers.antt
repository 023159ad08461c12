use Rattle.dentry_cache.proofs.Common.{CacheMap, None, leaf_of, subst, sym, ◌∙◌, ◌≡◌}
use Rattle.std.specs.FinMap as map
use Rattle.dentry_cache.proofs.MoveLaws.{none_left}
use Rattle.dentry_cache.proofs.caches.Caches.move_one.Goals as goal

pub fill-requires-clause-absent : goal.fill-requires-clause-absent
fill-requires-clause-absent c =
    subst (λ (k : CacheMap). map.get k.held (leaf_of c.args.at.now) ≡ None) (sym c.take.ensures.without)
    (none_left c.args.self.now c.args.at.now.rank.0 c.args.to.0 (leaf_of c.args.at.now) c.in-Some.fragment (sym c.take.ensures.taken ∙ c.in-Some.is))
