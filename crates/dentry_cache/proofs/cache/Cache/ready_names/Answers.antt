use Rattle.dentry_cache.proofs.Common.{on_ok_weaker}
use Rattle.dentry_cache.proofs.CommitSteps.{dirty_fit}
use Rattle.dentry_cache.proofs.cache.Cache.ready_names.Goals as goal

pub returns-clause-ready : goal.returns-clause-ready
returns-clause-ready c =
    on_ok_weaker c.reserve_settled.result (λ room. dirty_fit (c.args.dir, c.args.frag) c.args.self.now _ c.dirty_names-dirty.result c.dirty_names-dirty.ensures c.reserve_settled.ensures.same room) c.reserve_settled.ensures.room
