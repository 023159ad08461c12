use Rattle.dentry_cache.proofs.Common.{on_err_weaker}
use Rattle.dentry_cache.proofs.UsedLaws.{left_with, refused_after, still_absent}
use Rattle.dentry_cache.proofs.cache.Cache.keep.Goals as goal

pub hold-requires-clause-absent : goal.hold-requires-clause-absent
hold-requires-clause-absent c = still_absent c.args.stay c.args.self.now _ (c.args.dir, c.args.frag) c.in_default.ensures.room c.requires

pub returns-clause-left : goal.returns-clause-left
returns-clause-left c = on_err_weaker c.hold.result (λ is. left_with c.args.stay c.args.self.now _ _ c.in_default.ensures.room is) c.hold.ensures.err

pub returns-clause-room : goal.returns-clause-room
returns-clause-room c = refused_after c.hold.result c.args.stay c.args.self.now _ _ c.in_default.ensures.room c.hold.ensures.err c.hold.ensures.refused
