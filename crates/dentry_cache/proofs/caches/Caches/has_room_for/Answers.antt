use Rattle.dentry_cache.proofs.Common.{None, refl}
use Rattle.dentry_cache.proofs.MapCalls.{all_caches, can_keep_is, can_not_keep_is}
use Rattle.dentry_cache.proofs.caches.Caches.has_room_for.Goals as goal

pub returns-clause-can : goal.returns-clause-can
returns-clause-can c is = can_keep_is c.self.inside.caches.items c.self.inside.places c.args.rank.0 c.args.self.now c.self.view_is c.self.invariant c.requires c.index.result.now c.index.ensures None c.args.count c.args.count refl (c.can_keep.ensures.can is)

pub returns-clause-lacks : goal.returns-clause-lacks
returns-clause-lacks c is = can_not_keep_is c.self.inside.caches.items c.self.inside.places c.args.rank.0 c.args.self.now c.self.view_is c.self.invariant c.requires c.index.result.now c.index.ensures None c.args.count c.args.count refl (c.can_keep.ensures.lacks is)

pub returns-clause-valid : goal.returns-clause-valid
returns-clause-valid c = all_caches c.self.inside.caches.items c.self.inside.places c.args.self.now c.self.view_is c.self.invariant
