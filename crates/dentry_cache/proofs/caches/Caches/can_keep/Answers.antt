use Rattle.dentry_cache.proofs.Common.{Some, ◌^◌}
use Rattle.dentry_cache.proofs.MapCalls.{all_caches, can_keep_is, can_not_keep_is}
use Rattle.dentry_cache.proofs.caches.Caches.can_keep.Goals as goal

pub returns-clause-can : goal.returns-clause-can
returns-clause-can c is = can_keep_is c.self.inside.caches.items c.self.inside.places c.args.at.now.rank.0 c.args.self.now c.self.view_is c.self.invariant c.requires.there c.index-cache.result.now c.index-cache.ensures (Some (c.args.at.now.dir, c.args.at.now.frag)) _ (2 ^ c.args.bits) c.child_count.ensures (c.can_keep.ensures.can is)

pub returns-clause-lacks : goal.returns-clause-lacks
returns-clause-lacks c is = can_not_keep_is c.self.inside.caches.items c.self.inside.places c.args.at.now.rank.0 c.args.self.now c.self.view_is c.self.invariant c.requires.there c.index-cache.result.now c.index-cache.ensures (Some (c.args.at.now.dir, c.args.at.now.frag)) _ (2 ^ c.args.bits) c.child_count.ensures (c.can_keep.ensures.lacks is)

pub returns-clause-valid : goal.returns-clause-valid
returns-clause-valid c = all_caches c.self.inside.caches.items c.self.inside.places c.args.self.now c.self.view_is c.self.invariant
