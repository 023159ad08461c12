use Rattle.dentry_cache.proofs.Common.{◌∙◌}
use Rattle.dentry_cache.proofs.MapCalls.{cached_is, given_up_now}
use Rattle.dentry_cache.proofs.caches.Caches.take.Goals as goal

pub returns-clause-taken : goal.returns-clause-taken
returns-clause-taken c = c.take.ensures.taken ∙ cached_is c.self.inside.caches.items c.self.inside.places c.args.at.rank.0 c.args.self.now c.self.view_is c.self.invariant c.requires c.index_mut.result.now c.index_mut.ensures.value (c.args.at.dir, c.args.at.frag)

pub returns-clause-without : goal.returns-clause-without
returns-clause-without c = (given_up_now c.self.inside.caches.items c.self.inside.places c.args.at.rank.0 c.args.self.now c.self.view_is c.self.invariant c.requires c.index_mut.result.now c.index_mut.ensures.value c.take.new.self (c.args.at.dir, c.args.at.frag) c.take.ensures.without).0

pub invariant_of-self : goal.invariant_of-self
invariant_of-self c = (given_up_now c.self.inside.caches.items c.self.inside.places c.args.at.rank.0 c.args.self.now c.self.view_is c.self.invariant c.requires c.index_mut.result.now c.index_mut.ensures.value c.take.new.self (c.args.at.dir, c.args.at.frag) c.take.ensures.without).1
