use Rattle.dentry_cache.proofs.Common.{Cached, Option, ap, is_some, ◌∙◌}
use Rattle.dentry_cache.proofs.MapCalls.{cached_is, given_up_now}
use Rattle.dentry_cache.proofs.caches.Caches.end_at.Goals as goal

pub returns-clause-there : goal.returns-clause-there
returns-clause-there c =
    c.is_some.ensures
    ∙ ap (λ (o : Option Cached). is_some o) (c.take.ensures.taken ∙ cached_is c.self.inside.caches.items c.self.inside.places c.args.index c.args.self.now c.self.view_is c.self.invariant c.requires c.index_mut.result.now c.index_mut.ensures.value (c.args.dir, c.args.frag))

pub returns-clause-without : goal.returns-clause-without
returns-clause-without c = (given_up_now c.self.inside.caches.items c.self.inside.places c.args.index c.args.self.now c.self.view_is c.self.invariant c.requires c.index_mut.result.now c.index_mut.ensures.value c.take.new.self (c.args.dir, c.args.frag) c.take.ensures.without).0

pub invariant_of-self : goal.invariant_of-self
invariant_of-self c = (given_up_now c.self.inside.caches.items c.self.inside.places c.args.index c.args.self.now c.self.view_is c.self.invariant c.requires c.index_mut.result.now c.index_mut.ensures.value c.take.new.self (c.args.dir, c.args.frag) c.take.ensures.without).1
