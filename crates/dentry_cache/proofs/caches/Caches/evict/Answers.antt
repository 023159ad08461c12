use Rattle.dentry_cache.proofs.Common.{None, on_err_weaker, on_ok_weaker}
use Rattle.dentry_cache.proofs.MapCalls.{all_caches, evicted_now, evicted_sound, none_now, same_now}
use Rattle.dentry_cache.proofs.caches.Caches.evict.Goals as goal

pub returns-clause-evicted : goal.returns-clause-evicted
returns-clause-evicted c = on_ok_weaker c.evict.result (λ is. (evicted_now c.self.inside.caches.items c.self.inside.places c.args.rank.0 c.args.self.now c.self.view_is c.self.invariant c.requires c.index_mut.result.now c.index_mut.ensures.value c.evict.new.self None is).0) c.evict.ensures.evicted

pub returns-clause-none : goal.returns-clause-none
returns-clause-none c = on_err_weaker c.evict.result (λ is. none_now c.self.inside.caches.items c.self.inside.places c.args.rank.0 c.args.self.now c.self.view_is c.self.invariant c.requires c.index_mut.result.now c.index_mut.ensures.value c.evict.new.self None is) c.evict.ensures.none

pub returns-clause-same : goal.returns-clause-same
returns-clause-same c = on_err_weaker c.evict.result (λ is. (same_now c.self.inside.caches.items c.self.inside.places c.args.rank.0 c.args.self.now c.self.view_is c.self.invariant c.requires c.index_mut.result.now c.index_mut.ensures.value c.evict.new.self is).0) c.evict.ensures.same

pub invariant_of-self : goal.invariant_of-self
invariant_of-self c = evicted_sound c.self.inside.caches.items c.self.inside.places c.args.rank.0 c.args.self.now c.self.view_is c.self.invariant c.requires c.index_mut.result.now c.index_mut.ensures.value c.evict.new.self None c.evict.result c.evict.ensures.evicted c.evict.ensures.same

pub returns-clause-valid : goal.returns-clause-valid
returns-clause-valid c = all_caches c.self.inside.caches.items c.self.inside.places c.args.self.now c.self.view_is c.self.invariant
