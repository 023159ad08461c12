use Rattle.dentry_cache.proofs.Common.{Cached, HasCached, IfOk, IsButPlaces, IsReadyToSplit, IsThere, Option, refl, set, subst, sym}
use Rattle.dentry_cache.proofs.MapCalls.{all_caches, rewrites_now, here_now, there_too}
use Rattle.dentry_cache.proofs.caches.Caches.ready_parts.Goals as goal

pub ready_parts-requires-clause-there : goal.ready_parts-requires-clause-there
ready_parts-requires-clause-there c = there_too c.self.inside.caches.items c.self.inside.places c.args.at.now.rank.0 c.args.self.now c.self.view_is c.self.invariant c.requires.there c.index_mut.result.now c.index_mut.ensures.value (c.args.at.now.dir, c.args.at.now.frag) IsThere c.requires.cached

pub returns-clause-same : goal.returns-clause-same
returns-clause-same c = (rewrites_now c.self.inside.caches.items c.self.inside.places c.args.at.now.rank.0 c.args.self.now c.self.view_is c.self.invariant c.requires.there c.index_mut.result.now c.index_mut.ensures.value c.ready_parts.new.self (c.args.at.now.dir, c.args.at.now.frag) IsButPlaces c.ready_parts.ensures.same).0

pub returns-clause-ready : goal.returns-clause-ready
returns-clause-ready c =
    subst (λ (o : Option Cached). IfOk c.ready_parts.result (λ parts. HasCached o (IsReadyToSplit c.args.at.now.frag c.args.bits parts))) (sym (here_now c.self.inside.caches.items c.self.inside.places c.args.at.now.rank.0 c.args.self.now c.self.view_is c.self.invariant c.requires.there c.index_mut.result.now c.index_mut.ensures.value c.ready_parts.new.self (rewrites_now c.self.inside.caches.items c.self.inside.places c.args.at.now.rank.0 c.args.self.now c.self.view_is c.self.invariant c.requires.there c.index_mut.result.now c.index_mut.ensures.value c.ready_parts.new.self (c.args.at.now.dir, c.args.at.now.frag) IsButPlaces c.ready_parts.ensures.same).1 (c.args.at.now.dir, c.args.at.now.frag))) c.ready_parts.ensures.ready

pub invariant_of-self : goal.invariant_of-self
invariant_of-self c = (rewrites_now c.self.inside.caches.items c.self.inside.places c.args.at.now.rank.0 c.args.self.now c.self.view_is c.self.invariant c.requires.there c.index_mut.result.now c.index_mut.ensures.value c.ready_parts.new.self (c.args.at.now.dir, c.args.at.now.frag) IsButPlaces c.ready_parts.ensures.same).1

pub returns-clause-valid : goal.returns-clause-valid
returns-clause-valid c = all_caches (set c.self.inside.caches.items c.args.at.now.rank.0 c.ready_parts.new.self) c.self.inside.places _ refl (rewrites_now c.self.inside.caches.items c.self.inside.places c.args.at.now.rank.0 c.args.self.now c.self.view_is c.self.invariant c.requires.there c.index_mut.result.now c.index_mut.ensures.value c.ready_parts.new.self (c.args.at.now.dir, c.args.at.now.frag) IsButPlaces c.ready_parts.ensures.same).1

pub returns-clause-before : goal.returns-clause-before
returns-clause-before c = all_caches c.self.inside.caches.items c.self.inside.places c.args.self.now c.self.view_is c.self.invariant
