use Rattle.dentry_cache.proofs.Common.{Cached, HasCached, IfOk, IsThere, Option, shown_names, subst, ◌≡◌}
use Rattle.std.specs.FinMap as map
use Rattle.dentry_cache.proofs.MapCalls.{cached_is, looked_now, there_too}
use Rattle.dentry_cache.proofs.caches.Caches.look.Goals as goal

pub look-requires : goal.look-requires
look-requires c = there_too c.self.inside.caches.items c.self.inside.places c.args.at.rank.0 c.args.self.now c.self.view_is c.self.invariant c.requires.there c.index_mut.result.now c.index_mut.ensures.value (c.args.at.dir, c.args.at.frag) IsThere c.requires.cached

pub returns-clause-found : goal.returns-clause-found
returns-clause-found c = subst (λ (o : Option Cached). IfOk c.look.result (λ found. HasCached o (λ (f : Cached). found ≡ map.get (shown_names f) c.args.name.now))) (cached_is c.self.inside.caches.items c.self.inside.places c.args.at.rank.0 c.args.self.now c.self.view_is c.self.invariant c.requires.there c.index_mut.result.now c.index_mut.ensures.value (c.args.at.dir, c.args.at.frag)) c.look.ensures.found

pub returns-clause-used : goal.returns-clause-used
returns-clause-used c = (looked_now c.self.inside.caches.items c.self.inside.places c.args.at.rank.0 c.args.self.now c.self.view_is c.self.invariant c.requires.there c.index_mut.result.now c.index_mut.ensures.value c.look.new.self (c.args.at.dir, c.args.at.frag) c.look.ensures.used).0

pub invariant_of-self : goal.invariant_of-self
invariant_of-self c = (looked_now c.self.inside.caches.items c.self.inside.places c.args.at.rank.0 c.args.self.now c.self.view_is c.self.invariant c.requires.there c.index_mut.result.now c.index_mut.ensures.value c.look.new.self (c.args.at.dir, c.args.at.frag) c.look.ensures.used).1
