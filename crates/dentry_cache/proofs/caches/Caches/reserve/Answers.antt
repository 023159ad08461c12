use Rattle.dentry_cache.proofs.Common.{Cached, HasCached, IsThere, Option, on_ok_weaker, ◌≡◌, ◌≤◌}
use Rattle.dentry_cache.proofs.MapCalls.{rewrites_now, there_too}
use Rattle.dentry_cache.proofs.caches.Caches.reserve.Goals as goal

pub reserve-requires : goal.reserve-requires
reserve-requires c = there_too c.self.inside.caches.items c.self.inside.places c.args.at.rank.0 c.args.self.now c.self.view_is c.self.invariant c.requires.there c.index_mut.result.now c.index_mut.ensures.value (c.args.at.dir, c.args.at.frag) IsThere c.requires.cached

pub returns-clause-same : goal.returns-clause-same
returns-clause-same c = (rewrites_now c.self.inside.caches.items c.self.inside.places c.args.at.rank.0 c.args.self.now c.self.view_is c.self.invariant c.requires.there c.index_mut.result.now c.index_mut.ensures.value c.reserve.new.self (c.args.at.dir, c.args.at.frag) (λ (f now : Cached). (now ≡ record f { room = now.room }) × (f.room ≤ now.room)) c.reserve.ensures.same).0

pub returns-clause-room : goal.returns-clause-room
returns-clause-room c = on_ok_weaker c.reserve.result (λ is. (rewrites_now c.self.inside.caches.items c.self.inside.places c.args.at.rank.0 c.args.self.now c.self.view_is c.self.invariant c.requires.there c.index_mut.result.now c.index_mut.ensures.value c.reserve.new.self (c.args.at.dir, c.args.at.frag) (λ (f now : Cached). c.args.changes ≤ now.room) is).0) c.reserve.ensures.room

pub returns-clause-ready : goal.returns-clause-ready
returns-clause-ready c is = c.reserve.ensures.ready (there_too c.self.inside.caches.items c.self.inside.places c.args.at.rank.0 c.args.self.now c.self.view_is c.self.invariant c.requires.there c.index_mut.result.now c.index_mut.ensures.value (c.args.at.dir, c.args.at.frag) (λ (o : Option Cached). HasCached o (λ (f : Cached). c.args.changes ≤ f.room)) is)

pub invariant_of-self : goal.invariant_of-self
invariant_of-self c = (rewrites_now c.self.inside.caches.items c.self.inside.places c.args.at.rank.0 c.args.self.now c.self.view_is c.self.invariant c.requires.there c.index_mut.result.now c.index_mut.ensures.value c.reserve.new.self (c.args.at.dir, c.args.at.frag) (λ (f now : Cached). (now ≡ record f { room = now.room }) × (f.room ≤ now.room)) c.reserve.ensures.same).1
