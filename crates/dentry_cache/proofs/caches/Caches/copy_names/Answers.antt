use Rattle.dentry_cache.proofs.Common.{Cached, HasCached, IsThere, OnOk, Option, TakesIn, shown_names, subst}
use Rattle.dentry_cache.proofs.MapCalls.{cached_is, there_too}
use Rattle.dentry_cache.proofs.caches.Caches.copy_names.Goals as goal

pub copy_names-requires : goal.copy_names-requires
copy_names-requires c = there_too c.self.inside.caches.items c.self.inside.places c.args.at.rank.0 c.args.self.now c.self.view_is c.self.invariant c.requires.there c.index.result.now c.index.ensures (c.args.at.dir, c.args.at.frag) IsThere c.requires.cached

pub returns-clause-copied : goal.returns-clause-copied
returns-clause-copied c = subst (λ (o : Option Cached). OnOk c.copy_names.result (HasCached o (λ (f : Cached). TakesIn c.args.into.now c.copy_names.new.joined (shown_names f) c.args.version))) (cached_is c.self.inside.caches.items c.self.inside.places c.args.at.rank.0 c.args.self.now c.self.view_is c.self.invariant c.requires.there c.index.result.now c.index.ensures (c.args.at.dir, c.args.at.frag)) c.copy_names.ensures.copied
