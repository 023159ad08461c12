use Rattle.dentry_cache.proofs.Common.{Cached, HasCached, IfOk, Option, subst, ◌≡◌}
use Rattle.cached_frag.specs.Cached.{snapshot_of}
use Rattle.cached_frag.specs.Snap.{IsBelowEnd}
use Rattle.dentry_cache.proofs.MapCalls.{cached_is, looked_now, there_too}
use Rattle.dentry_cache.proofs.caches.Caches.begin_commit.Goals as goal

pub begin_commit-requires : goal.begin_commit-requires
begin_commit-requires c = there_too c.self.inside.caches.items c.self.inside.places c.args.at.rank.0 c.args.self.now c.self.view_is c.self.invariant c.requires.there c.index_mut.result.now c.index_mut.ensures.value (c.args.at.dir, c.args.at.frag) (λ (o : Option Cached). HasCached o (λ (f : Cached). IsBelowEnd f.base)) c.requires.begins

pub returns-clause-taken : goal.returns-clause-taken
returns-clause-taken c = subst (λ (o : Option Cached). IfOk c.begin_commit.result (λ snapshot. HasCached o (λ (f : Cached). snapshot ≡ snapshot_of f))) (cached_is c.self.inside.caches.items c.self.inside.places c.args.at.rank.0 c.args.self.now c.self.view_is c.self.invariant c.requires.there c.index_mut.result.now c.index_mut.ensures.value (c.args.at.dir, c.args.at.frag)) c.begin_commit.ensures.taken

pub returns-clause-used : goal.returns-clause-used
returns-clause-used c = (looked_now c.self.inside.caches.items c.self.inside.places c.args.at.rank.0 c.args.self.now c.self.view_is c.self.invariant c.requires.there c.index_mut.result.now c.index_mut.ensures.value c.begin_commit.new.self (c.args.at.dir, c.args.at.frag) c.begin_commit.ensures.used).0

pub invariant_of-self : goal.invariant_of-self
invariant_of-self c = (looked_now c.self.inside.caches.items c.self.inside.places c.args.at.rank.0 c.args.self.now c.self.view_is c.self.invariant c.requires.there c.index_mut.result.now c.index_mut.ensures.value c.begin_commit.new.self (c.args.at.dir, c.args.at.frag) c.begin_commit.ensures.used).1
