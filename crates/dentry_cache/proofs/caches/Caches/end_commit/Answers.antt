use Rattle.dentry_cache.proofs.Common.{Cached, IsCommitted, IsThere, on_err_weaker, on_ok_weaker, ◌≡◌}
use Rattle.dentry_cache.proofs.MapCalls.{edits_either, edits_now, there_too}
use Rattle.dentry_cache.proofs.caches.Caches.end_commit.Goals as goal

pub end_commit-requires : goal.end_commit-requires
end_commit-requires g c = there_too c.self.inside.caches.items c.self.inside.places c.args.rank.0 c.args.self.now c.self.view_is c.self.invariant c.requires.there c.index_mut.result.now c.index_mut.ensures.value (c.args.encoded.now.job.ino, c.args.encoded.now.job.frag) IsThere c.requires.cached

pub returns-clause-settled : goal.returns-clause-settled
returns-clause-settled g c = on_ok_weaker c.end_commit.result (λ is. (edits_now c.self.inside.caches.items c.self.inside.places c.args.rank.0 c.args.self.now c.self.view_is c.self.invariant c.requires.there c.index_mut.result.now c.index_mut.ensures.value c.end_commit.new.self (c.args.encoded.now.job.ino, c.args.encoded.now.job.frag) (IsCommitted c.args.encoded.now.job.snapshot) is).0) c.end_commit.ensures.settled

pub returns-clause-kept : goal.returns-clause-kept
returns-clause-kept g c = on_err_weaker c.end_commit.result (λ is. (edits_now c.self.inside.caches.items c.self.inside.places c.args.rank.0 c.args.self.now c.self.view_is c.self.invariant c.requires.there c.index_mut.result.now c.index_mut.ensures.value c.end_commit.new.self (c.args.encoded.now.job.ino, c.args.encoded.now.job.frag) (λ (f now : Cached). now ≡ record f { places = now.places }) is).0) c.end_commit.ensures.kept

pub invariant_of-self : goal.invariant_of-self
invariant_of-self g c = edits_either c.self.inside.caches.items c.self.inside.places c.args.rank.0 c.args.self.now c.self.view_is c.self.invariant c.requires.there c.index_mut.result.now c.index_mut.ensures.value c.end_commit.new.self c.end_commit.result (c.args.encoded.now.job.ino, c.args.encoded.now.job.frag) (IsCommitted c.args.encoded.now.job.snapshot) (λ (f now : Cached). now ≡ record f { places = now.places }) c.end_commit.ensures.settled c.end_commit.ensures.kept
