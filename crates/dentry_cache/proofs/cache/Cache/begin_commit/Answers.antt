use Rattle.dentry_cache.proofs.Common.{Cached}
use Rattle.cached_frag.specs.Snap.{IsBelowEnd}
use Rattle.dentry_cache.specs.Cache.{cached}
use Rattle.dentry_cache.proofs.EditLaws.{only_used, there_with}
use Rattle.dentry_cache.proofs.cache.Cache.begin_commit.Goals as goal

pub returns-clause-used : goal.returns-clause-used
returns-clause-used c =
    only_used (c.args.dir, c.args.frag) c.args.self.now _ _ c.touch.ensures (there_with (λ (f : Cached). IsBelowEnd f.base) (cached c.args.self.now.entries (c.args.dir, c.args.frag)) c.requires)
