use Rattle.dentry_cache.proofs.EditLaws.{only_used}
use Rattle.dentry_cache.proofs.cache.Cache.look.Goals as goal

pub returns-clause-used : goal.returns-clause-used
returns-clause-used c = only_used (c.args.dir, c.args.frag) c.args.self.now _ _ c.touch.ensures c.requires
