use Rattle.dentry_cache.proofs.Common.{IsCache, subst}
use Rattle.dentry_cache.proofs.cache.Cache.len.Goals as goal

pub returns-clause-valid : goal.returns-clause-valid
returns-clause-valid c = subst IsCache c.self.view_is (record { distinct = c.len.ensures.valid.distinct; fits = c.len.ensures.valid.fits })
