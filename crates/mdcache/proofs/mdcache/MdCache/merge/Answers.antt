use Rattle.mdcache.proofs.Common.{stays}
use Rattle.mdcache.proofs.mdcache.MdCache.merge.Goals as goal

pub returns-in-Err-clause-came : goal.returns-in-Err-clause-came
returns-in-Err-clause-came g c = stays
