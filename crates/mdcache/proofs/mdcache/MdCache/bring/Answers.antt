use Rattle.mdcache.proofs.Common.{IsThat, NoneEnds, leaf_of}
use Rattle.mdcache.proofs.CoreLaws.{reads_itself}
use Rattle.mdcache.proofs.mdcache.MdCache.bring.Goals as goal

pub returns-then-is_cached-clause-reads : goal.returns-then-is_cached-clause-reads
returns-then-is_cached-clause-reads g c = reads_itself (IsThat c.args.at.now.rank.0 (leaf_of c.args.at.now)) NoneEnds c.args.self.now
