use Rattle.mdcache.proofs.FlushSteps.{purged_are_flushed}
use Rattle.mdcache.proofs.FlushedLaws.{flushed_is_cold, purged_are_exact}
use Rattle.mdcache.proofs.flush_laws.flushed_is_cold.Goals as goal

pub returns : goal.returns
returns c = record { cold = flushed_is_cold; exact = purged_are_exact; purged = purged_are_flushed }
