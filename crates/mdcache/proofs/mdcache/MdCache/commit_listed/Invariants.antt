-- So far the first leaves were committed, and those to come aren't clean.
use Rattle.mdcache.proofs.Common.{length}
use Rattle.mdcache.proofs.BatchLaws.{CommitsFirst}
use Rattle.mdcache.proofs.mdcache.MdCache.commit_listed.Given as goal

abbrev pub invariant-loop-rest : goal.invariant-loop-rest
invariant-loop-rest g l = CommitsFirst l.fn.self l.self l.leaves l.rest

abbrev pub decreases-loop-rest : goal.decreases-loop-rest
decreases-loop-rest g l = length l.rest
