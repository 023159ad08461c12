-- So far each rank below has its numbers.
use Rattle.mdcache.proofs.Common.{AreNumbers, contents, dentry_cmp}
use Rattle.mdcache.proofs.mounting.numbers_of.Given as goal

abbrev pub invariant-loop-rank : goal.invariant-loop-rank
invariant-loop-rank l = AreNumbers (contents dentry_cmp l.walked.entries) l.rank l.numbers.items
