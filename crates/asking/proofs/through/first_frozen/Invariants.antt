-- No export of the ranks so far froze.
use Rattle.asking.proofs.ThroughLaws.{NoneBelow}
use Rattle.asking.proofs.through.first_frozen.Given as goal

abbrev pub invariant-loop-rank : goal.invariant-loop-rank
invariant-loop-rank g l = NoneBelow l.book.core.state.exports l.rank
