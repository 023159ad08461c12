-- The next numbers of the ranks so far.
use Rattle.cluster_core.specs.KeptSessions.{AreNextOf}
use Rattle.cluster_core.proofs.parts.Given.next_numbers.Given as goal

abbrev pub invariant-loop-rank : goal.invariant-loop-rank
invariant-loop-rank l = AreNextOf l.rank l.self.numbers.items l.nexts.items
