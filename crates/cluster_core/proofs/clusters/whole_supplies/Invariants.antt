-- So far each rank below has all its numbers.
use Rattle.cluster_core.proofs.Common.{whole_supplies, ◌≡◌}
use Rattle.cluster_core.proofs.clusters.whole_supplies.Given as goal

abbrev pub invariant-loop-rank : goal.invariant-loop-rank
invariant-loop-rank l = l.numbers.items ≡ whole_supplies 0 l.rank
