use Rattle.sorted_map.proofs.Common.{length, pairs_eq, pointwise, ◌≡◌}
use Rattle.sorted_map.proofs.compare.have_same.Given as goal

abbrev pub invariant-loop-x : goal.invariant-loop-x
invariant-loop-x g l = record { whole : pointwise (pairs_eq g.K.PartialEq.eq g.V.PartialEq.eq) l.a l.b ≡ pointwise (pairs_eq g.K.PartialEq.eq g.V.PartialEq.eq) l.fn.a l.fn.b }

abbrev pub decreases-loop-x : goal.decreases-loop-x
decreases-loop-x g l = length l.a
