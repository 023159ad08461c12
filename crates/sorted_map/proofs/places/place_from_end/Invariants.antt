use Rattle.sorted_map.proofs.Common.{IsGap, drop, length, zero, ◌≤◌}
use Rattle.sorted_map.proofs.places.place_from_end.Given as goal

-- the pairs that were tried are above the key
abbrev pub invariant-loop-high : goal.invariant-loop-high
invariant-loop-high g l = record {
  within : l.high ≤ length l.pairs;
  above : IsGap g.K.Ord.cmp (g.Q.Probe.key l.q) (drop l.high l.pairs) zero;
}

abbrev pub decreases-loop-high : goal.decreases-loop-high
decreases-loop-high g l = l.high
