use Rattle.sorted_map.proofs.Common.{[], false, get_or, length, starts_above, true, ◌-◌, ◌<◌, ◌≡◌, ◌≤◌, ◌⊎◌}
use Rattle.sorted_map.proofs.chunked.places.home.Given as goal

-- the chunk is one of those from `low` on and before `high`
abbrev pub invariant-loop-high : goal.invariant-loop-high
invariant-loop-high g l = record {
  some : l.low < l.high;
  within : l.high ≤ length l.chunks;
  below : (l.low ≡ 0) ⊎ (starts_above g.K.Ord.cmp (g.Q.Probe.key l.q) (get_or l.chunks l.low []) ≡ false);
  above : (l.high ≡ length l.chunks) ⊎ (starts_above g.K.Ord.cmp (g.Q.Probe.key l.q) (get_or l.chunks l.high []) ≡ true);
}

abbrev pub decreases-loop-high : goal.decreases-loop-high
decreases-loop-high g l = l.high - l.low
