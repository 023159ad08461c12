use Rattle.sorted_map.proofs.Common.{contents, is_from, where_key, ◌≡◌, ◌≤◌}
use Rattle.std.specs.FinMap as map
use Rattle.sorted_map.proofs.chunked.map.ChunkMap.remove_below.Given as goal

-- what is kept of the rest is what is kept of all
abbrev pub invariant-loop-self : goal.invariant-loop-self
invariant-loop-self g l = record {
  kept : where_key g.K.Ord.cmp (is_from g.K.Ord.cmp (g.Q.Probe.key l.q)) (map.entries (contents g.K.Ord.cmp l.self)) ≡ where_key g.K.Ord.cmp (is_from g.K.Ord.cmp (g.Q.Probe.key l.q)) (map.entries (contents g.K.Ord.cmp l.fn.self));
  room : l.fn.self.room ≤ l.self.room;
}

abbrev pub decreases-loop-self : goal.decreases-loop-self
decreases-loop-self g l = map.len (contents g.K.Ord.cmp l.self)
