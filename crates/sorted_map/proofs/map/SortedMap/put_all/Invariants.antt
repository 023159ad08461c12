use Rattle.sorted_map.proofs.Common.{contents, length, with_pairs, ◌+◌, ◌≡◌, ◌≤◌}
use Rattle.std.specs.FinMap as map
use Rattle.sorted_map.proofs.map.SortedMap.put_all.Given as goal

-- what is left to put in, put in, makes the whole
abbrev pub invariant-loop-pair : goal.invariant-loop-pair
invariant-loop-pair g l = record {
  whole : with_pairs (contents g.K.Ord.cmp l.self) l.pair-iterator ≡ with_pairs (contents g.K.Ord.cmp l.fn.self) (map.entries (contents g.K.Ord.cmp l.fn.over));
  few : length l.pair-iterator ≤ l.self.room;
  room : l.fn.self.room + length l.pair-iterator ≤ l.self.room + map.len (contents g.K.Ord.cmp l.fn.over);
}
