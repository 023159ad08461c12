use Rattle.sorted_map.proofs.Common.{reverse, vec_capacity, vec_len, ◌++◌, ◌+◌, ◌≡◌}
use Rattle.sorted_map.proofs.chunks.vectors.move_back.Given as goal

-- what was moved so far stands behind the rest, turned
abbrev pub invariant-loop : goal.invariant-loop
invariant-loop g l = record {
  whole : l.from.items ++ reverse l.to.items ≡ l.fn.from.items;
  len : vec_len l.from + l.counter ≡ vec_len l.fn.from;
  count : vec_len l.to ≡ l.counter;
  capacity : vec_capacity l.from ≡ vec_capacity l.fn.from;
  to_capacity : vec_capacity l.to ≡ vec_capacity l.fn.to;
}
