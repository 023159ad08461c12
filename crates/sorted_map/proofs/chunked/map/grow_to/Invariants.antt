use Rattle.sorted_map.proofs.Common.{room_in, ◌-◌, ◌≡◌, ◌≤◌}
use Rattle.sorted_map.proofs.chunked.map.grow_to.Given as goal

abbrev pub invariant-loop-chunks : goal.invariant-loop-chunks
invariant-loop-chunks g l = record {
  lists : l.chunks.lists ≡ l.fn.chunks.lists;
  grows : l.fn.chunks.spare ≤ l.chunks.spare;
}

abbrev pub decreases-loop-chunks : goal.decreases-loop-chunks
decreases-loop-chunks g l = l.additional - room_in l.chunks
