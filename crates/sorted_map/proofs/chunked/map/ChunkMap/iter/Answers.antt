use Rattle.sorted_map.proofs.Common.{ap, entries-from_sorted, flat, sym, ◌∙◌}
use Rattle.sorted_map.proofs.chunked.map.ChunkMap.iter.Goals as goal

pub returns : goal.returns
returns g c = rw (← c.self.view_is) (c.of_chunks.ensures ∙ ap flat c.row.ensures.row ∙ sym (entries-from_sorted _ _ c.self.invariant.0))
