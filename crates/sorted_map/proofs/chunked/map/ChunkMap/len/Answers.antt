use Rattle.sorted_map.proofs.Common.{sym, ◌∙◌}
use Rattle.sorted_map.proofs.ChunkLaws.{flat_length}
use Rattle.sorted_map.proofs.ContentLaws.{len_shown}
use Rattle.sorted_map.proofs.chunked.map.ChunkMap.len.Goals as goal

pub returns-clause-len : goal.returns-clause-len
returns-clause-len g c = rw (← c.self.view_is) (c.len.ensures.len ∙ sym (flat_length c.self.inside.chunks.lists) ∙ len_shown _ _ c.self.invariant.0)
