use Rattle.sorted_map.proofs.CloneLaws.{is_clone_of}
use Rattle.sorted_map.proofs.chunked.clones.ChunkMapClone.clone.Goals as goal

pub returns : goal.returns
returns g c = rw (← c.self.view_is) (record { cases = is_clone_of g.K.Clone.is_clone g.V.Clone.is_clone _ _ c.in_ok-chunks.ensures.cases.0 })
