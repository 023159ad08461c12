use Rattle.sorted_map.proofs.Common.{ap, refl}
use Rattle.sorted_map.proofs.ChunkLaws.{got}
use Rattle.sorted_map.proofs.FlatLaws.{value_set}
use Rattle.sorted_map.proofs.chunks.chunk.Chunk.value_mut.Goals as goal

pub returns : goal.returns
returns g c =
    let is = c.index_mut.ensures.value in
    rw (← c.self.view_is) (
      (refl, λ w. value_set _ c.args.at _ w (rw (← c.self.view_is) at c.requires) is),
      record { writes_back = tt; value = λ d. ap (λ x. x.1) (got _ c.args.at _ d (rw (← c.self.view_is) at c.requires) is) },
    )
