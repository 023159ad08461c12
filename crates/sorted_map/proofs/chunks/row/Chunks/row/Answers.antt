use Rattle.sorted_map.proofs.Common.{arith}
use Rattle.sorted_map.proofs.ChunkLaws.{small_len}
use Rattle.sorted_map.proofs.chunks.row.Chunks.row.Goals as goal

pub returns-clause-fits : goal.returns-clause-fits
returns-clause-fits g c =
    let row = c.self.inside.row in
    rw (← c.self.view_is) (omega (arith, c.self.invariant.0.whole, small_len c.self.invariant.0 (omega (arith, row.ok.0, c.self.invariant.4))))
