use Rattle.sorted_map.proofs.Common.{arith}
use Rattle.sorted_map.proofs.ChunkLaws.{small_extra}
use Rattle.sorted_map.proofs.chunks.row.Chunks.extra.Goals as goal

pub returns-clause-few : goal.returns-clause-few
returns-clause-few g c = let row = c.self.inside.row in small_extra c.self.invariant.0 (omega (arith, row.ok.0, c.self.invariant.4))
