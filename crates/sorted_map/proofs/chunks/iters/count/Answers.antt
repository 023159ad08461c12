use Rattle.sorted_map.proofs.Common.{arith}
use Rattle.sorted_map.proofs.ChunkLaws.{part_left}
use Rattle.sorted_map.proofs.chunks.iters.count.Goals as goal

pub overflow_add-count : goal.overflow_add-count
overflow_add-count g c =
    omega (arith, c.loop-chunk.invariant.whole, c.requires, c.len-count.ensures.len, part_left c.args.chunks.now c.loop-chunk.chunk-index c.chunk-item.result c.loop-chunk-test.true c.chunk-item.is)
