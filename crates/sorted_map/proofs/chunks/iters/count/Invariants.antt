use Rattle.sorted_map.proofs.Common.{drop, length, total, ◌+◌, ◌≡◌}
use Rattle.sorted_map.proofs.chunks.iters.count.Given as goal

abbrev pub invariant-loop-chunk : goal.invariant-loop-chunk
invariant-loop-chunk g l = record { whole : l.count + total length (drop l.chunk-index l.chunks) ≡ total length l.chunks }
