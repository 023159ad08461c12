use Rattle.sorted_map.proofs.Common.{arith}
use Rattle.sorted_map.proofs.ChunkLaws.{counted_without}
use Rattle.sorted_map.proofs.chunks.row.Chunks.set_aside.Goals as goal

pub invariant_of-self : goal.invariant_of-self
invariant_of-self g c =
    let s = c.self.invariant in
    let gone = c.remove-chunk.ensures in
    let push = c.push_reserved.ensures in (
      rw gone.items (counted_without s.0 c.args.home (rw (← c.self.view_is) at c.requires.home) (rw (← c.self.view_is) at c.requires.empty)),
      omega (arith, s.1, push.len),
      omega (arith, s.2, gone.len, gone.capacity, push.len),
      omega (arith, s.3, gone.len, push.len, push.capacity),
      omega (arith, s.4, gone.len, push.len),
    )
