use Rattle.sorted_map.proofs.Common.{ap, arith, length, ◌≡◌}
use Rattle.sorted_map.proofs.ChunkLaws.{counted_end}
use Rattle.sorted_map.proofs.chunks.row.Chunks.open.Goals as goal

pub invariant_of-self : goal.invariant_of-self
invariant_of-self g c =
    let s = c.self.invariant in
    let push = c.push_reserved.ensures in
    let left = c.taken-fresh.ensures in
    let none : length c.taken-fresh.result ≡ 0 = ap length left.empty in (
      rw push.items (counted_end s.0 c.taken-fresh.result c.self.inside.len c.self.inside.extra (omega (arith, none)) (omega (arith, none)) (omega (arith, none))),
      omega (arith, s.1, left.len),
      omega (arith, s.2, push.len, push.capacity, left.len),
      omega (arith, s.3, push.len, left.len, left.capacity),
      omega (arith, s.4, push.len, left.len),
    )
