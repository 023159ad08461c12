use Rattle.sorted_map.proofs.Common.{arith}
use Rattle.sorted_map.proofs.ChunkLaws.{small_extra, counted_joined}
use Rattle.sorted_map.proofs.chunks.row.Chunks.move_down.Goals as goal

pub overflow_add-self : goal.overflow_add-self
overflow_add-self g c =
    let row = c.self.inside.row in
    omega (arith, c.beyond_half.ensures, c.len-len.ensures.few, c.len-more.ensures.few, small_extra c.self.invariant.0 (omega (arith, row.ok.0, c.self.invariant.4)))

pub invariant_of-self : goal.invariant_of-self
invariant_of-self g c =
    let s = c.self.invariant in
    let gone = c.remove-next.ensures in
    let push = c.push_reserved.ensures in (
      rw gone.items (counted_joined s.0 c.args.home c.remove-next.result c.index.result.now c.index_mut.result.now _ _ _ _ (rw (← c.self.view_is) at c.requires.home) gone.value
          (rw gone.items at c.index.ensures) (rw gone.items at c.index_mut.ensures.value) c.take_all.ensures.whole (rw (← c.self.view_is) at c.requires.room)
          (rw (c.len-len.ensures.len, c.len-more.ensures.len) at c.beyond_half.ensures) (rw c.len-len.ensures.len at c.beyond_half-2.ensures) (rw c.len-more.ensures.len at c.beyond_half-3.ensures)),
      omega (arith, s.1, push.len),
      omega (arith, s.2, gone.len, gone.capacity, push.len),
      omega (arith, s.3, gone.len, push.len, push.capacity),
      omega (arith, s.4, gone.len, push.len),
    )
