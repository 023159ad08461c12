use Rattle.sorted_map.proofs.Common.{arith}
use Rattle.sorted_map.proofs.ChunkLaws.{small_len, small_extra, counted_put}
use Rattle.sorted_map.proofs.chunks.row.Chunks.put_at.Goals as goal

pub overflow_add-self : goal.overflow_add-self
overflow_add-self g c = let row = c.self.inside.row in omega (arith, small_len c.self.invariant.0 (omega (arith, row.ok.0, c.self.invariant.4)))

pub overflow_add-self-2 : goal.overflow_add-self-2
overflow_add-self-2 g c = let row = c.self.inside.row in omega (arith, c.beyond_half.ensures, c.len-len.ensures.few, small_extra c.self.invariant.0 (omega (arith, row.ok.0, c.self.invariant.4)))

pub invariant_of-self : goal.invariant_of-self
invariant_of-self g c =
    let s = c.self.invariant in (
      counted_put s.0 c.args.home (rw (← c.self.view_is) at c.requires.home) _ _ _ c.args.at c.args.pair _ _ _ c.index.ensures c.index_mut.ensures.value (rw (← c.self.view_is) at c.requires.within) (rw (← c.self.view_is) at c.requires.room) c.put_at.ensures c.len-len.ensures.len c.beyond_half.ensures c.beyond_half-2.ensures,
      s.1,
      s.2,
      s.3,
      s.4,
    )
