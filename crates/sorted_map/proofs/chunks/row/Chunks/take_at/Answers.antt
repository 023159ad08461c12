use Rattle.sorted_map.proofs.Common.{[], ap, arith, length}
use Rattle.sorted_map.proofs.ChunkLaws.{small_extra, part_len, part_extra, counted_take, got}
use Rattle.sorted_map.proofs.chunks.row.Chunks.take_at.Goals as goal

pub overflow_sub-self : goal.overflow_sub-self
overflow_sub-self g c =
    omega (arith, rw (← c.self.view_is) at c.requires.within, part_len c.self.invariant.0 c.args.home (rw (← c.self.view_is) at c.requires.home))

pub overflow_add-self : goal.overflow_add-self
overflow_add-self g c = let row = c.self.inside.row in omega (arith, c.beyond_half.ensures, c.len-len.ensures.few, small_extra c.self.invariant.0 (omega (arith, row.ok.0, c.self.invariant.4)))

pub overflow_sub-self-2 : goal.overflow_sub-self-2
overflow_sub-self-2 g c =
    let home = rw (← c.self.view_is) at c.requires.home in
    omega (arith, c.beyond_half.ensures, c.beyond_half-2.ensures, c.len-len.ensures.len, ap length (got c.self.inside.row.items c.args.home c.index.result.now [] home c.index.ensures), part_extra c.self.invariant.0 c.args.home home)

pub invariant_of-self : goal.invariant_of-self
invariant_of-self g c =
    let s = c.self.invariant in (
      counted_take s.0 c.args.home (rw (← c.self.view_is) at c.requires.home) _ _ _ c.args.at _ _ _ c.index.ensures c.index_mut.ensures.value (rw (← c.self.view_is) at c.requires.within) c.len-len.ensures.few c.take_at.ensures.items c.len-len.ensures.len c.beyond_half.ensures c.beyond_half-2.ensures,
      s.1,
      s.2,
      s.3,
      s.4,
    )
