use Rattle.sorted_map.proofs.Common.{arith}
use Rattle.sorted_map.proofs.ChunkLaws.{part_extra, counted_split}
use Rattle.sorted_map.proofs.chunks.row.Chunks.split.Goals as goal

pub overflow_sub-self : goal.overflow_sub-self
overflow_sub-self g c = rw (← c.self.view_is) at c.requires.spare

pub overflow_sub-self-2 : goal.overflow_sub-self-2
overflow_sub-self-2 g c =
    omega (arith, c.self.invariant.0.beyond, rw (← c.self.view_is) at c.requires.full, part_extra c.self.invariant.0 c.args.home (rw (← c.self.view_is) at c.requires.home))

pub invariant_of-self : goal.invariant_of-self
invariant_of-self g c =
    let s = c.self.invariant in
    let len = c.put_at.ensures.len in
    let cap = c.put_at.ensures.capacity in
    let left = c.taken-fresh.ensures in (
      rw c.put_at.ensures.items (counted_split s.0 c.args.home (rw (← c.self.view_is) at c.requires.home) _ _ _ c.index_mut.ensures.value (rw (← c.self.view_is) at c.requires.full) c.move_half.ensures.kept c.move_half.ensures.moved),
      omega (arith, s.1, left.len),
      omega (arith, s.2, len, cap, left.len),
      omega (arith, s.3, len, left.capacity, left.len),
      omega (arith, s.4, len, left.len),
    )

pub returns-clause-few : goal.returns-clause-few
returns-clause-few g c = let row = c.self.inside.row in rw (← c.self.view_is) (omega (arith, row.ok.0, c.self.invariant.4))
