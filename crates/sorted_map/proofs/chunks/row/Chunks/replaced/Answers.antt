use Rattle.sorted_map.proofs.Common.{get_or}
use Rattle.sorted_map.proofs.ChunkLaws.{counted_replace}
use Rattle.sorted_map.proofs.chunks.row.Chunks.replaced.Goals as goal

pub invariant_of-self : goal.invariant_of-self
invariant_of-self g c =
    let s = c.self.invariant in (
      counted_replace s.0 c.args.home (rw (← c.self.view_is) at c.requires.home) c.index_mut.result.now _ c.args.at (λ d. ((get_or c.index_mut.result.now c.args.at d).0, c.args.value)) c.index_mut.ensures.value (rw (← c.self.view_is) at c.requires.within) c.replaced.ensures.items,
      s.1,
      s.2,
      s.3,
      s.4,
    )
