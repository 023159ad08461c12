use Rattle.sorted_map.proofs.Common.{arith, flat, length-append}
use Rattle.sorted_map.proofs.ChunkLaws.{flat_length}
use Rattle.sorted_map.proofs.chunks.iters.IterExactSizeIterator.len.Goals as goal

pub overflow_add-result : goal.overflow_add-result
overflow_add-result g c = omega (arith, c.self.invariant.fits, c.count.ensures)

pub returns-clause-value : goal.returns-clause-value
returns-clause-value g c =
    let front = c.self.inside.front.now in
    let rest = c.self.inside.rest.now in
    rw (← c.self.view_is) (omega (arith, c.count.ensures, length-append front (flat rest), flat_length rest))
