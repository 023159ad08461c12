use Rattle.subtree_map.proofs.Common.{ap, arith, ends_low, span, ◌≡◌}
use Rattle.subtree_map.proofs.moves.end_of.Goals as goal

pub overflow_add-result : goal.overflow_add-result
overflow_add-result c =
    let many : span c.bits.result ≡ span c.args.f.bits = ap span c.bits.ensures.bits in
    omega (arith, ends_low c.args.f c.value.ensures.valid, c.value.ensures.value, c.hashes.ensures, many)

pub returns-clause-low : goal.returns-clause-low
returns-clause-low c =
    let many : span c.bits.result ≡ span c.args.f.bits = ap span c.bits.ensures.bits in
    omega (arith, ends_low c.args.f c.value.ensures.valid, c.value.ensures.value, c.hashes.ensures, many)
