-- The fragment ends at 2^24 at the latest.
use Rattle.fragtree.proofs.Common.{arith, one_shl, ◌-◌, ◌≤◌}
use Rattle.fragtree.proofs.Ranges.{ends_low, span_pos}
use Rattle.fragtree.proofs.descents.last_hash.Goals as goal

pub returns-clause-low : goal.returns-clause-low
returns-clause-low c =
    let few : c.bits.result ≤ 24 = omega (arith, c.bits.ensures.bits, c.bits.ensures.valid.few_bits) in
    rw (one_shl (24 - c.bits.result) 32 (omega arith), c.bits.ensures.bits, c.value.ensures.value) (omega (arith, ends_low c.args.f c.value.ensures.valid, span_pos c.args.f.bits))
