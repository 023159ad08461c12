use Rattle.dentry_cache.proofs.Common.{ap, refl, span, ◌-◌, ◌≡◌}
use Rattle.dentry_cache.proofs.CandidateLaws.{found_whole}
use Rattle.dentry_cache.proofs.candidates.whole_of.Goals as goal

pub returns-clause-only : goal.returns-clause-only
returns-clause-only c =
    let size : c.span-size.result ≡ span (c.args.frag.bits - 3) = rw c.bits-bits.ensures.bits at c.span-size.ensures.value in
    found_whole c.args.frag _ c.new.result c.new.ensures c.bits-bits.ensures.valid.few_bits (ap (λ b. b - 3) c.bits-bits.ensures.bits)
    (rw (c.value.ensures.value, c.value-2.ensures.value, size) refl)
