use Rattle.dentry_cache.proofs.Common.{Fragment, ap, arith, sizes_of, sym, ◌∙◌}
use Rattle.dentry_cache.proofs.CandidateLaws.{many_more}
use Rattle.dentry_cache.proofs.candidates.are_few.Goals as goal

pub returns-then-entries-total : goal.returns-then-entries-total
returns-then-entries-total c =
    many_more (sizes_of c.args.places.now.entries) c.args.whole.now c.loop-i.i c.loop-i.total c.in-Some.entries c.loop-i-test.true c.loop-i.invariant.told
    (ap (λ (f : Fragment). sizes_of c.args.places.now.entries (c.args.whole.now.0, f)) (sym c.child_at.ensures) ∙ sym c.size_at.ensures ∙ c.in-Some.is) (omega (arith, c.if-entries-total.true, c.loop-i.invariant.few))
