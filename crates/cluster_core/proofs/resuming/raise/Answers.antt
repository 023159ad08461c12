-- A supply is raised only where it has to be.
use Rattle.cluster_core.proofs.Common.{arith, inl, inr, sym, ◌∙◌}
use Rattle.cluster_core.proofs.ResumedLaws.{none_offered, offered, unraised}
use Rattle.cluster_core.proofs.resuming.raise.Goals as goal

pub from-requires-clause-started : goal.from-requires-clause-started
from-requires-clause-started c =
    let its = offered c.args.numbers.now c.in-Some.field-0 (sym c.peek.ensures ∙ c.in-Some.is) in
    omega (arith, its.0, c.requires.valid.started, c.requires.own, c.if-now-next.true, c.min.ensures, c.first_of-end.ensures)

pub returns-else-now-next : goal.returns-else-now-next
returns-else-now-next c =
    let its = offered c.args.numbers.now c.in-Some.field-0 (sym c.peek.ensures ∙ c.in-Some.is) in
    unraised _ _ c.requires.valid (inl (omega (arith, its.0, c.if-now-next.false)))

pub returns-in_default : goal.returns-in_default
returns-in_default c = unraised _ _ c.requires.valid (inr (none_offered c.args.numbers.now (sym c.peek.ensures ∙ c.in_default.is)))
