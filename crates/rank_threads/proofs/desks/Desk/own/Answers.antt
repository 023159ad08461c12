-- The step that is made is the one that was proposed; a proposal changes nothing.
use Rattle.rank_threads.proofs.Common.{Event, KeptState, Ok, StaysBehind, subst, sym}
use Rattle.std.specs.Prelude.{Option}
use Rattle.cluster_core.specs.Proposal.{Proposes}
use Rattle.rank_threads.proofs.desks.Desk.own.Goals as goal

pub make-requires : goal.make-requires
make-requires g c =
    (c.args.self.now.book.core, c.args.own.now.rank, subst (λ (o : Option Event). Proposes c.args.self.now.book.core c.args.own.now.rank (Ok o)) c.in-Ok-Some.field-0-is c.in-Ok-Some.ensures.proposed)

pub invariant_of-self-clause-goes_on : goal.invariant_of-self-clause-goes_on
invariant_of-self-clause-goes_on g c = subst (λ (b : KeptState). ∥ StaysBehind g.L.Handed.first b ∥₁) (sym c.propose.ensures.same) c.args.self.now.goes_on
