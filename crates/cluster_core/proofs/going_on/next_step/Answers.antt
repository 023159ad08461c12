use Rattle.cluster_core.proofs.Common.{Event, ExportState, IsNextStep, MatchOption, sight_of, subst, sym}
use Rattle.cluster_core.proofs.going_on.next_step.Goals as goal

pub returns-in-Started : goal.returns-in-Started
returns-in-Started g c = λ ranks.
    let s = sight_of c.args.tree.now c.args.grants.now ranks c.args.rank in
    subst (λ (st : ExportState). MatchOption c.begin.result ((event : Event) → IsNextStep s c.args.root st event → ⊥) (λ event. IsNextStep s c.args.root st event)) (sym c.in-Started.is) (c.begin.ensures ranks)
