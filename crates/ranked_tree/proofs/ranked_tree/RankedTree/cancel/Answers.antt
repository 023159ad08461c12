use Rattle.ranked_tree.proofs.StepLaws.{cancel_still, step_divided}
use Rattle.ranked_tree.proofs.ranked_tree.RankedTree.cancel.Goals as goal

pub invariant_of-self : goal.invariant_of-self
invariant_of-self g c =
    step_divided c.self.inside.tree c.self.inside.regions (record { roots = c.cancel.new.subtrees; exports = c.cancel.new.self }) c.self.invariant (cancel_still _ _ _ _ _ _ c.cancel.result c.cancel.ensures.outcome) (c.cancel.ensures.placed c.self.invariant.stand.placed)

pub returns-clause-holders : goal.returns-clause-holders
returns-clause-holders g c = rw (← c.self.view_is) (cancel_still 0 _ _ _ _ _ c.cancel.result c.cancel.ensures.outcome).holds
