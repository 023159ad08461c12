use Rattle.ranked_tree.proofs.StepLaws.{prep_still, step_divided}
use Rattle.ranked_tree.proofs.ranked_tree.RankedTree.prep.Goals as goal

pub invariant_of-self : goal.invariant_of-self
invariant_of-self g c =
    step_divided c.self.inside.tree c.self.inside.regions (record { roots = c.prep.new.subtrees; exports = c.prep.new.self }) c.self.invariant (prep_still _ _ _ _ _ _ c.prep.result c.prep.ensures.outcome) (c.prep.ensures.placed c.self.invariant.stand.placed)

pub returns-clause-holders : goal.returns-clause-holders
returns-clause-holders g c = rw (← c.self.view_is) (prep_still 0 _ _ _ _ _ c.prep.result c.prep.ensures.outcome).holds
