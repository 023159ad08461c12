use Rattle.ranked_tree.proofs.StepLaws.{finish_divided, finish_holds, finish_others}
use Rattle.ranked_tree.proofs.ranked_tree.RankedTree.finish.Goals as goal

pub invariant_of-self : goal.invariant_of-self
invariant_of-self g c = finish_divided c.self.inside.tree c.self.inside.regions (record { roots = c.finish.new.subtrees; exports = c.finish.new.self }) _ c.self.invariant c.finish.ensures.placed c.finish.result c.finish.ensures.outcome

pub returns-clause-holders : goal.returns-clause-holders
returns-clause-holders g c = rw (← c.self.view_is) (finish_holds _ _ _ _ _ c.finish.result c.finish.ensures.outcome c.self.invariant.stand.placed)

pub returns-clause-valid : goal.returns-clause-valid
returns-clause-valid g c = (invariant_of-self g c).stand.valid

pub returns-clause-others : goal.returns-clause-others
returns-clause-others g c =
    rw (← c.self.view_is) (finish_others c.self.inside.tree c.self.inside.regions (record { roots = c.finish.new.subtrees; exports = c.finish.new.self }) _ c.self.invariant c.finish.ensures.placed c.finish.result c.finish.ensures.outcome)
