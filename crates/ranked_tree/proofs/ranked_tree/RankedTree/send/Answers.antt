use Rattle.ranked_tree.proofs.SendLaws.{sends}
use Rattle.ranked_tree.proofs.StepLaws.{send_still, step_divided}
use Rattle.ranked_tree.proofs.ranked_tree.RankedTree.send.Goals as goal

pub invariant_of-self : goal.invariant_of-self
invariant_of-self g c =
    step_divided c.self.inside.tree c.self.inside.regions (record { roots = c.self.inside.regions.roots; exports = c.send.new.self }) c.self.invariant
    (send_still _ _ _ c.self.inside.regions.roots c.self.inside.regions.roots _ c.send.ensures.outcome) (c.send.ensures.placed c.self.inside.regions.roots c.self.invariant.stand.placed)

pub returns-clause-sent : goal.returns-clause-sent
returns-clause-sent g c =
    rw (← c.self.view_is) (sends c.self.inside.tree c.self.inside.regions.roots c.self.inside.regions.exports c.send.new.self (c.args.dir, c.args.frag) c.in_ok-bytes.bytes c.in_ok-bytes.ensures.sent c.send.ensures.outcome)

pub returns-clause-holders : goal.returns-clause-holders
returns-clause-holders g c = rw (← c.self.view_is) (send_still 0 _ _ c.self.inside.regions.roots c.self.inside.regions.roots _ c.send.ensures.outcome).holds
