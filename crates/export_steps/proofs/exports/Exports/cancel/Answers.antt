use Rattle.export_steps.proofs.Common.{Ok, contents, leaf_cmp, rules}
use Rattle.export_steps.proofs.Placed.{cancels_placed}
use Rattle.export_steps.proofs.exports.Exports.cancel.Goals as goal

pub returns-clause-outcome : goal.returns-clause-outcome
returns-clause-outcome c = search rules

pub returns-clause-placed : goal.returns-clause-placed
returns-clause-placed c placed =
    cancels_placed
    c.args.self.now (contents leaf_cmp c.end.new.rows) (c.args.dir, c.args.frag) c.args.subtrees.now c.withdraw.new.self (Ok tt)
    (returns-clause-outcome c) placed

pub invariant_of-self : goal.invariant_of-self
invariant_of-self c = c.end.ensures.kept c.self.invariant
