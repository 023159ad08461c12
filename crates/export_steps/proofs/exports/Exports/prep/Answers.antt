use Rattle.export_steps.proofs.Common.{IsPrep, Ok, by_cmp, contents, leaf_cmp, rules, subst}
use Rattle.export_steps.proofs.Outcomes.{prepared}
use Rattle.export_steps.proofs.Placed.{preps_placed}
use Rattle.export_steps.proofs.exports.Exports.prep.Goals as goal

pub returns-in_err-promise-clause-outcome : goal.returns-in_err-promise-clause-outcome
returns-in_err-promise-clause-outcome c = search rules

pub returns-in_err-promise-clause-placed : goal.returns-in_err-promise-clause-placed
returns-in_err-promise-clause-placed c =
    preps_placed c.args.self.now c.args.self.now (c.args.dir, c.args.frag) c.args.subtrees.now c.promise.new.subtrees c.from_residual.result (returns-in_err-promise-clause-outcome c)

pub returns-clause-outcome : goal.returns-clause-outcome
returns-clause-outcome c =
    subst (λ m. IsPrep m (contents leaf_cmp c.put_state.new.rows) c.args.subtrees.now c.promise.new.subtrees (c.args.dir, c.args.frag)) c.self.view_is (prepared
    (contents leaf_cmp c.self.inside.rows) (contents leaf_cmp c.put_state.new.rows) (c.args.dir, c.args.frag) c.args.subtrees.now c.promise.new.subtrees c.in-Some.export
    c.in-Some.ensures.0 c.in-Some.ensures.1 c.put_state.ensures.come c.promise.ensures.roots c.in_ok-promise.ensures.promises)

pub returns-clause-placed : goal.returns-clause-placed
returns-clause-placed c =
    preps_placed c.args.self.now (contents leaf_cmp c.put_state.new.rows) (c.args.dir, c.args.frag) c.args.subtrees.now c.promise.new.subtrees (Ok tt) (returns-clause-outcome c)

pub invariant_of-self : goal.invariant_of-self
invariant_of-self c = c.put_state.ensures.kept (contents by_cmp c.self.inside.by) c.self.invariant
