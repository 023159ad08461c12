use Rattle.export_steps.proofs.Common.{ArePlaced, IsFinish, Ok, ap, contents, is_some, leaf_cmp, subst, sym}
use Rattle.export_steps.proofs.Outcomes.{finished, is_promised, is_root}
use Rattle.export_steps.proofs.Placed.{finishes_placed}
use Rattle.export_steps.proofs.exports.Exports.finish.Goals as goal

pub hand-requires-clause-is_root : goal.hand-requires-clause-is_root
hand-requires-clause-is_root c =
    is_root
    (contents leaf_cmp c.self.inside.rows) (contents leaf_cmp c.self.inside.rows) (c.args.dir, c.args.frag) c.args.subtrees.now c.in-Some.export
    c.in-Some.ensures.0 c.in-Some.ensures.1 (subst (λ m. ArePlaced m c.args.subtrees.now) (sym c.self.view_is) c.requires)

pub hand-requires-clause-promised : goal.hand-requires-clause-promised
hand-requires-clause-promised c =
    ap is_some (is_promised
    (contents leaf_cmp c.self.inside.rows) (contents leaf_cmp c.self.inside.rows) (c.args.dir, c.args.frag) c.args.subtrees.now c.in-Some.export
    c.in-Some.ensures.0 c.in-Some.ensures.1 (subst (λ m. ArePlaced m c.args.subtrees.now) (sym c.self.view_is) c.requires))

pub returns-clause-outcome : goal.returns-clause-outcome
returns-clause-outcome c =
    subst (λ m. IsFinish m (contents leaf_cmp c.end.new.rows) c.args.subtrees.now c.hand.new.self (c.args.dir, c.args.frag)) c.self.view_is (finished
    (contents leaf_cmp c.self.inside.rows) (contents leaf_cmp c.end.new.rows) (c.args.dir, c.args.frag) c.args.subtrees.now c.hand.new.self c.in-Some.export
    c.in-Some.ensures.0 c.in-Some.ensures.1 (subst (λ m. ArePlaced m c.args.subtrees.now) (sym c.self.view_is) c.requires) c.hand.ensures.roots c.hand.ensures.promises c.end.ensures.removed)

pub returns-clause-placed : goal.returns-clause-placed
returns-clause-placed c =
    finishes_placed
    c.args.self.now (contents leaf_cmp c.end.new.rows) (c.args.dir, c.args.frag) c.args.subtrees.now c.hand.new.self (Ok tt)
    (returns-clause-outcome c) c.requires

pub invariant_of-self : goal.invariant_of-self
invariant_of-self c = c.end.ensures.kept c.self.invariant
