use Rattle.namespace_ops.proofs.Common.{ChangesOnly, Contains, Leaf, List, OthersShowTheSame, subst}
use Rattle.namespace_ops.proofs.ChangedLaws.{fragments_are}
use Rattle.namespace_ops.proofs.OtherLeaves.{others_stay}
use Rattle.namespace_ops.proofs.PlanParts.{may_change, numbered_so}
use Rattle.namespace_ops.proofs.serving.make_change.Goals as goal

pub change-requires-clause-may : goal.change-requires-clause-may
change-requires-clause-may g c = may_change c.args.limit _ _ _ _ c.args.number c.args.change c.requires.checked g.F.Frags.IsNumber c.requires.offered c.in_default.ensures.given

pub change-requires-clause-numbered : goal.change-requires-clause-numbered
change-requires-clause-numbered g c = numbered_so c.args.limit _ _ _ _ c.args.number c.args.change c.requires.checked g.F.Frags.IsNumber c.requires.offered c.in_default.ensures.given

pub change-requires-clause-touch : goal.change-requires-clause-touch
change-requires-clause-touch g c leaf has = c.requires.touch leaf (subst (λ (k : List Leaf). Contains k leaf) (fragments_are c.args.limit _ _ _ _ _ c.args.change c.requires.checked) has)

pub returns-clause-frame : goal.returns-clause-frame
returns-clause-frame g c =
    subst (ChangesOnly (g.F.Frags.Unchanged c.args.frags.now c.change.new.self)) (fragments_are c.args.limit _ _ _ _ _ c.args.change c.requires.checked) c.in_default-change.ensures.frame

pub returns-clause-others : goal.returns-clause-others
returns-clause-others g c whole =
    let tree = g.F.Frags.content c.args.frags.now in
    let covers = g.F.Frags.covers c.args.frags.now in
    subst (OthersShowTheSame tree (g.F.Frags.content c.change.new.self) covers (g.F.Frags.covers c.change.new.self)) (fragments_are c.args.limit _ _ _ _ _ c.args.change c.requires.checked)
    (others_stay tree (g.F.Frags.content c.change.new.self) covers (g.F.Frags.covers c.change.new.self) c.args.change whole
    (may_change c.args.limit _ _ _ _ c.args.number c.args.change c.requires.checked g.F.Frags.IsNumber c.requires.offered c.in_default.ensures.given) c.in_default-change.ensures.changed c.in_default-change.ensures.leaves)
