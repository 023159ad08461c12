use Rattle.namespace_ops.proofs.Common.{None}
use Rattle.namespace_ops.proofs.ChangedLaws.{named_from}
use Rattle.namespace_ops.proofs.changing.changes.Goals as goal

pub returns-clause-changed : goal.returns-clause-changed
returns-clause-changed g c =
    named_from c.args.limit (g.F.Frags.content c.args.frags.now) _ (g.F.Frags.covers c.args.frags.now) _ (g.F.Frags.Holds c.args.frags.now) _ c.args.op.now 0 _ c.changed_by.result (λ list. list.items) c.in_ok-checked.ensures.kept.tree c.in_ok-checked.ensures.kept.leaves
    (λ at. (g.met.F.Frags.held_on _ _ c.args.op.now None at c.in_ok-checked.ensures.kept.follows).0) c.in_ok-checked.ensures.checked c.changed_by.ensures.changed
