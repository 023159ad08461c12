use Rattle.namespace_ops.proofs.ChangedLaws.{named_by}
use Rattle.namespace_ops.proofs.changing.changed_by.Goals as goal

pub returns-in-Changes-clause-changed : goal.returns-in-Changes-clause-changed
returns-in-Changes-clause-changed g c =
    named_by (g.F.Frags.content c.args.frags.now) (g.F.Frags.covers c.args.frags.now) (g.F.Frags.Holds c.args.frags.now) c.in-Changes.change c.args.checked.now c.fragments_of.result (λ list. list.items) c.in-Changes.is c.fragments_of.ensures.listed c.fragments_of.ensures.cover
