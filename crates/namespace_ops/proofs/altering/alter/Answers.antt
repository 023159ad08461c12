use Rattle.namespace_ops.proofs.Common.{sym, ◌∙◌}
use Rattle.namespace_ops.proofs.CheckedParts.{set_checked}
use Rattle.namespace_ops.proofs.altering.alter.Goals as goal

pub returns-clause-checked : goal.returns-clause-checked
returns-clause-checked g c n =
    set_checked _ _ _ _ n c.args.dentry.now c.args.at.now _ c.args.alteration.now c.in-Some.before _ c.requires.at c.in_ok-spot.ensures c.altered-inode.ensures
    (sym c.in_ok-before.ensures.found ∙ c.in-Some.is) (sym c.errno_of.ensures ∙ c.in_default-errno_of.is) c.requires.sets
