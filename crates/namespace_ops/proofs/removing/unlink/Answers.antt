use Rattle.namespace_ops.proofs.Common.{sym, ◌∙◌}
use Rattle.namespace_ops.proofs.CheckedParts.{no_dir, unlinked_checked}
use Rattle.namespace_ops.proofs.removing.unlink.Goals as goal

pub returns-clause-checked : goal.returns-clause-checked
returns-clause-checked g c n =
    unlinked_checked _ _ _ _ n c.args.dentry.now c.args.at.now _ c.in-Some.inode c.requires.at c.in_ok-spot.ensures (sym c.in_ok-inode.ensures.found ∙ c.in-Some.is) (no_dir _ _ c.is_dir.ensures.1 c.if-is_dir.false) c.requires.removes
