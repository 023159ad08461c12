use Rattle.namespace_ops.proofs.Common.{Tree, ap, removal_errno, sym, ◌∙◌}
use Rattle.namespace_ops.proofs.CheckedParts.{dir_checked}
use Rattle.namespace_ops.proofs.removing.remove_dir.Goals as goal

pub returns-clause-checked : goal.returns-clause-checked
returns-clause-checked g c n =
    dir_checked _ _ _ _ n c.args.dentry.now c.args.at.now _ c.in-Some.inode c.requires.at c.in_ok-spot.ensures (sym c.in_ok-inode.ensures.found ∙ c.in-Some.is)
    (ap (λ (t : Tree). removal_errno t c.in-Some.inode) (sym c.in_ok-inode.ensures.kept.tree) ∙ sym c.removal_errno.ensures ∙ c.in_default-removal_errno.is)
    c.requires.removes
