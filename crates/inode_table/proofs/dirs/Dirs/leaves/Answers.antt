-- The root's leaves are kept beside the rows, those of another directory in its row.
use Rattle.inode_table.proofs.Common.{ap, leaves_of_row, option_copied, sym, ◌∙◌}
use Rattle.inode_table.proofs.Chains.{are_same, are_apart}
use Rattle.inode_table.proofs.RowLaws.{get_leaves, leaves_at_root}
use Rattle.inode_table.proofs.dirs.Dirs.leaves.Goals as goal

pub returns-then-eq-clause-set : goal.returns-then-eq-clause-set
returns-then-eq-clause-set c = rw (← c.self.view_is) (c.tree_of.ensures ∙ sym (leaves_at_root c.self.inside.root _ c.args.dir.0 (are_same _ _ c.if-eq.ensures) c.self.invariant.rooted.rootless))

pub returns-in_err-row-clause-set : goal.returns-in_err-row-clause-set
returns-in_err-row-clause-set c =
    rw (← c.self.view_is) (ap option_copied c.from_residual.ensures
    ∙ sym (get_leaves c.self.inside.root _ c.args.dir.0 (are_apart _ _ c.if-eq.ensures) ∙ ap leaves_of_row (sym c.get_near.ensures ∙ ap option_copied c.in_err-row.was)))

pub returns-clause-set : goal.returns-clause-set
returns-clause-set c =
    rw (← c.self.view_is) (c.leaves.ensures
    ∙ sym (get_leaves c.self.inside.root _ c.args.dir.0 (are_apart _ _ c.if-eq.ensures) ∙ ap leaves_of_row (sym c.get_near.ensures ∙ ap option_copied c.in_ok-row.was)))
