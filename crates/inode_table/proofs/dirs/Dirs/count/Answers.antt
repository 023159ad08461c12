-- The root's count is kept beside the rows, that of another directory in its row.
use Rattle.inode_table.proofs.Common.{ap, option_copied, or_zero, sym, ◌∙◌}
use Rattle.inode_table.proofs.Chains.{are_same, are_apart}
use Rattle.inode_table.proofs.CountRows.{count_at_root, count_at_row, count_in}
use Rattle.inode_table.proofs.dirs.Dirs.count.Goals as goal

pub returns-then-eq : goal.returns-then-eq
returns-then-eq c = rw (← c.self.view_is) (sym (count_at_root c.self.inside.in_root _ c.args.dir.0 (are_same _ _ c.if-eq.ensures)))

pub returns-in-Some : goal.returns-in-Some
returns-in-Some c =
    rw (← c.self.view_is) (sym (count_at_row c.self.inside.in_root _ c.args.dir.0 (are_apart _ _ c.if-eq.ensures) ∙ ap (λ r. or_zero (count_in r)) (sym c.get_near_noting.ensures ∙ ap option_copied c.in-Some.is)))

pub returns-in-None : goal.returns-in-None
returns-in-None c =
    rw (← c.self.view_is) (sym (count_at_row c.self.inside.in_root _ c.args.dir.0 (are_apart _ _ c.if-eq.ensures) ∙ ap (λ r. or_zero (count_in r)) (sym c.get_near_noting.ensures ∙ ap option_copied c.in-None.is)))
