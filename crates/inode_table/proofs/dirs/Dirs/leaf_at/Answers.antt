-- A hash falls in the leaves that are kept beside the rows, or in those of a row, which tells the directory's home and its entries too.
use Rattle.inode_table.proofs.Common.{IsPick, ap, leaves_of_row, option_copied, or_whole, or_zero, subst, sym, ◌∙◌}
use Rattle.inode_table.proofs.Chains.{are_same, are_apart}
use Rattle.inode_table.proofs.CountRows.{count_at_root, count_at_row, count_in}
use Rattle.inode_table.proofs.RowLaws.{at_root, at_row, get_leaves, leaves_at_root, no_directory}
use Rattle.inode_table.proofs.dirs.Dirs.leaf_at.Goals as goal

pub returns-then-eq : goal.returns-then-eq
returns-then-eq c =
    let top = are_same _ _ c.if-eq.ensures in
    let rootless = c.self.invariant.rooted.rootless in
    rw (← c.self.view_is) (record {
      at = at_root c.self.inside.root _ c.args.dir.0 c.args.hash c.picked.result top rootless (subst (λ o. IsPick (or_whole o) c.args.hash c.picked.result) c.tree_of-leaves.ensures c.picked.ensures);
      entries = sym (count_at_root c.self.inside.in_root _ c.args.dir.0 top);
      leaves = ap or_whole (c.tree_of-leaves.ensures ∙ sym (leaves_at_root c.self.inside.root _ c.args.dir.0 top rootless));
    })

pub returns-in_err-row-clause-at : goal.returns-in_err-row-clause-at
returns-in_err-row-clause-at c =
    rw (c.from_residual.ensures, ← c.self.view_is) (no_directory c.self.inside.root _ c.args.dir.0 (are_apart _ _ c.if-eq.ensures) (sym c.get_near_noting.ensures ∙ ap option_copied c.in_err-row.was))

pub returns : goal.returns
returns c =
    let apart = are_apart _ _ c.if-eq.ensures in
    let found = sym c.get_near_noting.ensures ∙ ap option_copied c.in_ok-row.was in
    rw (← c.self.view_is) (record {
      at = at_row c.self.inside.root _ c.args.dir.0 c.args.hash c.picked-2.result c.in_ok-row.row.now apart found (subst (λ o. IsPick (or_whole o) c.args.hash c.picked-2.result) c.leaves-leaves.ensures c.picked-2.ensures);
      entries = sym (count_at_row c.self.inside.in_root _ c.args.dir.0 apart ∙ ap (λ r. or_zero (count_in r)) found);
      leaves = ap or_whole (c.leaves-leaves.ensures ∙ sym (get_leaves c.self.inside.root _ c.args.dir.0 apart ∙ ap leaves_of_row found));
    })
