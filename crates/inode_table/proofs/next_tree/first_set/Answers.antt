use Rattle.inode_table.proofs.Common.{ap, false, is_some, slice_get, sym, true, ◌≡◌, ◌∙◌}
use Rattle.inode_table.specs.Rows.{set_in}
use Rattle.inode_table.proofs.SetRows.{set_behind, set_here}
use Rattle.inode_table.proofs.TreeOrder.{are_set}
use Rattle.inode_table.proofs.next_tree.first_set.Goals as goal

pub returns-then-is_some : goal.returns-then-is_some
returns-then-is_some c =
    let told : is_some c.in-Some.row.now.1.settings.leaves ≡ true = are_set c.leaves.result c.in-Some.row.now.1.settings.leaves c.leaves.ensures ∙ sym c.if-is_some.ensures in
    sym (set_here c.loop-row.rows c.next.new.self c.in-Some.row.now c.in-Some.ensures.steps told) ∙ c.loop-row.invariant

pub loop-row-preserved : goal.loop-row-preserved
loop-row-preserved c =
    let told : is_some c.in-Some.row.now.1.settings.leaves ≡ false = are_set c.leaves.result c.in-Some.row.now.1.settings.leaves c.leaves.ensures ∙ sym c.if-is_some.ensures in
    set_behind c.loop-row.rows c.next.new.self c.in-Some.row.now c.in-Some.ensures.steps told ∙ c.loop-row.invariant

pub returns : goal.returns
returns c = ap (λ es. slice_get (set_in es) 0) (sym c.in_default.ensures.steps.0) ∙ c.loop-row.invariant
