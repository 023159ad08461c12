use Rattle.inode_table.proofs.Common.{ap, contents, false, is_some, nat_cmp, slice_get, sym, true, ◌≡◌, ◌∙◌}
use Rattle.inode_table.specs.Rows.{set_in}
use Rattle.inode_table.proofs.SetRows.{root_first, rows_behind, rows_first}
use Rattle.inode_table.proofs.TreeOrder.{are_set}
use Rattle.inode_table.proofs.dirs.Dirs.next_tree.Goals as goal

pub returns-then-is_some : goal.returns-then-is_some
returns-then-is_some c =
    let told : is_some c.self.inside.root ≡ true = are_set c.tree_of.result c.self.inside.root c.tree_of.ensures ∙ sym c.if-is_some.ensures in
    rw (← c.self.view_is, c.in_default.is) (sym (root_first c.self.inside.root (contents nat_cmp c.self.inside.below) c.self.invariant.rooted.rootless told))

pub returns-in_default : goal.returns-in_default
returns-in_default c =
    let told : is_some c.self.inside.root ≡ false = are_set c.tree_of.result c.self.inside.root c.tree_of.ensures ∙ sym c.if-is_some.ensures in
    rw (← c.self.view_is, c.in_default.is)
    (c.first_set.ensures ∙ ap (λ es. slice_get (set_in es) 0) c.iter.ensures
    ∙ rows_first c.self.inside.root (contents nat_cmp c.self.inside.below) c.self.invariant.rooted.rootless told)

pub returns-then-eq : goal.returns-then-eq
returns-then-eq c =
    rw (← c.self.view_is, c.in-Some.is)
    (c.first_set-then-eq.ensures ∙ ap (λ es. slice_get (set_in es) 0) c.iter-then-eq.ensures
    ∙ rows_behind c.self.inside.root (contents nat_cmp c.self.inside.below) c.self.invariant.rooted.rootless c.in-Some.last true (sym c.if-eq.ensures))

pub returns : goal.returns
returns c =
    rw (← c.self.view_is, c.in-Some.is)
    (c.first_set-2.ensures ∙ ap (λ es. slice_get (set_in es) 0) c.iter_after.ensures
    ∙ rows_behind c.self.inside.root (contents nat_cmp c.self.inside.below) c.self.invariant.rooted.rootless c.in-Some.last false (sym c.if-eq.ensures))
