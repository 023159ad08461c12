-- The root's leaves are split beside the rows, those of another directory in its row.
use Rattle.inode_table.proofs.Common.{CanSplit, DirTable, ap, subst, sym}
use Rattle.inode_table.proofs.Chains.{are_same, are_apart}
use Rattle.inode_table.proofs.RowLaws.{has_known_row}
use Rattle.inode_table.proofs.SeenRows.{root_leaves, root_splits, row_leaves, row_splits}
use Rattle.inode_table.proofs.dirs.Dirs.split.Goals as goal

-- of the root
pub split_in-requires : goal.split_in-requires
split_in-requires c = subst (λ l. CanSplit l c.args.frag c.args.bits) (root_leaves _ _ _ _ _ c.self.view_is c.self.invariant c.args.dir.0 (are_same _ _ c.if-eq.ensures)) c.requires.can

pub invariant_of-self : goal.invariant_of-self
invariant_of-self c =
    (root_splits _ _ _ _ _ c.self.view_is c.self.invariant c.args.dir.0 c.split_in.new.leaves c.args.frag c.args.bits c.split_in.result (are_same _ _ c.if-eq.ensures) c.requires.known
    c.split_in.ensures.split c.split_in.ensures.set c.split_in.ensures.whole c.split_in.ensures.left).valid

pub returns-then-eq : goal.returns-then-eq
returns-then-eq c =
    let its = root_splits _ _ _ _ _ c.self.view_is c.self.invariant c.args.dir.0 c.split_in.new.leaves c.args.frag c.args.bits c.split_in.result (are_same _ _ c.if-eq.ensures) c.requires.known
    c.split_in.ensures.split c.split_in.ensures.set c.split_in.ensures.whole c.split_in.ensures.left in
    record { split = its.split; others = its.others; left = its.left; refused = c.split_in.ensures.refused; valid = its.valid }

-- of another directory
pub unreachable-requires : goal.unreachable-requires
unreachable-requires c =
    has_known_row c.self.inside.root _ c.args.dir.0 (are_apart _ _ c.if-eq.ensures) (sym c.in_default.ensures.value) (rw (ap (λ (t : DirTable). t.homes) c.self.view_is) c.requires.known)

pub split-requires : goal.split-requires
split-requires c = subst (λ l. CanSplit l c.args.frag c.args.bits) (row_leaves _ _ _ _ _ c.self.view_is c.self.invariant c.args.dir.0 c.in-Some.row.now c.in-Some.ensures.value (are_apart _ _ c.if-eq.ensures)) c.requires.can

pub invariant_of-self-2 : goal.invariant_of-self-2
invariant_of-self-2 c =
    (row_splits _ _ _ _ _ c.self.view_is c.self.invariant c.args.dir.0 c.in-Some.row.now c.in-Some.ensures.value c.split.new.self c.args.frag c.args.bits c.split.result (are_apart _ _ c.if-eq.ensures) c.requires.known
    c.split.ensures.split c.split.ensures.set c.split.ensures.whole c.split.ensures.left).valid

pub returns : goal.returns
returns c =
    let its = row_splits _ _ _ _ _ c.self.view_is c.self.invariant c.args.dir.0 c.in-Some.row.now c.in-Some.ensures.value c.split.new.self c.args.frag c.args.bits c.split.result (are_apart _ _ c.if-eq.ensures) c.requires.known
    c.split.ensures.split c.split.ensures.set c.split.ensures.whole c.split.ensures.left in
    record { split = its.split; others = its.others; left = its.left; refused = c.split.ensures.refused; valid = its.valid }
