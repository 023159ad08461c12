-- The root's count is raised beside the rows, that of another directory in its row.
use Rattle.inode_table.proofs.Common.{DirTable, ap, arith, refl, sym, ℕ, ◌+◌}
use Rattle.inode_table.proofs.Chains.{are_same, are_apart}
use Rattle.inode_table.proofs.RowLaws.{has_known_row}
use Rattle.inode_table.proofs.SeenRows.{other_count, root_count, root_other_count, row_count}
use Rattle.inode_table.proofs.dirs.Dirs.entry_comes.Goals as goal

pub overflow_add-self : goal.overflow_add-self
overflow_add-self c = omega (arith, c.requires.few, root_count _ _ _ _ _ c.self.view_is c.self.invariant c.args.dir.0 (are_same _ _ c.if-eq.ensures))

pub returns-then-eq : goal.returns-then-eq
returns-then-eq c = root_other_count _ _ _ _ _ c.self.view_is c.self.invariant c.args.dir.0 (are_same _ _ c.if-eq.ensures) _ (λ (n : ℕ). n + 1) refl

pub unreachable-requires : goal.unreachable-requires
unreachable-requires c =
    has_known_row c.self.inside.root _ c.args.dir.0 (are_apart _ _ c.if-eq.ensures) (sym c.in_default.ensures.value) (rw (ap (λ (t : DirTable). t.homes) c.self.view_is) c.requires.known)

pub overflow_add-row : goal.overflow_add-row
overflow_add-row c = omega (arith, c.requires.few, row_count _ _ _ _ _ c.self.view_is c.self.invariant c.args.dir.0 c.in-Some.row.now c.in-Some.ensures.value (are_apart _ _ c.if-eq.ensures))

pub returns : goal.returns
returns c = (other_count _ _ _ _ _ c.self.view_is c.self.invariant c.args.dir.0 c.in-Some.row.now c.in-Some.ensures.value _ (λ (n : ℕ). n + 1) (are_apart _ _ c.if-eq.ensures) refl).is

pub invariant_of-self-2 : goal.invariant_of-self-2
invariant_of-self-2 c = (other_count _ _ _ _ _ c.self.view_is c.self.invariant c.args.dir.0 c.in-Some.row.now c.in-Some.ensures.value _ (λ (n : ℕ). n + 1) (are_apart _ _ c.if-eq.ensures) refl).table
