-- The root's count is lowered beside the rows, that of another directory in its row.
use Rattle.inode_table.proofs.Common.{DirTable, ap, sym, ℕ, ◌-◌}
use Rattle.inode_table.proofs.Chains.{are_same, are_apart}
use Rattle.inode_table.proofs.RowLaws.{has_known_row}
use Rattle.inode_table.proofs.SeenRows.{other_count, root_other_count}
use Rattle.inode_table.proofs.dirs.Dirs.entry_goes.Goals as goal

pub returns-then-eq : goal.returns-then-eq
returns-then-eq c = root_other_count _ _ _ _ _ c.self.view_is c.self.invariant c.args.dir.0 (are_same _ _ c.if-eq.ensures) _ (λ (n : ℕ). n - 1) c.saturating_sub-self-inside.ensures

pub unreachable-requires : goal.unreachable-requires
unreachable-requires c =
    has_known_row c.self.inside.root _ c.args.dir.0 (are_apart _ _ c.if-eq.ensures) (sym c.in_default.ensures.value) (rw (ap (λ (t : DirTable). t.homes) c.self.view_is) c.requires)

pub returns : goal.returns
returns c = (other_count _ _ _ _ _ c.self.view_is c.self.invariant c.args.dir.0 c.in-Some.row.now c.in-Some.ensures.value _ (λ (n : ℕ). n - 1) (are_apart _ _ c.if-eq.ensures) c.saturating_sub-row.ensures).is

pub invariant_of-self-2 : goal.invariant_of-self-2
invariant_of-self-2 c = (other_count _ _ _ _ _ c.self.view_is c.self.invariant c.args.dir.0 c.in-Some.row.now c.in-Some.ensures.value _ (λ (n : ℕ). n - 1) (are_apart _ _ c.if-eq.ensures) c.saturating_sub-row.ensures).table
