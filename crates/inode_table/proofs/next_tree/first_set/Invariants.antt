-- What is left has the same first number.
use Rattle.inode_table.specs.Rows.{set_in}
use Rattle.std.specs.Prelude.{◌≡◌, length, slice_get}
use Rattle.inode_table.proofs.next_tree.first_set.Given as goal

abbrev pub invariant-loop-row : goal.invariant-loop-row
invariant-loop-row l = slice_get (set_in l.rows) 0 ≡ slice_get (set_in l.fn.rows) 0

abbrev pub decreases-loop-row : goal.decreases-loop-row
decreases-loop-row l = length l.rows
