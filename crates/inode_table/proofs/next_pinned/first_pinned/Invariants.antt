-- What was passed has no pin.
use Rattle.inode_table.proofs.Common.{find, is_sorted, nat_cmp, pin_in}
use Rattle.std.specs.Prelude.{◌≡◌, ℕ, T, length}
use Rattle.inode_table.proofs.next_pinned.first_pinned.Given as goal

abbrev pub invariant-loop-row : goal.invariant-loop-row
invariant-loop-row l = record {
  sorted : T (is_sorted nat_cmp l.rows);
  each : (d : ℕ) → pin_in (find nat_cmp d l.rows) ≡ pin_in (find nat_cmp d l.fn.rows);
}

abbrev pub decreases-loop-row : goal.decreases-loop-row
decreases-loop-row l = length l.rows
