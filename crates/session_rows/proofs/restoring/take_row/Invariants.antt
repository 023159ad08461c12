-- The client is taken over with the replies so far.
use Rattle.session_rows.proofs.Common.{length, ◌≡◌}
use Rattle.std.specs.Vec.Iter.{into_iter_items, into_iter_len}
use Rattle.sessions.specs.Rooms.{table}
use Rattle.session_rows.proofs.TakeLaws.{IsTaken}
use Rattle.session_rows.proofs.restoring.take_row.Given as goal

abbrev pub invariant-loop-told : goal.invariant-loop-told
invariant-loop-told l = record {
  count : into_iter_len l.told-iterator ≡ length (into_iter_items l.told-iterator);
  taken : IsTaken l.client l.fn.row (table l.fn.sessions) (table l.sessions) (into_iter_items l.told-iterator);
  changed : l.sessions.changed ≡ l.fn.sessions.changed;
}
