-- The edits so far store what is kept of the clients so far.
use Rattle.session_rows.proofs.Common.{[], take}
use Rattle.sessions.specs.Rooms.{table}
use Rattle.session_rows.specs.Sessions.{WritesSessions}
use Rattle.session_rows.proofs.storing.client_edits.Given as goal

abbrev pub invariant-loop-client : goal.invariant-loop-client
invariant-loop-client l = WritesSessions l.history (table l.sessions) (take l.client-index l.sessions.changed) [] l.edits.items
