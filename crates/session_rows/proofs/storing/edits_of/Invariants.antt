-- The edits so far store what is kept of the changed clients, and the next numbers of the ranks so far.
use Rattle.session_rows.proofs.Common.{take}
use Rattle.sessions.specs.Rooms.{table}
use Rattle.session_rows.specs.Sessions.{WritesSessions}
use Rattle.session_rows.proofs.storing.edits_of.Given as goal

abbrev pub invariant-loop-rank : goal.invariant-loop-rank
invariant-loop-rank l = WritesSessions l.history (table l.sessions) l.sessions.changed (take l.rank l.nexts) l.edits.items
