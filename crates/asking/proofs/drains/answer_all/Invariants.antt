-- At most so many requests aren't at their master as are counted.
use Rattle.asking.proofs.Common.{Entry, IsSoundKept, List, Opening, StandsBehind, whole_of, ◌*◌, ◌+◌, ◌≡◌, ◌≤◌}
use Rattle.cluster_core.specs.Runs.{GoesOnFrom}
use Rattle.asking.specs.Drain.{FewStrays, waiting_in_all}
use Rattle.asking.specs.Reached.{ServesWaiting}
use Rattle.asking.proofs.drains.answer_all.Given as goal

abbrev pub invariant-loop-found : goal.invariant-loop-found
invariant-loop-found g l = record {
  few : waiting_in_all l.book.core.state.inboxes ≤ 1024;
  served : (opening : Opening) (past : List Entry) → StandsBehind opening past l.initial.book → ServesWaiting (whole_of opening past l.initial.book) (whole_of opening past l.book) l.receipts.items;
  goes_on : (opening : Opening) (past : List Entry) → StandsBehind opening past l.initial.book → StandsBehind opening past l.book;
  strays : FewStrays l.book.core.state l.strays;
  exports : l.book.core.state.exports ≡ l.initial.book.core.state.exports;
  grows : GoesOnFrom l.book.history l.initial.book.history;
  same_opening : l.book.opening ≡ l.initial.book.opening;
  sound : IsSoundKept l.book;
}

-- each round lessens how many wait, or how many of them aren't at their master
abbrev pub decreases-loop-found : goal.decreases-loop-found
decreases-loop-found g l = waiting_in_all l.book.core.state.inboxes * 1025 + l.strays
