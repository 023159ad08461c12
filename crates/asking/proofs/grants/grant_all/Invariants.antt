-- The ranks so far have granted what is theirs.
use Rattle.asking.proofs.Common.{Entry, GrantsSo, IsSoundKept, LeadsTo, List, None, Opening, Request, Some, StandsBehind, [], first_waiting, whole_of, ◌≡◌}
use Rattle.asking.proofs.GrantLaws.{Below}
use Rattle.asking.proofs.grants.grant_all.Given as goal

abbrev pub invariant-loop-rank : goal.invariant-loop-rank
invariant-loop-rank g l = record {
  so : (request : Request) → first_waiting l.client l.tid l.initial.book.core.state.inboxes ≡ Some request → GrantsSo l.initial.book.core l.book.core l.client l.tid request.op (Below l.rank);
  reached : (opening : Opening) (past : List Entry) → StandsBehind opening past l.initial.book → LeadsTo l.client l.tid [] l.rank [] None (whole_of opening past l.initial.book) (whole_of opening past l.book);
  goes_on : (opening : Opening) (past : List Entry) → StandsBehind opening past l.initial.book → StandsBehind opening past l.book;
  history : l.book.history ≡ l.initial.book.history;
  same_opening : l.book.opening ≡ l.initial.book.opening;
  sound : IsSoundKept l.book;
  faults : l.book.core.faults ≡ l.initial.book.core.faults;
}
