-- So many exports ended so far, and nothing else happened.
use Rattle.asking.proofs.Common.{Entry, IsSoundKept, List, NoneWaits, Opening, StandsBehind, whole_of, ◌++◌, ◌≡◌}
use Rattle.std.specs.FinMap as map
use Rattle.asking.specs.Ending.{HasAllBytes}
use Rattle.asking.proofs.ThroughLaws.{HasGone}
use Rattle.asking.proofs.through.ask_through.Given as goal

abbrev pub invariant-loop-root : goal.invariant-loop-root
invariant-loop-root g l = record {
  gone : (opening : Opening) (past : List Entry) → StandsBehind opening past l.initial.book
      → HasGone l.cancel l.rank l.request (whole_of opening past l.initial.book) (whole_of opening past l.book) l.initial.kept l.kept;
  goes_on : (opening : Opening) (past : List Entry) → StandsBehind opening past l.initial.book → StandsBehind opening past l.book;
  same : (opening : Opening) (past : List Entry) → StandsBehind opening past l.initial.book → past ++ l.book.history ≡ past ++ l.initial.book.history;
  bytes : HasAllBytes l.initial.book.core.state l.initial.kept → HasAllBytes l.book.core.state l.kept;
  none : NoneWaits l.book.core.state.inboxes;
  same_opening : l.book.opening ≡ l.initial.book.opening;
  limit : l.book.core.state.tree.limit ≡ l.initial.book.core.state.tree.limit;
  sound : IsSoundKept l.book;
}

abbrev pub decreases-loop-root : goal.decreases-loop-root
decreases-loop-root g l = map.len l.book.core.state.exports
