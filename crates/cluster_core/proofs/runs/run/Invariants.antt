use Rattle.cluster_core.proofs.Common.{Entry, Opening, StandsBehind, IsSoundKept, List, Runs, drop, into_iter_items, into_iter_len, length, take, vec_capacity, vec_len, whole_of, ◌+◌, ◌≡◌, ◌≤◌}
use Rattle.cluster_core.proofs.runs.run.Given as goal

-- as many events were run as there are results, and there is room for a result of each that is left
abbrev pub invariant-loop-event : goal.invariant-loop-event
invariant-loop-event g l = record {
  ran : (opening : Opening) (past : List Entry) → StandsBehind opening past l.initial.book
      → Runs (whole_of opening past l.initial.book) (take (vec_len l.results) l.fn.events.items) l.results.items (whole_of opening past l.book);
  goes_on : (opening : Opening) (past : List Entry) → StandsBehind opening past l.initial.book → StandsBehind opening past l.book;
  same_opening : l.book.opening ≡ l.initial.book.opening;
  left : into_iter_items l.events ≡ drop (vec_len l.results) l.fn.events.items;
  count : vec_len l.results + into_iter_len l.events ≡ length l.fn.events.items;
  room : length l.fn.events.items ≤ vec_capacity l.results;
  sound : IsSoundKept l.book;
}

abbrev pub decreases-loop-event : goal.decreases-loop-event
decreases-loop-event g l = into_iter_len l.events
