use Rattle.rank_threads.proofs.Common.{EachIsSent, into_iter_items, into_iter_len, length, map, vec_items, ◌+◌, ◌≡◌, ◌≤◌}
use Rattle.rank_threads.specs.TookTurn.{of_rank, by_rank}
use Rattle.rank_threads.proofs.prepared.plans_of.Given as goal

abbrev pub invariant-loop-turns : goal.invariant-loop-turns
invariant-loop-turns g l = record {
  turns : map (λ p. p.turns.items) l.plans.items ≡ map vec_items l.yielded;
  asked : map (λ p. of_rank p.rank p.turns.items) l.plans.items ≡ by_rank (map vec_items l.yielded);
  rank : l.rank ≡ length l.yielded;
  few : l.rank + into_iter_len l.turns-iterator ≤ 16;
  parts : l.all.parts + length l.yielded ≡ l.initial.all.parts;
  amount : l.all.amount ≡ l.initial.all.amount;
  sent : EachIsSent g.L.Handed.sent (map vec_items (into_iter_items l.turns-iterator));
}
