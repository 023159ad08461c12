use Rattle.rank_threads.proofs.Common.{map, ◌≡◌}
use Rattle.rank_threads.specs.TookTurn.{of_rank}
use Rattle.rank_threads.proofs.scopes.start_all.Given as goal

abbrev pub invariant-loop-plan : goal.invariant-loop-plan
invariant-loop-plan g l = record {
  turns : map (λ h. h.promise.turns.value.items) l.handles.items ≡ map (λ p. p.turns.items) l.yielded;
  asked : map (λ h. of_rank h.promise.rank h.promise.turns.value.items) l.handles.items ≡ map (λ p. of_rank p.rank p.turns.items) l.yielded;
}
