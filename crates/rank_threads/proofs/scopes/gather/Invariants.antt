use Rattle.rank_threads.proofs.Common.{AllByRecursion, IsAskedFor, PlansAnswered, firsts_of_all, length, map, receipts_of_all, vec_items, ◌+◌, ◌≡◌}
use Rattle.rank_threads.specs.TookTurn.{PlansTook, of_rank, kept_of}
use Rattle.rank_threads.proofs.scopes.gather.Given as goal

abbrev pub invariant-loop-handle : goal.invariant-loop-handle
invariant-loop-handle g l = record {
  answered : PlansAnswered (map (λ h. h.promise.turns.value.items) l.yielded) (map vec_items l.answers.items);
  took : PlansTook (map (λ h. of_rank h.promise.rank h.promise.turns.value.items) l.yielded) (map vec_items l.answers.items) (kept_of l.kept.items);
  parts : l.all.parts ≡ l.initial.all.parts + length l.yielded;
  amount : l.all.amount ≡ l.initial.all.amount + firsts_of_all (map vec_items l.answers.items);
  asked_for : ∥ AllByRecursion (IsAskedFor g.L.Handed.sent) (receipts_of_all (map vec_items l.answers.items)) ∥₁;
}
