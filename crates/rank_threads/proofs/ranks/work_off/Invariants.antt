use Rattle.rank_threads.proofs.Common.{AllByRecursion, AreAnswered, Contains, IsAskedFor, firsts, into_iter_items, into_iter_len, plan_arrivals, receipts_of, vec_capacity, vec_len, ◌+◌, ◌≡◌, ◌≤◌}
use Rattle.std.specs.FinMap as finmap
use Rattle.rank_threads.specs.TookTurn.{TookTurns}
use Rattle.rank_threads.proofs.ranks.work_off.Given as goal

-- a result for each turn so far, and room for one of each that is left
abbrev pub invariant-loop-turn : goal.invariant-loop-turn
invariant-loop-turn g l = record {
  parts : l.mine.share.parts ≡ 1;
  amount : l.mine.share.amount ≡ firsts l.answers.items;
  answered : AreAnswered l.yielded l.answers.items;
  rank : l.mine.own.rank ≡ l.initial.mine.own.rank;
  took : TookTurns l.initial.mine.own.rank finmap.empty l.mine.own.kept.bytes l.yielded l.answers.items;
  room : vec_len l.answers + into_iter_len l.turn-iterator ≤ vec_capacity l.answers;
  sent : ∥ AllByRecursion (Contains g.L.Handed.sent) (plan_arrivals (into_iter_items l.turn-iterator)) ∥₁;
  asked_for : ∥ AllByRecursion (IsAskedFor g.L.Handed.sent) (receipts_of l.answers.items) ∥₁;
}
