use Rattle.rank_threads.proofs.Common.{StandAmong, drop, length, ◌≤◌}
use Rattle.rank_threads.proofs.ReceiptLaws.{AreMarked}
use Rattle.rank_threads.proofs.standing.stand_among.Given as goal

-- those behind stand, and the places of the first ones among them are named
abbrev pub invariant-loop-left : goal.invariant-loop-left
invariant-loop-left l = record {
  within : l.left ≤ length l.receipts;
  marked : AreMarked l.forgotten (length l.history) l.named.items (drop l.left l.receipts);
  stand : StandAmong l.forgotten l.history l.from (drop l.left l.receipts);
}

abbrev pub decreases-loop-left : goal.decreases-loop-left
decreases-loop-left l = l.left
