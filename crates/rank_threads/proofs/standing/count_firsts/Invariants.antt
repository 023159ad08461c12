use Rattle.rank_threads.proofs.Common.{drop, first_places, length, ◌+◌, ◌≡◌, ◌≤◌}
use Rattle.rank_threads.proofs.standing.count_firsts.Given as goal

abbrev pub invariant-loop-receipt : goal.invariant-loop-receipt
invariant-loop-receipt l = (l.count ≤ l.receipt-index) × (l.count + length (first_places (drop l.receipt-index l.receipts)) ≡ length (first_places l.receipts))
