-- The leaves from the index on are gathered, and there is room for the others.
use Rattle.export_regions.proofs.Common.{AreSendable, contents, drop, gathered, leaf_cmp, length, ◌≡◌, ◌≤◌}
use Rattle.export_regions.proofs.gathering.gather.Given as goal

abbrev pub invariant-loop-i : goal.invariant-loop-i
invariant-loop-i l = record {
  few : l.i ≤ length l.leaves;
  room : l.i ≤ l.sent.room;
  sent : contents leaf_cmp l.sent ≡ gathered l.caches l.rank.0 (drop l.i l.leaves);
  sendable : AreSendable (contents leaf_cmp l.sent);
}

abbrev pub decreases-loop-i : goal.decreases-loop-i
decreases-loop-i l = l.i
