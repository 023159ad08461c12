-- The places of the leaves from the index on are given up.
use Rattle.dentry_cache.proofs.Common.{drop, length, without_all, ◌≡◌, ◌≤◌}
use Rattle.dentry_cache.proofs.caches.Caches.forget_all.Given as goal

abbrev pub invariant-loop-i : goal.invariant-loop-i
invariant-loop-i l = record {
  few : l.i ≤ length l.leaves;
  without : l.self ≡ without_all l.fn.self l.rank.0 (drop l.i l.leaves);
}

abbrev pub decreases-loop-i : goal.decreases-loop-i
decreases-loop-i l = l.i
