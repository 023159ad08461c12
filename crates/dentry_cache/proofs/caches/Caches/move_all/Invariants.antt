-- The leaves from the index on went.
use Rattle.dentry_cache.proofs.Common.{drop, length, moved_all, ◌≡◌, ◌≤◌}
use Rattle.dentry_cache.proofs.caches.Caches.move_all.Given as goal

abbrev pub invariant-loop-i : goal.invariant-loop-i
invariant-loop-i l = record {
  few : l.i ≤ length l.leaves;
  moved : l.self ≡ moved_all l.fn.self l.from.0 l.to.0 (drop l.i l.leaves);
}

abbrev pub decreases-loop-i : goal.decreases-loop-i
decreases-loop-i l = l.i
