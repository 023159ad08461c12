-- No rank that was tried has it, and all is as it was.
use Rattle.dentry_cache.proofs.Common.{false, here, is_some, ℕ, ◌<◌, ◌≡◌}
use Rattle.dentry_cache.proofs.caches.Caches.end.Given as goal

abbrev pub invariant-loop-index : goal.invariant-loop-index
invariant-loop-index l = record {
  same : l.self ≡ l.fn.self;
  none : (r : ℕ) → r < l.index → is_some (here l.fn.self r (l.dir, l.frag)) ≡ false;
}
