-- So far there is a cache without places taken for each turn.
use Rattle.dentry_cache.proofs.Common.{[], lru_cache, replicate, ◌≡◌}
use Rattle.dentry_cache.proofs.caches.empty_caches.Given as goal

abbrev pub invariant-loop : goal.invariant-loop
invariant-loop l = l.caches.items ≡ replicate l.counter (lru_cache [] l.places)
