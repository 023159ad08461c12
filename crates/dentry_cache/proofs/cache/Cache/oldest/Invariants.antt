-- None of the places that were passed may go.
use Rattle.dentry_cache.proofs.Common.{NoneGoes, Places, length, ◌++◌, ◌≡◌}
use Rattle.dentry_cache.proofs.cache.Cache.oldest.Given as goal

abbrev pub invariant-loop-leaf : goal.invariant-loop-leaf
invariant-loop-leaf l = (walked : Places) × (l.self.entries ≡ l.places ++ walked) × NoneGoes l.stay walked

abbrev pub decreases-loop-leaf : goal.decreases-loop-leaf
decreases-loop-leaf l = length l.places
