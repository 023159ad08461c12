-- The places of the children that were passed are given up.
use Rattle.dentry_cache.proofs.Common.{without_children, ◌≡◌}
use Rattle.dentry_cache.proofs.caches.Caches.drop_children.Given as goal

abbrev pub invariant-loop-i : goal.invariant-loop-i
invariant-loop-i l = l.self ≡ without_children l.at.rank.0 l.at.dir l.at.frag l.bits l.i l.fn.self
