-- Each of the pins is one of those left, or isn't on a leaf of the region.
use Rattle.cluster_core.proofs.Common.{Contains, IsUnder, Pin, drop, ◌⊎◌}
use Rattle.cluster_core.proofs.pinned.is_region_pinned.Given as goal

abbrev pub invariant-loop-pin : goal.invariant-loop-pin
invariant-loop-pin g l = (q : Pin) → Contains l.pin-items q → Contains (drop l.pin-index l.pin-items) q ⊎ (IsUnder l.tree.subtrees.roots l.tree.tree.homes l.tree.tree.covers (l.fn.dir, l.fn.frag) (q.dir, q.frag) → ⊥)
