-- Each of the leaves is one of those left, or isn't frozen.
use Rattle.cluster_core.proofs.Common.{Contains, IsFrozenAt, Leaf, cluster_of, drop, ◌⊎◌}
use Rattle.cluster_core.proofs.parts.Parts.is_one_frozen.Given as goal

abbrev pub invariant-loop-leaf : goal.invariant-loop-leaf
invariant-loop-leaf g l = (q : Leaf) → Contains l.leaf-items q → Contains (drop l.leaf-index l.leaf-items) q ⊎ (IsFrozenAt (cluster_of l.self).state q → ⊥)
