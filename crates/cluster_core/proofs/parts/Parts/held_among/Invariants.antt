-- With those that are held among the leaves left these are all.
use Rattle.cluster_core.proofs.Common.{AreHeldAmong, Leaf, List, cluster_of, drop, ◌++◌}
use Rattle.cluster_core.proofs.parts.Parts.held_among.Given as goal

abbrev pub invariant-loop-leaf : goal.invariant-loop-leaf
invariant-loop-leaf g l = (rest : List Leaf) → AreHeldAmong (cluster_of l.self).state l.rank (drop l.leaf-index l.leaf-items) rest → AreHeldAmong (cluster_of l.self).state l.rank l.leaf-items (l.held.items ++ rest)
