-- What the grants come to with those of the leaves left.
use Rattle.cluster_core.proofs.Common.{drop, with_grants, ◌≡◌}
use Rattle.cluster_core.proofs.granting.granted.Given as goal

abbrev pub invariant-loop-leaf : goal.invariant-loop-leaf
invariant-loop-leaf l = with_grants l.more (drop l.leaf-index l.leaf-items) l.client l.tid ≡ with_grants l.fn.pins l.leaf-items l.client l.tid
