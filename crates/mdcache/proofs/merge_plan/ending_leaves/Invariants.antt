-- The leaves so far and those inside that are to come are all of them.
use Rattle.mdcache.proofs.Common.{leaves_inside, ◌++◌, ◌≡◌}
use Rattle.mdcache.proofs.merge_plan.ending_leaves.Given as goal

abbrev pub invariant-loop-leaf : goal.invariant-loop-leaf
invariant-loop-leaf l = l.leaves.items ++ leaves_inside l.frag l.leaf-iterator ≡ leaves_inside l.frag l.tree
