-- The leaves taken and those to come are all of them.
use Rattle.fragtree.proofs.Common.{◌++◌, ◌≡◌}
use Rattle.fragtree.proofs.tree.FragTree.leaves.Given as goal

abbrev pub invariant-loop-leaf : goal.invariant-loop-leaf
invariant-loop-leaf l = l.leaves.items ++ l.leaf-iterator ≡ l.self
