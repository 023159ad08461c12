-- The leaves that were looked up are leaves of the other tree too.
use Rattle.fragtree.proofs.Common.{Fragment, HasLeaf, List, ◌++◌, ◌≡◌}
use Rattle.fragtree.proofs.compare.have_same_leaves.Given as goal

abbrev pub invariant-loop-leaf : goal.invariant-loop-leaf
invariant-loop-leaf l = (done : List Fragment) × (l.tree ≡ done ++ l.leaf-iterator) × ((g : Fragment) → HasLeaf done g → HasLeaf l.other g)
