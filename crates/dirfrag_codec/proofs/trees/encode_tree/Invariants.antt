-- The bytes so far and those of the leaves to come are the whole.
use Rattle.dirfrag_codec.proofs.Common.{flat_map, leaf_bytes, tree_bytes, ◌++◌, ◌≡◌}
use Rattle.dirfrag_codec.proofs.trees.encode_tree.Given as goal

abbrev pub invariant-loop-leaf : goal.invariant-loop-leaf
invariant-loop-leaf l = l.bytes.items ++ flat_map leaf_bytes l.leaf-iterator ≡ tree_bytes l.tree
