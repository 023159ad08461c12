-- the leaves that are noted, and those to come
use Rattle.namespace_ops.proofs.Common.{drop, in_directory, map, ◌++◌, ◌≡◌}
use Rattle.namespace_ops.proofs.changing.note_leaves.Given as goal

abbrev pub invariant-loop-leaf : goal.invariant-loop-leaf
invariant-loop-leaf l = l.list.items ++ map (in_directory l.dir.0) (drop l.leaf-index l.leaves) ≡ l.initial.list.items ++ map (in_directory l.dir.0) l.leaves
