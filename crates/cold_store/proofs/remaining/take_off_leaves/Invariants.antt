-- What the leaves to come take off is what all of them take off.
use Rattle.cold_store.proofs.Common.{contents, drop, key_cmp, leaf_texts, keys_without, ◌≡◌}
use Rattle.cold_store.proofs.remaining.take_off_leaves.Given as goal

abbrev pub invariant-loop-leaf : goal.invariant-loop-leaf
invariant-loop-leaf l = keys_without (contents key_cmp l.left) (leaf_texts l.dir (drop l.leaf-index l.leaves)) ≡ keys_without (contents key_cmp l.fn.left) (leaf_texts l.fn.dir l.fn.leaves)
