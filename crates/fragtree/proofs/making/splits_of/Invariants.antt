-- The splits are round the leaves, and lead to those that were taken.
use Rattle.fragtree.proofs.Common.{IsLedTo, contents, frag_cmp, ℕ, ◌<◌}
use Rattle.fragtree.proofs.Tilings.{leaf_at}
use Rattle.fragtree.proofs.Made.{AreRound}
use Rattle.fragtree.proofs.making.splits_of.Given as goal

abbrev pub invariant-loop-leaf : goal.invariant-loop-leaf
invariant-loop-leaf l = record {
  are : AreRound (contents frag_cmp l.splits) l.leaves;
  led : (j : ℕ) → j < l.leaf-index → IsLedTo (contents frag_cmp l.splits) (leaf_at l.leaves j) (leaf_at l.leaves j).bits;
}
