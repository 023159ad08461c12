-- Each turn tells of one leaf.
use Rattle.subtree_map.proofs.Common.{AreEach, HasLearnt}
use Rattle.subtree_map.proofs.list_learning.learn_all.Given as goal

abbrev pub invariant-loop-k : goal.invariant-loop-k
invariant-loop-k l = AreEach (λ i. HasLearnt l.k) l.initial.lists l.lists
