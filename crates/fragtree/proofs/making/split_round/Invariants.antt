-- The fragments of fewer bits round the leaf are split.
use Rattle.fragtree.proofs.Common.{IsSplitRound, contents, frag_cmp}
use Rattle.fragtree.proofs.making.split_round.Given as goal

abbrev pub invariant-loop-bits : goal.invariant-loop-bits
invariant-loop-bits l = IsSplitRound (contents frag_cmp l.initial.splits) (contents frag_cmp l.splits) l.leaf l.bits
