-- The descent of the hash comes by the fragment, at more bits in each turn.
use Rattle.fragtree.proofs.Common.{contents, frag_cmp, ◌-◌}
use Rattle.fragtree.proofs.Steps.{ComesBy}
use Rattle.fragtree.proofs.descents.leaf_of.Given as goal

abbrev pub invariant-loop-nb : goal.invariant-loop-nb
invariant-loop-nb l = ComesBy (contents frag_cmp l.splits) l.hash l.leaf

abbrev pub decreases-loop-nb : goal.decreases-loop-nb
decreases-loop-nb l = 24 - l.leaf.bits
