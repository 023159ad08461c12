-- The first of the lists so far.
use Rattle.subtree_map.proofs.Common.{IsFirstBy, claimed, first_told, is_leaf_after, take}
use Rattle.subtree_map.proofs.list_firsts.first_claim.Given as goal

abbrev pub invariant-loop-i : goal.invariant-loop-i
invariant-loop-i l = IsFirstBy (first_told claimed (take l.i l.lists)) (is_leaf_after l.after) l.first
