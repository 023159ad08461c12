-- Each turn makes room in one list.
use Rattle.subtree_map.proofs.Common.{HasGrown}
use Rattle.subtree_map.proofs.RowLaws.{IsTurn}
use Rattle.subtree_map.proofs.list_changes.reserve_each.Given as goal

abbrev pub invariant-loop-i : goal.invariant-loop-i
invariant-loop-i l = IsTurn (λ i. HasGrown l.additional) l.initial.lists l.lists l.i
