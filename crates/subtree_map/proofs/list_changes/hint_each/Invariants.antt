-- Each turn changes one list.
use Rattle.subtree_map.proofs.Common.{HasHints}
use Rattle.subtree_map.proofs.RowLaws.{IsTurn}
use Rattle.subtree_map.proofs.list_changes.hint_each.Given as goal

abbrev pub invariant-loop-i : goal.invariant-loop-i
invariant-loop-i l = IsTurn (λ i. HasHints) l.initial.lists l.lists l.i
