-- Each turn changes one list.
use Rattle.subtree_map.proofs.Common.{HasDropped}
use Rattle.subtree_map.proofs.RowLaws.{IsTurn}
use Rattle.subtree_map.proofs.list_changes.drop_each.Given as goal

abbrev pub invariant-loop-i : goal.invariant-loop-i
invariant-loop-i l = IsTurn (λ i. HasDropped l.dir.0) l.initial.lists l.lists l.i
