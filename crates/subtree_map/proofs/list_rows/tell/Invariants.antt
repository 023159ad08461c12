-- Each turn tells one list.
use Rattle.subtree_map.proofs.Common.{Hears}
use Rattle.subtree_map.proofs.RowLaws.{IsTurn}
use Rattle.subtree_map.proofs.list_rows.tell.Given as goal

abbrev pub invariant-loop-i : goal.invariant-loop-i
invariant-loop-i l = IsTurn (Hears l.leaf l.home l.news) l.initial.lists l.lists l.i
