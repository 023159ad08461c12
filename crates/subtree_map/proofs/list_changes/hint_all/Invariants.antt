-- Each turn changes a hint at most.
use Rattle.subtree_map.proofs.Common.{HasHints}
use Rattle.subtree_map.proofs.list_changes.hint_all.Given as goal

abbrev pub invariant-loop : goal.invariant-loop
invariant-loop l = HasHints l.initial.rows l.rows
