-- So far there is a list with no row for each turn.
use Rattle.subtree_map.proofs.Common.{HaveNone}
use Rattle.subtree_map.proofs.lists.empty_lists.Given as goal

abbrev pub invariant-loop : goal.invariant-loop
invariant-loop l = HaveNone l.counter l.lists.items
