use Rattle.admin_cli.proofs.Common.{map, root_of, roots_in, ◌++◌, ◌≡◌}
use Rattle.admin_cli.proofs.authorities.root_list.Given as goal

-- the roots passed are in the list
abbrev pub invariant-loop-row : goal.invariant-loop-row
invariant-loop-row l = roots_in l.subtrees.roots ≡ l.roots.items ++ map root_of l.row-iterator
