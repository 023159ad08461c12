-- The names are those of the objects of the children that were passed.
use Rattle.mdcache.proofs.ChildNames.{NameFirst}
use Rattle.mdcache.proofs.split_plan.child_names.Given as goal

abbrev pub invariant-loop-i : goal.invariant-loop-i
invariant-loop-i l = NameFirst l.dir l.frag l.nb l.i l.names.items
