use Rattle.admin_cli.specs.Left.{BookGrows}
use Rattle.admin_cli.proofs.workload.setup.make_homes.Given as goal

abbrev pub invariant-loop-number : goal.invariant-loop-number
invariant-loop-number g l = BookGrows l.initial.book l.book
