use Rattle.admin_cli.specs.Left.{BookGrows}
use Rattle.admin_cli.proofs.workload.listing.all_paths.Given as goal

abbrev pub invariant-loop-name : goal.invariant-loop-name
invariant-loop-name g l = BookGrows l.initial.book l.book
