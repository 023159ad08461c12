use Rattle.admin_cli.proofs.PrintedLaws.{prints_new, prints_nothing}
use Rattle.admin_cli.proofs.Progress.{started}
use Rattle.admin_cli.specs.Modes.{DoesUnder}
use Rattle.admin_cli.proofs.script.run_new.Goals as goal

pub returns-in-Some-clause-ran : goal.returns-in-Some-clause-ran
returns-in-Some-clause-ran g c = started (DoesUnder c.args.mode) _ _ _ _ _ _ _ c.in-Some.book c.in-Some.ensures c.run_over-book.ensures.ran

pub returns-in-Some-clause-one_thread : goal.returns-in-Some-clause-one_thread
returns-in-Some-clause-one_thread g c = prints_new _ _ _ _ _ _ _ c.in-Some.book c.in-Some.ensures c.run_over-book.ensures.one_thread

pub returns-in_default-clause-one_thread : goal.returns-in_default-clause-one_thread
returns-in_default-clause-one_thread g c = prints_nothing _ _ _ _
