-- Three steps, the last of which may be refused.
use Rattle.admin_cli.proofs.GoesOnLaws.{goes_on_past}
use Rattle.admin_cli.proofs.workload.handing.prepare.Goals as goal

pub returns : goal.returns
returns g c =
    goes_on_past c.args.book.now c.step-2.new.book c.step-3.new.book
    (goes_on_past c.args.book.now c.step.new.book c.step-2.new.book c.step.ensures c.step-2.ensures) c.step-3.ensures

pub returns-in_err-ok-3 : goal.returns-in_err-ok-3
returns-in_err-ok-3 g c =
    goes_on_past c.args.book.now c.step-2.new.book c.step-3.new.book
    (goes_on_past c.args.book.now c.step.new.book c.step-2.new.book c.step.ensures c.step-2.ensures) c.step-3.ensures
