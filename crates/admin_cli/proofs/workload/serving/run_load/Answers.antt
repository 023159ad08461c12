-- The book went on through what was made ready, what was forgotten, and the run.
use Rattle.admin_cli.proofs.GoesOnLaws.{goes_on_past, goes_on_run, opens_still}
use Rattle.admin_cli.proofs.workload.serving.run_load.Goals as goal

pub reported-requires : goal.reported-requires
reported-requires g c =
    let ready = goes_on_past c.args.book c.planned-plans.new.book c.forget_passed.new.book c.planned-plans.ensures.goes_on c.forget_passed.ensures in
    let ran = goes_on_past c.args.book c.forget_passed.new.book c.in-Ok.field-0.book ready (goes_on_run c.forget_passed.new.book c.in-Ok.field-0.book c.in-Ok.ensures.ok) in
    record { opening = opens_still c.args.book c.in-Ok.field-0.book ran c.requires.opening }

pub returns-in-Ok-clause-left : goal.returns-in-Ok-clause-left
returns-in-Ok-clause-left g c =
    let ready = goes_on_past c.args.book c.planned-plans.new.book c.forget_passed.new.book c.planned-plans.ensures.goes_on c.forget_passed.ensures in
    let ran = goes_on_past c.args.book c.forget_passed.new.book c.in-Ok.field-0.book ready (goes_on_run c.forget_passed.new.book c.in-Ok.field-0.book c.in-Ok.ensures.ok) in
    goes_on_past c.args.book c.in-Ok.field-0.book c.reported.result.book ran c.reported.ensures.left

pub failed-requires : goal.failed-requires
failed-requires g c =
    let ready = goes_on_past c.args.book c.planned-plans.new.book c.forget_passed.new.book c.planned-plans.ensures.goes_on c.forget_passed.ensures in
    let ran = goes_on_past c.args.book c.forget_passed.new.book c.in-Err.field-0.book ready (goes_on_run c.forget_passed.new.book c.in-Err.field-0.book c.in-Err.ensures.err) in
    record { opening = opens_still c.args.book c.in-Err.field-0.book ran c.requires.opening }

pub returns-clause-left : goal.returns-clause-left
returns-clause-left g c =
    let ready = goes_on_past c.args.book c.planned-plans.new.book c.forget_passed.new.book c.planned-plans.ensures.goes_on c.forget_passed.ensures in
    let ran = goes_on_past c.args.book c.forget_passed.new.book c.in-Err.field-0.book ready (goes_on_run c.forget_passed.new.book c.in-Err.field-0.book c.in-Err.ensures.err) in
    goes_on_past c.args.book c.in-Err.field-0.book c.failed.result.book ran c.failed.ensures.left
