use Rattle.admin_cli.proofs.GoesOnLaws.{goes_on_past}
use Rattle.admin_cli.proofs.workload.requests.ask.Goals as goal

pub returns : goal.returns
returns g c = goes_on_past _ _ _ (goes_on_past _ _ _ c.step.ensures c.step-answer.ensures) c.serve_on-answer.ensures
