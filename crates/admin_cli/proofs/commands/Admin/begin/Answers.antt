use Rattle.admin_cli.proofs.Common.{rules}
use Rattle.admin_cli.proofs.Committed.{on_err}
use Rattle.admin_cli.proofs.commands.Admin.begin.Goals as goal

pub returns-in_err-keep-in-Ok-Job-clause-err : goal.returns-in_err-keep-in-Ok-Job-clause-err
returns-in_err-keep-in-Ok-Job-clause-err g c = on_err c.from_residual.result (record { job = c.in-Ok-Job.job; stepped = search rules; jobs = search rules; sent = search rules; count = search rules })
