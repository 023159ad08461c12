use Rattle.admin_cli.proofs.workload.serving.reported.Goals as goal

-- the book that was handed over is the sound one
pub returns-in-Some-clause-ok : goal.returns-in-Some-clause-ok
returns-in-Some-clause-ok g c = record { book = c.args.book; opening = c.requires.opening; reports = c.in-Some.ensures.reports }
