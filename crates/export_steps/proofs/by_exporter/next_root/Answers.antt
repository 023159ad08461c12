use Rattle.export_steps.proofs.Common.{by_cmp, contents}
use Rattle.export_steps.proofs.ByExporterLaws.{other_next, some_next_at}
use Rattle.export_steps.proofs.by_exporter.next_root.Goals as goal

pub returns-then-key-rank : goal.returns-then-key-rank
returns-then-key-rank c = other_next (contents by_cmp c.args.by.now) c.args.rank.0 c.args.after.now c.in-Some.key c.in-Some.ensures c.if-key-rank.true

pub returns : goal.returns
returns c = some_next_at (contents by_cmp c.args.by.now) c.args.rank.0 c.args.after.now c.in-Some.key c.in-Some.ensures c.if-key-rank.false
