use Rattle.export_steps.proofs.Common.{contents, leaf_cmp}
use Rattle.export_steps.proofs.ByExporterLaws.{come_exports}
use Rattle.export_steps.proofs.steps.put_state.Goals as goal

pub returns-clause-kept : goal.returns-clause-kept
returns-clause-kept c by kept =
    come_exports
    (contents leaf_cmp c.args.rows.now) (contents leaf_cmp c.replace.new.self) (c.args.dir, c.args.frag) by kept c.args.export c.args.state c.requires c.replace.ensures.inserted
