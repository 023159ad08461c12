use Rattle.export_steps.proofs.Common.{by_cmp, contents, leaf_cmp}
use Rattle.export_steps.proofs.ByExporterLaws.{end_exports}
use Rattle.export_steps.proofs.steps.end.Goals as goal

pub returns-clause-kept : goal.returns-clause-kept
returns-clause-kept c kept =
    end_exports
    (contents leaf_cmp c.args.rows.now) (contents leaf_cmp c.remove.new.self) (c.args.dir, c.args.frag) (contents by_cmp c.args.by.now) kept c.args.export (contents by_cmp c.remove-2.new.self)
    c.requires c.remove.ensures.removed c.remove-2.ensures.removed
