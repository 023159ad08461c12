use Rattle.export_steps.proofs.Common.{RootsBy, Standing, ap, by_cmp, contents, leaf_cmp, ◌∙◌}
use Rattle.std.specs.FinMap as map
use Rattle.export_steps.proofs.ByExporterLaws.{put_exports}
use Rattle.export_steps.proofs.steps.put_new.Goals as goal

pub returns-clause-kept : goal.returns-clause-kept
returns-clause-kept c its kept =
    put_exports
    (contents leaf_cmp c.args.rows.now) (contents leaf_cmp c.insert.new.self) c.args.root.now (contents by_cmp c.args.by.now) kept c.args.export.now (contents by_cmp c.insert-2.new.self) c.requires
    (c.insert.ensures.inserted ∙ ap (λ (m : Standing). map.insert m c.args.root.now c.args.export.now) c.reserve.ensures.same)
    (c.insert-2.ensures.inserted ∙ ap (λ (m : RootsBy). map.insert m (c.args.export.now.exporter.0, c.args.root.now) tt) c.reserve-2.ensures.same) its
