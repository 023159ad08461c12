use Rattle.export_steps.proofs.Common.{Standing, Starts, ap, contents, is_some, leaf_cmp, subst, sym, ◌∙◌}
use Rattle.std.specs.FinMap as map
use Rattle.export_steps.proofs.Outcomes.{not_started, started}
use Rattle.export_steps.proofs.Placed.{starts_placed}
use Rattle.export_steps.proofs.ByExporterLaws.{is_none}
use Rattle.export_steps.proofs.exports.Exports.start.Goals as goal

pub returns-then-contains-clause-outcome : goal.returns-then-contains-clause-outcome
returns-then-contains-clause-outcome c =
    not_started c.args.self.now c.args.self.now (c.args.dir, c.args.frag) c.args.exporter c.args.importer
    (ap (λ (m : Standing). is_some (map.get m (c.args.dir, c.args.frag))) (sym c.self.view_is) ∙ sym c.contains.ensures ∙ c.if-contains.true)

pub returns-clause-outcome : goal.returns-clause-outcome
returns-clause-outcome c =
    subst (λ m. Starts m (contents leaf_cmp c.put_new.new.rows) (c.args.dir, c.args.frag) c.args.exporter c.args.importer c.put_new.result) c.self.view_is (started
    (contents leaf_cmp c.self.inside.rows) (contents leaf_cmp c.put_new.new.rows) (c.args.dir, c.args.frag) c.args.exporter c.args.importer c.put_new.result
    (sym c.contains.ensures ∙ c.if-contains.false) c.put_new.ensures.ok c.put_new.ensures.err c.put_new.ensures.left)

pub returns-clause-placed : goal.returns-clause-placed
returns-clause-placed c =
    starts_placed c.args.self.now (contents leaf_cmp c.put_new.new.rows) (c.args.dir, c.args.frag) c.args.exporter c.args.importer c.put_new.result (returns-clause-outcome c)

pub invariant_of-self : goal.invariant_of-self
invariant_of-self c = c.put_new.ensures.kept (record { exporter = c.requires.exporter; importer = c.requires.importer; apart = c.requires.apart }) c.self.invariant

pub put_new-requires : goal.put_new-requires
put_new-requires c = is_none _ (sym c.contains.ensures ∙ c.if-contains.false)
