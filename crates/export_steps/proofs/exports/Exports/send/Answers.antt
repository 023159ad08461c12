use Rattle.export_steps.proofs.Common.{ComesTo, Some, Standing, by_cmp, contents, leaf_cmp, refl, subst, sym, ◌≡◌}
use Rattle.std.specs.FinMap as map
use Rattle.export_steps.specs.declared.exports.ExportState.TheVariants as state
use Rattle.export_steps.proofs.Outcomes.{advanced}
use Rattle.export_steps.proofs.Placed.{comes_placed}
use Rattle.export_steps.proofs.exports.Exports.send.Goals as goal

pub put_state-requires : goal.put_state-requires
put_state-requires c = subst (λ (m : Standing). map.get m (c.args.dir, c.args.frag) ≡ Some c.args.export) (sym c.self.view_is) c.requires.stands

pub returns-clause-outcome : goal.returns-clause-outcome
returns-clause-outcome c =
    subst (λ (m : Standing). ComesTo m (contents leaf_cmp c.put_state.new.rows) (c.args.dir, c.args.frag) state.Prepared state.Sent) c.self.view_is
    (advanced (contents leaf_cmp c.self.inside.rows) (contents leaf_cmp c.put_state.new.rows) (c.args.dir, c.args.frag) state.Prepared state.Sent c.args.export
    (subst (λ (m : Standing). map.get m (c.args.dir, c.args.frag) ≡ Some c.args.export) (sym c.self.view_is) c.requires.stands) c.requires.prepared c.put_state.ensures.come)

pub returns-clause-placed : goal.returns-clause-placed
returns-clause-placed c = comes_placed c.args.self.now (contents leaf_cmp c.put_state.new.rows) (c.args.dir, c.args.frag) state.Prepared state.Sent refl (returns-clause-outcome c)

pub invariant_of-self : goal.invariant_of-self
invariant_of-self c = c.put_state.ensures.kept (contents by_cmp c.self.inside.by) c.self.invariant
