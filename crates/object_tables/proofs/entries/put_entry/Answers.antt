use Rattle.std.proofs.Common.{◌∙◌, ap, arith, subst, option_copied, ℕ}
use Rattle.sqlite_trees.specs.View.{IsClean}
use Rattle.sqlite_trees.specs.declared.store.Shape.{Shape}
use Rattle.object_tables.specs.Entries.{HoldsValue, Looks, PutsRow}
use Rattle.object_tables.proofs.StoreLaws.{missed, put_absent, put_already, put_removed, put_then}
use Rattle.object_tables.proofs.entries.put_entry.Goals.{then-had+else-has_value+in_ok-remove, else-had}
use Rattle.object_tables.proofs.entries.put_entry.Goals as goal

pub returns-then-has_value-clause-ok : goal.returns-then-has_value-clause-ok
returns-then-has_value-clause-ok g c clean table =
    let old = g.T.Store.view c.args.trees.now in
    let new = g.T.Store.view c.find.new.trees in
    put_already old new c.args.tree c.args.key.now c.find.new.row _ table c.requires.key
    (subst (Looks old new c.args.tree c.args.key.now c.find.new.row) c.if-had.true (c.in_ok-had.ensures.ok clean))
    (subst (λ n. HoldsValue c.find.new.row n (option_copied c.args.value)) c.len.ensures (c.has_value.ensures.0 c.if-has_value.true))

pub returns-in_ok-add_entry-in-Some-clause-ok : goal.returns-in_ok-add_entry-in-Some-clause-ok
returns-in_ok-add_entry-in-Some-clause-ok g c clean table =
    let old = g.T.Store.view c.args.trees.now in
    let mid = g.T.Store.view c.find.new.trees in
    let late = g.T.Store.view c.if-had.trees in
    let before : IsClean late = omega (arith, c.add_entry.ensures.quiet.clean) in
    let gone : PutsRow old late c.args.tree c.args.key.now _ = elim c.if-had.branch [
      | then-had+else-has_value+in_ok-remove w ↦
          let cleaned : IsClean (g.T.Store.view w.remove.new.self) = subst (λ t. IsClean (g.T.Store.view t)) w.trees-is before in
          let early : IsClean mid = omega (arith, w.remove.ensures.quiet.clean) in
          let first : IsClean old = omega (arith, c.find.ensures.quiet.clean) in
          rw w.trees-is (put_removed old mid (g.T.Store.view w.remove.new.self) c.args.tree c.args.key.now c.find.new.row table c.requires.key
          (subst (Looks old mid c.args.tree c.args.key.now c.find.new.row) w.if-had.true (c.in_ok-had.ensures.ok early))
          (ap (λ (f : ℕ → Shape). f c.args.tree) c.in_ok-had.ensures.schema.shape ∙ c.requires.shaped first)
          (w.in_ok-remove.ensures.ok cleaned) (w.in_ok-remove.ensures.frame cleaned))
      | else-had w ↦
          let early : IsClean mid = subst (λ t. IsClean (g.T.Store.view t)) w.trees-is before in
          rw w.trees-is (put_absent old mid c.args.tree c.args.key.now c.find.new.row table
          (subst (Looks old mid c.args.tree c.args.key.now c.find.new.row) w.if-had.false (c.in_ok-had.ensures.ok early)))
    ] in
    rw c.in-Some.is (put_then old late (g.T.Store.view c.add_entry.new.trees) c.args.tree c.args.key.now c.in-Some.value.now gone
    (c.in_ok-add_entry-in-Some.ensures.ok clean))

pub returns-in_ok-add_entry-in-Some-clause-had : goal.returns-in_ok-add_entry-in-Some-clause-had
returns-in_ok-add_entry-in-Some-clause-had g c clean =
    let old = g.T.Store.view c.args.trees.now in
    let mid = g.T.Store.view c.find.new.trees in
    let before : IsClean (g.T.Store.view c.if-had.trees) = omega (arith, c.add_entry.ensures.quiet.clean) in
    let early : IsClean mid = elim c.if-had.branch [
      | then-had+else-has_value+in_ok-remove w ↦
          let cleaned : IsClean (g.T.Store.view w.remove.new.self) = subst (λ t. IsClean (g.T.Store.view t)) w.trees-is before in
          omega (arith, w.remove.ensures.quiet.clean)
      | else-had w ↦ subst (λ t. IsClean (g.T.Store.view t)) w.trees-is before
    ] in
    missed old mid c.args.tree c.args.key.now c.find.new.row c.in_ok-had.had (c.in_ok-had.ensures.ok early)

pub returns-in-None-clause-ok : goal.returns-in-None-clause-ok
returns-in-None-clause-ok g c =
    let old = g.T.Store.view c.args.trees.now in
    let mid = g.T.Store.view c.find.new.trees in
    elim c.if-had.branch [
      | then-had+else-has_value+in_ok-remove w ↦ rw (w.trees-is, c.in-None.is) (λ clean table.
          let early : IsClean mid = omega (arith, w.remove.ensures.quiet.clean) in
          let first : IsClean old = omega (arith, c.find.ensures.quiet.clean) in
          put_removed old mid (g.T.Store.view w.remove.new.self) c.args.tree c.args.key.now c.find.new.row table c.requires.key
          (subst (Looks old mid c.args.tree c.args.key.now c.find.new.row) w.if-had.true (c.in_ok-had.ensures.ok early))
          (ap (λ (f : ℕ → Shape). f c.args.tree) c.in_ok-had.ensures.schema.shape ∙ c.requires.shaped first)
          (w.in_ok-remove.ensures.ok clean) (w.in_ok-remove.ensures.frame clean))
      | else-had w ↦ rw (w.trees-is, c.in-None.is) (λ clean table.
          put_absent old mid c.args.tree c.args.key.now c.find.new.row table
          (subst (Looks old mid c.args.tree c.args.key.now c.find.new.row) w.if-had.false (c.in_ok-had.ensures.ok clean)))
    ]

pub returns-in-None-clause-had : goal.returns-in-None-clause-had
returns-in-None-clause-had g c clean =
    let old = g.T.Store.view c.args.trees.now in
    let mid = g.T.Store.view c.find.new.trees in
    let early : IsClean mid = elim c.if-had.branch [
      | then-had+else-has_value+in_ok-remove w ↦
          let cleaned : IsClean (g.T.Store.view w.remove.new.self) = subst (λ t. IsClean (g.T.Store.view t)) w.trees-is clean in
          omega (arith, w.remove.ensures.quiet.clean)
      | else-had w ↦ subst (λ t. IsClean (g.T.Store.view t)) w.trees-is clean
    ] in
    missed old mid c.args.tree c.args.key.now c.find.new.row c.in_ok-had.had (c.in_ok-had.ensures.ok early)
