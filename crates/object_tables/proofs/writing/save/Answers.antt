use Rattle.std.proofs.Common.{◌∙◌, arith, inl, inr, subst, sym}
use Rattle.std.proofs.lemmas.Result.{on_err_weaker, on_ok_weaker}
use Rattle.sqlite_trees.specs.View.{IsClean}
use Rattle.object_tables.specs.Sessions.{Brings}
use Rattle.object_tables.proofs.StoreLaws.{committed_shapes, committed_spells, on_either, sound_before, undone_commit, undone_shapes}
use Rattle.object_tables.proofs.writing.save.Goals as goal

pub returns-in-Ok-clause-saved : goal.returns-in-Ok-clause-saved
returns-in-Ok-clause-saved g c = on_ok_weaker c.commit.result
    (λ done clean.
    let old = g.T.Store.view c.args.trees.now in
    let mid = g.T.Store.view c.write_changes.new.trees in
    let new = g.T.Store.view c.commit.new.self in
    let early : IsClean mid = omega (arith, c.commit.ensures.clean) in
    let it = committed_spells old mid new (c.in-Ok.ensures.frame early) (done clean) in
    (it.0, subst (λ t. Brings old.trees t c.args.objects.now c.args.changes.now c.args.edits.now) (sym it.1) (c.in-Ok.ensures.ok early)))
    c.commit.ensures.ok

pub returns-in-Ok-clause-shape : goal.returns-in-Ok-clause-shape
returns-in-Ok-clause-shape g c clean same =
    let old = g.T.Store.view c.args.trees.now in
    let mid = g.T.Store.view c.write_changes.new.trees in
    let new = g.T.Store.view c.commit.new.self in
    on_either c.commit.result _ _ _
    (λ done. committed_shapes old mid new c.write_changes.ensures.schema (done clean) same)
    (λ undone. undone_shapes old mid new c.write_changes.ensures.schema undone same)
    c.commit.ensures.ok c.commit.ensures.err

pub returns-in-Ok-clause-failed : goal.returns-in-Ok-clause-failed
returns-in-Ok-clause-failed g c = on_err_weaker c.commit.result
    (λ undone clean is_open db may.
    let old = g.T.Store.view c.args.trees.now in
    let mid = g.T.Store.view c.write_changes.new.trees in
    let new = g.T.Store.view c.commit.new.self in
    let early : IsClean mid = omega (arith, c.commit.ensures.clean) in
    let same = undone_commit old mid new (c.in-Ok.ensures.frame early) undone clean is_open in
    subst (g.T.Store.recovers c.args.trees.now) (sym (g.met.T.Store.settled c.commit.new.self db is_open may ∙ same.1)) (g.met.T.Store.stays c.args.trees.now same.0))
    c.commit.ensures.err

pub returns-in-Ok-clause-crash : goal.returns-in-Ok-clause-crash
returns-in-Ok-clause-crash g c clean db may =
    let old = g.T.Store.view c.args.trees.now in
    let mid = g.T.Store.view c.write_changes.new.trees in
    let early : IsClean mid = omega (arith, c.commit.ensures.clean) in
    elim (c.commit.ensures.crash db may) [
      | inl done ↦ inr (
        sound_before old mid (c.in-Ok.ensures.frame early) done.0,
        subst (λ t. Brings old.trees t c.args.objects.now c.args.changes.now c.args.edits.now) (sym done.1) (c.in-Ok.ensures.ok early),
      )
      | inr was ↦ inl (c.write_changes.ensures.quiet.outcomes db was)
    ]
