use Rattle.std.proofs.Common.{◌⊎◌, ◌∙◌, arith, subst, sym}
use Rattle.sqlite_trees.specs.View.{IsClean}
use Rattle.object_tables.specs.Sessions.{HasSessionRows}
use Rattle.keeping.specs.Rows.{rows_after_edits}
use Rattle.kept_store.specs.Kept.{HasBoth, KeptObjects, StoresRows}
use Rattle.kept_store.proofs.KeptLaws.{both_of, crash_of, kept_all, kept_anyway, objects_of, on_err, open_of, seen}
use Rattle.kept_store.proofs.kept.Kept.keep.Goals as goal

pub save-requires : goal.save-requires
save-requires g c clean =
    let tables = c.self.inside.tables in
    let old = g.T.Store.view tables in
    ((c.self.invariant clean).ready (open_of old.is_open old.is_broken (g.met.T.Store.broken_if_shut tables) (sym (c.is_broken.ensures clean) ∙ c.if-is_broken.false))).tables

pub invariant_of-self : goal.invariant_of-self
invariant_of-self g c clean =
    let tables = c.self.inside.tables in
    let old = g.T.Store.view tables in
    let new = g.T.Store.view c.save.new.trees in
    let before = g.T.Store.recovers tables in
    let after = g.T.Store.recovers c.save.new.trees in
    let early : IsClean old = omega (arith, c.save.ensures.clean) in
    let m = c.self.invariant early in
    let is_open = open_of old.is_open old.is_broken (g.met.T.Store.broken_if_shut tables) (sym (c.is_broken.ensures early) ∙ c.if-is_broken.false) in
    kept_anyway old new before after c.self.inside.objects c.self.inside.changes m is_open
    (c.save.ensures.shape clean (sym (m.ready is_open).shapes)) (c.save.ensures.fresh clean)
    (λ db may. objects_of before db c.self.inside.objects c.args.edits.now
    (crash_of old before after c.self.inside.objects c.self.inside.changes c.args.edits.now m
    (g.met.T.Store.broken_if_shut tables) (g.met.T.Store.stays tables) (c.save.ensures.crash clean) db may))

pub returns-in_err-save-clause-crash : goal.returns-in_err-save-clause-crash
returns-in_err-save-clause-crash g c clean db may =
    let tables = c.self.inside.tables in
    let old = g.T.Store.view tables in
    let early : IsClean old = omega (arith, c.save.ensures.clean) in
    subst (λ (k : KeptObjects _). g.T.Store.recovers k.tables db ⊎ HasBoth (g.T.Store.recovers k.tables) db c.self.inside.objects c.args.edits.now) c.self.view_is
    (crash_of old (g.T.Store.recovers tables) (g.T.Store.recovers c.save.new.trees) c.self.inside.objects c.self.inside.changes c.args.edits.now (c.self.invariant early)
    (g.met.T.Store.broken_if_shut tables) (g.met.T.Store.stays tables) (c.save.ensures.crash clean) db may)

pub returns-in_err-save-clause-failed : goal.returns-in_err-save-clause-failed
returns-in_err-save-clause-failed g c = on_err c.from_residual.result (λ clean is_open db may.
    subst (λ (k : KeptObjects _). g.T.Store.recovers k.tables db) c.self.view_is (c.in_err-save.ensures.failed clean is_open db may))

pub invariant_of-self-2 : goal.invariant_of-self-2
invariant_of-self-2 g c = rw c.none.ensures (λ clean.
    let tables = c.self.inside.tables in
    let old = g.T.Store.view tables in
    let new = g.T.Store.view c.save.new.trees in
    let early : IsClean old = omega (arith, c.save.ensures.clean) in
    let m = c.self.invariant early in
    let saved = c.in_ok-save.ensures.saved clean in
    let is_open = open_of old.is_open old.is_broken (g.met.T.Store.broken_if_shut tables) saved.0 in
    let all = seen old (g.T.Store.recovers tables) c.self.inside.objects c.self.inside.changes m is_open (g.met.T.Store.stays tables) in
    kept_all old new (g.T.Store.recovers tables) (g.T.Store.recovers c.save.new.trees) c.self.inside.objects c.self.inside.changes m is_open
    (c.save.ensures.shape clean (sym (m.ready is_open).shapes)) (c.save.ensures.fresh clean)
    (λ db may. g.met.T.Store.settled c.save.new.trees db (c.in_ok-save.ensures.open clean ∙ is_open) may)
    (saved.1 all.0 all.1).0)

pub returns-clause-rows : goal.returns-clause-rows
returns-clause-rows g c clean rows =
    let tables = c.self.inside.tables in
    let old = g.T.Store.view tables in
    let new = g.T.Store.view c.save.new.trees in
    let early : IsClean old = omega (arith, c.save.ensures.clean) in
    let saved = c.in_ok-save.ensures.saved clean in
    let is_open = open_of old.is_open old.is_broken (g.met.T.Store.broken_if_shut tables) saved.0 in
    let both = both_of old (g.T.Store.recovers tables) c.self.inside.objects c.self.inside.changes c.args.edits.now (c.self.invariant early) is_open (g.met.T.Store.stays tables) new.committed saved.1 in
    subst (λ (k : KeptObjects _). StoresRows (g.T.Store.recovers k.tables) rows → StoresRows (g.T.Store.recovers c.save.new.trees) (rows_after_edits c.args.edits.now rows)) c.self.view_is
    (λ stored db may. subst (λ t. HasSessionRows t (rows_after_edits c.args.edits.now rows)) (sym (g.met.T.Store.settled c.save.new.trees db (c.in_ok-save.ensures.open clean ∙ is_open) may)) (both.1 rows stored))

pub returns-clause-crash : goal.returns-clause-crash
returns-clause-crash g c clean db may =
    let tables = c.self.inside.tables in
    let old = g.T.Store.view tables in
    let early : IsClean old = omega (arith, c.save.ensures.clean) in
    subst (λ (k : KeptObjects _). g.T.Store.recovers k.tables db ⊎ HasBoth (g.T.Store.recovers k.tables) db c.self.inside.objects c.args.edits.now) c.self.view_is
    (crash_of old (g.T.Store.recovers tables) (g.T.Store.recovers c.save.new.trees) c.self.inside.objects c.self.inside.changes c.args.edits.now (c.self.invariant early)
    (g.met.T.Store.broken_if_shut tables) (g.met.T.Store.stays tables) (c.save.ensures.crash clean) db may)
