use Rattle.std.proofs.Common.{◌≡◌, ◌∙◌, ◌++◌, ◌∷◌, [], ap, arith, rules, subst, sym}
use Rattle.std.proofs.lemmas.Result.{on_ok_weaker}
use Rattle.sqlite_trees.specs.View.{IsClean, View}
use Rattle.object_tables.specs.Reading.{SpellPairs, with_batch}
use Rattle.object_tables.proofs.BatchLaws.{begun}
use Rattle.object_tables.proofs.ReadLaws.{no_pairs, pair_added}
use Rattle.object_tables.proofs.StoreLaws.{moved_on, placed, reads_all, reads_more, reads_start}
use Rattle.object_tables.proofs.reading.read_pairs.Goals as goal

pub rows-init : goal.rows-init
rows-init g c =
    let old = g.T.Store.view c.args.trees.now in
    let now = g.T.Store.view c.seek.new.self in
    let first = begun c.args.objects.now c.in_ok-batch.batch.name c.in_ok-batch.batch.pairs c.in_ok-batch.batch.last c.in_ok-batch.ensures.last c.in_ok-batch.ensures.pairs in (
      λ clean. ([], reads_start old now 1 _ c.new-first.ensures (c.requires.shaped (omega (arith, c.seek.ensures.quiet.clean))).pairs (c.in_ok-seek.ensures.sound clean) (c.in_ok-seek.ensures.ok clean), λ heads spelled. subst (SpellPairs heads []) (sym first.1) (no_pairs heads c.args.objects.now spelled)),
      λ clean. placed old now 0 _ (c.in_ok-seek.ensures.ok clean),
      c.in_ok-seek.ensures.live,
      search rules,
      search rules,
      first.0,
    )

pub rows-preserved : goal.rows-preserved
rows-preserved g c =
    let old = g.T.Store.view c.args.trees.now in
    let mid = g.T.Store.view c.rows.trees in
    let now = g.T.Store.view c.next.new.self in (
      λ clean.
          let early : IsClean mid = omega (arith, c.next.ensures.quiet.clean) in
          let before = c.rows.invariant.0 early in
          (before.0 ++ c.next.new.row ∷ [], reads_more mid now 1 before.0 c.next.new.row c.in_ok-next.field-0 before.1 (c.in_ok-next.ensures.ok clean) c.if-not-branch.false, λ heads spelled. pair_added heads before.0 (with_batch c.rows.objects c.rows.batch) (with_batch c.add_pair.new.objects c.add_pair.new.batch) c.next.new.row (before.2 heads spelled) c.in_ok-add_pair.ensures.added),
      λ clean. moved_on old mid now (c.rows.invariant.1 (omega (arith, c.next.ensures.quiet.clean))) (c.in_ok-next.ensures.moves clean).same,
      c.in_ok-next.ensures.stay 0 c.rows.invariant.2,
      search rules,
      search rules,
      c.in_ok-add_pair.ensures.batch,
    )

pub returns-then-not-branch-clause-ok : goal.returns-then-not-branch-clause-ok
returns-then-not-branch-clause-ok g c = on_ok_weaker c.finish.result
    (λ set clean heads spelled.
    let old = g.T.Store.view c.args.trees.now in
    let mid = g.T.Store.view c.rows.trees in
    let now = g.T.Store.view c.next.new.self in
    let early : IsClean mid = omega (arith, c.next.ensures.quiet.clean) in
    let before = c.rows.invariant.0 early in
    let all : before.0 ≡ old.trees 1 =
    reads_all mid now 1 before.0 c.next.new.row c.in_ok-next.field-0 before.1 (c.in_ok-next.ensures.ok clean) c.if-not-branch.true
    ∙ ap (λ (v : View). v.trees 1) (c.rows.invariant.1 early) in
    subst (SpellPairs heads (old.trees 1)) (sym set) (subst (λ rows. SpellPairs heads rows (with_batch c.rows.objects c.rows.batch)) all (before.2 heads spelled)))
    c.finish.ensures.set
