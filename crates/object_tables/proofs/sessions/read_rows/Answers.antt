use Rattle.std.proofs.Common.{◌++◌, ◌∷◌, [], arith, rules}
use Rattle.sqlite_trees.specs.View.{IsClean}
use Rattle.object_tables.proofs.SessionLaws.{no_rows, row_added}
use Rattle.object_tables.proofs.StoreLaws.{moved_on, placed, reads_more, reads_start}
use Rattle.object_tables.proofs.sessions.read_rows.Goals as goal

pub rows-init : goal.rows-init
rows-init g c =
    let old = g.T.Store.view c.args.trees.now in
    let now = g.T.Store.view c.seek.new.self in (
      λ clean. ([], reads_start old now 2 _ c.new-first.ensures (c.requires (omega (arith, c.seek.ensures.quiet.clean))).sessions (c.in_ok-seek.ensures.sound clean) (c.in_ok-seek.ensures.ok clean), rw c.new-found.ensures no_rows),
      λ clean. placed old now 0 _ (c.in_ok-seek.ensures.ok clean),
      c.in_ok-seek.ensures.live,
      search rules,
      search rules,
    )

pub rows-preserved : goal.rows-preserved
rows-preserved g c =
    let old = g.T.Store.view c.args.trees.now in
    let mid = g.T.Store.view c.rows.trees in
    let now = g.T.Store.view c.next.new.self in (
      λ clean.
          let early : IsClean mid = omega (arith, c.next.ensures.quiet.clean) in
          let before = c.rows.invariant.0 early in
          (before.0 ++ c.next.new.row ∷ [], reads_more mid now 2 before.0 c.next.new.row c.in_ok-next.field-0 before.1 (c.in_ok-next.ensures.ok clean) c.if-not-branch.false, row_added before.0 c.rows.found c.add_row.new.rows c.next.new.row before.2 c.in_ok-add_row.ensures),
      λ clean. moved_on old mid now (c.rows.invariant.1 (omega (arith, c.next.ensures.quiet.clean))) (c.in_ok-next.ensures.moves clean).same,
      c.in_ok-next.ensures.stay 0 c.rows.invariant.2,
      search rules,
      search rules,
    )
