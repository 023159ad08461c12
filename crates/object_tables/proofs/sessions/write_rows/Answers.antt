use Rattle.std.proofs.Common.{arith, rules, refl}
use Rattle.sqlite_trees.specs.View.{IsClean}
use Rattle.object_tables.proofs.SessionLaws.{none_left, one_more}
use Rattle.object_tables.proofs.StoreLaws.{others_then, writes_on}
use Rattle.object_tables.proofs.sessions.write_rows.Goals as goal

pub loop-edit-init : goal.loop-edit-init
loop-edit-init g c = (
  λ clean rows has. record { now = rows; has = has; same = refl },
  λ clean t away. refl,
  λ clean. refl,
  search rules,
  search rules,
)

pub loop-edit-preserved : goal.loop-edit-preserved
loop-edit-preserved g c =
    let old = g.T.Store.view c.args.trees.now in
    let mid = g.T.Store.view c.loop-edit.trees in
    let new = g.T.Store.view c.put_row.new.trees in (
      λ clean rows has.
          let early : IsClean mid = omega (arith, c.put_row.ensures.quiet.clean) in
          one_more mid new c.args.edits.now c.loop-edit.edit-index c.edit-item.result rows c.loop-edit-test.true c.edit-item.is
          (c.in_ok-put_row.ensures.ok clean) (c.loop-edit.invariant.0 early rows has),
      λ clean.
          let early : IsClean mid = omega (arith, c.put_row.ensures.quiet.clean) in
          others_then old mid new 2 (c.loop-edit.invariant.1 early) (c.in_ok-put_row.ensures.others clean),
      λ clean.
          let early : IsClean mid = omega (arith, c.put_row.ensures.quiet.clean) in
          writes_on old mid new (c.loop-edit.invariant.2 early) (c.in_ok-put_row.ensures.frame clean),
      search rules,
      search rules,
    )

pub returns-clause-ok : goal.returns-clause-ok
returns-clause-ok g c clean rows has =
    none_left (g.T.Store.view c.loop-edit.trees).trees c.args.edits.now c.loop-edit.edit-index rows c.loop-edit-test.false (c.loop-edit.invariant.0 clean rows has)
