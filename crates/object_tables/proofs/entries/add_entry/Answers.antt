use Rattle.std.proofs.Common.{arith}
use Rattle.sqlite_trees.specs.View.{IsClean}
use Rattle.object_tables.proofs.StoreLaws.{on_ok_both, put_added}
use Rattle.object_tables.proofs.entries.add_entry.Goals as goal

pub returns-clause-ok : goal.returns-clause-ok
returns-clause-ok g c = on_ok_both c.insert.result _ _ _
    (λ done only clean table alone.
    let old = g.T.Store.view c.args.trees.now in
    let early : IsClean old = omega (arith, c.insert.ensures.quiet.clean) in
    put_added old (g.T.Store.view c.insert.new.self) c.args.tree c.args.key.now c.fill.new.row c.args.value.now c.requires.key
    (c.requires.shaped early) c.in_ok-fill.ensures (done clean) (only clean) table alone)
    c.insert.ensures.ok c.insert.ensures.frame
