use Rattle.std.proofs.Common.{arith, false}
use Rattle.std.specs.FinMap as map
use Rattle.sqlite_trees.specs.View.{IsClean}
use Rattle.object_tables.specs.Noted.{is_key_of, is_name_of}
use Rattle.object_tables.specs.Spelled.{SpellsBut}
use Rattle.object_tables.proofs.SessionLaws.{brought}
use Rattle.object_tables.proofs.SpelledLaws.{spells_listed}
use Rattle.object_tables.proofs.StoreLaws.{on_ok_both}
use Rattle.object_tables.proofs.writing.write_changes.Goals as goal

pub returns-clause-ok : goal.returns-clause-ok
returns-clause-ok g c = on_ok_both c.write_rows.result _ _ _
    (λ done others clean.
    let old = g.T.Store.view c.args.trees.now in
    let mid = g.T.Store.view c.write_headers.new.trees in
    let late = g.T.Store.view c.write_pairs.new.trees in
    let new = g.T.Store.view c.write_rows.new.trees in
    let last : IsClean late = omega (arith, c.write_rows.ensures.quiet.clean) in
    let early : IsClean mid = omega (arith, c.write_pairs.ensures.quiet.clean) in
    let objects = c.args.objects.now in
    let keys = is_key_of (map.entries c.args.changes.now.keys) in
    brought old mid late new objects c.args.changes.now c.args.edits.now
    (c.in_ok-fresh.ensures.others early) (c.in_ok-write_pairs.ensures.others last) (others clean)
    (λ spelled owners.
    let named : SpellsBut old.trees objects (is_name_of c.names.result) keys = rw c.names.ensures (spells_listed old.trees objects c.args.changes.now spelled) in
    c.in_ok-write_pairs.ensures.ok last (λ _. false) (c.in_ok-fresh.ensures.fresh early keys named owners)
    (rw c.keys.ensures (c.in_ok-fresh.ensures.ok early keys named)))
    (done clean))
    c.write_rows.ensures.ok c.write_rows.ensures.others
