use Rattle.std.proofs.Common.{◌∙◌, ap, arith, sym}
use Rattle.std.specs.Ordering.{is_eq}
use Rattle.object_tables.proofs.StoreLaws.{found_look, missed_look}
use Rattle.object_tables.proofs.entries.find.Goals as goal

pub returns-then-found-clause-ok : goal.returns-then-found-clause-ok
returns-then-found-clause-ok g c clean =
    let sound = c.in_ok-seek.ensures.sound (omega (arith, c.next.ensures.quiet.clean)) in
    found_look (g.T.Store.view c.args.trees.now) (g.T.Store.view c.seek.new.self) (g.T.Store.view c.next.new.self) c.args.tree c.args.key.now c.next.new.row
    (c.requires.shaped (omega (arith, c.seek.ensures.quiet.clean, c.next.ensures.quiet.clean))) sound (g.met.T.Store.ordered c.args.trees.now sound)
    (c.in_ok-seek.ensures.ok (omega (arith, c.next.ensures.quiet.clean))) c.in_ok-found.found (c.in_ok-found.ensures.ok clean) c.if-found.true
    c.is_eq.result (sym (c.is_eq.ensures ∙ ap is_eq c.cmp_prefix.ensures))

pub returns-else-found-clause-ok : goal.returns-else-found-clause-ok
returns-else-found-clause-ok g c clean =
    let sound = c.in_ok-seek.ensures.sound (omega (arith, c.next.ensures.quiet.clean)) in
    missed_look (g.T.Store.view c.args.trees.now) (g.T.Store.view c.seek.new.self) (g.T.Store.view c.next.new.self) c.args.tree c.args.key.now c.next.new.row
    (c.requires.shaped (omega (arith, c.seek.ensures.quiet.clean, c.next.ensures.quiet.clean))) sound (g.met.T.Store.ordered c.args.trees.now sound)
    (c.in_ok-seek.ensures.ok (omega (arith, c.next.ensures.quiet.clean))) c.in_ok-found.found (c.in_ok-found.ensures.ok clean) c.if-found.false
