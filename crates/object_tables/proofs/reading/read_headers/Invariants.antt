use Rattle.std.proofs.Common.{◌≡◌, List, IsSome}
use Rattle.sqlite_value.specs.Order.{Row}
use Rattle.sqlite_trees.specs.View.{IsClean, IsQuiet, KeepsSchema}
use Rattle.object_tables.specs.Reading.{HasRowsLeft, SpellHeaders}
use Rattle.object_tables.proofs.reading.read_headers.Given as goal

-- the rows seen so far spell the objects, and the cursor has the others
abbrev pub invariant-rows : goal.invariant-rows
invariant-rows g l =
    let old = g.T.Store.view l.fn.trees in
    let now = g.T.Store.view l.trees in
    (IsClean now → (seen : List Row) × HasRowsLeft now 0 seen × SpellHeaders seen l.objects)
    × (IsClean now → now ≡ record old { cursors = now.cursors })
    × IsSome (now.cursors 0)
    × IsQuiet g.T.Store.view g.T.Store.faults g.T.Store.recovers g.T.Store.is_shielded l.fn.trees l.trees
    × KeepsSchema old now
