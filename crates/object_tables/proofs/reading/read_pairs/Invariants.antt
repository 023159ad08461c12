use Rattle.std.proofs.Common.{◌≡◌, List, IsSome}
use Rattle.sqlite_value.specs.Order.{Row}
use Rattle.sqlite_trees.specs.View.{IsClean, IsQuiet, KeepsSchema}
use Rattle.object_tables.specs.Reading.{HasBatch, HasRowsLeft, SpellHeaders, SpellPairs, with_batch}
use Rattle.object_tables.proofs.reading.read_pairs.Given as goal

-- the rows seen so far spell the objects, and the cursor has the others
abbrev pub invariant-rows : goal.invariant-rows
invariant-rows g l =
    let old = g.T.Store.view l.fn.trees in
    let now = g.T.Store.view l.trees in
    (IsClean now → (seen : List Row) × HasRowsLeft now 1 seen
    × ((heads : List Row) → SpellHeaders heads l.fn.objects → SpellPairs heads seen (with_batch l.objects l.batch)))
    × (IsClean now → now ≡ record old { cursors = now.cursors })
    × IsSome (now.cursors 0)
    × IsQuiet g.T.Store.view g.T.Store.faults g.T.Store.recovers g.T.Store.is_shielded l.fn.trees l.trees
    × KeepsSchema old now
    × HasBatch l.objects l.batch
