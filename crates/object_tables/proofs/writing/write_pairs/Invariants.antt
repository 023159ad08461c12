use Rattle.std.proofs.Common.{ℕ, Bool, List, length}
use Rattle.std.specs.FinMap as map
use Rattle.sqlite_trees.specs.View.{IsClean, IsQuiet, KeepsSchema, OnlyWrites}
use Rattle.object_tables.specs.Entries.{LeavesOthers}
use Rattle.object_tables.specs.Noted.{is_key_of}
use Rattle.object_tables.specs.Spelled.{AreRight, SpellsBut}
use Rattle.object_tables.proofs.writing.write_pairs.Given as goal

-- the tables spell what they did, and the pairs so far; and the fresh objects have no wrong pair
abbrev pub invariant-loop-spot : goal.invariant-loop-spot
invariant-loop-spot g l =
    (IsClean (g.T.Store.view l.trees) → (names : List ℕ → Bool) → AreRight ((g.T.Store.view l.fn.trees).trees 1) l.fn.objects (map.contains_key l.fn.fresh)
    → SpellsBut (g.T.Store.view l.fn.trees).trees l.fn.objects names (is_key_of l.fn.keys)
    → SpellsBut (g.T.Store.view l.trees).trees l.fn.objects names (is_key_of l.keys)
    × AreRight ((g.T.Store.view l.trees).trees 1) l.fn.objects (map.contains_key l.fn.fresh))
    × (IsClean (g.T.Store.view l.trees) → OnlyWrites (g.T.Store.view l.fn.trees) (g.T.Store.view l.trees))
    × IsQuiet g.T.Store.view g.T.Store.faults g.T.Store.recovers g.T.Store.is_shielded l.fn.trees l.trees
    × KeepsSchema (g.T.Store.view l.fn.trees) (g.T.Store.view l.trees)
    × (IsClean (g.T.Store.view l.trees) → LeavesOthers (g.T.Store.view l.fn.trees) (g.T.Store.view l.trees) 1)

abbrev pub decreases-loop-spot : goal.decreases-loop-spot
decreases-loop-spot g l = length l.keys
