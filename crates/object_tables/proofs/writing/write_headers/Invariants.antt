use Rattle.std.proofs.Common.{ℕ, Bool, List, length}
use Rattle.sqlite_trees.specs.View.{IsClean, IsQuiet, KeepsSchema, OnlyWrites}
use Rattle.object_tables.specs.Entries.{LeavesOthers}
use Rattle.object_tables.specs.Noted.{is_name_of}
use Rattle.object_tables.specs.Spelled.{HaveOwners, SpellsBut}
use Rattle.object_tables.proofs.SpelledLaws.{Listing}
use Rattle.object_tables.proofs.writing.write_headers.Given as goal

-- the tables spell what they did, and the headers of the names so far; and the fresh objects have no wrong pair
abbrev pub invariant-loop-name : goal.invariant-loop-name
invariant-loop-name g l =
    (IsClean (g.T.Store.view l.trees) → (keys : List ℕ → List ℕ → Bool) → SpellsBut (g.T.Store.view l.fn.trees).trees l.fn.objects (is_name_of l.fn.names) keys
    → SpellsBut (g.T.Store.view l.trees).trees l.fn.objects (is_name_of l.names) keys)
    × (IsClean (g.T.Store.view l.trees) → OnlyWrites (g.T.Store.view l.fn.trees) (g.T.Store.view l.trees))
    × IsQuiet g.T.Store.view g.T.Store.faults g.T.Store.recovers g.T.Store.is_shielded l.fn.trees l.trees
    × KeepsSchema (g.T.Store.view l.fn.trees) (g.T.Store.view l.trees)
    × (IsClean (g.T.Store.view l.trees) → (keys : List ℕ → List ℕ → Bool) → SpellsBut (g.T.Store.view l.fn.trees).trees l.fn.objects (is_name_of l.fn.names) keys
    → HaveOwners (g.T.Store.view l.fn.trees).trees → Listing (g.T.Store.view l.fn.trees).trees (g.T.Store.view l.trees).trees l.fn.objects l.fresh)
    × (IsClean (g.T.Store.view l.trees) → LeavesOthers (g.T.Store.view l.fn.trees) (g.T.Store.view l.trees) 0)

abbrev pub decreases-loop-name : goal.decreases-loop-name
decreases-loop-name g l = length l.names
