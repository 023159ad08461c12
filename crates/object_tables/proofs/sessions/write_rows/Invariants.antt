use Rattle.std.proofs.Common.{drop}
use Rattle.sqlite_trees.specs.View.{IsClean, IsQuiet, KeepsSchema, OnlyWrites}
use Rattle.object_tables.specs.Entries.{LeavesOthers}
use Rattle.object_tables.specs.Sessions.{HasSessionRows}
use Rattle.keeping.specs.Rows.{SessionRows}
use Rattle.object_tables.proofs.SessionLaws.{IsEdited}
use Rattle.object_tables.proofs.sessions.write_rows.Given as goal

-- the edits so far were made, and no other table changed
abbrev pub invariant-loop-edit : goal.invariant-loop-edit
invariant-loop-edit g l =
    let old = g.T.Store.view l.fn.trees in
    let now = g.T.Store.view l.trees in
    (IsClean now → (rows : SessionRows) → HasSessionRows old.trees rows → IsEdited now.trees l.edits (drop l.edit-index l.edits) rows)
    × (IsClean now → LeavesOthers old now 2)
    × (IsClean now → OnlyWrites old now)
    × IsQuiet g.T.Store.view g.T.Store.faults g.T.Store.recovers g.T.Store.is_shielded l.fn.trees l.trees
    × KeepsSchema old now
