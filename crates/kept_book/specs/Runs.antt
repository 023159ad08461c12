-- What a crash may leave while a program runs, between two flushes and during one: a tree, and the sessions' rows.
use Rattle.std.specs.Prelude.{◌≡◌, ◌⊎◌, List, [], ◌∷◌, ◌++◌}
use Rattle.mds_types.specs.Tree.{Tree}
use Rattle.cold_store.specs.ColdTree.{IsColdTree}
use Rattle.sqlite_trees.specs.Tree.{Trees}
use Rattle.keeping.specs.Rows.{SessionRows}
use Rattle.object_tables.specs.Sessions.{HasSessionRows}
use Rattle.object_tables.specs.Spelled.{SpellsObjects}
use Rattle.kept_store.specs.Kept.{KeptObjects, StoresRows}
use Rattle.kept_book.specs.Survives.{IsOnDisk, MountShows}

-- what a flush writes: the tree, and the rows of the sessions
pub record Flush : Type 0 where
  pub tree : Tree
  pub rows : SessionRows

-- tables have what a flush wrote: a mount shows its tree, and the session map has its rows
abbrev pub HasFlush : Trees → Flush → Type 0
HasFlush db flush = MountShows db flush.tree × HasSessionRows db flush.rows

-- A run of a store from one moment on, with each flush that was tried since, the last one first. A write leaves the
-- tables as they are (`IsCall` of a kept store). A flush ends with a call of `keep`, by whose clause `crash`, whatever
-- the result and wherever the call is cut off, a crash leaves what it could leave before, or tables that spell the
-- objects and have the edited rows. The end of a run (`settle`) adds nothing that a crash could leave.
pub data KeptRuns {T : Type 0} (recovers : T → Trees → Type 0) (first : KeptObjects T) : List Flush → KeptObjects T → Type 0 where
  begins : KeptRuns recovers first [] first
  writes : (tried : List Flush) (now next : KeptObjects T) → KeptRuns recovers first tried now
      → next.tables ≡ now.tables → KeptRuns recovers first tried next
  flushes : (tried : List Flush) (now next : KeptObjects T) (flush : Flush) → KeptRuns recovers first tried now
      → IsColdTree next.objects flush.tree
      → ((db : Trees) → recovers next.tables db
      → recovers now.tables db ⊎ (SpellsObjects db next.objects × HasSessionRows db flush.rows))
      → KeptRuns recovers first (flush ∷ tried) next
  settles : (tried : List Flush) (now next : KeptObjects T) → KeptRuns recovers first tried now
      → ((db : Trees) → recovers next.tables db → recovers now.tables db) → KeptRuns recovers first tried next

-- tables have what one of these flushes wrote
abbrev pub HasOneOf : Trees → List Flush → Type 0
HasOneOf db [] = ⊥
HasOneOf db (flush ∷ others) = HasFlush db flush ⊎ HasOneOf db others

-- After a moment at which a flush is on disk, such as a kept one: whatever a crash leaves later has what that flush
-- wrote, or what a flush that was tried since wrote, its tree and its rows. Before the next flush it is that flush.
-- During the next one, and after it failed, it is one of the two.
abbrev pub LeavesAFlush : {T : Type 0} → (T → Trees → Type 0) → Type 0
LeavesAFlush {T} recovers =
    (first now : KeptObjects T) (last : Flush) (tried : List Flush) → IsOnDisk (recovers first.tables) last.tree
    → StoresRows (recovers first.tables) last.rows → KeptRuns recovers first tried now
    → (db : Trees) → recovers now.tables db → HasOneOf db (tried ++ last ∷ [])
