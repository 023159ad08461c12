-- The cluster after an attempt to save it.
use Rattle.std.specs.Prelude.{◌≡◌, List, Result, Ok, Err}
use Rattle.cold_store.specs.ColdTree.{IsColdTree}
use Rattle.cluster_core.specs.Flush.{Flushes}
use Rattle.keeping.specs.declared.rows.RowEdit.{RowEdit}
use Rattle.cluster_core.specs.KeptSessions.{KeepsSessions, with_stored}
use Rattle.cluster_core.specs.State.{KeptState, shown}
use Rattle.kept_book.specs.declared.saving.Unsaved.{Unsaved}
use Rattle.kept_book.specs.declared.saving.Unsaved.TheVariants.{Refused, Unkept}

-- the book was flushed: its objects have the shown tree, which is the tree after the history
pub record HasFlushed (old new : KeptState) : Type 0 where
  pub flushed : Flushes old new (Ok tt)
  pub cold : IsColdTree new.core.state.tree.objects (shown old.core.state)

-- the book was flushed, and its store took the edits that keep its sessions: no client is changed any more
pub record HasSaved (old new : KeptState) (takes : List RowEdit → Type 0) : Type 0 where
  pub book : KeptState
  pub done : HasFlushed old book
  pub sessions : KeepsSessions book takes
  pub stored : new ≡ with_stored book

-- the book is saved; or it was flushed, but the file didn't keep it; or the flush was refused
abbrev pub Saves : {X : Type 0} → (takes : X → List RowEdit → Type 0) → (old new : KeptState) → Result X Unsaved → Type 0
Saves takes old new (Ok saved) = HasSaved old new (takes saved)
Saves takes old new (Err (Refused refusal)) = Flushes old new (Err refusal)
Saves takes old new (Err (Unkept why)) = HasFlushed old new
