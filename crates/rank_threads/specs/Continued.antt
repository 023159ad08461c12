-- How the book that a run returns goes on from the one handed in, whether the run succeeds or fails.
use Rattle.std.specs.Prelude.{◌≡◌, List}
use Rattle.mds_types.specs.declared.entries.Entry.{Entry}
use Rattle.cluster_core.specs.Opening.{Opening}
use Rattle.cluster_core.specs.Runs.{GoesOnFrom}
use Rattle.cluster_core.specs.Sound.{StandsBehind, IsSoundKept}
use Rattle.cluster_core.specs.State.{KeptState}

-- the new book goes on from each opening tree and past that the old one goes on from
abbrev pub StaysBehind : (old new : KeptState) → Type 0
StaysBehind old new =
    (opening : Opening) (past : List Entry) → StandsBehind opening past old → StandsBehind opening past new

-- the new book is sound; it goes on from each opening tree and past that the old one goes on from; its history begins
-- with the old one's; and no entry was forgotten in between
pub record Continues (old new : KeptState) : Type 0 where
  pub sound : IsSoundKept new
  pub goes_on : StaysBehind old new
  pub same_opening : new.opening ≡ old.opening
  pub same_past : new.core.state.sessions.forgotten ≡ old.core.state.sessions.forgotten
  pub begins : GoesOnFrom new.history old.history
