-- A restart that failed, and what it leaves.
use Rattle.std.specs.Prelude.{ℕ, List, Err}
use Rattle.mds_types.specs.declared.entries.Entry.{Entry}
use Rattle.cluster_core.specs.Opening.{Opening}
use Rattle.objstore.specs.Objects.{Objects}
use Rattle.cold_store.specs.ColdTree.{IsColdTree}
use Rattle.mdcache.specs.Mounted.{MayNotMount}
use Rattle.cluster_core.specs.Flush.{Flushes}
use Rattle.cluster_core.specs.Sound.{StandsBehind}
use Rattle.cluster_core.specs.State.{KeptState, shown}
use Rattle.cluster_core.specs.declared.restarting.NotRestarted.{NotRestarted}
use Rattle.cluster_core.specs.declared.restarting.NotRestarted.TheVariants.{Unflushed, Unmounted}

-- nothing is lost: the flush was refused, and the book is as a refused flush leaves it; or the mount was refused, and
-- the store has the tree that was shown
abbrev pub LosesNothing : {S : Type 0} → (objects : S → Objects) (faults : S → ℕ) → KeptState → NotRestarted S → Type 0
LosesNothing objects faults old (Unflushed reason left) = Flushes old left (Err reason)
    × ((opening : Opening) (past : List Entry) → StandsBehind opening past old → StandsBehind opening past left)
LosesNothing objects faults old (Unmounted reason store) =
    IsColdTree (objects store) (shown old.core.state)
    × ((before : ℕ) × MayNotMount (objects store) before (faults store) reason)
