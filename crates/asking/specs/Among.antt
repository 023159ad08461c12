-- A request is asked where others wait: the others are answered first.
use Rattle.std.specs.Prelude.{◌≡◌, ◌⊎◌, List, Result, Ok, Err}
use Rattle.mds_types.specs.declared.ids.Rank.{Rank}
use Rattle.mds_types.specs.declared.refusals.Refusal.{Refusal}
use Rattle.mds_types.specs.declared.requests.Request.{Request}
use Rattle.cluster_core.specs.Runs.{GoesOnFrom}
use Rattle.cluster_core.specs.Sound.{IsSoundBook}
use Rattle.cluster_core.specs.State.{BookState}
use Rattle.asking.specs.Ask.{AsksAlone, NoneWaits}
use Rattle.asking.specs.Drain.{IsStopped}
use Rattle.asking.specs.Reached.{ServesWaiting}
use Rattle.cluster_core.specs.declared.receipts.Receipt.{Receipt}

-- the others were answered with these replies, and nothing waits any more
pub record IsDrained (old mid : BookState) (others : List Receipt) : Type 0 where
  pub served : ServesWaiting old mid others
  pub sound : IsSoundBook mid
  pub grows : GoesOnFrom mid.history old.history
  pub same_opening : mid.opening ≡ old.opening
  pub none : NoneWaits mid.core.state.inboxes

-- the others were answered, then the request was asked
pub record AsksThen (old new : BookState) (others : List Receipt) (rank : Rank) (request : Request)
    (result : Result Receipt Refusal) : Type 0 where
  pub mid : BookState
  pub drained : IsDrained old mid others
  pub asked : AsksAlone mid.core new.core mid.history new.history rank request result

-- another request can't be served, behind those that were answered, and the request that is asked didn't arrive
pub record IsHeldUpBefore (old new : BookState) (others : List Receipt) (reason : Refusal) : Type 0 where
  pub served : ServesWaiting old new others
  pub stopped : IsStopped new.core reason
  pub grows : GoesOnFrom new.history old.history

abbrev pub AsksAmong : (old new : BookState) → (others : List Receipt) → Rank → Request → Result Receipt Refusal → Type 0
AsksAmong old new others rank request (Ok receipt) = AsksThen old new others rank request (Ok receipt)
AsksAmong old new others rank request (Err reason) =
    AsksThen old new others rank request (Err reason) ⊎ IsHeldUpBefore old new others reason
