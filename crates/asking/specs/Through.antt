-- A request is asked through exports: an export whose frozen region it would change is ended first.
use Rattle.std.specs.Prelude.{◌≡◌, ◌≢◌, ◌⊎◌, ◌≤◌, ◌∷◌, [], Bool, false, List, length, Some, Result, Ok, Err}
use Rattle.std.specs.FinMap as map
use Rattle.mds_types.specs.declared.ids.Rank.{Rank}
use Rattle.mds_types.specs.declared.refusals.Refusal.{Refusal}
use Rattle.mds_types.specs.declared.refusals.Refusal.TheVariants.{Frozen, NoMemory, NothingToEvict, TooManyFrags}
use Rattle.mds_types.specs.declared.requests.Request.{Request}
use Rattle.mds_types.specs.Leaf.{Leaf}
use Rattle.export_steps.specs.declared.exports.ExportState.TheVariants.{Prepared}
use Rattle.export_steps.specs.Standing.{state_at}
use Rattle.cluster_core.specs.Exporting.{SendsAt}
use Rattle.cluster_core.specs.SentBytes.{SentBytes}
use Rattle.cluster_core.specs.State.{BookState, State}
use Rattle.cluster_core.specs.declared.receipts.Receipt.{Receipt}
use Rattle.asking.specs.Ending.{EndsFrozen}
use Rattle.asking.specs.Once.{AsksOnce}

-- a request was asked, was refused since it would change a frozen leaf, and was given up; then the export of this root
-- ended, or couldn't be ended and still exists
pub record EndsFor (cancel : Bool) (rank : Rank) (request : Request) (root : Leaf) (old new : BookState)
    (before after : SentBytes) (result : Result (Unit {0}) Refusal) : Type 0 where
  pub asked : BookState
  pub refused : AsksOnce old.core asked.core old.history asked.history rank request (Err Frozen)
  pub same_opening : asked.opening ≡ old.opening
  pub ends : EndsFrozen cancel root 4 asked new before after result

-- the exports of these roots ended so, one after the other
abbrev pub GoesThrough : (cancel : Bool) → Rank → Request → List Leaf → (old new : BookState) → (before after : SentBytes)
    → Type 0
GoesThrough cancel rank request [] old new before after = (new ≡ old) × (after ≡ before)
GoesThrough cancel rank request (root ∷ roots) old new before after =
    (next : BookState) × (kept : SentBytes) × EndsFor cancel rank request root old next before kept (Ok tt)
    × GoesThrough cancel rank request roots next new kept after

-- how a request is refused if an export can't be ended: for want of memory or places that is told, otherwise Frozen
abbrev pub IsToldOf : Refusal → Refusal → Type 0
IsToldOf refusal reason =
    ((reason ≡ refusal) × ((refusal ≡ NoMemory) ⊎ (refusal ≡ NothingToEvict)))
    ⊎ ((reason ≡ Frozen) × (refusal ≢ NoMemory) × (refusal ≢ NothingToEvict))

-- the request was asked once more, and got its answer; or an export couldn't be ended, and the request is refused for
-- that; or there was no memory to ask
abbrev pub Concludes : (cancel : Bool) → Rank → Request → (old new : BookState) → (before after : SentBytes)
    → Result Receipt Refusal → Type 0
Concludes cancel rank request old new before after (Ok receipt) =
    AsksOnce old.core new.core old.history new.history rank request (Ok receipt) × (after ≡ before)
Concludes cancel rank request old new before after (Err reason) =
    (AsksOnce old.core new.core old.history new.history rank request (Err reason) × (reason ≢ Frozen) × (after ≡ before))
    ⊎ ((root : Leaf) × (refusal : Refusal)
    × EndsFor cancel rank request root old new before after (Err refusal) × IsToldOf refusal reason)
    ⊎ ((reason ≡ NoMemory) × (new ≡ old) × (after ≡ before))

-- a request that is asked gets its answer after as many exports ended as needed, at most all that there were
pub record AsksThrough (cancel : Bool) (rank : Rank) (request : Request) (old new : BookState) (before after : SentBytes)
    (result : Result Receipt Refusal) : Type 0 where
  pub roots : List Leaf
  pub few : length roots ≤ map.len old.core.state.exports
  pub mid : BookState
  pub kept : SentBytes
  pub through : GoesThrough cancel rank request roots old mid before kept
  pub concluded : Concludes cancel rank request mid new kept after result

-- an export can't be sent, since a fragment of its region has too many dirty names, and it may not be cancelled
abbrev pub CantSend : (cancel : Bool) → State → Type 0
CantSend cancel state =
    (cancel ≡ false) × (root : Leaf) × (state_at state.exports root ≡ Some Prepared) × SendsAt state state root (Err TooManyFrags)

-- ---- words of this crate's own contracts

-- a request was asked, or there was no memory to ask
abbrev pub AsksCopy : (old new : BookState) → Rank → Request → Result Receipt Refusal → Type 0
AsksCopy old new rank request result =
    AsksOnce old.core new.core old.history new.history rank request result
    ⊎ ((result ≡ Err NoMemory) × (new ≡ old))
