-- The steps that lead from one book to another.
use Rattle.std.specs.Prelude.{◌≡◌, ◌≤◌, ◌++◌, ◌∷◌, [], ℕ, List, length, Option, Some, Result, Ok, Err}
use Rattle.std.specs.Result.{result_err}
use Rattle.std.specs.List.{AllByRecursion}
use Rattle.mds_types.specs.declared.refusals.Refusal.{Refusal}
use Rattle.mds_types.specs.declared.requests.Request.{Request}
use Rattle.cluster_core.specs.OneThread.{arrivals, receipts_of}
use Rattle.cluster_core.specs.Runs.{Runs}
use Rattle.cluster_core.specs.State.{BookState}
use Rattle.cluster_core.specs.declared.receipts.Receipt.{Receipt}
use Rattle.cluster_core.specs.declared.events.Answer.{Answer}
use Rattle.cluster_core.specs.declared.events.Event.{Event}
use Rattle.cluster_core.specs.declared.events.Event.TheVariants.{Arrive, Grant, Serve, Split, Merge, CommitBegin, CommitEnd, CommitDrop, CommitTree, Purge, Evict, Start, Freeze, Prep, Send, Import, Finish, Cancel}

-- a step for the request of this client and number: it arrives, a rank serves, or a rank grants it what it needs
abbrev pub IsStepFor : (client tid : ℕ) → Event → Type 0
IsStepFor client tid (Arrive rank request) = (request.client ≡ client) × (request.tid ≡ tid)
IsStepFor client tid (Serve rank) = Unit {0}
IsStepFor client tid (Grant rank of number) = (of ≡ client) × (number ≡ tid)
IsStepFor client tid (Split rank dir f nb) = ⊥
IsStepFor client tid (Merge rank dir f) = ⊥
IsStepFor client tid (CommitBegin rank dir f) = ⊥
IsStepFor client tid (CommitEnd encoded) = ⊥
IsStepFor client tid (CommitDrop job) = ⊥
IsStepFor client tid (CommitTree dir) = ⊥
IsStepFor client tid Purge = ⊥
IsStepFor client tid (Evict rank) = ⊥
IsStepFor client tid (Start from dir f to) = ⊥
IsStepFor client tid (Freeze dir f) = ⊥
IsStepFor client tid (Prep dir f) = ⊥
IsStepFor client tid (Send dir f) = ⊥
IsStepFor client tid (Import dir f bytes) = ⊥
IsStepFor client tid (Finish dir f) = ⊥
IsStepFor client tid (Cancel dir f) = ⊥

-- the receipt of a request that was asked, if it got its reply
abbrev pub receipt_in : Result Receipt Refusal → List Receipt
receipt_in (Ok receipt) = receipt ∷ []
receipt_in (Err reason) = []

-- steps for one request alone lead from one book to another, each from a sound book to a sound book. They bring these
-- requests, they give these replies, and there are at most so many. A refusal that is told is the refusal of the last
-- step
pub record LeadsTo (client tid : ℕ) (came : List Request) (most : ℕ) (replies : List Receipt) (refused : Option Refusal)
    (old new : BookState) : Type 0 where
  pub events : List Event
  pub results : List (Result Answer Refusal)
  pub ran : Runs old events results new
  pub for_it : AllByRecursion (IsStepFor client tid) events
  pub brought : arrivals events ≡ came
  pub few : length events ≤ most
  pub told : receipts_of results ≡ replies
  pub last : (reason : Refusal) → refused ≡ Some reason
      → (before : List (Result Answer Refusal)) × (results ≡ before ++ Err reason ∷ [])

-- steps of the book alone, at most so many and all for this request, gave it its answer: it arrived once, and its
-- result is its reply or the refusal of the last step
abbrev pub IsBroughtBy : Request → (most : ℕ) → Result Receipt Refusal → (old new : BookState) → Type 0
IsBroughtBy request most result old new =
    LeadsTo request.client request.tid (request ∷ []) most (receipt_in result) (result_err result) old new

-- a rank serves, or grants
abbrev pub ServesOrGrants : Event → Type 0
ServesOrGrants (Arrive rank request) = ⊥
ServesOrGrants (Serve rank) = Unit {0}
ServesOrGrants (Grant rank of number) = Unit {0}
ServesOrGrants (Split rank dir f nb) = ⊥
ServesOrGrants (Merge rank dir f) = ⊥
ServesOrGrants (CommitBegin rank dir f) = ⊥
ServesOrGrants (CommitEnd encoded) = ⊥
ServesOrGrants (CommitDrop job) = ⊥
ServesOrGrants (CommitTree dir) = ⊥
ServesOrGrants Purge = ⊥
ServesOrGrants (Evict rank) = ⊥
ServesOrGrants (Start from dir f to) = ⊥
ServesOrGrants (Freeze dir f) = ⊥
ServesOrGrants (Prep dir f) = ⊥
ServesOrGrants (Send dir f) = ⊥
ServesOrGrants (Import dir f bytes) = ⊥
ServesOrGrants (Finish dir f) = ⊥
ServesOrGrants (Cancel dir f) = ⊥

-- ranks served and granted, and nothing else happened, so no request arrived. A request left only by such a step: with
-- its reply, as too old, or since there was no number for it. These are the replies
pub record ServesWaiting (old new : BookState) (replies : List Receipt) : Type 0 where
  pub events : List Event
  pub results : List (Result Answer Refusal)
  pub ran : Runs old events results new
  pub only : AllByRecursion ServesOrGrants events
  pub told : receipts_of results ≡ replies
