-- How a drain ends: each round lowers one of two numbers, the requests that wait and the requests that aren't at their
-- master. A round takes a request that waits at a front, lets each rank grant what it needs, and serves it.
use Rattle.std.specs.Prelude.{◌≡◌, ◌⊎◌, ◌+◌, ◌<◌, ◌≤◌, ◌∷◌, [], ℕ, suc, Bool, true, false, MatchBool, List, Some, Result, Ok, Err}
use Rattle.mds_types.specs.declared.entries.Entry.{Entry}
use Rattle.mds_types.specs.declared.ids.Rank.{Rank}
use Rattle.mds_types.specs.declared.operations.Op.{Op}
use Rattle.mds_types.specs.declared.refusals.Refusal.{Refusal}
use Rattle.mds_types.specs.declared.refusals.Refusal.TheVariants.{NoInodes, Trimmed}
use Rattle.mds_types.specs.declared.requests.Request.{Request}
use Rattle.cluster_core.specs.Opening.{Opening}
use Rattle.inboxes.specs.Inboxes.{Inboxes, first_waiting, waiting_at}
use Rattle.cluster_core.specs.Master.{IsMaster}
use Rattle.cluster_core.specs.Sound.{IsSound}
use Rattle.cluster_core.specs.State.{Core, State}
use Rattle.cluster_core.specs.Steps.{Steps}
use Rattle.cluster_core.specs.declared.events.Answer.{Answer}
use Rattle.cluster_core.specs.declared.events.Answer.TheVariants.{Deferred, Forwarded, Job, Nothing, Reply, Sent}
use Rattle.cluster_core.specs.declared.events.Event.TheVariants.{Serve}
pub use Rattle.inboxes.specs.Inboxes.{waiting_in_all}
use Rattle.asking.specs.GrantsAll.{GrantsThem, WhyNotGranted}
use Rattle.asking.specs.declared.drains.Waiter.{Waiter}

-- at most so many of these requests aren't at home
abbrev pub FewStray : (Home : Op → Type 0) → List Request → ℕ → Type 0
FewStray Home [] n = Unit {0}
FewStray Home (request ∷ rest) n =
    (Home request.op × FewStray Home rest n) ⊎ ((fewer : ℕ) × (n ≡ suc fewer) × FewStray Home rest fewer)

-- at most so many of the requests at all ranks from this one on aren't at home
abbrev pub FewStrayFrom : (Home : ℕ → Op → Type 0) → ℕ → Inboxes → ℕ → Type 0
FewStrayFrom Home rank [] n = Unit {0}
FewStrayFrom Home rank (waiting ∷ others) n =
    (here : ℕ) × (there : ℕ) × (here + there ≤ n) × FewStray (Home rank) waiting here
    × FewStrayFrom Home (suc rank) others there

-- a rank is the master of an operation if it serves it
abbrev pub IsAtHome : State → ℕ → Op → Type 0
IsAtHome state rank op = IsMaster state (record { 0 = rank }) op (record { 0 = rank })

-- at most so many of the requests that wait aren't at their master
abbrev pub FewStrays : State → ℕ → Type 0
FewStrays state n = FewStrayFrom (IsAtHome state) 0 state.inboxes n

-- a round, in a sound book in which at most 1024 requests wait in all: a request that waits at the front of a rank, as
-- the first waiting copy of its client and number, was granted all that it needs, and its rank served
pub record IsRound (old granted new : Core) (past now : List Entry) (rank : Rank) (request : Request)
    (rest : List Request) (result : Result Answer Refusal) : Type 0 where
  pub opening : Opening
  pub sound : IsSound opening past old
  pub few : waiting_in_all old.state.inboxes ≤ 1024
  pub front : waiting_at old.state.inboxes rank ≡ request ∷ rest
  pub first : first_waiting request.client request.tid old.state.inboxes ≡ Some request
  pub grants : GrantsThem old granted request.client request.tid request.op
  pub faults : granted.faults ≡ old.faults
  pub served : Steps granted new past now result (Serve rank)

-- a request was forwarded to its master, and one request fewer isn't at its own
pub record OneLessStrays (old new : State) : Type 0 where
  pub same : waiting_in_all new.inboxes ≡ waiting_in_all old.inboxes
  pub fewer : (n : ℕ) → FewStrays old n → (k : ℕ) × (n ≡ suc k) × FewStrays new k

-- a request still waits, for one of these reasons; a frozen leaf can't be the reason, since then not all could be
-- granted
pub record IsHeldUp (old new : Core) (request : Request) (reason : Refusal) : Type 0 where
  pub why : WhyNotGranted old new request.op reason
  pub inboxes : new.state.inboxes ≡ old.state.inboxes

-- one request fewer waits
abbrev pub OneLessWaits : (old new : State) → Type 0
OneLessWaits old new = waiting_in_all new.inboxes < waiting_in_all old.inboxes

-- the result of a round: its request is answered, or is refused for good, or is forwarded to its master, or still
-- waits; it is never deferred, and no inbox is full
abbrev pub RoundGives : (old new : Core) → Request → Result Answer Refusal → Type 0
RoundGives old new request (Ok Nothing) = ⊥
RoundGives old new request (Ok (Reply client tid place first reply)) = OneLessWaits old.state new.state
RoundGives old new request (Ok (Job job)) = ⊥
RoundGives old new request (Ok (Sent bytes)) = ⊥
RoundGives old new request (Ok (Forwarded master)) = OneLessStrays old.state new.state
RoundGives old new request (Ok Deferred) = ⊥
RoundGives old new request (Err reason) =
    (((reason ≡ Trimmed) ⊎ (reason ≡ NoInodes)) × OneLessWaits old.state new.state) ⊎ IsHeldUp old new request reason

abbrev pub RoundsProgress : Type 0
RoundsProgress =
    (old granted new : Core) (past now : List Entry) (rank : Rank) (request : Request) (rest : List Request)
    (result : Result Answer Refusal)
    → IsRound old granted new past now rank request rest result → RoundGives old new request result

-- the number of waiting requests bounds the number of those that aren't at their master
abbrev pub StraysAreWaiting : Type 0
StraysAreWaiting = (state : State) → FewStrays state (waiting_in_all state.inboxes)

-- the front of the lowest rank where something waits is the first waiting copy of its client and number
abbrev pub LowestIsFirst : Type 0
LowestIsFirst =
    (inboxes : Inboxes) (rank : Rank) (request : Request) (rest : List Request)
    → ((lower : Rank) → lower.0 < rank.0 → waiting_at inboxes lower ≡ []) → waiting_at inboxes rank ≡ request ∷ rest
    → first_waiting request.client request.tid inboxes ≡ Some request

-- ---- words of this crate's own contracts

-- the waiter is the front of its rank, and nothing waits at lower ranks
pub record IsLowest (inboxes : Inboxes) (found : Waiter) : Type 0 where
  pub request : Request
  pub rest : List Request
  pub front : waiting_at inboxes found.rank ≡ request ∷ rest
  pub client : found.client ≡ request.client
  pub tid : found.tid ≡ request.tid
  pub lowest : (lower : Rank) → lower.0 < found.rank.0 → waiting_at inboxes lower ≡ []

-- whether an answer says that a request was forwarded to its master
abbrev pub forwards : Answer → Bool
forwards Nothing = false
forwards (Reply client tid place first reply) = false
forwards (Job job) = false
forwards (Sent bytes) = false
forwards (Forwarded master) = true
forwards Deferred = false

-- the result of a round: its request was forwarded to its master, or has left; or the reason why it still waits
abbrev pub RoundEnds : (old new : Core) → Result Bool Refusal → Type 0
RoundEnds old new (Ok moved) = MatchBool moved (OneLessStrays old.state new.state) (OneLessWaits old.state new.state)
RoundEnds old new (Err reason) =
    (request : Request) × WhyNotGranted old new request.op reason × (new.state.inboxes ≡ old.state.inboxes)

-- a request can't be served for this reason, and waits
pub record IsStopped (now : Core) (reason : Refusal) : Type 0 where
  pub before : Core
  pub request : Request
  pub why : WhyNotGranted before now request.op reason
  pub inboxes : now.state.inboxes ≡ before.state.inboxes
