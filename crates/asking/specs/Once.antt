-- A request is asked once: if it is refused, nothing of it is left.
use Rattle.std.specs.Prelude.{◌≡◌, ◌⊎◌, ◌≤◌, List, length, Result, Ok, Err}
use Rattle.mds_types.specs.declared.entries.Entry.{Entry}
use Rattle.mds_types.specs.declared.ids.Rank.{Rank}
use Rattle.mds_types.specs.declared.refusals.Refusal.{Refusal}
use Rattle.mds_types.specs.declared.refusals.Refusal.TheVariants.{NoInodes, NotAuthority, Trimmed}
use Rattle.mds_types.specs.declared.requests.Request.{Request}
use Rattle.mds_types.specs.History.{IsTrimmed}
use Rattle.cluster_core.specs.Serve.{without_request}
use Rattle.cluster_core.specs.GivenUp.{GivesUp}
use Rattle.cluster_core.specs.State.{Core, KeptState, State}
use Rattle.asking.specs.Ask.{AsksAlone, LacksNumberToServe, NoneWaits, WhyItWaits}
use Rattle.asking.specs.Drain.{IsLowest}
use Rattle.asking.specs.declared.drains.Waiter.{Waiter}
use Rattle.cluster_core.specs.declared.receipts.Receipt.{Receipt}

-- a book's state and history are as they were, but the request has no grants any more
pub record IsGivenUp (old new : State) (past now : List Entry) (request : Request) : Type 0 where
  pub same : now ≡ past
  pub left : new ≡ record old { pins = without_request old.pins request }

-- why a request that was asked once has no reply
abbrev pub WhyNone : (old new : Core) → List Entry → Rank → Request → Refusal → Type 0
WhyNone old new past rank request reason =
    ((reason ≡ NotAuthority) × (length old.state.inboxes ≤ rank.0))
    ⊎ ((reason ≡ Trimmed) × IsTrimmed past request.client request.tid request.oldest)
    ⊎ ((reason ≡ NoInodes) × LacksNumberToServe old.state past rank request) ⊎ WhyItWaits old new past request reason

abbrev pub AsksOnce : (old new : Core) → (past now : List Entry) → Rank → Request → Result Receipt Refusal → Type 0
AsksOnce old new past now rank request (Ok receipt) = AsksAlone old new past now rank request (Ok receipt)
AsksOnce old new past now rank request (Err reason) =
    WhyNone old new past rank request reason
    × (((new ≡ old) × (now ≡ past)) ⊎ IsGivenUp old.state new.state past now request)

-- ---- words of this crate's own contracts

-- the request at the front of the lowest rank where something waits was given up; or nothing waits, and nothing
-- happened
abbrev pub Leaves : (old new : KeptState) → Type 0
Leaves old new =
    (NoneWaits old.core.state.inboxes × (new ≡ old))
    ⊎ ((found : Waiter) × IsLowest old.core.state.inboxes found × GivesUp old new found.rank)
