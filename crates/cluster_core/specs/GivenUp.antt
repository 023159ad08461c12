-- Giving up a request that waits.
use Rattle.std.specs.Prelude.{◌≡◌, List, [], ◌∷◌}
use Rattle.mds_types.specs.declared.ids.Rank.{Rank}
use Rattle.mds_types.specs.declared.requests.Request.{Request}
use Rattle.inboxes.specs.declared.pins.Pin.{Pin}
use Rattle.inboxes.specs.Inboxes.{Inboxes, waiting_at, with_waiting}
use Rattle.cluster_core.specs.Serve.{without_request}
use Rattle.cluster_core.specs.State.{Core, KeptState}

-- a cluster with other inboxes and grants
abbrev pub with_waiters : Core → Inboxes → List Pin → Core
with_waiters core inboxes pins = record core { state = record core.state { inboxes = inboxes; pins = pins } }

-- the request at the front left the rank's inbox, with its grants; if none waits, nothing happened
abbrev pub GivesUpIn : (old new : Core) → Rank → List Request → Type 0
GivesUpIn old new rank [] = new ≡ old
GivesUpIn old new rank (request ∷ rest) =
    new ≡ with_waiters old (with_waiting old.state.inboxes rank rest) (without_request old.state.pins request)

pub record GivesUp (old new : KeptState) (rank : Rank) : Type 0 where
  pub given : GivesUpIn old.core new.core rank (waiting_at old.core.state.inboxes rank)
  pub same : new.history ≡ old.history
  pub same_opening : new.opening ≡ old.opening
