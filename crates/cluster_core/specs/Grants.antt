-- Grants: a rank lets a waiting request that another rank serves change the rank's fragments.
use Rattle.std.specs.Prelude.{◌≡◌, ◌≢◌, ◌⊎◌, ◌↔◌, ◌<◌, ℕ, List, [], ◌∷◌, length, Option, Some, None, Result, Ok, Err}
use Rattle.std.specs.List.{Contains}
use Rattle.mds_types.specs.declared.entries.Entry.{Entry}
use Rattle.mds_types.specs.declared.ids.Rank.{Rank}
use Rattle.mds_types.specs.declared.operations.Op.{Op}
use Rattle.mds_types.specs.declared.requests.Request.{Request}
use Rattle.mds_types.specs.declared.refusals.Refusal.{Refusal}
use Rattle.mds_types.specs.declared.refusals.Refusal.TheVariants.{Frozen, InboxEmpty, NoInodes, NoMemory, NotAuthority}
use Rattle.inboxes.specs.declared.pins.Pin.{Pin}
use Rattle.inboxes.specs.Inboxes.{first_waiting}
use Rattle.inboxes.specs.Pins.{with_grant}
use Rattle.subtree_map.specs.Authority.{Leaf}
use Rattle.cluster_core.specs.declared.events.Answer.{Answer}
use Rattle.cluster_core.specs.declared.events.Answer.TheVariants.{Nothing}
use Rattle.cluster_core.specs.Master.{IsAuthority, IsFrozenAt, grant_of, would_change}
use Rattle.cluster_core.specs.Serve.{IsLeft}
use Rattle.cluster_core.specs.State.{State}

-- a leaf that a request would change now, and whose authority is the rank
pub record IsGranted (state : State) (rank : Rank) (op : Op) (leaf : Leaf) : Type 0 where
  pub changes : Contains (would_change state op) leaf
  pub mine : IsAuthority state leaf rank

-- the grants, with one of each of these leaves for this client and number; a grant that exists stays the same
abbrev pub with_grants : List Pin → List Leaf → (client tid : ℕ) → List Pin
with_grants pins [] client tid = pins
with_grants pins (leaf ∷ leaves) client tid = with_grants (with_grant pins (grant_of leaf client tid)) leaves client tid

-- the rank granted the request all of the rank's leaves that it would change: at least one, and none of them frozen;
-- nothing else changes
pub record Grants (old new : State) (past now : List Entry) (rank : Rank) (client tid : ℕ) (op : Op)
    (answer : Answer) : Type 0 where
  pub answered : answer ≡ Nothing
  pub leaves : List Leaf
  pub exactly : (leaf : Leaf) → Contains leaves leaf ↔ IsGranted old rank op leaf
  pub some : 0 < length leaves
  pub thawed : (leaf : Leaf) → IsGranted old rank op leaf → IsFrozenAt old leaf → ⊥
  pub same : now ≡ past
  pub left : new ≡ record old { pins = with_grants old.pins leaves client tid }

-- refused NotAuthority exactly where there is no such leaf, and Frozen exactly where one of them is frozen, unless the
-- tree can't tell; also for want of memory. Never refused for want of a number, since a grant takes none. Nothing
-- changes
abbrev pub RefusesGrant : (old new : State) → (past now : List Entry) → (MayRefuse : Op → Refusal → Type 0) → Rank → Op
    → Refusal → Type 0
RefusesGrant old new past now MayRefuse rank op reason =
    (((reason ≡ NotAuthority) × ((leaf : Leaf) → IsGranted old rank op leaf → ⊥))
    ⊎ ((reason ≡ Frozen) × ((leaf : Leaf) × IsGranted old rank op leaf × IsFrozenAt old leaf)) ⊎ (reason ≡ NoMemory)
    ⊎ ((reason ≢ NoInodes) × MayRefuse op reason)) × IsLeft old new past now

abbrev pub GrantsRequest : (old new : State) → (past now : List Entry) → (MayRefuse : Op → Refusal → Type 0) → Rank
    → (client tid : ℕ) → Op → Result Answer Refusal → Type 0
GrantsRequest old new past now MayRefuse rank client tid op (Ok answer) =
    Grants old new past now rank client tid op answer
GrantsRequest old new past now MayRefuse rank client tid op (Err reason) =
    RefusesGrant old new past now MayRefuse rank op reason

-- the first waiting copy of the request is granted; refused InboxEmpty exactly where none waits. Whether it was applied
-- before doesn't matter
abbrev pub GrantsFirst : (old new : State) → (past now : List Entry) → (MayRefuse : Op → Refusal → Type 0) → Rank
    → (client tid : ℕ) → Result Answer Refusal → Option Request → Type 0
GrantsFirst old new past now MayRefuse rank client tid result None = (result ≡ Err InboxEmpty) × IsLeft old new past now
GrantsFirst old new past now MayRefuse rank client tid result (Some request) =
    GrantsRequest old new past now MayRefuse rank client tid request.op result

abbrev pub GrantsWaiting : (old new : State) → (past now : List Entry) → (MayRefuse : Op → Refusal → Type 0) → Rank
    → (client tid : ℕ) → Result Answer Refusal → Type 0
GrantsWaiting old new past now MayRefuse rank client tid result =
    GrantsFirst old new past now MayRefuse rank client tid result (first_waiting client tid old.inboxes)

-- ---- words of this crate's own contracts

-- those leaves, of these, whose authority is a rank
abbrev pub AreHeldAmong : State → Rank → (leaves held : List Leaf) → Type 0
AreHeldAmong state rank [] held = held ≡ []
AreHeldAmong state rank (leaf ∷ leaves) held =
    (IsAuthority state leaf rank × ((rest : List Leaf) × (held ≡ leaf ∷ rest) × AreHeldAmong state rank leaves rest))
    ⊎ ((IsAuthority state leaf rank → ⊥) × AreHeldAmong state rank leaves held)

-- a rank is the authority of one of these leaves
abbrev pub HoldsOne : State → Rank → List Leaf → Type 0
HoldsOne state rank leaves = (leaf : Leaf) × Contains leaves leaf × IsAuthority state leaf rank

-- one of these leaves is frozen
abbrev pub IsOneFrozen : State → List Leaf → Type 0
IsOneFrozen state leaves = (leaf : Leaf) × Contains leaves leaf × IsFrozenAt state leaf

-- none of these leaves is frozen
abbrev pub AreThawedEach : State → List Leaf → Type 0
AreThawedEach state leaves = (leaf : Leaf) → Contains leaves leaf → IsFrozenAt state leaf → ⊥

-- why a rank can grant none of these leaves: it is the authority of none; or it is of some, and memory is refused, or
-- one of those is frozen
abbrev pub FindsNone : State → Rank → List Leaf → Refusal → Type 0
FindsNone state rank leaves reason =
    ((reason ≡ NotAuthority) × AreHeldAmong state rank leaves [])
    ⊎ ((reason ≡ NoMemory) × HoldsOne state rank leaves)
    ⊎ ((reason ≡ Frozen) × ((held : List Leaf) × AreHeldAmong state rank leaves held × IsOneFrozen state held))
