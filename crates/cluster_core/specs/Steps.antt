-- The effect of each event on a cluster and its history. The caches are a subject of their own, in Uses.
use Rattle.std.specs.Prelude.{◌≡◌, ◌⊎◌, ◌+◌, nat_lt, MatchBool, ◌<◌, List, length, Option, Some, None, Result, Ok, Err}
use Rattle.std.specs.Result.{result_err}
use Rattle.objstore.specs.Objects.{faults_told}
use Rattle.mds_types.specs.declared.ids.Rank.{Rank}
use Rattle.mds_types.specs.declared.entries.Entry.{Entry}
use Rattle.mds_types.specs.declared.operations.Op.{Op}
use Rattle.mds_types.specs.declared.requests.Request.{Request}
use Rattle.mds_types.specs.declared.refusals.Refusal.{Refusal}
use Rattle.mds_types.specs.declared.refusals.Refusal.TheVariants.{NoInodes, NoMemory, NotAuthority, NothingToEvict, InboxFull, StoreFault}
use Rattle.inode_table.specs.Dirs.{IsLive}
use Rattle.namespace_ops.specs.Changes.{Concerns}
use Rattle.subtree_map.specs.Authority.{Leaf}
use Rattle.mdcache.specs.Frags.{LacksFor}
use Rattle.cluster_core.specs.declared.events.Answer.{Answer}
use Rattle.cluster_core.specs.declared.events.Answer.TheVariants.{Nothing}
use Rattle.cluster_core.specs.declared.events.Event.{Event}
use Rattle.cluster_core.specs.declared.events.Event.TheVariants.{Arrive, Grant, Serve, Split, Merge, CommitBegin, CommitEnd, CommitDrop, CommitTree, Purge, Evict, Start, Freeze, Prep, Send, Import, Finish, Cancel}
use Rattle.cluster_core.specs.Administers.{BeginsCommit, CommitsTree, DropsCommit, EndsCommit, EvictsFragment, Merges, PurgesObject, Splits}
use Rattle.cluster_core.specs.Exporting.{CancelsExport, FinishesExport, FreezesExport, ImportsExport, PrepsExport, SendsExport, StartsExport}
use Rattle.inboxes.specs.Inboxes.{waiting_at, with_last}
use Rattle.cluster_core.specs.Grants.{GrantsWaiting}
use Rattle.cluster_core.specs.Master.{IsHolder}
use Rattle.cluster_core.specs.State.{Core, LacksPlacesAt, State, held_roots}
use Rattle.cluster_core.specs.Serve.{IsLeft, ServesInbox}
use Rattle.ranked_tree.specs.Subtrees.{KeepsOutside}

-- an arriving request waits at the back of the rank's inbox; refused InboxFull exactly where 1024 requests wait there
abbrev pub ArrivesAt : (old new : State) → (past now : List Entry) → Rank → Request → Result Answer Refusal → Type 0
ArrivesAt old new past now rank request (Ok answer) =
    (answer ≡ Nothing) × (length (waiting_at old.inboxes rank) < 1024)
    × (new ≡ record old { inboxes = with_last old.inboxes rank request }) × (now ≡ past)
ArrivesAt old new past now rank request (Err reason) =
    (reason ≡ InboxFull) × (length (waiting_at old.inboxes rank) ≡ 1024) × IsLeft old new past now

-- some live leaf of a directory that the operation concerns has a holder in whose cache fewer than two places are free
-- or can become free
abbrev pub LacksPlaces : Core → Op → Type 0
LacksPlaces core op =
    (leaf : Leaf) × Concerns op leaf.0.0 × IsLive core.state.tree.homes core.state.tree.covers leaf
    × ((rank : Rank) × IsHolder core.state leaf rank × LacksPlacesAt 2 core rank)

-- why the tree refuses an operation in a step: memory is refused, the store's count of faults rose in the step, a rank
-- lacks places, or a counter is at its end
abbrev pub TreeMayRefuse : (old new : Core) → Op → Refusal → Type 0
TreeMayRefuse old new op reason =
    (reason ≡ NoMemory) ⊎ ((reason ≡ StoreFault) × (old.faults < new.faults))
    ⊎ ((reason ≡ NothingToEvict) × LacksPlaces old op) ⊎ ((reason ≡ NoInodes) × LacksFor op old.state.tree)

-- the request at the front of the rank's inbox is served
abbrev pub ServesRank : (old new : Core) → (past now : List Entry) → Rank → Result Answer Refusal → Type 0
ServesRank old new past now rank result =
    ServesInbox old.state new.state past now (TreeMayRefuse old new) rank result (waiting_at old.state.inboxes rank)

-- an event at a rank that doesn't exist is refused NotAuthority before all else
abbrev pub AtRank : (old new : Core) → (past now : List Entry) → Rank → Result Answer Refusal → Type 0 → Type 0
AtRank old new past now rank result done =
    MatchBool (nat_lt rank.0 (length old.state.inboxes)) done ((result ≡ Err NotAuthority) × (new ≡ old) × (now ≡ past))

-- what an event does
abbrev pub Does : (old new : Core) → (past now : List Entry) → Result Answer Refusal → Event → Type 0
Does old new past now result (Arrive rank request) =
    AtRank old new past now rank result (ArrivesAt old.state new.state past now rank request result)
Does old new past now result (Serve rank) =
    AtRank old new past now rank result (ServesRank old new past now rank result)
Does old new past now result (Grant rank client tid) =
    AtRank old new past now rank result
    (GrantsWaiting old.state new.state past now (TreeMayRefuse old new) rank client tid result)
Does old new past now result (Split rank dir f nb) =
    AtRank old new past now rank result (Splits old new past now rank dir f nb result)
Does old new past now result (Merge rank dir f) =
    AtRank old new past now rank result (Merges old new past now rank dir f result)
Does old new past now result (CommitBegin rank dir f) =
    AtRank old new past now rank result (BeginsCommit old new past now rank (dir, f) result)
Does old new past now result (CommitEnd encoded) = EndsCommit old new past now encoded.job result
Does old new past now result (CommitDrop number) = DropsCommit old new past now number result
Does old new past now result (CommitTree dir) = CommitsTree old new past now dir result
Does old new past now result Purge = PurgesObject old new past now result
Does old new past now result (Start from dir f to) =
    AtRank old new past now from result (AtRank old new past now to result
    (StartsExport old new past now from (dir, f) to result))
Does old new past now result (Freeze dir f) = FreezesExport old new past now (dir, f) result
Does old new past now result (Prep dir f) = PrepsExport old new past now (dir, f) result
Does old new past now result (Send dir f) = SendsExport old new past now (dir, f) result
Does old new past now result (Import dir f bytes) = ImportsExport old new past now (dir, f) bytes result
Does old new past now result (Finish dir f) = FinishesExport old new past now (dir, f) result
Does old new past now result (Cancel dir f) = CancelsExport old new past now (dir, f) result
Does old new past now result (Evict rank) =
    AtRank old new past now rank result (EvictsFragment old new past now rank result)

-- the roots whose regions a step hands to another rank, if it does: as the authority or as the holder
pub record HandsOn : Type 0 where
  pub authority : Option Leaf
  pub holder : Option Leaf

abbrev pub hands_none : HandsOn
hands_none = record { authority = None; holder = None }

-- Finish hands the authority over, Import the holding
abbrev pub hands_of : Event → HandsOn
hands_of (Arrive rank request) = hands_none
hands_of (Serve rank) = hands_none
hands_of (Grant rank client tid) = hands_none
hands_of (Split rank dir f nb) = hands_none
hands_of (Merge rank dir f) = hands_none
hands_of (CommitBegin rank dir f) = hands_none
hands_of (CommitEnd encoded) = hands_none
hands_of (CommitDrop number) = hands_none
hands_of (CommitTree dir) = hands_none
hands_of Purge = hands_none
hands_of (Evict rank) = hands_none
hands_of (Start from dir f to) = hands_none
hands_of (Freeze dir f) = hands_none
hands_of (Prep dir f) = hands_none
hands_of (Send dir f) = hands_none
hands_of (Import dir f bytes) = record { authority = None; holder = Some (dir, f) }
hands_of (Finish dir f) = record { authority = Some (dir, f); holder = None }
hands_of (Cancel dir f) = hands_none

-- one step: the effect of its event. A leaf that exists before and after keeps its authority and its holder, unless its
-- region is handed over. There are as many ranks as before, with as many places each. The store's count of faults rises
-- by one if the event is refused for a fault, and not otherwise: no fault is hidden, tried again, or told as anything
-- else
pub record Steps (old new : Core) (past now : List Entry) (result : Result Answer Refusal)
    (event : Event) : Type 0 where
  pub does : Does old new past now result event
  pub authorities : KeepsOutside (hands_of event).authority old.state.tree new.state.tree old.state.roots new.state.roots
  pub holders : KeepsOutside (hands_of event).holder old.state.tree new.state.tree (held_roots old.state)
      (held_roots new.state)
  pub ranks : length new.caches.used ≡ length old.caches.used
  pub capacity : new.caches.cap ≡ old.caches.cap
  pub counted : new.faults ≡ old.faults + faults_told (result_err result)
