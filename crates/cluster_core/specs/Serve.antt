-- The results of serving the request at the front of an inbox.
use Rattle.std.specs.Prelude.{◌≡◌, ◌≢◌, ℕ, true, false, cond, ◌⊎◌, set, ◌++◌, ◌∷◌, ◌<◌, [], List, length, Option, None, Some, Result, Ok, Err}
use Rattle.std.specs.List.{slice_index_or}
use Rattle.mds_types.specs.declared.ids.Ino.{Ino}
use Rattle.mds_types.specs.declared.ids.Rank.{Rank}
use Rattle.mds_types.specs.declared.entries.Entry.{Entry}
use Rattle.mds_types.specs.declared.operations.Op.{Op}
use Rattle.mds_types.specs.declared.replies.Reply.{Reply as Replied}
use Rattle.mds_types.specs.declared.requests.Request.{Request}
use Rattle.mds_types.specs.declared.refusals.Refusal.{Refusal}
use Rattle.mds_types.specs.declared.refusals.Refusal.TheVariants.{NoMemory, NoInodes, Trimmed, InboxEmpty, InboxFull}
use Rattle.mds_types.specs.Frag.{root_fragment}
use Rattle.mds_types.specs.Step.{Outcome, step, number_or}
use Rattle.mds_types.specs.Tree.{Tree, is_directory}
use Rattle.mds_types.specs.History.{IsTrimmed, IsKeptAt, IsNew}
use Rattle.inode_table.specs.Dirs.{Covers, leaves_of}
use Rattle.inboxes.specs.declared.pins.Pin.{Pin}
use Rattle.inboxes.specs.Inboxes.{Inboxes, waiting_at, with_last, with_waiting}
use Rattle.inboxes.specs.Pins.{is_for, is_grant_in, left_without}
use Rattle.inode_table.specs.Numbers.{offer}
use Rattle.subtree_map.specs.Authority.{Roots}
use Rattle.sessions.specs.Table.{Table, noted, trimmed}
use Rattle.namespace_ops.specs.Changes.{fragments_in}
use Rattle.namespace_ops.specs.Kept.{ChangesOnly}
use Rattle.namespace_ops.specs.Planned.{IsOneOf, after_plan}
use Rattle.namespace_ops.specs.Served.{LacksNumber}
use Rattle.namespace_ops.specs.declared.plans.Change.{Change}
use Rattle.mdcache.specs.Changes.{Makes}
use Rattle.mdcache.specs.Made.{IsUntouched}
use Rattle.mdcache.specs.State.{State as TreeState}
use Rattle.cluster_core.specs.declared.events.Answer.{Answer}
use Rattle.cluster_core.specs.declared.events.Answer.TheVariants.{Deferred, Forwarded, Reply}
use Rattle.cluster_core.specs.State.{State, shown, supply_of}
use Rattle.cluster_core.specs.Master.{IsMaster, MayTouchAll, MustWait, would_change}
use Rattle.ranked_tree.specs.Subtrees.{FollowChange}
use Rattle.cluster_core.specs.Offer.{after_taking}

-- the outcome of the operation table for a request at a rank, offered the rank's next number
abbrev pub outcome_of : State → Rank → Request → Outcome
outcome_of state rank request =
    step state.tree.limit (shown state) request.op (number_or (offer (supply_of state rank)))

-- the number that the table takes for a request, if it takes one
abbrev pub number_taken : State → Rank → Request → Option Ino
number_taken state rank request = cond (outcome_of state rank request).takes (offer (supply_of state rank)) None

-- the entry that a request adds to the history
abbrev pub entry_of : State → Rank → Request → Entry
entry_of state rank request = record {
  client = request.client;
  tid = request.tid;
  oldest = request.oldest;
  op = request.op;
  number = number_taken state rank request;
  reply = (outcome_of state rank request).reply;
}

-- the sessions, with the place of this entry's reply; replies below its client's mark are forgotten
abbrev pub with_entry : Table → ℕ → Entry → Table
with_entry sessions place e = trimmed (noted sessions e.client e.tid e.oldest place) e.client

-- each directory has the leaves that it had before, and a new one the leaf `*`
abbrev pub CarryLeaves : (before tree : Tree) → (old new : Covers) → Type 0
CarryLeaves before tree old new =
    (d : ℕ) → is_directory tree d ≡ true
    → leaves_of new d ≡ cond (is_directory before d) (leaves_of old d) (root_fragment ∷ [])

-- a refusal that changes nothing
pub record IsLeft (old new : State) (past now : List Entry) : Type 0 where
  pub same : now ≡ past
  pub left : new ≡ old

-- the grants without those of a request
abbrev pub without_request : List Pin → Request → List Pin
without_request pins request = left_without (is_for request.client request.tid) pins

-- the grants without those on a directory that was removed, if one was
abbrev pub without_gone : List Pin → Option Ino → List Pin
without_gone pins None = pins
without_gone pins (Some dir) = left_without (is_grant_in dir) pins

-- the directory that a planned change removes, if it removes one
abbrev pub went_with : Option Change → Option Ino
went_with None = None
went_with (Some change) = change.gone

-- the request left the rank's inbox, with its grants, and nothing else happened
pub record IsTakenOut (old new : State) (past now : List Entry) (rank : Rank) (request : Request)
    (rest : List Request) : Type 0 where
  pub same : now ≡ past
  pub left : new ≡ record old { inboxes = with_waiting old.inboxes rank rest; pins = without_request old.pins request }

-- a planned change was made: the unclean content, the jobs, the purge list and the counters are those that it leaves.
-- Without a change they are the same
abbrev pub MakesPlanned : Option Change → (old new : TreeState) → Type 0
MakesPlanned None old new = new ≡ old
MakesPlanned (Some change) old new = Makes change old new

-- the subtree roots follow a planned change; without a change they are the same
abbrev pub FollowPlanned : Option Change → TreeState → (before after : Roots) → Type 0
FollowPlanned None tree before after = after ≡ before
FollowPlanned (Some change) tree before after = FollowChange change tree before after

-- one change of the operation, or none, was made: it leads to the tree of the operation table, and changes exactly the
-- leaves that the operation would change. The request's grants end, and those on a removed directory
pub record IsMade (old new : State) (rank : Rank) (request : Request) : Type 0 where
  pub change : Option Change
  pub one_of : IsOneOf request.op change
  pub leads : after_plan (shown old) change ≡ (outcome_of old rank request).tree
  pub fragments : fragments_in old.tree.covers change ≡ would_change old request.op
  pub made : MakesPlanned change old.tree new.tree
  pub roots : FollowPlanned change old.tree old.roots new.roots
  pub pins : new.pins ≡ without_gone (without_request old.pins request) (went_with change)

-- a new request was applied at its master, which may change all leaves that it would change. The history has one entry
-- more, and tree and reply are those of the operation table. Any other leaf shows what it showed before
pub record IsApplied (old new : State) (past now : List Entry) (rank : Rank) (request : Request) (rest : List Request)
    (answer : Answer) : Type 0 where
  pub is_new : IsNew past request.client request.tid request.oldest
  pub master : IsMaster old rank request.op rank
  pub may : MayTouchAll old rank request
  pub answered : answer ≡ Reply request.client request.tid (length past) true (outcome_of old rank request).reply
  -- if the table takes a number, one is left
  pub numbered : offer (supply_of old rank) ≡ None → (outcome_of old rank request).takes ≡ false
  pub appended : now ≡ past ++ entry_of old rank request ∷ []
  pub tree : shown new ≡ (outcome_of old rank request).tree
  pub made : IsMade old new rank request
  pub leaves : CarryLeaves (shown old) (shown new) old.tree.covers new.tree.covers
  pub frame : ChangesOnly (IsUntouched old.tree new.tree) (would_change old request.op)
  pub left : new ≡ record old {
    tree = new.tree;
    roots = new.roots;
    pins = new.pins;
    inboxes = with_waiting old.inboxes rank rest;
    numbers = set old.numbers rank.0 (after_taking (supply_of old rank) (number_taken old rank request));
    sessions = with_entry old.sessions (length past) (entry_of old rank request);
  }

-- a request that was applied before gets the reply of its place again; it leaves with its grants, and nothing else
-- changes
pub record IsRepeated (old new : State) (past now : List Entry) (rank : Rank) (request : Request) (rest : List Request)
    (answer : Answer) : Type 0 where
  pub place : ℕ
  pub kept : IsKeptAt past request.client request.tid request.oldest place
  pub answered : (e : Entry) → answer ≡ Reply request.client request.tid place false (slice_index_or past place e).reply
  pub out : IsTakenOut old new past now rank request rest

-- a new request whose master is another rank is forwarded to the back of the master's inbox
pub record IsForwarded (old new : State) (past now : List Entry) (rank : Rank) (request : Request) (rest : List Request)
    (answer : Answer) : Type 0 where
  pub is_new : IsNew past request.client request.tid request.oldest
  pub master : Rank
  pub is_master : IsMaster old rank request.op master
  pub other : master ≢ rank
  pub answered : answer ≡ Forwarded master
  pub room : length (waiting_at old.inboxes master) < 1024
  pub same : now ≡ past
  pub left : new ≡ record old { inboxes = with_last (with_waiting old.inboxes rank rest) master request }

-- a new request at its master, which would change a frozen leaf or lacks a grant, is moved to the back of the same
-- inbox
pub record IsDeferred (old new : State) (past now : List Entry) (rank : Rank) (request : Request) (rest : List Request)
    (answer : Answer) : Type 0 where
  pub is_new : IsNew past request.client request.tid request.oldest
  pub master : IsMaster old rank request.op rank
  pub waits : MustWait old rank request
  pub answered : answer ≡ Deferred
  pub same : now ≡ past
  pub left : new ≡ record old { inboxes = with_waiting old.inboxes rank (rest ++ request ∷ []) }

-- a new request's master is another rank, whose inbox is full
pub record FindsFull (old : State) (past : List Entry) (rank : Rank) (request : Request) : Type 0 where
  pub is_new : IsNew past request.client request.tid request.oldest
  pub master : Rank
  pub is_master : IsMaster old rank request.op master
  pub other : master ≢ rank
  pub full : length (waiting_at old.inboxes master) ≡ 1024

-- a new request at its master
pub record IsAtMaster (old : State) (past : List Entry) (rank : Rank) (request : Request) : Type 0 where
  pub is_new : IsNew past request.client request.tid request.oldest
  pub master : IsMaster old rank request.op rank

-- serving a request takes memory only where its reply is copied, since it was applied before, or where it is new and at
-- its master
abbrev pub ServingTakesMemory : State → List Entry → Rank → Request → Type 0
ServingTakesMemory old past rank request =
    ((place : ℕ) × IsKeptAt past request.client request.tid request.oldest place) ⊎ IsAtMaster old past rank request

-- why a request lacks a number: it may change all leaves that it would change, and the operation table takes a number
-- and the rank has none left, or a counter of the tree is at its end
abbrev pub LacksAny : State → (MayRefuse : Op → Refusal → Type 0) → Rank → Request → Type 0
LacksAny old MayRefuse rank request =
    MayTouchAll old rank request × (LacksNumber (outcome_of old rank request) (offer (supply_of old rank)) NoInodes
    ⊎ MayRefuse request.op NoInodes)

-- why a request is not served. If it is too old or lacks a number, it leaves the inbox with its grants. Otherwise it
-- stays there: its master's inbox is full, memory is refused, or the tree refuses its operation in this call, for a
-- reason of `MayRefuse`
abbrev pub RefusesRequest : (old new : State) → (past now : List Entry) → (MayRefuse : Op → Refusal → Type 0) → Rank
    → Request → List Request → Refusal → Type 0
RefusesRequest old new past now MayRefuse rank request rest reason =
    ((reason ≡ Trimmed) × IsTrimmed past request.client request.tid request.oldest
    × IsTakenOut old new past now rank request rest)
    ⊎ ((reason ≡ NoInodes) × IsAtMaster old past rank request × LacksAny old MayRefuse rank request
    × IsTakenOut old new past now rank request rest)
    ⊎ ((reason ≡ InboxFull) × FindsFull old past rank request × IsLeft old new past now)
    ⊎ ((reason ≡ NoMemory) × ServingTakesMemory old past rank request × IsLeft old new past now)
    ⊎ ((reason ≢ NoInodes) × IsAtMaster old past rank request × MayRefuse request.op reason × IsLeft old new past now)

-- the result of serving the request at the front
abbrev pub ServesRequest : (old new : State) → (past now : List Entry) → (MayRefuse : Op → Refusal → Type 0) → Rank
    → Request → List Request → Result Answer Refusal → Type 0
ServesRequest old new past now MayRefuse rank request rest (Ok answer) =
    IsApplied old new past now rank request rest answer ⊎ IsRepeated old new past now rank request rest answer
    ⊎ IsForwarded old new past now rank request rest answer ⊎ IsDeferred old new past now rank request rest answer
ServesRequest old new past now MayRefuse rank request rest (Err reason) =
    RefusesRequest old new past now MayRefuse rank request rest reason

-- serving a rank: refused InboxEmpty exactly where nothing waits
abbrev pub ServesInbox : (old new : State) → (past now : List Entry) → (MayRefuse : Op → Refusal → Type 0) → Rank
    → Result Answer Refusal → List Request → Type 0
ServesInbox old new past now MayRefuse rank result [] = (result ≡ Err InboxEmpty) × IsLeft old new past now
ServesInbox old new past now MayRefuse rank result (request ∷ rest) =
    ServesRequest old new past now MayRefuse rank request rest result

-- ---- words of this crate's own contracts

-- this holds of the request at the front of an inbox and the requests behind it
abbrev pub AtFront : (Holds : Request → List Request → Type 0) → List Request → Type 0
AtFront Holds [] = ⊥
AtFront Holds (request ∷ rest) = Holds request rest

-- a request left the front of a rank's inbox, those behind it still wait, and its grants ended
pub record HasLeft (old new : Inboxes) (before after : List Pin) (rank : Rank) (request : Request)
    (rest : List Request) : Type 0 where
  pub inboxes : new ≡ with_waiting old rank rest
  pub ended : after ≡ without_request before request

-- a request at the front that is refused still waits, unless there is no number for it: then it leaves
abbrev pub LeavesRefused : (old new : Inboxes) → (before after : List Pin) → Rank → Refusal → Request → List Request
    → Type 0
LeavesRefused old new before after rank reason request rest =
    ((reason ≡ NoInodes) × HasLeft old new before after rank request rest)
    ⊎ ((reason ≢ NoInodes) × (new ≡ old) × (after ≡ before))

-- a request at the front gets the reply of this place again; if memory is refused, it still waits
abbrev pub Repeats : (old new : Inboxes) → (before after : List Pin) → Rank → ℕ → Replied → Result Answer Refusal
    → Request → List Request → Type 0
Repeats old new before after rank at said (Ok answer) request rest =
    (answer ≡ Reply request.client request.tid at false said) × HasLeft old new before after rank request rest
Repeats old new before after rank at said (Err reason) request rest =
    (reason ≡ NoMemory) × (new ≡ old) × (after ≡ before)

-- a new request at the front was answered with this reply, of which its client got a copy. It left, with its grants and
-- those on a removed directory. The history has one entry more, at this place, which its client's session keeps
pub record IsNoted (old new : Inboxes) (before after : List Pin) (known sessions : Table) (place : ℕ)
    (past now : List Entry) (rank : Rank) (number : Option Ino) (went : Option Ino) (said told : Replied)
    (request : Request) (rest : List Request) (answer : Answer) : Type 0 where
  pub answered : answer ≡ Reply request.client request.tid place true told
  pub inboxes : new ≡ with_waiting old rank rest
  pub pins : after ≡ without_gone (without_request before request) went
  pub appended : now ≡ past ++ record {
    client = request.client;
    tid = request.tid;
    oldest = request.oldest;
    op = request.op;
    number = number;
    reply = said;
  } ∷ []
  pub noted : sessions ≡ trimmed (noted known request.client request.tid request.oldest place) request.client

-- memory was refused, and the request still waits
pub record IsUnnoted (old new : Inboxes) (before after : List Pin) (known sessions : Table) (past now : List Entry)
    (reason : Refusal) : Type 0 where
  pub named : reason ≡ NoMemory
  pub inboxes : new ≡ old
  pub pins : after ≡ before
  pub same : now ≡ past
  pub known_still : sessions ≡ known

-- a new request at the front that changes nothing is answered with this reply
abbrev pub Replies : (old new : Inboxes) → (before after : List Pin) → (known sessions : Table) → (place : ℕ)
    → (past now : List Entry) → Rank → Replied → Result Answer Refusal → Request → List Request → Type 0
Replies old new before after known sessions place past now rank said (Ok answer) request rest =
    IsNoted old new before after known sessions place past now rank None None said said request rest answer
Replies old new before after known sessions place past now rank said (Err reason) request rest =
    IsUnnoted old new before after known sessions past now reason

-- a request at the front is forwarded to the back of another inbox; if that is full, it still waits
abbrev pub ForwardsTo : (old new : Inboxes) → (rank master : Rank) → Result Answer Refusal → Request → List Request
    → Type 0
ForwardsTo old new rank master (Ok answer) request rest =
    (answer ≡ Forwarded master) × (length (waiting_at old master) < 1024)
    × (new ≡ with_last (with_waiting old rank rest) master request)
ForwardsTo old new rank master (Err reason) request rest =
    (reason ≡ InboxFull) × (length (waiting_at old master) ≡ 1024) × (new ≡ old)

-- a new request at the front of its master's inbox, which may change all leaves that it would change, is applied or
-- refused
abbrev pub AppliesRequest : (old new : State) → (past now : List Entry) → (MayRefuse : Op → Refusal → Type 0) → Rank
    → Result Answer Refusal → Request → List Request → Type 0
AppliesRequest old new past now MayRefuse rank (Ok answer) request rest =
    IsApplied old new past now rank request rest answer
AppliesRequest old new past now MayRefuse rank (Err reason) request rest =
    RefusesRequest old new past now MayRefuse rank request rest reason
