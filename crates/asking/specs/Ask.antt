-- A request is asked: steps of a book alone give it its answer.
use Rattle.std.specs.Prelude.{◌≡◌, ◌⊎◌, ◌<◌, ◌≤◌, ◌∷◌, [], ℕ, List, length, replicate, Result, Ok, Err}
use Rattle.mds_types.specs.declared.entries.Entry.{Entry}
use Rattle.mds_types.specs.declared.ids.Rank.{Rank}
use Rattle.mds_types.specs.declared.refusals.Refusal.{Refusal}
use Rattle.mds_types.specs.declared.refusals.Refusal.TheVariants.{NoInodes, NoMemory, NotAuthority, Trimmed}
use Rattle.mds_types.specs.declared.requests.Request.{Request}
use Rattle.mds_types.specs.History.{IsKeptAt, IsNew, IsTrimmed}
use Rattle.cluster_core.specs.Opening.{Opening}
use Rattle.inboxes.specs.Inboxes.{Inboxes, waiting_at, with_waiting}
use Rattle.inode_table.specs.Numbers.{offer}
use Rattle.namespace_ops.specs.Served.{LacksNumber}
use Rattle.mdcache.specs.Frags.{LacksFor}
use Rattle.cluster_core.specs.Master.{IsMaster}
use Rattle.cluster_core.specs.Serve.{IsApplied, IsRepeated, IsTakenOut, outcome_of}
use Rattle.cluster_core.specs.Sound.{StandsBehind, IsSound}
use Rattle.cluster_core.specs.State.{BookState, Core, KeptState, State, supply_of, whole_of}
use Rattle.asking.specs.GrantsAll.{KeepsButGrants, WhyNotGranted}
use Rattle.asking.specs.Serves.{KeepsUnclean, told_as}
use Rattle.cluster_core.specs.declared.receipts.Receipt.{Receipt}

-- nothing waits at any rank
abbrev pub NoneWaits : Inboxes → Type 0
NoneWaits inboxes = (rank : Rank) → waiting_at inboxes rank ≡ []

-- a request waits alone at a rank; all else is as it was before it arrived, but it may have grants
pub record WaitsAlone (old new : State) (rank : Rank) (request : Request) : Type 0 where
  pub there : rank.0 < length old.inboxes
  pub kept : KeepsButGrants (record old { inboxes = with_waiting old.inboxes rank (request ∷ []) }) new request.client
      request.tid

-- a new request that was asked at a rank was applied at its master, as a request that waits there alone with all the
-- grants that it needs: the history has one entry more, and the reply and the tree are those of the operation table
pub record IsAppliedFor (old new : State) (past now : List Entry) (rank : Rank) (request : Request)
    (receipt : Receipt) : Type 0 where
  pub master : Rank
  pub is_master : IsMaster old rank request.op master
  pub granted : State
  pub kept : KeepsButGrants old granted request.client request.tid
  pub applied : IsApplied granted new past now master request [] (told_as receipt)

-- a new request lacks a number: its master or a counter of the tree has none left
pub record LacksNumberToServe (old : State) (past : List Entry) (rank : Rank) (request : Request) : Type 0 where
  pub is_new : IsNew past request.client request.tid request.oldest
  pub master : Rank
  pub is_master : IsMaster old rank request.op master
  pub lacks : LacksNumber (outcome_of old master request) (offer (supply_of old master)) NoInodes
      ⊎ LacksFor request.op old.tree

-- why a request has to wait: there is no memory to copy its reply; or it is new, and memory was refused, the store had
-- a fault, a rank lacks places, or it would change a frozen leaf
abbrev pub WhyItWaits : (old new : Core) → List Entry → Request → Refusal → Type 0
WhyItWaits old new past request reason =
    ((reason ≡ NoMemory) × ((place : ℕ) × IsKeptAt past request.client request.tid request.oldest place))
    ⊎ (IsNew past request.client request.tid request.oldest × WhyNotGranted old new request.op reason)

-- the request still waits, alone
pub record StillWaits (old new : State) (past now : List Entry) (request : Request) : Type 0 where
  pub same : now ≡ past
  pub at : Rank
  pub alone : WaitsAlone old new at request

-- why a request that was asked has no reply: there is no such rank; it is too old or lacks a number, and has left; or
-- it still waits
abbrev pub RefusesAsk : (old new : Core) → (past now : List Entry) → Rank → Request → Refusal → Type 0
RefusesAsk old new past now rank request reason =
    ((reason ≡ NotAuthority) × (length old.state.inboxes ≤ rank.0) × (new ≡ old) × (now ≡ past))
    ⊎ ((reason ≡ Trimmed) × IsTrimmed past request.client request.tid request.oldest
    × IsTakenOut old.state new.state past now rank request [])
    ⊎ ((reason ≡ NoInodes) × LacksNumberToServe old.state past rank request
    × IsTakenOut old.state new.state past now rank request [])
    ⊎ (WhyItWaits old new past request reason × StillWaits old.state new.state past now request)

-- a request that is asked at a rank where nothing waits gets its reply: the history has its entry, applied now or
-- before, and nothing waits again; or it is refused. No answer says that it was forwarded or deferred
abbrev pub AsksAlone : (old new : Core) → (past now : List Entry) → Rank → Request → Result Receipt Refusal → Type 0
AsksAlone old new past now rank request (Ok receipt) =
    IsAppliedFor old.state new.state past now rank request receipt
    ⊎ IsRepeated old.state new.state past now rank request [] (told_as receipt)
AsksAlone old new past now rank request (Err reason) = RefusesAsk old new past now rank request reason

-- nothing waits in the inboxes of a new book, made or mounted
abbrev pub NewAreIdle : Type 0
NewAreIdle = (ranks : ℕ) → NoneWaits (replicate ranks [])

-- ---- words of this crate's own contracts

-- a question: a request, the rank where it is asked, and the book before it
pub record Question : Type 0 where
  pub core : Core
  pub history : List Entry
  pub opening : Opening
  pub rank : Rank
  pub request : Request

-- the question is answered
abbrev pub Answers : Question → BookState → Result Receipt Refusal → Type 0
Answers q book result = AsksAlone q.core book.core q.history book.history q.rank q.request result

-- the request has arrived at a rank or was forwarded to it, and waits there alone
pub record HasCome (q : Question) (book : BookState) (rank : Rank) (client tid : ℕ) : Type 0 where
  pub sound : IsSound q.opening q.history q.core
  pub none : NoneWaits q.core.state.inboxes
  pub alone : WaitsAlone q.core.state book.core.state rank q.request
  pub same : book.history ≡ q.history
  pub unclean : KeepsUnclean q.core book.core
  pub faults : book.core.faults ≡ q.core.faults
  pub client_is : client ≡ q.request.client
  pub tid_is : tid ≡ q.request.tid
  -- if this rank is the master when it serves the request, it is also the master when the asked rank serves it
  pub via : IsMaster q.core.state rank q.request.op rank → IsMaster q.core.state q.rank q.request.op rank

-- the same, in a book that keeps only the end of its history, behind a forgotten past
pub record HasComeBehind (q : Question) (past : List Entry) (book : KeptState) (rank : Rank)
    (client tid : ℕ) : Type 0 where
  pub behind : StandsBehind q.opening past book
  pub come : HasCome q (whole_of q.opening past book) rank client tid

-- the request is new, and this rank is its master
pub record IsNewAtMaster (q : Question) (rank : Rank) : Type 0 where
  pub is_new : IsNew q.history q.request.client q.request.tid q.request.oldest
  pub own : IsMaster q.core.state rank q.request.op rank
