-- The options of a script: the line of a request also gets its answer, a flush is kept in a file, and after each line
-- old entries of the history are forgotten.
use Rattle.std.specs.Prelude.{◌≡◌, ◌⊎◌, ◌+◌, ◌++◌, ◌<◌, ◌∷◌, [], List, cond, false, MatchBool, None, Result, Ok, Err}
use Rattle.std.specs.FinMap as map
use Rattle.mds_types.specs.declared.entries.Entry.{Entry}
use Rattle.mds_types.specs.declared.ids.Rank.{Rank}
use Rattle.mds_types.specs.declared.operations.Op.{Op}
use Rattle.mds_types.specs.declared.refusals.Refusal.{Refusal}
use Rattle.mds_types.specs.declared.refusals.Refusal.TheVariants.{InboxFull}
use Rattle.mds_types.specs.declared.requests.Request.{Request as Asked}
use Rattle.cluster_core.specs.KeptSessions.{with_stored}
use Rattle.cluster_core.specs.Opening.{Opening}
use Rattle.inboxes.specs.Inboxes.{waiting_in_all}
use Rattle.cluster_core.specs.OneThread.{InOrder, IsOneThread}
use Rattle.cluster_core.specs.Sound.{StandsBehind, IsSoundKept}
use Rattle.cluster_core.specs.State.{KeptState, places_of}
use Rattle.cluster_core.specs.declared.receipts.Receipt.{Receipt}
use Rattle.asking.specs.Ask.{NoneWaits}
use Rattle.asking.specs.Once.{AsksOnce}
use Rattle.asking.specs.Reached.{receipt_in}
use Rattle.keeping.specs.declared.unkept.Unkept.{Unkept}
use Rattle.script_text.specs.declared.commands.Command.{Command}
use Rattle.script_text.specs.declared.commands.Command.TheVariants.{Operation, Own, Request, Serve, History, Split, Merge, Leaves, Grant, Subtrees, Authority, Export, Store}
use Rattle.script_text.specs.declared.store_commands.StoreCommand.{StoreCommand}
use Rattle.script_text.specs.declared.store_commands.StoreCommand.TheVariants as store
use Rattle.script_output.specs.declared.lines.OutputLine.{OutputLine}
use Rattle.script_output.specs.declared.lines.OutputLine.TheVariants.{Flushed, Refused, Reply, Unsaved}
use Rattle.admin_cli.specs.Admin.{Admin}
use Rattle.admin_cli.specs.declared.modes.Mode.{Mode}
use Rattle.admin_cli.specs.Execute.{Executes}
use Rattle.admin_cli.specs.Forgetting.{ThenForgets}
use Rattle.admin_cli.specs.StoreLines.{IsFlush, is_hindered}

-- no option is set: a script is run as it is written
abbrev pub plain : Mode
plain = record { asks = false; keeps = false; history = None }

-- ---- a request whose line gets its answer

-- a request was asked at a rank of a book in which nothing waits, and nothing waits afterwards
pub record IsAskedOnce (old new : KeptState) (rank : Rank) (request : Asked) (result : Result Receipt Refusal)
    : Type 0 where
  pub none : NoneWaits old.core.state.inboxes
  pub asked : (opening : Opening) (past : List Entry) → StandsBehind opening past old
      → AsksOnce old.core new.core (past ++ old.history) (past ++ new.history) rank request result
  pub one : (opening : Opening) (past : List Entry) → StandsBehind opening past old
      → IsOneThread old.core.state.tree.limit opening (past ++ old.history) (past ++ new.history) (request ∷ [])
      (receipt_in result)
  pub in_order : InOrder (places_of old) (receipt_in result) (places_of new)
  pub idle : NoneWaits new.core.state.inboxes
  pub goes_on : (opening : Opening) (past : List Entry) → StandsBehind opening past old → StandsBehind opening past new
  pub same_opening : new.opening ≡ old.opening
  pub same_limit : new.core.state.tree.limit ≡ old.core.state.tree.limit
  pub sound : IsSoundKept new

-- a request was asked so; if something waits, which no line of such a script leaves, it is refused InboxFull, and
-- nothing changed
abbrev pub AsksNow : (old new : KeptState) → Rank → Asked → Result Receipt Refusal → Type 0
AsksNow old new rank request result =
    IsAskedOnce old new rank request result
    ⊎ ((0 < waiting_in_all old.core.state.inboxes) × (result ≡ Err InboxFull) × (new ≡ old))

-- the line of a request that was asked: its reply or its refusal
abbrev pub asked_line : Result Receipt Refusal → OutputLine
asked_line (Ok r) = Reply r.client r.tid r.place r.first r.reply
asked_line (Err refusal) = Refused refusal

pub record AsksLine (old new : KeptState) (rank : Rank) (request : Asked) (line : OutputLine) : Type 0 where
  pub result : Result Receipt Refusal
  pub asked : AsksNow old new rank request result
  pub shown : line ≡ asked_line result

-- ---- a flush that is kept

-- the line of a flush, and the book behind it: the file keeps the sessions too, or refuses to keep the flush
abbrev pub SaysSaved : (flushed new : KeptState) → Result (Unit {0}) Refusal → OutputLine → Type 0
SaysSaved flushed new (Ok done) line = ((line ≡ Flushed) × (new ≡ with_stored flushed))
    ⊎ ((why : Unkept) × (line ≡ Unsaved why) × (new ≡ flushed))
SaysSaved flushed new (Err refusal) line = (line ≡ Refused refusal) × (new ≡ flushed)

-- the book was flushed, and the file was told to keep that; no job is kept any more, unless an export exists
pub record SavesLine (old new : Admin) (line : OutputLine) : Type 0 where
  pub count : new.operations ≡ old.operations
  pub result : Result (Unit {0}) Refusal
  pub jobs : new.jobs ≡ cond (is_hindered result) old.jobs map.empty
  pub sent : new.sent ≡ old.sent
  pub book : KeptState
  pub flushed : IsFlush old.book book result
  pub shown : SaysSaved book new.book result line

-- ---- a command

-- an operation alone is asked at rank 0, as client 0's
abbrev pub AsksOperation : (old new : Admin) → Op → OutputLine → Type 0
AsksOperation old new op line =
    (new.operations ≡ old.operations + 1) × (new.jobs ≡ old.jobs) × (new.sent ≡ old.sent)
    × AsksLine old.book new.book (record { 0 = 0 })
    (record { client = 0; tid = old.operations + 1; oldest = old.operations + 1; op = op }) line

abbrev pub AsksRequest : (old new : Admin) → Rank → Asked → OutputLine → Type 0
AsksRequest old new rank request line =
    (new.operations ≡ old.operations) × (new.jobs ≡ old.jobs) × (new.sent ≡ old.sent)
    × AsksLine old.book new.book rank request line

abbrev pub DoesStoreUnder : Mode → (old new : Admin) → StoreCommand → OutputLine → Type 0
DoesStoreUnder mode old new (store.CommitBegin rank dir f) line = Executes old new (Store (store.CommitBegin rank dir f)) line
DoesStoreUnder mode old new (store.CommitEnd number) line = Executes old new (Store (store.CommitEnd number)) line
DoesStoreUnder mode old new (store.CommitDrop number) line = Executes old new (Store (store.CommitDrop number)) line
DoesStoreUnder mode old new (store.Commit rank dir f) line = Executes old new (Store (store.Commit rank dir f)) line
DoesStoreUnder mode old new (store.CommitTree dir) line = Executes old new (Store (store.CommitTree dir)) line
DoesStoreUnder mode old new store.Purge line = Executes old new (Store store.Purge) line
DoesStoreUnder mode old new store.Flush line =
    MatchBool mode.keeps (SavesLine old new line) (Executes old new (Store store.Flush) line)
DoesStoreUnder mode old new (store.Evict rank) line = Executes old new (Store (store.Evict rank)) line
DoesStoreUnder mode old new (store.Object name) line = Executes old new (Store (store.Object name)) line
DoesStoreUnder mode old new store.Objects line = Executes old new (Store store.Objects) line

-- what a command does under these options: only operations, requests and flushes differ from a script without them
abbrev pub CarriesOut : Mode → (old new : Admin) → Command → OutputLine → Type 0
CarriesOut mode old new (Operation op) line =
    MatchBool mode.asks (AsksOperation old new op line) (Executes old new (Operation op) line)
CarriesOut mode old new (Request rank request) line =
    MatchBool mode.asks (AsksRequest old new rank request line) (Executes old new (Request rank request) line)
CarriesOut mode old new (Store command) line = DoesStoreUnder mode old new command line
CarriesOut mode old new (Serve rank) line = Executes old new (Serve rank) line
CarriesOut mode old new (Own rank) line = Executes old new (Own rank) line
CarriesOut mode old new History line = Executes old new History line
CarriesOut mode old new (Split rank dir f nb) line = Executes old new (Split rank dir f nb) line
CarriesOut mode old new (Merge rank dir f) line = Executes old new (Merge rank dir f) line
CarriesOut mode old new (Leaves dir) line = Executes old new (Leaves dir) line
CarriesOut mode old new (Grant rank client tid) line = Executes old new (Grant rank client tid) line
CarriesOut mode old new Subtrees line = Executes old new Subtrees line
CarriesOut mode old new (Authority dir f) line = Executes old new (Authority dir f) line
CarriesOut mode old new (Export command) line = Executes old new (Export command) line

-- a line with a command under these options; after it the history is as short as they say
abbrev pub DoesUnder : Mode → (old new : Admin) → Command → OutputLine → Type 0
DoesUnder mode old new command line =
    ThenForgets mode.history (λ middle. CarriesOut mode old middle command line) new
