-- What a command on the store does, and the line that it prints.
use Rattle.std.specs.Prelude.{◌≡◌, ◌⊎◌, ◌==◌, ◌++◌, ℕ, Bool, true, false, cond, List, Option, Some, None, Result, Ok, Err, OnOk}
use Rattle.std.specs.FinMap as map
use Rattle.std.specs.Ordering.{nat_cmp}
use Rattle.cached_frag.specs.declared.jobs.Job.{Job as Begun}
use Rattle.mds_types.specs.declared.entries.Entry.{Entry}
use Rattle.mds_types.specs.declared.ids.Ino.{Ino}
use Rattle.mds_types.specs.declared.ids.Rank.{Rank}
use Rattle.mds_types.specs.declared.refusals.Refusal.{Refusal}
use Rattle.mds_types.specs.declared.refusals.Refusal.TheVariants.{NoMemory, StaleJob}
use Rattle.mds_types.specs.Refusal.{refusal_number}
use Rattle.mds_types.specs.Frag.{Fragment}
use Rattle.cluster_core.specs.Opening.{Opening, after_from}
use Rattle.objstore.specs.Objects.{Objects as Stored}
use Rattle.cached_frag.specs.declared.jobs.Job.{Job as Begun}
use Rattle.cached_frag.specs.Commit.{carried}
use Rattle.cluster_core.specs.Flush.{AreExact, Flushes, IsColdTree}
use Rattle.cluster_core.specs.Sound.{StandsBehind, IsSoundKept}
use Rattle.cluster_core.specs.State.{KeptState}
use Rattle.cluster_core.specs.declared.events.Answer.{Answer}
use Rattle.cluster_core.specs.declared.events.Answer.TheVariants.{Deferred, Forwarded, Job, Nothing, Reply, Sent}
use Rattle.cluster_core.specs.declared.events.Event.{Event}
use Rattle.cluster_core.specs.declared.events.Event.TheVariants.{CommitBegin as BeginEvent, CommitEnd as EndEvent, CommitDrop as DropEvent, CommitTree as TreeEvent, Purge as PurgeEvent, Evict as EvictEvent}
use Rattle.script_text.specs.declared.store_commands.StoreCommand.{StoreCommand}
use Rattle.script_text.specs.declared.store_commands.StoreCommand.TheVariants.{CommitBegin, CommitEnd, CommitDrop, Commit, CommitTree, Purge, Flush, Evict, Object, Objects}
use Rattle.script_output.specs.declared.lines.OutputLine.{OutputLine}
use Rattle.script_output.specs.declared.lines.OutputLine.TheVariants.{Nothing as NothingLine, Flushed, Job as JobLine, Object as ObjectLine, Objects as ObjectsLine, Refused}
use Rattle.script_output.specs.declared.object_lines.ObjectLine.{ObjectLine as Shown}
use Rattle.script_output.specs.ShownObjects.{IsLineOf, MayTakeMemory}
use Rattle.admin_cli.specs.Admin.{Admin}
use Rattle.admin_cli.specs.StepLines.{DoesEvent, IsStep, shown_line}

-- ---- commits

-- the number of the job that a step began, if it began one, or the refusal
abbrev pub number_in : Result Answer Refusal → Result (Option ℕ) Refusal
number_in (Ok (Job job)) = Ok (Some job.number)
number_in (Ok Nothing) = Ok None
number_in (Ok (Reply client tid place first reply)) = Ok None
number_in (Ok (Forwarded rank)) = Ok None
number_in (Ok Deferred) = Ok None
number_in (Ok (Sent bytes)) = Ok None
number_in (Err refusal) = Err refusal

-- the kept jobs after a step, with the job that it began, if it began one
abbrev pub with_begun : map.FinMap nat_cmp Begun → Result Answer Refusal → map.FinMap nat_cmp Begun
with_begun jobs (Ok (Job job)) = map.insert jobs job.number job
with_begun jobs (Ok Nothing) = jobs
with_begun jobs (Ok (Reply client tid place first reply)) = jobs
with_begun jobs (Ok (Forwarded rank)) = jobs
with_begun jobs (Ok Deferred) = jobs
with_begun jobs (Ok (Sent bytes)) = jobs
with_begun jobs (Err refusal) = jobs

-- a commit of a leaf began, which gave a job of this number, or nothing, or was refused
pub record BeginsJob (old new : Admin) (rank : Rank) (dir : Ino) (f : Fragment)
    (number : Result (Option ℕ) Refusal) : Type 0 where
  pub result : Result Answer Refusal
  pub stepped : IsStep old.book new.book result (BeginEvent rank dir f)
  pub kept : new.jobs ≡ with_begun old.jobs result
  pub sent : new.sent ≡ old.sent
  pub numbered : number ≡ number_in result
  pub count : new.operations ≡ old.operations

-- the line of a commit that began
abbrev pub begun_line : Result (Option ℕ) Refusal → OutputLine
begun_line (Ok (Some number)) = JobLine number
begun_line (Ok None) = NothingLine
begun_line (Err refusal) = Refused refusal

abbrev pub BeginsLine : (old new : Admin) → Rank → Ino → Fragment → OutputLine → Type 0
BeginsLine old new rank dir f line =
    (number : Result (Option ℕ) Refusal) × BeginsJob old new rank dir f number × (line ≡ begun_line number)

-- a commit is over with this result: it was ended or given up, or is stale (refusal 11)
abbrev pub is_over : Result Answer Refusal → Bool
is_over (Ok answer) = true
is_over (Err refusal) = refusal_number refusal == 11

-- a step that ends the commit of this number, or gives it up; once the commit is over, its job is no longer kept
pub record EndsJob (old new : Admin) (number : ℕ) (event : Event) (line : OutputLine) : Type 0 where
  pub result : Result Answer Refusal
  pub stepped : IsStep old.book new.book result event
  pub jobs : new.jobs ≡ cond (is_over result) (map.remove old.jobs number) old.jobs
  pub sent : new.sent ≡ old.sent
  pub count : new.operations ≡ old.operations
  pub shown : line ≡ shown_line result

-- a kept job was encoded, and its commit ended. If no job of this number is kept, it is told as stale; if memory for
-- the encoding is refused, as a refusal; in both cases nothing changed
abbrev pub EndsKept : (old new : Admin) → ℕ → Option Begun → OutputLine → Type 0
EndsKept old new number None line = (new ≡ old) × (line ≡ Refused StaleJob)
EndsKept old new number (Some job) line =
    ((new ≡ old) × (line ≡ Refused NoMemory)) ⊎ EndsJob old new number (EndEvent (carried job)) line

abbrev pub EndsLine : (old new : Admin) → ℕ → OutputLine → Type 0
EndsLine old new number line = EndsKept old new number (map.get old.jobs number) line

-- a commit that began is ended at once; if none began, the line is that of the begin
abbrev pub CommitsAfter : (middle new : Admin) → Result (Option ℕ) Refusal → OutputLine → Type 0
CommitsAfter middle new (Ok (Some number)) line = EndsLine middle new number line
CommitsAfter middle new (Ok None) line = (new ≡ middle) × (line ≡ NothingLine)
CommitsAfter middle new (Err refusal) line = (new ≡ middle) × (line ≡ Refused refusal)

pub record CommitsLine (old new : Admin) (rank : Rank) (dir : Ino) (f : Fragment) (line : OutputLine) : Type 0 where
  pub middle : Admin
  pub number : Result (Option ℕ) Refusal
  pub begun : BeginsJob old middle rank dir f number
  pub rest : CommitsAfter middle new number line

-- ---- memory of the script's own for jobs

-- a commit began, and there was no memory to keep its job
pub record LosesJob (old new : Admin) (rank : Rank) (dir : Ino) (f : Fragment) : Type 0 where
  pub job : Begun
  pub stepped : IsStep old.book new.book (Ok (Job job)) (BeginEvent rank dir f)
  pub jobs : new.jobs ≡ old.jobs
  pub sent : new.sent ≡ old.sent
  pub count : new.operations ≡ old.operations

-- there was no memory to copy the kept job of a number, and nothing changed
abbrev pub CopiesNone : (old new : Admin) → ℕ → Type 0
CopiesNone old new number = (new ≡ old) × ((job : Begun) × (map.get old.jobs number ≡ Some job))

-- a commit began and its job was kept, but there was no memory to copy the job
pub record BeginsAlone (old new : Admin) (rank : Rank) (dir : Ino) (f : Fragment) : Type 0 where
  pub middle : Admin
  pub number : ℕ
  pub begun : BeginsJob old middle rank dir f (Ok (Some number))
  pub rest : CopiesNone middle new number

abbrev pub LacksForCommit : (old new : Admin) → Rank → Ino → Fragment → Type 0
LacksForCommit old new rank dir f = LosesJob old new rank dir f ⊎ BeginsAlone old new rank dir f

-- ---- flushes

-- a flush led from a book to the next with this result, by all that its contract says. The store, which has all its
-- objects in memory, reports no fault
pub record IsFlush (old new : KeptState) (result : Result (Unit {0}) Refusal) : Type 0 where
  pub cold : OnOk result ((opening : Opening) (past : List Entry) → StandsBehind opening past old
      → IsColdTree new.core.state.tree.objects (after_from old.core.state.tree.limit opening (past ++ old.history)))
  pub exact : OnOk result (AreExact new.core.state.tree)
  pub clean : OnOk result (new.core.state.tree.unsaved ≡ map.empty)
  pub purged : OnOk result (new.core.state.tree.purge ≡ map.empty)
  pub outcome : Flushes old new result
  pub goes_on : (opening : Opening) (past : List Entry) → StandsBehind opening past old → StandsBehind opening past new
  pub sound : IsSoundKept new
  pub faults : new.core.faults ≡ 0

-- the line of a flush
abbrev pub flushed_line : Result (Unit {0}) Refusal → OutputLine
flushed_line (Ok done) = Flushed
flushed_line (Err refusal) = Refused refusal

-- a flush was refused since an export exists (refusal 18)
abbrev pub is_hindered : Result (Unit {0}) Refusal → Bool
is_hindered (Ok done) = false
is_hindered (Err refusal) = refusal_number refusal == 18

-- the book was flushed, and no job is kept any more, unless an export exists
pub record FlushesLine (old new : Admin) (line : OutputLine) : Type 0 where
  pub count : new.operations ≡ old.operations
  pub result : Result (Unit {0}) Refusal
  pub jobs : new.jobs ≡ cond (is_hindered result) old.jobs map.empty
  pub sent : new.sent ≡ old.sent
  pub flushed : IsFlush old.book new.book result
  pub shown : line ≡ flushed_line result

-- ---- looking at the store

-- the line of the object of a name; or a refusal for want of memory, for an object whose line takes some
abbrev pub LooksLine : Stored → List ℕ → OutputLine → Type 0
LooksLine objects name line =
    ((shown : Shown) × IsLineOf (map.get objects name) shown × (line ≡ ObjectLine shown))
    ⊎ ((line ≡ Refused NoMemory) × MayTakeMemory (map.get objects name))

-- the names of all objects; or a refusal for want of memory
abbrev pub ListsObjects : Stored → OutputLine → Type 0
ListsObjects objects line = (line ≡ ObjectsLine (map.keys objects)) ⊎ (line ≡ Refused NoMemory)

-- ---- a command on the store

-- memory of the script's own was refused for a command on the store: for a job that it keeps or copies; no step was
-- refused for it
abbrev pub LacksForStore : (old new : Admin) → StoreCommand → Type 0
LacksForStore old new (CommitBegin rank dir f) = LosesJob old new rank dir f
LacksForStore old new (CommitEnd number) = CopiesNone old new number
LacksForStore old new (CommitDrop number) = ⊥
LacksForStore old new (Commit rank dir f) = LacksForCommit old new rank dir f
LacksForStore old new (CommitTree dir) = ⊥
LacksForStore old new Purge = ⊥
LacksForStore old new Flush = ⊥
LacksForStore old new (Evict rank) = ⊥
LacksForStore old new (Object name) = ⊥
LacksForStore old new Objects = ⊥

abbrev pub ExecutesStore : (old new : Admin) → StoreCommand → OutputLine → Type 0
ExecutesStore old new (CommitBegin rank dir f) line = BeginsLine old new rank dir f line
ExecutesStore old new (CommitEnd number) line = EndsLine old new number line
ExecutesStore old new (CommitDrop number) line = EndsJob old new number (DropEvent number) line
ExecutesStore old new (Commit rank dir f) line = CommitsLine old new rank dir f line
ExecutesStore old new (CommitTree dir) line = DoesEvent old new (TreeEvent dir) line
ExecutesStore old new Purge line = DoesEvent old new PurgeEvent line
ExecutesStore old new Flush line = FlushesLine old new line
ExecutesStore old new (Evict rank) line = DoesEvent old new (EvictEvent rank) line
ExecutesStore old new (Object name) line = (new ≡ old) × LooksLine old.book.core.state.tree.objects name line
ExecutesStore old new Objects line = (new ≡ old) × ListsObjects old.book.core.state.tree.objects line
