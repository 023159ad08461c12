-- One step of a book, and the line that shows its result.
use Rattle.std.specs.Prelude.{◌≡◌, List, length, Result, Ok, Err}
use Rattle.mds_types.specs.declared.entries.Entry.{Entry}
use Rattle.cluster_core.specs.Opening.{Opening}
use Rattle.mds_types.specs.declared.refusals.Refusal.{Refusal}
use Rattle.cluster_core.specs.declared.events.Answer.{Answer}
use Rattle.cluster_core.specs.declared.events.Answer.TheVariants.{Deferred, Forwarded, Job, Nothing, Reply, Sent}
use Rattle.cluster_core.specs.declared.events.Event.{Event}
use Rattle.cluster_core.specs.State.{KeptState, whole_of}
use Rattle.cluster_core.specs.Runs.{StepsBook}
use Rattle.cluster_core.specs.Sound.{StandsBehind, IsSoundKept}
use Rattle.script_output.specs.declared.lines.OutputLine.{OutputLine}
use Rattle.script_output.specs.declared.lines.OutputLine.TheVariants.{Reply as ReplyLine, Forwarded as ForwardedLine, Deferred as DeferredLine, Queued, Nothing as NothingLine, Job as JobLine, Sent as SentLine, Refused}
use Rattle.admin_cli.specs.Admin.{Admin}

-- one event led from a book to the next with this result, by all that the contract of a book's step says, whichever
-- opening tree and past the book goes on from. Its store, which has all its objects in memory, reports no fault
pub record IsStep (old new : KeptState) (result : Result Answer Refusal) (event : Event) : Type 0 where
  pub stepped : (opening : Opening) (past : List Entry) → StandsBehind opening past old
      → StepsBook (whole_of opening past old) (whole_of opening past new) result event
  pub goes_on : (opening : Opening) (past : List Entry) → StandsBehind opening past old → StandsBehind opening past new
  pub same_opening : new.opening ≡ old.opening
  pub sound : IsSoundKept new
  pub faults : new.core.faults ≡ 0

-- the line that shows the result of a step
abbrev pub shown_line : Result Answer Refusal → OutputLine
shown_line (Ok Nothing) = NothingLine
shown_line (Ok (Job job)) = JobLine job.number
shown_line (Ok (Sent bytes)) = SentLine (length bytes)
shown_line (Ok (Reply client tid place first reply)) = ReplyLine client tid place first reply
shown_line (Ok (Forwarded rank)) = ForwardedLine rank
shown_line (Ok Deferred) = DeferredLine
shown_line (Err refusal) = Refused refusal

-- the line that shows the result of an arrival: the request waits, unless it was refused
abbrev pub arrived_line : Result Answer Refusal → OutputLine
arrived_line (Ok answer) = Queued
arrived_line (Err refusal) = Refused refusal

-- one step of the book, and the line that shows its result
pub record StepsLine (old new : KeptState) (event : Event) (line_of : Result Answer Refusal → OutputLine)
    (line : OutputLine) : Type 0 where
  pub result : Result Answer Refusal
  pub stepped : IsStep old new result event
  pub shown : line ≡ line_of result

-- a command that is one event: nothing else changes
abbrev pub DoesEvent : (old new : Admin) → Event → OutputLine → Type 0
DoesEvent old new event line =
    (new.operations ≡ old.operations) × (new.jobs ≡ old.jobs) × (new.sent ≡ old.sent)
    × StepsLine old.book new.book event shown_line line
