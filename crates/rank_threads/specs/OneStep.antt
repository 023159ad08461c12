-- One step of the book under its lock, and what the thread that made it is told.
use Rattle.std.specs.Prelude.{◌≡◌, Bool, true, Option, Some, None, Result, Ok, Err}
use Rattle.mds_types.specs.declared.refusals.Refusal.{Refusal}
use Rattle.cached_frag.specs.declared.jobs.Job.{Job as Begun}
use Rattle.cluster_core.specs.declared.events.Answer.{Answer}
use Rattle.cluster_core.specs.declared.events.Answer.TheVariants.{Job}
use Rattle.cluster_core.specs.declared.events.Event.{Event}
use Rattle.cluster_core.specs.Runs.{StepsBook}
use Rattle.cluster_core.specs.Sound.{IsSoundBook}
use Rattle.cluster_core.specs.State.{BookState}

-- exactly one step, of this event and with this result, leads from a book to the next, and the next one is sound
pub record IsOneStep (old new : BookState) (event : Event) (result : Result Answer Refusal) : Type 0 where
  pub stepped : StepsBook old new result event
  pub sound : IsSoundBook new

-- exactly one step of this event, whose result is told to the caller by this rule
pub record IsStepTold {X : Type 0} (old new : BookState) (event : Event) (rule : Result Answer Refusal → X)
    (told : X) : Type 0 where
  pub result : Result Answer Refusal
  pub step : IsOneStep old new event result
  pub by_rule : told ≡ rule result

-- whether the step was made, or why it was refused
abbrev pub done_of : Result Answer Refusal → Result (Unit {0}) Refusal
done_of (Ok answer) = Ok tt
done_of (Err reason) = Err reason

-- the same, for a turn that may make no step: true tells that it made one
abbrev pub answer_of : Result Answer Refusal → Result Bool Refusal
answer_of (Ok answer) = Ok true
answer_of (Err reason) = Err reason

-- the job that the step began, if it began one, or why it was refused
abbrev pub job_of : Result Answer Refusal → Result (Option Begun) Refusal
job_of (Ok (Job job)) = Ok (Some job)
job_of (Ok other) = Ok None
job_of (Err reason) = Err reason
