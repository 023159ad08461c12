-- A rank's own turn, and the line that it prints.
use Rattle.std.specs.Prelude.{◌≡◌, Option, Some, None, Result, Ok, Err}
use Rattle.mds_types.specs.declared.ids.Ino.{Ino}
use Rattle.mds_types.specs.declared.ids.Rank.{Rank}
use Rattle.mds_types.specs.declared.refusals.Refusal.{Refusal}
use Rattle.mds_types.specs.Frag.{Fragment}
use Rattle.cluster_core.specs.declared.events.Event.{Event}
use Rattle.cluster_core.specs.declared.events.Event.TheVariants.{Arrive, Serve, Grant, Split, Merge, CommitBegin, CommitEnd, CommitDrop, CommitTree, Purge, Evict, Start, Freeze, Prep, Send, Import, Finish, Cancel}
use Rattle.cluster_core.specs.Proposal.{Proposes}
use Rattle.script_output.specs.declared.lines.OutputLine.{OutputLine}
use Rattle.script_output.specs.declared.lines.OutputLine.TheVariants.{Reply, Forwarded, Deferred, Queued, Nothing, Flushed, Unsaved, Frags, Subtrees, Authority, Job, Sent, Object, Objects, Idle, Own, History, Refused, Errno}
use Rattle.script_output.specs.declared.own_turns.OwnResult.{OwnResult}
use Rattle.script_output.specs.declared.own_turns.OwnResult.TheVariants as came
use Rattle.script_output.specs.declared.own_turns.OwnStep.{OwnStep}
use Rattle.script_output.specs.declared.own_turns.OwnStep.TheVariants as own
use Rattle.admin_cli.specs.Admin.{Admin}
use Rattle.admin_cli.specs.ExportLines.{CopiesNoBytes, ImportsLine, MakesNoRoom, SendsLine}
use Rattle.admin_cli.specs.StepLines.{DoesEvent}

-- the result of a step, from the line that its command prints; such commands print no other lines than these
abbrev pub came_of : OutputLine → OwnResult
came_of (Reply client tid place first reply) = came.Nothing
came_of (Forwarded rank) = came.Nothing
came_of Deferred = came.Nothing
came_of Queued = came.Nothing
came_of Nothing = came.Nothing
came_of Flushed = came.Nothing
came_of (Unsaved why) = came.Nothing
came_of (Frags leaves) = came.Nothing
came_of (Subtrees roots) = came.Nothing
came_of (Authority rank) = came.Nothing
came_of (Job number) = came.Nothing
came_of (Sent length) = came.Sent length
came_of (Object object) = came.Nothing
came_of (Objects names) = came.Nothing
came_of Idle = came.Nothing
came_of (Own turn) = came.Nothing
came_of (History length) = came.Nothing
came_of (Refused refusal) = came.Refused refusal
came_of (Errno errno) = came.Nothing

-- the line of a step that was made: which step it was, at which leaf, and its result
abbrev pub own_line_of : OwnStep → Ino → Fragment → OutputLine → OutputLine
own_line_of step dir f shown = Own (record { step = step; ino = dir; frag = f; result = came_of shown })

-- the name of a rank's own step, and the root or the leaf that it concerns
abbrev pub IsCalled : Event → OwnStep → Ino → Fragment → Type 0
IsCalled (Arrive rank request) step dir f = ⊥
IsCalled (Serve rank) step dir f = ⊥
IsCalled (Grant rank client tid) step dir f = ⊥
IsCalled (Split rank ino frag bits) step dir f = (step ≡ own.Split) × (dir ≡ ino) × (f ≡ frag)
IsCalled (Merge rank ino frag) step dir f = (step ≡ own.Merge) × (dir ≡ ino) × (f ≡ frag)
IsCalled (CommitBegin rank ino frag) step dir f = ⊥
IsCalled (CommitEnd encoded) step dir f = ⊥
IsCalled (CommitDrop job) step dir f = ⊥
IsCalled (CommitTree ino) step dir f = ⊥
IsCalled Purge step dir f = ⊥
IsCalled (Evict rank) step dir f = ⊥
IsCalled (Start from ino frag to) step dir f = (step ≡ own.Start) × (dir ≡ ino) × (f ≡ frag)
IsCalled (Freeze ino frag) step dir f = (step ≡ own.Freeze) × (dir ≡ ino) × (f ≡ frag)
IsCalled (Prep ino frag) step dir f = (step ≡ own.Prep) × (dir ≡ ino) × (f ≡ frag)
IsCalled (Send ino frag) step dir f = (step ≡ own.Send) × (dir ≡ ino) × (f ≡ frag)
IsCalled (Import ino frag bytes) step dir f = (step ≡ own.Import) × (dir ≡ ino) × (f ≡ frag)
IsCalled (Finish ino frag) step dir f = (step ≡ own.Finish) × (dir ≡ ino) × (f ≡ frag)
IsCalled (Cancel ino frag) step dir f = (step ≡ own.Cancel) × (dir ≡ ino) × (f ≡ frag)

-- a step was made, and this is its line
abbrev pub MakesOne : (old new : Admin) → OwnStep → Ino → Fragment → Event → OutputLine → Type 0
MakesOne old new step dir f event line =
    (shown : OutputLine) × DoesEvent old new event shown × (line ≡ own_line_of step dir f shown)

-- the step that a rank proposed was made as its command makes it; an Import with the bytes kept for it
abbrev pub MakesStep : (old new : Admin) → Event → OutputLine → Type 0
MakesStep old new (Arrive rank request) line = ⊥
MakesStep old new (Serve rank) line = ⊥
MakesStep old new (Grant rank client tid) line = ⊥
MakesStep old new (Split rank dir f bits) line = MakesOne old new own.Split dir f (Split rank dir f bits) line
MakesStep old new (Merge rank dir f) line = MakesOne old new own.Merge dir f (Merge rank dir f) line
MakesStep old new (CommitBegin rank dir f) line = ⊥
MakesStep old new (CommitEnd encoded) line = ⊥
MakesStep old new (CommitDrop job) line = ⊥
MakesStep old new (CommitTree dir) line = ⊥
MakesStep old new Purge line = ⊥
MakesStep old new (Evict rank) line = ⊥
MakesStep old new (Start from dir f to) line = MakesOne old new own.Start dir f (Start from dir f to) line
MakesStep old new (Freeze dir f) line = MakesOne old new own.Freeze dir f (Freeze dir f) line
MakesStep old new (Prep dir f) line = MakesOne old new own.Prep dir f (Prep dir f) line
MakesStep old new (Send dir f) line =
    (shown : OutputLine) × SendsLine old new dir f shown × (line ≡ own_line_of own.Send dir f shown)
MakesStep old new (Import dir f bytes) line =
    (shown : OutputLine) × ImportsLine old new dir f shown × (line ≡ own_line_of own.Import dir f shown)
MakesStep old new (Finish dir f) line = MakesOne old new own.Finish dir f (Finish dir f) line
MakesStep old new (Cancel dir f) line = MakesOne old new own.Cancel dir f (Cancel dir f) line

-- there was no step to make; or the proposed step was made; or the proposal was refused
abbrev pub OwnLine : (old new : Admin) → Result (Option Event) Refusal → OutputLine → Type 0
OwnLine old new (Ok None) line = (new ≡ old) × (line ≡ Idle)
OwnLine old new (Ok (Some event)) line = MakesStep old new event line
OwnLine old new (Err refusal) line = (new ≡ old) × (line ≡ Refused refusal)

-- a rank's own turn: the step that it proposes is made
pub record TakesTurn (old new : Admin) (rank : Rank) (line : OutputLine) : Type 0 where
  pub found : Result (Option Event) Refusal
  pub proposed : Proposes old.book.core rank found
  pub done : OwnLine old new found line

-- memory of the script's own was refused for a step: room for the bytes of a Send, or a copy of the bytes for an
-- Import. No step was made
abbrev pub LacksForStep : (old new : Admin) → Event → Type 0
LacksForStep old new (Arrive rank request) = ⊥
LacksForStep old new (Serve rank) = ⊥
LacksForStep old new (Grant rank client tid) = ⊥
LacksForStep old new (Split rank dir f bits) = ⊥
LacksForStep old new (Merge rank dir f) = ⊥
LacksForStep old new (CommitBegin rank dir f) = ⊥
LacksForStep old new (CommitEnd encoded) = ⊥
LacksForStep old new (CommitDrop job) = ⊥
LacksForStep old new (CommitTree dir) = ⊥
LacksForStep old new Purge = ⊥
LacksForStep old new (Evict rank) = ⊥
LacksForStep old new (Start from dir f to) = ⊥
LacksForStep old new (Freeze dir f) = ⊥
LacksForStep old new (Prep dir f) = ⊥
LacksForStep old new (Send dir f) = MakesNoRoom old new
LacksForStep old new (Import dir f bytes) = CopiesNoBytes old new dir f
LacksForStep old new (Finish dir f) = ⊥
LacksForStep old new (Cancel dir f) = ⊥

pub record LacksForTurn (old new : Admin) (rank : Rank) : Type 0 where
  pub event : Event
  pub proposed : Proposes old.book.core rank (Ok (Some event))
  pub lacks : LacksForStep old new event
