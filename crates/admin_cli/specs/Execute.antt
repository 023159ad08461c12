-- What a command of the script does to a book, and the line that it prints.
use Rattle.std.specs.Prelude.{◌≡◌, ◌⊎◌, ℕ, ◌+◌, List, Result, Ok, Err}
use Rattle.mds_types.specs.declared.ids.Ino.{Ino}
use Rattle.mds_types.specs.declared.refusals.Refusal.{Refusal}
use Rattle.mds_types.specs.declared.operations.Op.{Op}
use Rattle.mds_types.specs.Frag.{Fragment}
use Rattle.cluster_core.specs.declared.events.Answer.{Answer}
use Rattle.cluster_core.specs.declared.events.Event.TheVariants.{Arrive, Serve as ServeEvent, Split as SplitEvent, Merge as MergeEvent, Grant as GrantEvent}
use Rattle.cluster_core.specs.Administers.{ListsLeaves}
use Rattle.cluster_core.specs.State.{KeptState, places_of}
use Rattle.script_text.specs.declared.commands.Command.{Command}
use Rattle.script_text.specs.declared.commands.Command.TheVariants.{Operation, Own, Request, Serve, History, Split, Merge, Leaves, Grant, Subtrees, Authority, Export, Store}
use Rattle.script_output.specs.declared.lines.OutputLine.{OutputLine}
use Rattle.script_output.specs.declared.lines.OutputLine.TheVariants.{Frags, History as HistoryLine, Refused}
use Rattle.admin_cli.specs.Admin.{Admin}
use Rattle.admin_cli.specs.StepLines.{DoesEvent, IsStep, StepsLine, arrived_line, shown_line}
use Rattle.admin_cli.specs.Authorities.{ListsSubtrees, TellsLine}
use Rattle.admin_cli.specs.ExportLines.{ExecutesExport, LacksForExport}
use Rattle.admin_cli.specs.OwnLines.{LacksForTurn, TakesTurn}
use Rattle.admin_cli.specs.StoreLines.{ExecutesStore, LacksForStore}

-- an operation alone: it arrives at rank 0 as client 0 with this transaction number, and is served there if it wasn't
-- refused
abbrev pub OperatesAfter : (middle new : KeptState) → Result Answer Refusal → OutputLine → Type 0
OperatesAfter middle new (Ok answer) line = StepsLine middle new (ServeEvent (record { 0 = 0 })) shown_line line
OperatesAfter middle new (Err refusal) line = (new ≡ middle) × (line ≡ Refused refusal)

pub record OperatesLine (old new : KeptState) (tid : ℕ) (op : Op) (line : OutputLine) : Type 0 where
  pub middle : KeptState
  pub arrived : Result Answer Refusal
  pub stepped : IsStep old middle arrived (Arrive (record {
    0 =
        0;
  }) (record { client = 0; tid = tid; oldest = tid; op = op }))
  pub rest : OperatesAfter middle new arrived line

-- the leaves of a directory were listed, or refused; the book is only read
abbrev pub ListsLine : KeptState → Ino → OutputLine → Type 0
ListsLine book dir line =
    ((leaves : List Fragment) × ListsLeaves book.core.state dir (Ok leaves) × (line ≡ Frags leaves))
    ⊎ ((refusal : Refusal) × ListsLeaves book.core.state dir (Err refusal) × (line ≡ Refused refusal))

-- a command, where the count of lines with an operation alone is kept
abbrev pub Executes : (old new : Admin) → Command → OutputLine → Type 0
Executes old new (Operation op) line =
    (new.operations ≡ old.operations + 1) × (new.jobs ≡ old.jobs) × (new.sent ≡ old.sent)
    × OperatesLine old.book new.book new.operations op line
Executes old new (Serve rank) line = DoesEvent old new (ServeEvent rank) line
Executes old new (Own rank) line = TakesTurn old new rank line
Executes old new (Request rank request) line =
    (new.operations ≡ old.operations) × (new.jobs ≡ old.jobs) × (new.sent ≡ old.sent)
    × StepsLine old.book new.book (Arrive rank request) arrived_line line
Executes old new History line = (new ≡ old) × (line ≡ HistoryLine (places_of old.book))
Executes old new (Split rank dir f nb) line = DoesEvent old new (SplitEvent rank dir f nb) line
Executes old new (Merge rank dir f) line = DoesEvent old new (MergeEvent rank dir f) line
Executes old new (Leaves dir) line = (new ≡ old) × ListsLine old.book dir line
Executes old new (Grant rank client tid) line = DoesEvent old new (GrantEvent rank client tid) line
Executes old new Subtrees line = (new ≡ old) × ListsSubtrees old.book.core.state line
Executes old new (Authority dir f) line = (new ≡ old) × TellsLine old.book.core.state dir f line
Executes old new (Export command) line = ExecutesExport old new command line
Executes old new (Store command) line = ExecutesStore old new command line

-- memory of the script's own was refused for a command: for the list of the subtree map, for a job, or for the bytes of
-- an export
abbrev pub LacksForCommand : (old new : Admin) → Command → Type 0
LacksForCommand old new (Operation op) = ⊥
LacksForCommand old new (Serve rank) = ⊥
LacksForCommand old new (Own rank) = LacksForTurn old new rank
LacksForCommand old new (Request rank request) = ⊥
LacksForCommand old new History = ⊥
LacksForCommand old new (Split rank dir f nb) = ⊥
LacksForCommand old new (Merge rank dir f) = ⊥
LacksForCommand old new (Leaves dir) = ⊥
LacksForCommand old new (Grant rank client tid) = ⊥
LacksForCommand old new Subtrees = new ≡ old
LacksForCommand old new (Authority dir f) = ⊥
LacksForCommand old new (Export command) = LacksForExport old new command
LacksForCommand old new (Store command) = LacksForStore old new command
