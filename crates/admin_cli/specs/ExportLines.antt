-- The commands on exports, and the lines that they print.
use Rattle.std.specs.Prelude.{◌≡◌, ℕ, List, Bool, true, false, cond, IsSome, Result, Ok, Err}
use Rattle.std.specs.FinMap as map
use Rattle.mds_types.specs.declared.ids.Ino.{Ino}
use Rattle.mds_types.specs.declared.refusals.Refusal.{Refusal}
use Rattle.mds_types.specs.Frag.{Fragment}
use Rattle.mds_types.specs.Leaf.{Leaf, leaf_cmp}
use Rattle.cluster_core.specs.SentBytes.{bytes_for}
use Rattle.cluster_core.specs.declared.events.Answer.{Answer}
use Rattle.cluster_core.specs.declared.events.Answer.TheVariants.{Deferred, Forwarded, Job, Nothing, Reply, Sent}
use Rattle.cluster_core.specs.declared.events.Event.TheVariants.{Start as StartEvent, Freeze as FreezeEvent, Prep as PrepEvent, Send as SendEvent, Import as ImportEvent, Finish as FinishEvent, Cancel as CancelEvent}
use Rattle.script_text.specs.declared.exports.ExportCommand.{ExportCommand}
use Rattle.script_text.specs.declared.exports.ExportCommand.TheVariants.{Dir, Freeze, Prep, Send, Import, Finish, Cancel}
use Rattle.script_output.specs.declared.lines.OutputLine.{OutputLine}
use Rattle.admin_cli.specs.Admin.{Admin}
use Rattle.admin_cli.specs.StepLines.{DoesEvent, IsStep, shown_line}

-- the bytes that a Send gave are kept under the root, and replace those kept there before
abbrev pub with_sent : map.FinMap leaf_cmp (List ℕ) → Leaf → Result Answer Refusal → map.FinMap leaf_cmp (List ℕ)
with_sent sent root (Ok (Sent bytes)) = map.insert sent root bytes
with_sent sent root (Ok Nothing) = sent
with_sent sent root (Ok (Job job)) = sent
with_sent sent root (Ok (Reply client tid place first reply)) = sent
with_sent sent root (Ok (Forwarded rank)) = sent
with_sent sent root (Ok Deferred) = sent
with_sent sent root (Err refusal) = sent

-- a step was made, and not refused
abbrev pub is_done : Result Answer Refusal → Bool
is_done (Ok answer) = true
is_done (Err refusal) = false

-- an export was sent and its bytes are kept, or the Send was refused
pub record SendsLine (old new : Admin) (dir : Ino) (f : Fragment) (line : OutputLine) : Type 0 where
  pub result : Result Answer Refusal
  pub stepped : IsStep old.book new.book result (SendEvent dir f)
  pub sent : new.sent.bytes ≡ with_sent old.sent.bytes (dir, f) result
  pub jobs : new.jobs ≡ old.jobs
  pub count : new.operations ≡ old.operations
  pub shown : line ≡ shown_line result

-- the importer of an export was given the bytes kept under its root, or none; after the import they are no longer kept
pub record ImportsLine (old new : Admin) (dir : Ino) (f : Fragment) (line : OutputLine) : Type 0 where
  pub result : Result Answer Refusal
  pub stepped : IsStep old.book new.book result (ImportEvent dir f (bytes_for old.sent (dir, f)))
  pub sent : new.sent.bytes ≡ cond (is_done result) (map.remove old.sent.bytes (dir, f)) old.sent.bytes
  pub jobs : new.jobs ≡ old.jobs
  pub count : new.operations ≡ old.operations
  pub shown : line ≡ shown_line result

-- there was no room for the bytes of an export, and nothing changed
abbrev pub MakesNoRoom : (old new : Admin) → Type 0
MakesNoRoom old new = new ≡ old

-- there was no memory to copy the bytes kept under a root, and nothing changed
abbrev pub CopiesNoBytes : (old new : Admin) → Ino → Fragment → Type 0
CopiesNoBytes old new dir f = (new ≡ old) × IsSome (map.get old.sent.bytes (dir, f))

-- memory of the script's own was refused for a command on an export, to keep bytes or to copy them; no step was made
abbrev pub LacksForExport : (old new : Admin) → ExportCommand → Type 0
LacksForExport old new (Dir from dir f to) = ⊥
LacksForExport old new (Freeze dir f) = ⊥
LacksForExport old new (Prep dir f) = ⊥
LacksForExport old new (Send dir f) = MakesNoRoom old new
LacksForExport old new (Import dir f) = CopiesNoBytes old new dir f
LacksForExport old new (Finish dir f) = ⊥
LacksForExport old new (Cancel dir f) = ⊥

abbrev pub ExecutesExport : (old new : Admin) → ExportCommand → OutputLine → Type 0
ExecutesExport old new (Dir from dir f to) line = DoesEvent old new (StartEvent from dir f to) line
ExecutesExport old new (Freeze dir f) line = DoesEvent old new (FreezeEvent dir f) line
ExecutesExport old new (Prep dir f) line = DoesEvent old new (PrepEvent dir f) line
ExecutesExport old new (Send dir f) line = SendsLine old new dir f line
ExecutesExport old new (Import dir f) line = ImportsLine old new dir f line
ExecutesExport old new (Finish dir f) line = DoesEvent old new (FinishEvent dir f) line
ExecutesExport old new (Cancel dir f) line = DoesEvent old new (CancelEvent dir f) line
