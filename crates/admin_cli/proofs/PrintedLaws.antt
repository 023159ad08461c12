-- What a script prints is what one thread tells.
use Rattle.admin_cli.proofs.Common.{Admin, Answer, Appends, Command, EndsScript, Err, Event, Executes, FaultKind, Fragment, IfOk, IfSome, Ino, IsFormatted, IsLegalFrom, Keeps, List, MakesStep, None, Ok, Opening, Option, OutputLine, Rank, Refusal, Result, RunsInput, RunsLines, RunsOrNot, Some, StopsBefore, [], ap, append-nil, append_assoc, arith, begun, fresh, inl, inr, length, refl, shown_line, subst, sym, line_text, ℕ, ◌++◌, ◌+◌, ◌∙◌, ◌∷◌, ◌≡◌}
use Rattle.std.specs.Prelude.{◌⊎◌, filter, flat_map, map, replicate, suc, take, zero}
use Rattle.std.specs.List.{AllByRecursion}
use Rattle.std.specs.FinMap as finite
use Rattle.std.specs.FinMap.{get-empty}
use Rattle.std.specs.Ordering.{nat_cmp}
use Rattle.std.proofs.lemmas.List.{map-append}
use Rattle.std.proofs.lemmas.List.Concat.{flat_map-append}
use Rattle.std.proofs.lemmas.List.Elements.{filter-append}
use Rattle.mds_types.specs.declared.entries.Entry.{Entry}
use Rattle.mds_types.specs.declared.operations.Op.{Op}
use Rattle.mds_types.specs.declared.requests.Request.{Request}
use Rattle.std.specs.Prelude.{Contains}
use Rattle.cluster_core.specs.Flush.{Flushes, KeepsBook}
use Rattle.cluster_core.specs.KeptSessions.{with_stored}
use Rattle.cluster_core.specs.OneThread.{IsAskedFor, IsSent, arrival, receipt_of, waiting_in}
use Rattle.cluster_core.specs.Sound.{IsSoundKept, StandsBehind}
use Rattle.cluster_core.specs.State.{KeptState, State, whole_of}
use Rattle.cluster_core.specs.declared.events.Answer.TheVariants as answer
use Rattle.cluster_core.specs.declared.events.Event.TheVariants as event
use Rattle.cluster_core.specs.declared.receipts.Receipt.{Receipt}
use Rattle.cluster_core.proofs.ListLaws.{all_append, all_back, all_front, all_weaker, each_left, each_right}
use Rattle.cluster_core.proofs.NoReplyLaws.{TellsNone}
use Rattle.cluster_core.proofs.OneThreadLaws.{as_one}
use Rattle.cluster_core.proofs.StayLaws.{stored_behind}
use Rattle.admin_cli.proofs.ServedKept.{Served, in_places, in_whole, served_forgot, served_none, served_on, served_one, served_same, step_tells_none}
use Rattle.cluster_core.proofs.SentLaws.{AreAmong, nested}
use Rattle.sessions.specs.Table.{Row, mark_in, row_or_none}
use Rattle.script_text.specs.Script.{line_of}
use Rattle.script_text.specs.Input.{lines_of}
use Rattle.script_text.specs.declared.commands.Command.TheVariants as command
use Rattle.script_text.specs.declared.exports.ExportCommand.{ExportCommand}
use Rattle.script_text.specs.declared.exports.ExportCommand.TheVariants as export
use Rattle.script_text.specs.declared.lines.Line.{Line}
use Rattle.script_text.specs.declared.lines.Line.TheVariants as line
use Rattle.script_text.specs.declared.store_commands.StoreCommand.{StoreCommand}
use Rattle.script_text.specs.declared.store_commands.StoreCommand.TheVariants as store
use Rattle.script_output.specs.Lines.{output_line}
use Rattle.script_output.specs.declared.lines.OutputLine.TheVariants as out
use Rattle.script_output.specs.declared.object_lines.ObjectLine.TheVariants as object
use Rattle.admin_cli.proofs.Progress.{runs-append}
use Rattle.admin_cli.specs.Execute.{LacksForCommand, OperatesAfter, OperatesLine}
use Rattle.admin_cli.specs.ExportLines.{ExecutesExport, LacksForExport}
use Rattle.admin_cli.specs.Left.{LeavesAdmin, LeavesOneThread, PrintsReplies}
use Rattle.admin_cli.specs.OwnLines.{LacksForStep, OwnLine}
use Rattle.admin_cli.specs.Printed.{PrintsOneThread, counted_with, ended_line, is_reply, receipt_line, request_of, requests_of}
use Rattle.admin_cli.specs.Scripts.{Doing, DoesLine, LacksLine, LacksMemory, OfFirst, RunsLine}
use Rattle.admin_cli.specs.Forgetting.{ThenForgets}
use Rattle.admin_cli.specs.Modes.{AsksLine, AsksOperation, AsksRequest, CarriesOut, DoesUnder, DoesStoreUnder, AsksNow, SavesLine, SaysSaved, asked_line}
use Rattle.admin_cli.specs.declared.modes.Mode.{Mode}
use Rattle.asking.specs.Ask.{NoneWaits}
use Rattle.asking.specs.Reached.{receipt_in as told_in}
use Rattle.std.specs.Prelude.{Bool, MatchBool, false, true}
use Rattle.admin_cli.specs.StepLines.{DoesEvent, IsStep, arrived_line}
use Rattle.admin_cli.specs.StoreLines.{BeginsAlone, BeginsJob, CommitsAfter, CommitsLine, EndsKept, ExecutesStore, IsFlush, LacksForStore, LosesJob, begun_line, flushed_line}
use Rattle.admin_cli.specs.declared.faults.ScriptFault.{ScriptFault}
use Rattle.admin_cli.specs.declared.faults.FaultKind.TheVariants as fault
use Rattle.cached_frag.specs.declared.jobs.Job.{Job as Begun}
use Rattle.keeping.specs.declared.unkept.Unkept.TheVariants as no

-- ---- requests

-- where nothing waits all that waits is among any requests
idle_among : (sent : List Request) (inboxes : List (List Request)) → NoneWaits inboxes → AreAmong sent inboxes
idle_among sent [] none = tt
idle_among sent (waiting ∷ others) none =
    (subst (λ (ws : List Request). AllByRecursion (Contains sent) ws) (sym (none (record { 0 = 0 }))) tt, idle_among sent others (λ rank. none (record { 0 = suc rank.0 })))

-- one of one request is it
of_one : (sent : List Request) (request one : Request) → Contains sent request → Contains (request ∷ []) one → Contains sent one
of_one sent request one has (zero, below, is) = subst (Contains sent) is has
of_one sent request one has (suc n, below, is) = absurd (omega (arith, below))

-- ---- lines

-- the receipt of a line, if it is a reply's
abbrev receipt_in : OutputLine → List Receipt
receipt_in (out.Reply client tid place first reply) = record { client = client; tid = tid; place = place; first = first; reply = reply } ∷ []
receipt_in other = []

-- a line begins with `reply ` exactly where it is one
line_replies : (line : OutputLine) → filter is_reply (output_line line ∷ []) ≡ map receipt_line (receipt_in line)
unfolding output_line
line_replies (out.Reply client tid place first reply) = refl
line_replies (out.Forwarded rank) = refl
line_replies out.Deferred = refl
line_replies out.Queued = refl
line_replies out.Nothing = refl
line_replies out.Flushed = refl
line_replies (out.Unsaved no.NoMemory) = refl
line_replies (out.Unsaved no.Full) = refl
line_replies (out.Unsaved no.Io) = refl
line_replies (out.Unsaved no.Corrupt) = refl
line_replies (out.Unsaved no.Shut) = refl
line_replies (out.Frags leaves) = refl
line_replies (out.Subtrees roots) = refl
line_replies (out.Authority rank) = refl
line_replies (out.Job number) = refl
line_replies (out.Sent length) = refl
line_replies (out.Object (object.Frag version files dirs keys)) = refl
line_replies (out.Object (object.Tree leaves)) = refl
line_replies (out.Object object.Absent) = refl
line_replies (out.Object object.Damaged) = refl
line_replies (out.Objects names) = refl
line_replies out.Idle = refl
line_replies (out.Own turn) = refl
line_replies (out.History length) = refl
line_replies (out.Refused refusal) = refl
line_replies (out.Errno errno) = refl

-- the line that shows a step has its receipt
shown_receipt : (result : Result Answer Refusal) → receipt_in (shown_line result) ≡ receipt_of result
shown_receipt (Ok answer.Nothing) = refl
shown_receipt (Ok (answer.Job job)) = refl
shown_receipt (Ok (answer.Sent bytes)) = refl
shown_receipt (Ok (answer.Reply client tid place first reply)) = refl
shown_receipt (Ok (answer.Forwarded rank)) = refl
shown_receipt (Ok answer.Deferred) = refl
shown_receipt (Err refusal) = refl

-- ---- one line of a script

module _ (sent : List Request) where
  -- what a line did, by what it printed
  pub record DidLine (old new : Admin) (printed : OutputLine) : Type 0 where
    sound : IsSoundKept new.book
    served : Served old.book new.book sent (receipt_in printed)

  abbrev pub IsReady : Admin → Type 0
  IsReady admin = IsSoundKept admin.book × AreAmong sent admin.book.core.state.inboxes

  as_told : (old new : Admin) (printed : OutputLine) (told : List Receipt) → receipt_in printed ≡ told → IsSoundKept new.book → Served old.book new.book sent told → DidLine old new printed
  as_told old new printed told is sound served = record { sound = sound; served = subst (λ (rs : List Receipt). Served old.book new.book sent rs) (sym is) served }

  -- a line that only reads
  only_read : (old new : Admin) (printed : OutputLine) → IsReady old → new ≡ old → receipt_in printed ≡ [] → DidLine old new printed
  only_read old new printed ready same none =
      let books : new.book ≡ old.book = ap (λ (a : Admin). a.book) same in
      as_told old new printed [] none (subst IsSoundKept (sym books) ready.0) (served_same sent old.book new.book books ready.1)

  one_step : (old new : KeptState) (result : Result Answer Refusal) (event : Event) → IsSoundKept old → AreAmong sent old.core.state.inboxes → AllByRecursion (Contains sent) (arrival event) → IsStep old new result event → Served old new sent (receipt_of result)
  one_step old new result event known among has step = served_one sent old new result event known step among has

  -- a step whose line shows it
  shows_step : (old new : Admin) (result : Result Answer Refusal) (event : Event) (printed : OutputLine) → IsReady old → AllByRecursion (Contains sent) (arrival event) → IsStep old.book new.book result event → printed ≡ shown_line result → DidLine old new printed
  shows_step old new result event printed ready has step is =
      as_told old new printed (receipt_of result) (ap receipt_in is ∙ shown_receipt result) step.sound (one_step old.book new.book result event ready.0 ready.1 has step)

  does_event : (old new : Admin) (event : Event) (printed : OutputLine) → IsReady old → AllByRecursion (Contains sent) (arrival event) → DoesEvent old new event printed → DidLine old new printed
  does_event old new event printed ready has (_, _, _, steps) = shows_step old new steps.result event printed ready has steps.stepped steps.shown

  -- a step of which no reply is told, whatever its line is
  silent_step : (old new : Admin) (result : Result Answer Refusal) (event : Event) (printed : OutputLine) → IsReady old → AllByRecursion (Contains sent) (arrival event) → IsStep old.book new.book result event → receipt_of result ≡ [] → receipt_in printed ≡ [] → DidLine old new printed
  silent_step old new result event printed ready has step none is =
      as_told old new printed (receipt_of result) (is ∙ sym none) step.sound (one_step old.book new.book result event ready.0 ready.1 has step)

  is_silent : (old new : KeptState) (result : Result Answer Refusal) (event : Event) → IsSoundKept old → IsStep old new result event → TellsNone event result
  is_silent old new result event known step = step_tells_none old new result event known step

  -- an operation alone
  operated_after : (old middle new : Admin) (arrived : Result Answer Refusal) (printed : OutputLine) → IsReady middle → OperatesAfter middle.book new.book arrived printed → DidLine middle new printed
  operated_after old middle new (Ok answer) printed ready h = shows_step middle new h.result (event.Serve (record { 0 = 0 })) printed ready tt h.stepped h.shown
  operated_after old middle new (Err refusal) printed ready (same, is) =
      as_told middle new printed [] (ap receipt_in is) (subst IsSoundKept (sym same) ready.0) (served_same sent middle.book new.book same ready.1)

  operates : (old new : Admin) (tid : ℕ) (op : Op) (printed : OutputLine) → IsReady old → Contains sent (record { client = 0; tid = tid; oldest = tid; op = op }) → OperatesLine old.book new.book tid op printed → DidLine old new printed
  operates old new tid op printed ready has h =
      let asked : Request = record { client = 0; tid = tid; oldest = tid; op = op } in
      let arrives : Event = event.Arrive (record { 0 = 0 }) asked in
      let none : receipt_of h.arrived ≡ [] = is_silent old.book h.middle h.arrived arrives ready.0 h.stepped in
      let first : Served old.book h.middle sent [] = subst (λ (rs : List Receipt). Served old.book h.middle sent rs) none (one_step old.book h.middle h.arrived arrives ready.0 ready.1 (has, tt) h.stepped) in
      let middle : Admin = record old { book = h.middle } in
      let then = operated_after old middle new h.arrived printed (h.stepped.sound, first.waits) h.rest in
      record { sound = then.sound; served = served_on sent old.book h.middle new.book [] (receipt_in printed) first then.served }

  -- a request
  queued : (result : Result Answer Refusal) → receipt_in (arrived_line result) ≡ []
  queued (Ok answer) = refl
  queued (Err refusal) = refl

  -- a step whose line is no reply's, and of which none is told
  silent_line : (old new : Admin) (result : Result Answer Refusal) (event : Event) (printed : OutputLine) → IsReady old → AllByRecursion (Contains sent) (arrival event) → ((r : Result Answer Refusal) → TellsNone event r → receipt_of r ≡ [])
      → IsStep old.book new.book result event → receipt_in printed ≡ [] → DidLine old new printed
  silent_line old new result event printed ready has none step is = silent_step old new result event printed ready has step (none result (is_silent old.book new.book result event ready.0 step)) is

  -- a rank's own turn
  makes_one : (old new : Admin) (event : Event) (printed : OutputLine) → IsReady old → AllByRecursion (Contains sent) (arrival event) → ((r : Result Answer Refusal) → TellsNone event r → receipt_of r ≡ [])
      → (shown : OutputLine) → DoesEvent old new event shown → receipt_in printed ≡ [] → DidLine old new printed
  makes_one old new event printed ready has none shown (_, _, _, steps) is = silent_line old new steps.result event printed ready has none steps.stepped is

  makes_step : (old new : Admin) (event : Event) (printed : OutputLine) → IsReady old → MakesStep old new event printed → DidLine old new printed
  makes_step old new (event.Arrive rank request) printed ready h = absurd h
  makes_step old new (event.Serve rank) printed ready h = absurd h
  makes_step old new (event.Grant rank client tid) printed ready h = absurd h
  makes_step old new (event.Split rank dir f bits) printed ready (shown, does, is) = makes_one old new (event.Split rank dir f bits) printed ready tt (λ r none. none) shown does (ap receipt_in is)
  makes_step old new (event.Merge rank dir f) printed ready (shown, does, is) = makes_one old new (event.Merge rank dir f) printed ready tt (λ r none. none) shown does (ap receipt_in is)
  makes_step old new (event.CommitBegin rank dir f) printed ready h = absurd h
  makes_step old new (event.CommitEnd encoded) printed ready h = absurd h
  makes_step old new (event.CommitDrop job) printed ready h = absurd h
  makes_step old new (event.CommitTree dir) printed ready h = absurd h
  makes_step old new event.Purge printed ready h = absurd h
  makes_step old new (event.Evict rank) printed ready h = absurd h
  makes_step old new (event.Start from dir f to) printed ready (shown, does, is) = makes_one old new (event.Start from dir f to) printed ready tt (λ r none. none) shown does (ap receipt_in is)
  makes_step old new (event.Freeze dir f) printed ready (shown, does, is) = makes_one old new (event.Freeze dir f) printed ready tt (λ r none. none) shown does (ap receipt_in is)
  makes_step old new (event.Prep dir f) printed ready (shown, does, is) = makes_one old new (event.Prep dir f) printed ready tt (λ r none. none) shown does (ap receipt_in is)
  makes_step old new (event.Send dir f) printed ready (shown, does, is) = silent_line old new does.result (event.Send dir f) printed ready tt (λ r none. none) does.stepped (ap receipt_in is)
  makes_step old new (event.Import dir f bytes) printed ready (shown, does, is) = silent_line old new does.result _ printed ready tt (λ r none. none) does.stepped (ap receipt_in is)
  makes_step old new (event.Finish dir f) printed ready (shown, does, is) = makes_one old new (event.Finish dir f) printed ready tt (λ r none. none) shown does (ap receipt_in is)
  makes_step old new (event.Cancel dir f) printed ready (shown, does, is) = makes_one old new (event.Cancel dir f) printed ready tt (λ r none. none) shown does (ap receipt_in is)

  own_line : (old new : Admin) (found : Result (Option Event) Refusal) (printed : OutputLine) → IsReady old → OwnLine old new found printed → DidLine old new printed
  own_line old new (Ok None) printed ready (same, is) = only_read old new printed ready same (ap receipt_in is)
  own_line old new (Ok (Some event)) printed ready h = makes_step old new event printed ready h
  own_line old new (Err refusal) printed ready (same, is) = only_read old new printed ready same (ap receipt_in is)

  -- an export's command
  executes_export : (old new : Admin) (command : ExportCommand) (printed : OutputLine) → IsReady old → ExecutesExport old new command printed → DidLine old new printed
  executes_export old new (export.Dir from dir f to) printed ready h = does_event old new (event.Start from dir f to) printed ready tt h
  executes_export old new (export.Freeze dir f) printed ready h = does_event old new (event.Freeze dir f) printed ready tt h
  executes_export old new (export.Prep dir f) printed ready h = does_event old new (event.Prep dir f) printed ready tt h
  executes_export old new (export.Send dir f) printed ready h = shows_step old new h.result (event.Send dir f) printed ready tt h.stepped h.shown
  executes_export old new (export.Import dir f) printed ready h = shows_step old new h.result _ printed ready tt h.stepped h.shown
  executes_export old new (export.Finish dir f) printed ready h = does_event old new (event.Finish dir f) printed ready tt h
  executes_export old new (export.Cancel dir f) printed ready h = does_event old new (event.Cancel dir f) printed ready tt h

  -- a command on the store
  begun_silent : (number : Result (Option ℕ) Refusal) → receipt_in (begun_line number) ≡ []
  begun_silent (Ok (Some number)) = refl
  begun_silent (Ok None) = refl
  begun_silent (Err refusal) = refl

  begins_job : (old new : Admin) (rank : Rank) (dir : Ino) (f : Fragment) (number : Result (Option ℕ) Refusal) (printed : OutputLine) → IsReady old → BeginsJob old new rank dir f number → receipt_in printed ≡ [] → DidLine old new printed
  begins_job old new rank dir f number printed ready h is = silent_line old new h.result (event.CommitBegin rank dir f) printed ready tt (λ r none. none) h.stepped is

  ends_kept : (old new : Admin) (number : ℕ) (job : Option Begun) (printed : OutputLine) → IsReady old → EndsKept old new number job printed → DidLine old new printed
  ends_kept old new number None printed ready (same, is) = only_read old new printed ready same (ap receipt_in is)
  ends_kept old new number (Some job) printed ready (inl (same, is)) = only_read old new printed ready same (ap receipt_in is)
  ends_kept old new number (Some job) printed ready (inr h) = shows_step old new h.result _ printed ready tt h.stepped h.shown

  commits_after : (middle new : Admin) (number : Result (Option ℕ) Refusal) (printed : OutputLine) → IsReady middle → CommitsAfter middle new number printed → DidLine middle new printed
  commits_after middle new (Ok (Some number)) printed ready h = ends_kept middle new number (finite.get middle.jobs number) printed ready h
  commits_after middle new (Ok None) printed ready (same, is) = only_read middle new printed ready same (ap receipt_in is)
  commits_after middle new (Err refusal) printed ready (same, is) = only_read middle new printed ready same (ap receipt_in is)

  commits : (old new : Admin) (rank : Rank) (dir : Ino) (f : Fragment) (printed : OutputLine) → IsReady old → CommitsLine old new rank dir f printed → DidLine old new printed
  commits old new rank dir f printed ready h =
      let first = begins_job old h.middle rank dir f h.number (begun_line h.number) ready h.begun (begun_silent h.number) in
      let none : Served old.book h.middle.book sent [] = subst (λ (rs : List Receipt). Served old.book h.middle.book sent rs) (begun_silent h.number) first.served in
      let then = commits_after h.middle new h.number printed (first.sound, none.waits) h.rest in
      record { sound = then.sound; served = served_on sent old.book h.middle.book new.book [] (receipt_in printed) none then.served }

  flushed_none : (old new : KeptState) → ((opening : Opening) (past : List Entry) → StandsBehind opening past old → StandsBehind opening past new) → AreAmong sent old.core.state.inboxes → KeepsBook old new → Served old new sent []
  flushed_none old new on among kept =
      served_none sent old new on (ap (λ (s : State). s.tree.limit) kept.core.left) (ap (λ (s : State). s.inboxes) kept.core.left) kept.history among

  flushed : (old new : KeptState) (result : Result (Unit {0}) Refusal) → AreAmong sent old.core.state.inboxes → IsFlush old new result → Served old new sent []
  flushed old new result among h = go h.outcome
    where
      go : Flushes old new result → Served old new sent []
      go (inl hindered) = served_same sent old new hindered.left among
      go (inr tried) = flushed_none old new h.goes_on among tried.kept

  flush_silent : (result : Result (Unit {0}) Refusal) → receipt_in (flushed_line result) ≡ []
  flush_silent (Ok done) = refl
  flush_silent (Err refusal) = refl

  executes_store : (old new : Admin) (command : StoreCommand) (printed : OutputLine) → IsReady old → ExecutesStore old new command printed → DidLine old new printed
  executes_store old new (store.CommitBegin rank dir f) printed ready (number, h, is) = begins_job old new rank dir f number printed ready h (ap receipt_in is ∙ begun_silent number)
  executes_store old new (store.CommitEnd number) printed ready h = ends_kept old new number (finite.get old.jobs number) printed ready h
  executes_store old new (store.CommitDrop number) printed ready h = shows_step old new h.result (event.CommitDrop number) printed ready tt h.stepped h.shown
  executes_store old new (store.Commit rank dir f) printed ready h = commits old new rank dir f printed ready h
  executes_store old new (store.CommitTree dir) printed ready h = does_event old new (event.CommitTree dir) printed ready tt h
  executes_store old new store.Purge printed ready h = does_event old new event.Purge printed ready tt h
  executes_store old new store.Flush printed ready h =
      as_told old new printed [] (ap receipt_in h.shown ∙ flush_silent h.result) h.flushed.sound (flushed old.book new.book h.result ready.1 h.flushed)
  executes_store old new (store.Evict rank) printed ready h = does_event old new (event.Evict rank) printed ready tt h
  executes_store old new (store.Object name) printed ready (same, inl (shown, line, is)) = only_read old new printed ready same (ap receipt_in is)
  executes_store old new (store.Object name) printed ready (same, inr (is, takes)) = only_read old new printed ready same (ap receipt_in is)
  executes_store old new store.Objects printed ready (same, inl is) = only_read old new printed ready same (ap receipt_in is)
  executes_store old new store.Objects printed ready (same, inr is) = only_read old new printed ready same (ap receipt_in is)

  -- a command
  executes : (old new : Admin) (command : Command) (printed : OutputLine) → IsReady old → AllByRecursion (Contains sent) (request_of old.operations (line.Command command)) → Executes old new command printed → DidLine old new printed
  executes old new (command.Operation op) printed ready has (count, jobs, bytes, h) =
      operates old new (old.operations + 1) op printed ready has.0 (subst (λ (n : ℕ). OperatesLine old.book new.book n op printed) count h)
  executes old new (command.Serve rank) printed ready has h = does_event old new (event.Serve rank) printed ready tt h
  executes old new (command.Own rank) printed ready has h = own_line old new h.found printed ready h.done
  executes old new (command.Request rank request) printed ready has (count, jobs, bytes, h) =
      silent_line old new h.result (event.Arrive rank request) printed ready has (λ r none. none) h.stepped (ap receipt_in h.shown ∙ queued h.result)
  executes old new command.History printed ready has (same, is) = only_read old new printed ready same (ap receipt_in is)
  executes old new (command.Split rank dir f nb) printed ready has h = does_event old new (event.Split rank dir f nb) printed ready tt h
  executes old new (command.Merge rank dir f) printed ready has h = does_event old new (event.Merge rank dir f) printed ready tt h
  executes old new (command.Leaves dir) printed ready has (same, inl (leaves, listed, is)) = only_read old new printed ready same (ap receipt_in is)
  executes old new (command.Leaves dir) printed ready has (same, inr (refusal, listed, is)) = only_read old new printed ready same (ap receipt_in is)
  executes old new (command.Grant rank client tid) printed ready has h = does_event old new (event.Grant rank client tid) printed ready tt h
  executes old new command.Subtrees printed ready has (same, is) = only_read old new printed ready same (ap receipt_in is)
  executes old new (command.Authority dir f) printed ready has (same, inl (rank, told, is)) = only_read old new printed ready same (ap receipt_in is)
  executes old new (command.Authority dir f) printed ready has (same, inr (refusal, told, is)) = only_read old new printed ready same (ap receipt_in is)
  executes old new (command.Export command) printed ready has h = executes_export old new command printed ready h
  executes old new (command.Store command) printed ready has h = executes_store old new command printed ready h

  -- what lines did, and what they printed
  record Did (old new : Admin) (text : List ℕ) : Type 0 where
    sound : IsSoundKept new.book
    told : List Receipt
    printed : List (List ℕ)
    whole : text ≡ flat_map ended_line printed
    replies : filter is_reply printed ≡ map receipt_line told
    served : Served old.book new.book sent told

  did_none : (old new : Admin) (text : List ℕ) → IsReady old → new ≡ old → text ≡ [] → Did old new text
  did_none old new text ready same none =
      let books : new.book ≡ old.book = ap (λ (a : Admin). a.book) same in
      record { sound = subst IsSoundKept (sym books) ready.0; told = []; printed = []; whole = none; replies = refl; served = served_same sent old.book new.book books ready.1 }

  did_one : (old new : Admin) (text : List ℕ) (shown : OutputLine) → text ≡ line_text shown → DidLine old new shown → Did old new text
  did_one old new text shown is did = record {
    sound = did.sound;
    told = receipt_in shown;
    printed = output_line shown ∷ [];
    whole = is ∙ sym (append-nil (line_text shown));
    replies = line_replies shown;
    served = did.served;
  }

-- ---- how many operations alone were read

no_more : (old new : Admin) → new ≡ old → new.operations ≡ old.operations
no_more old new same = ap (λ (a : Admin). a.operations) same

event_count : (old new : Admin) (event : Event) (printed : OutputLine) → DoesEvent old new event printed → new.operations ≡ old.operations
event_count old new event printed (count, jobs, bytes, steps) = count

kept_count : (old new : Admin) (number : ℕ) (job : Option Begun) (printed : OutputLine) → EndsKept old new number job printed → new.operations ≡ old.operations
kept_count old new number None printed (same, is) = no_more old new same
kept_count old new number (Some job) printed (inl (same, is)) = no_more old new same
kept_count old new number (Some job) printed (inr h) = h.count

after_count : (middle new : Admin) (number : Result (Option ℕ) Refusal) (printed : OutputLine) → CommitsAfter middle new number printed → new.operations ≡ middle.operations
after_count middle new (Ok (Some number)) printed h = kept_count middle new number (finite.get middle.jobs number) printed h
after_count middle new (Ok None) printed (same, is) = no_more middle new same
after_count middle new (Err refusal) printed (same, is) = no_more middle new same

store_count : (old new : Admin) (command : StoreCommand) (printed : OutputLine) → ExecutesStore old new command printed → new.operations ≡ old.operations
store_count old new (store.CommitBegin rank dir f) printed (number, h, is) = h.count
store_count old new (store.CommitEnd number) printed h = kept_count old new number (finite.get old.jobs number) printed h
store_count old new (store.CommitDrop number) printed h = h.count
store_count old new (store.Commit rank dir f) printed h = after_count h.middle new h.number printed h.rest ∙ h.begun.count
store_count old new (store.CommitTree dir) printed h = event_count old new (event.CommitTree dir) printed h
store_count old new store.Purge printed h = event_count old new event.Purge printed h
store_count old new store.Flush printed h = h.count
store_count old new (store.Evict rank) printed h = event_count old new (event.Evict rank) printed h
store_count old new (store.Object name) printed (same, looks) = no_more old new same
store_count old new store.Objects printed (same, lists) = no_more old new same

export_count : (old new : Admin) (command : ExportCommand) (printed : OutputLine) → ExecutesExport old new command printed → new.operations ≡ old.operations
export_count old new (export.Dir from dir f to) printed h = event_count old new (event.Start from dir f to) printed h
export_count old new (export.Freeze dir f) printed h = event_count old new (event.Freeze dir f) printed h
export_count old new (export.Prep dir f) printed h = event_count old new (event.Prep dir f) printed h
export_count old new (export.Send dir f) printed h = h.count
export_count old new (export.Import dir f) printed h = h.count
export_count old new (export.Finish dir f) printed h = event_count old new (event.Finish dir f) printed h
export_count old new (export.Cancel dir f) printed h = event_count old new (event.Cancel dir f) printed h

step_count : (old new : Admin) (event : Event) (printed : OutputLine) → MakesStep old new event printed → new.operations ≡ old.operations
step_count old new (event.Arrive rank request) printed h = absurd h
step_count old new (event.Serve rank) printed h = absurd h
step_count old new (event.Grant rank client tid) printed h = absurd h
step_count old new (event.Split rank dir f bits) printed (shown, does, is) = does.0
step_count old new (event.Merge rank dir f) printed (shown, does, is) = does.0
step_count old new (event.CommitBegin rank dir f) printed h = absurd h
step_count old new (event.CommitEnd encoded) printed h = absurd h
step_count old new (event.CommitDrop job) printed h = absurd h
step_count old new (event.CommitTree dir) printed h = absurd h
step_count old new event.Purge printed h = absurd h
step_count old new (event.Evict rank) printed h = absurd h
step_count old new (event.Start from dir f to) printed (shown, does, is) = does.0
step_count old new (event.Freeze dir f) printed (shown, does, is) = does.0
step_count old new (event.Prep dir f) printed (shown, does, is) = does.0
step_count old new (event.Send dir f) printed (shown, does, is) = does.count
step_count old new (event.Import dir f bytes) printed (shown, does, is) = does.count
step_count old new (event.Finish dir f) printed (shown, does, is) = does.0
step_count old new (event.Cancel dir f) printed (shown, does, is) = does.0

own_count : (old new : Admin) (found : Result (Option Event) Refusal) (printed : OutputLine) → OwnLine old new found printed → new.operations ≡ old.operations
own_count old new (Ok None) printed (same, is) = no_more old new same
own_count old new (Ok (Some event)) printed h = step_count old new event printed h
own_count old new (Err refusal) printed (same, is) = no_more old new same

command_count : (old new : Admin) (command : Command) (printed : OutputLine) → Executes old new command printed → new.operations ≡ counted_with old.operations (line.Command command)
command_count old new (command.Operation op) printed (count, jobs, bytes, h) = count
command_count old new (command.Serve rank) printed h = event_count old new (event.Serve rank) printed h
command_count old new (command.Own rank) printed h = own_count old new h.found printed h.done
command_count old new (command.Request rank request) printed (count, jobs, bytes, h) = count
command_count old new command.History printed (same, is) = no_more old new same
command_count old new (command.Split rank dir f nb) printed h = event_count old new (event.Split rank dir f nb) printed h
command_count old new (command.Merge rank dir f) printed h = event_count old new (event.Merge rank dir f) printed h
command_count old new (command.Leaves dir) printed (same, lists) = no_more old new same
command_count old new (command.Grant rank client tid) printed h = event_count old new (event.Grant rank client tid) printed h
command_count old new command.Subtrees printed (same, is) = no_more old new same
command_count old new (command.Authority dir f) printed (same, tells) = no_more old new same
command_count old new (command.Export command) printed h = export_count old new command printed h
command_count old new (command.Store command) printed h = store_count old new command printed h

-- ---- commands

-- what commands do is what one thread tells, and each operation alone counts
pub record AreAsOne (Does : Doing) : Type 1 where
  pub serves : (sent : List Request) (old new : Admin) (c : Command) (printed : OutputLine) → IsReady sent old → AllByRecursion (Contains sent) (request_of old.operations (line.Command c)) → Does old new c printed → DidLine sent old new printed
  pub counts : (old new : Admin) (c : Command) (printed : OutputLine) → Does old new c printed → new.operations ≡ counted_with old.operations (line.Command c)

pub executes_as_one : AreAsOne Executes
executes_as_one = record { serves = executes; counts = command_count }

-- a request that is brought to its answer
module _ (sent : List Request) where
  asked_receipt : (result : Result Receipt Refusal) → receipt_in (asked_line result) ≡ told_in result
  asked_receipt (Ok receipt) = refl
  asked_receipt (Err refusal) = refl

  asks : (old new : Admin) (rank : Rank) (request : Request) (printed : OutputLine) → IsReady sent old → Contains sent request → AsksLine old.book new.book rank request printed → DidLine sent old new printed
  asks old new rank request printed ready has h = go h.asked
    where
      go : AsksNow old.book new.book rank request h.result → DidLine sent old new printed
      go (inl once) =
          as_told sent old new printed (told_in h.result) (ap receipt_in h.shown ∙ asked_receipt h.result) once.sound (record {
            waits = idle_among sent new.book.core.state.inboxes once.idle;
            from = λ opening past given.
                let one = once.one opening past given in
                let on = once.goes_on opening past given in
                record {
                  forgotten = past;
                  behind = on;
                  served = record {
                    opening = refl;
                    limit = once.same_limit;
                    waits = idle_among sent new.book.core.state.inboxes once.idle;
                    more = one.more;
                    grows = one.grows;
                    asked = all_weaker (IsSent (request ∷ [])) (IsSent sent) (λ e is. of_one sent request _ has is) one.more one.asked;
                    asked_for = all_weaker (IsAskedFor (request ∷ [])) (IsAskedFor sent) (λ r is. (is.0, of_one sent request is.0 has is.1, is.2, is.3)) (told_in h.result) one.asked_for;
                    held = one.agree.stand.held;
                    in_order = in_whole opening past past old.book new.book (told_in h.result) given on once.in_order;
                  };
                };
          })
      go (inr (waits, is, same)) =
          as_told sent old new printed [] (ap receipt_in h.shown ∙ (ap (λ (r : Result Receipt Refusal). receipt_in (asked_line r)) is)) (subst IsSoundKept (sym same) ready.0) (served_same sent old.book new.book same ready.1)

-- a flush that is kept
saved_silent : (book new : KeptState) (result : Result (Unit {0}) Refusal) (printed : OutputLine) → SaysSaved book new result printed → receipt_in printed ≡ []
saved_silent book new (Ok done) printed (inl (is, _)) = ap receipt_in is
saved_silent book new (Ok done) printed (inr (why, is, _)) = ap receipt_in is
saved_silent book new (Err refusal) printed (is, _) = ap receipt_in is

-- and the book that it leaves
saved_book : (book new : KeptState) (result : Result (Unit {0}) Refusal) (printed : OutputLine) → SaysSaved book new result printed → (new ≡ with_stored book) ⊎ (new ≡ book)
saved_book book new (Ok done) printed (inl (_, is)) = inl is
saved_book book new (Ok done) printed (inr (_, _, is)) = inr is
saved_book book new (Err refusal) printed (_, is) = inr is

saves : (sent : List Request) (old new : Admin) (printed : OutputLine) → IsReady sent old → SavesLine old new printed → DidLine sent old new printed
saves sent old new printed ready h = go (saved_book h.book new.book h.result printed h.shown)
  where
    none : receipt_in printed ≡ []
    none = saved_silent h.book new.book h.result printed h.shown

    first : Served old.book h.book sent []
    first = flushed sent old.book h.book h.result ready.1 h.flushed

    stored : Served h.book (with_stored h.book) sent []
    stored = served_none sent h.book (with_stored h.book) (λ opening past given. stored_behind opening past h.book given) refl refl refl first.waits

    sound : IsSoundKept (with_stored h.book)
    sound = let known = h.flushed.sound in (known.0, known.1, stored_behind known.0 known.1 h.book known.2)

    go : (new.book ≡ with_stored h.book) ⊎ (new.book ≡ h.book) → DidLine sent old new printed
    go (inl is) = as_told sent old new printed [] none (subst IsSoundKept (sym is) sound) (subst (λ (b : KeptState). Served old.book b sent []) (sym is) (served_on sent old.book h.book (with_stored h.book) [] [] first stored))
    go (inr is) = as_told sent old new printed [] none (subst IsSoundKept (sym is) h.flushed.sound) (subst (λ (b : KeptState). Served old.book b sent []) (sym is) first)

either_way : {P : Type 0} (b : Bool) (A B : Type 0) → (A → P) → (B → P) → MatchBool b A B → P
either_way true A B f g h = f h
either_way false A B f g h = g h

carries_store : (mode : Mode) (sent : List Request) (old new : Admin) (c : StoreCommand) (printed : OutputLine) → IsReady sent old → DoesStoreUnder mode old new c printed → DidLine sent old new printed
carries_store mode sent old new (store.CommitBegin rank dir f) printed ready h = executes_store sent old new (store.CommitBegin rank dir f) printed ready h
carries_store mode sent old new (store.CommitEnd number) printed ready h = executes_store sent old new (store.CommitEnd number) printed ready h
carries_store mode sent old new (store.CommitDrop number) printed ready h = executes_store sent old new (store.CommitDrop number) printed ready h
carries_store mode sent old new (store.Commit rank dir f) printed ready h = executes_store sent old new (store.Commit rank dir f) printed ready h
carries_store mode sent old new (store.CommitTree dir) printed ready h = executes_store sent old new (store.CommitTree dir) printed ready h
carries_store mode sent old new store.Purge printed ready h = executes_store sent old new store.Purge printed ready h
carries_store mode sent old new store.Flush printed ready h =
    either_way mode.keeps (SavesLine old new printed) (Executes old new (command.Store store.Flush) printed) (saves sent old new printed ready) (executes_store sent old new store.Flush printed ready) h
carries_store mode sent old new (store.Evict rank) printed ready h = executes_store sent old new (store.Evict rank) printed ready h
carries_store mode sent old new (store.Object name) printed ready h = executes_store sent old new (store.Object name) printed ready h
carries_store mode sent old new store.Objects printed ready h = executes_store sent old new store.Objects printed ready h

carries : (mode : Mode) (sent : List Request) (old new : Admin) (c : Command) (printed : OutputLine) → IsReady sent old → AllByRecursion (Contains sent) (request_of old.operations (line.Command c)) → CarriesOut mode old new c printed → DidLine sent old new printed
carries mode sent old new (command.Operation op) printed ready has h =
    either_way mode.asks (AsksOperation old new op printed) (Executes old new (command.Operation op) printed)
    (λ w. asks sent old new (record { 0 = 0 }) (record { client = 0; tid = old.operations + 1; oldest = old.operations + 1; op = op }) printed ready has.0 w.3)
    (executes sent old new (command.Operation op) printed ready has) h
carries mode sent old new (command.Request rank request) printed ready has h =
    either_way mode.asks (AsksRequest old new rank request printed) (Executes old new (command.Request rank request) printed)
    (λ w. asks sent old new rank request printed ready has.0 w.3) (executes sent old new (command.Request rank request) printed ready has) h
carries mode sent old new (command.Store c) printed ready has h = carries_store mode sent old new c printed ready h
carries mode sent old new (command.Serve rank) printed ready has h = executes sent old new (command.Serve rank) printed ready has h
carries mode sent old new (command.Own rank) printed ready has h = executes sent old new (command.Own rank) printed ready has h
carries mode sent old new command.History printed ready has h = executes sent old new command.History printed ready has h
carries mode sent old new (command.Split rank dir f nb) printed ready has h = executes sent old new (command.Split rank dir f nb) printed ready has h
carries mode sent old new (command.Merge rank dir f) printed ready has h = executes sent old new (command.Merge rank dir f) printed ready has h
carries mode sent old new (command.Leaves dir) printed ready has h = executes sent old new (command.Leaves dir) printed ready has h
carries mode sent old new (command.Grant rank client tid) printed ready has h = executes sent old new (command.Grant rank client tid) printed ready has h
carries mode sent old new command.Subtrees printed ready has h = executes sent old new command.Subtrees printed ready has h
carries mode sent old new (command.Authority dir f) printed ready has h = executes sent old new (command.Authority dir f) printed ready has h
carries mode sent old new (command.Export c) printed ready has h = executes sent old new (command.Export c) printed ready has h

carried_store : (mode : Mode) (old new : Admin) (c : StoreCommand) (printed : OutputLine) → DoesStoreUnder mode old new c printed → new.operations ≡ old.operations
carried_store mode old new (store.CommitBegin rank dir f) printed h = store_count old new (store.CommitBegin rank dir f) printed h
carried_store mode old new (store.CommitEnd number) printed h = store_count old new (store.CommitEnd number) printed h
carried_store mode old new (store.CommitDrop number) printed h = store_count old new (store.CommitDrop number) printed h
carried_store mode old new (store.Commit rank dir f) printed h = store_count old new (store.Commit rank dir f) printed h
carried_store mode old new (store.CommitTree dir) printed h = store_count old new (store.CommitTree dir) printed h
carried_store mode old new store.Purge printed h = store_count old new store.Purge printed h
carried_store mode old new store.Flush printed h =
    either_way mode.keeps (SavesLine old new printed) (Executes old new (command.Store store.Flush) printed) (λ w. w.count) (store_count old new store.Flush printed) h
carried_store mode old new (store.Evict rank) printed h = store_count old new (store.Evict rank) printed h
carried_store mode old new (store.Object name) printed h = store_count old new (store.Object name) printed h
carried_store mode old new store.Objects printed h = store_count old new store.Objects printed h

carried : (mode : Mode) (old new : Admin) (c : Command) (printed : OutputLine) → CarriesOut mode old new c printed → new.operations ≡ counted_with old.operations (line.Command c)
carried mode old new (command.Operation op) printed h =
    either_way mode.asks (AsksOperation old new op printed) (Executes old new (command.Operation op) printed) (λ w. w.0) (command_count old new (command.Operation op) printed) h
carried mode old new (command.Request rank request) printed h =
    either_way mode.asks (AsksRequest old new rank request printed) (Executes old new (command.Request rank request) printed) (λ w. w.0) (command_count old new (command.Request rank request) printed) h
carried mode old new (command.Store c) printed h = carried_store mode old new c printed h
carried mode old new (command.Serve rank) printed h = command_count old new (command.Serve rank) printed h
carried mode old new (command.Own rank) printed h = command_count old new (command.Own rank) printed h
carried mode old new command.History printed h = command_count old new command.History printed h
carried mode old new (command.Split rank dir f nb) printed h = command_count old new (command.Split rank dir f nb) printed h
carried mode old new (command.Merge rank dir f) printed h = command_count old new (command.Merge rank dir f) printed h
carried mode old new (command.Leaves dir) printed h = command_count old new (command.Leaves dir) printed h
carried mode old new (command.Grant rank client tid) printed h = command_count old new (command.Grant rank client tid) printed h
carried mode old new command.Subtrees printed h = command_count old new command.Subtrees printed h
carried mode old new (command.Authority dir f) printed h = command_count old new (command.Authority dir f) printed h
carried mode old new (command.Export c) printed h = command_count old new (command.Export c) printed h

-- and then a beginning of the history is forgotten, where that is asked for
module _ (Does : Doing) (one_of : AreAsOne Does) where
  abbrev Then : Option ℕ → Doing
  Then history old new c printed = ThenForgets history (λ middle. Does old middle c printed) new

  then_serves : (history : Option ℕ) (sent : List Request) (old new : Admin) (c : Command) (printed : OutputLine) → IsReady sent old → AllByRecursion (Contains sent) (request_of old.operations (line.Command c)) → Then history old new c printed → DidLine sent old new printed
  then_serves None sent old new c printed ready has h = one_of.serves sent old new c printed ready has h
  then_serves (Some keep) sent old new c printed ready has (middle, did, forgot) =
      let first = one_of.serves sent old middle c printed ready has did in
      let f = forgot.3 in
      let known = first.sound in
      record {
        sound = (known.0, known.1 ++ take f.count middle.book.history, f.goes_on known.0 known.1 known.2);
        served = subst (λ (rs : List Receipt). Served old.book new.book sent rs) (append-nil (receipt_in printed))
            (served_on sent old.book middle.book new.book (receipt_in printed) [] first.served (served_forgot sent keep middle.book new.book f first.served.waits));
      }

  then_counts : (history : Option ℕ) (old new : Admin) (c : Command) (printed : OutputLine) → Then history old new c printed → new.operations ≡ counted_with old.operations (line.Command c)
  then_counts None old new c printed h = one_of.counts old new c printed h
  then_counts (Some keep) old new c printed (middle, did, forgot) = forgot.0 ∙ one_of.counts old middle c printed did

pub carries_as_one : (mode : Mode) → AreAsOne (DoesUnder mode)
carries_as_one mode =
    let out : AreAsOne (CarriesOut mode) = record { serves = carries mode; counts = carried mode } in
    record { serves = λ sent old new c printed. then_serves (CarriesOut mode) out mode.history sent old new c printed; counts = λ old new c printed. then_counts (CarriesOut mode) out mode.history old new c printed }

-- ---- lines of a script

module _ (Does : Doing) (one_of : AreAsOne Does) where
  line_count : (old new : Admin) (found : Line) (text : List ℕ) → DoesLine Does old new found text → new.operations ≡ counted_with old.operations found
  line_count old new line.Nothing text (same, none) = no_more old new same
  line_count old new (line.Command c) text (shown, did, is) = one_of.counts old new c shown did
  line_count old new (line.BadWord errno) text (same, is) = no_more old new same
  line_count old new line.NotCommand text h = absurd h

  did_line : (sent : List Request) (old new : Admin) (found : Line) (text : List ℕ) → IsReady sent old → AllByRecursion (Contains sent) (request_of old.operations found) → DoesLine Does old new found text → Did sent old new text
  did_line sent old new line.Nothing text ready has (same, none) = did_none sent old new text ready same none
  did_line sent old new (line.Command c) text ready has (shown, did, is) = did_one sent old new text shown is (one_of.serves sent old new c shown ready has did)
  did_line sent old new (line.BadWord errno) text ready has (same, is) = did_one sent old new text (out.Errno errno) is (only_read sent old new (out.Errno errno) ready same refl)
  did_line sent old new line.NotCommand text ready has h = absurd h

  did_on : (sent : List Request) (old middle new : Admin) (first rest : List ℕ) → Did sent old middle first → Did sent middle new rest → Did sent old new (first ++ rest)
  did_on sent old middle new first rest h k = record {
    sound = k.sound;
    told = h.told ++ k.told;
    printed = h.printed ++ k.printed;
    whole = ap (λ (t : List ℕ). t ++ rest) h.whole ∙ ap (λ (t : List ℕ). flat_map ended_line h.printed ++ t) k.whole ∙ sym (flat_map-append ended_line h.printed k.printed);
    replies = filter-append is_reply h.printed k.printed ∙ ap (λ (ls : List (List ℕ)). ls ++ filter is_reply k.printed) h.replies ∙ ap (λ (ls : List (List ℕ)). map receipt_line h.told ++ ls) k.replies ∙ sym (map-append receipt_line h.told k.told);
    served = served_on sent old.book middle.book new.book h.told k.told h.served k.served;
  }

  did_lines : (sent : List Request) (old new : Admin) (lines : List (List ℕ)) (text : List ℕ) → IsReady sent old → AllByRecursion (Contains sent) (requests_of old.operations lines) → RunsLines Does old new lines text → Did sent old new text
  did_lines sent old new [] text ready has (same, none) = did_none sent old new text ready same none
  did_lines sent old new (bytes ∷ lines) text ready has (middle, first, rest, one, others, whole) =
      let found = line_of bytes in
      let rest_of = requests_of (counted_with old.operations found) lines in
      let here = did_line sent old middle found first ready (all_front (Contains sent) (request_of old.operations found) rest_of has) one.does in
      let left : AllByRecursion (Contains sent) rest_of = all_back (Contains sent) (request_of old.operations found) rest_of has in
      let then = did_lines sent middle new lines rest (here.sound, here.served.waits) (subst (λ (n : ℕ). AllByRecursion (Contains sent) (requests_of n lines)) (sym (line_count old middle found first one.does)) left) others in
      subst (λ (t : List ℕ). Did sent old new t) (sym whole) (did_on sent old middle new first rest here then)

-- the lines before others make the requests that all make, first
requests_front : (sent : List Request) (count : ℕ) (done left : List (List ℕ)) → AllByRecursion (Contains sent) (requests_of count (done ++ left)) → AllByRecursion (Contains sent) (requests_of count done)
requests_front sent count [] left h = tt
requests_front sent count (bytes ∷ done) left h =
    let found = line_of bytes in
    let here = request_of count found in
    let next = counted_with count found in
    all_append (Contains sent) here (requests_of next done) (all_front (Contains sent) here (requests_of next (done ++ left)) h)
    (requests_front sent next done left (all_back (Contains sent) here (requests_of next (done ++ left)) h))

-- ---- a whole script

broken_at : (Does : Doing) (old : Admin) (left : List (List ℕ)) (number : ℕ) (kind : FaultKind) (front : List ℕ) (result : Result (Unit {0}) ScriptFault) → result ≡ Err (record { line = number; kind = kind }) → StopsBefore Does old left kind front
    → (front ≡ []) ⊎ ((n : ℕ) × (result ≡ Err (record { line = n; kind = fault.WriteFault })))
broken_at Does old [] number fault.NotCommand front result is h = absurd h
broken_at Does old (bytes ∷ left) number fault.NotCommand front result is h = inl h.1.2
broken_at Does old left number fault.TooLong front result is h = inl h.1
broken_at Does old left number fault.ReadFault front result is h = inl h
broken_at Does old left number fault.WriteFault front result is h = inr (number, is)
broken_at Does old [] number fault.OutOfMemory front result is h = absurd h
broken_at Does old (bytes ∷ left) number fault.OutOfMemory front result is h = inl h.1.2

broken_of : (Does : Doing) (old : Admin) (done : ℕ) (left : List (List ℕ)) (result : Result (Unit {0}) ScriptFault) (front : List ℕ) → EndsScript Does old done left result front
    → (front ≡ []) ⊎ ((n : ℕ) × (result ≡ Err (record { line = n; kind = fault.WriteFault })))
broken_of Does old done left (Ok all) front h = inl h.1
broken_of Does old done left (Err stopped) front h = broken_at Does old left stopped.line stopped.kind front (Err stopped) refl h.1

-- a script that ran over a book
prints_run : (Does : Doing) → AreAsOne Does → (known before after : Option (List ℕ)) (result : Result (Unit {0}) ScriptFault) (admin : Admin) → IsSoundKept admin.book → RunsInput Does admin known before after result
    → (opening : Opening) (past : List Entry) → StandsBehind opening past admin.book
    → PrintsOneThread admin.book.core.state.tree.limit opening (past ++ admin.book.history) (waiting_in admin.book.core.state.inboxes) admin.operations known before after result
prints_run Does one_of known before after result admin sound input opening past given =
    let script = input.script in
    let start : KeptState = admin.book in
    let waiting = waiting_in start.core.state.inboxes in
    let made = requests_of admin.operations input.lines in
    let sent = waiting ++ made in
    let among : AreAmong sent start.core.state.inboxes = nested sent start.core.state.inboxes (each_left waiting made) in
    let all : AllByRecursion (Contains sent) (requests_of admin.operations (script.done ++ script.left)) = subst (λ (ls : List (List ℕ)). AllByRecursion (Contains sent) (requests_of admin.operations ls)) script.whole (each_right waiting made) in
    let asked = requests_front sent admin.operations script.done script.left all in
    let did = did_lines Does one_of sent admin script.new script.done script.text (sound, among) asked script.runs in
    let to = did.served.from opening past given in
    let its = as_one (whole_of opening past start) (whole_of opening to.forgotten script.new.book) sent did.told to.behind.behind.sound to.served in
    record {
      lines = input.lines;
      read = input.read;
      printed = did.printed;
      front = script.front;
      written = subst (λ (t : List ℕ). Appends before after (t ++ script.front)) did.whole script.written;
      broken = broken_of Does script.new (length script.done) script.left result script.front script.ended;
      told = did.told;
      replies = did.replies;
      history = to.forgotten ++ script.new.book.history;
      one = its.one;
      in_order = its.in_order;
    }

-- ---- one that didn't start

lines_in : (known : Option (List ℕ)) → List (List ℕ)
lines_in None = []
lines_in (Some bytes) = lines_of bytes

lines_read : (known : Option (List ℕ)) → IfSome known (λ bytes. lines_in known ≡ lines_of bytes)
unfolding lines_in
lines_read None = tt
lines_read (Some bytes) = refl

kept_appends : (before after : Option (List ℕ)) → Keeps before after → Appends before after []
kept_appends None after h = tt
kept_appends (Some xs) None h = absurd h
kept_appends (Some xs) (Some ys) h = h ∙ sym (append-nil xs)

prints_none : (limit : ℕ) (opening : Opening) (past : List Entry) (waited : List Request) (marked : ℕ) (known before after : Option (List ℕ)) (result : Result (Unit {0}) ScriptFault) → IsLegalFrom limit opening past → Keeps before after
    → PrintsOneThread limit opening past waited marked known before after result
prints_none limit opening past waited marked known before after result legal same = record {
  lines = lines_in known;
  read = lines_read known;
  printed = [];
  front = [];
  written = kept_appends before after same;
  broken = inl refl;
  told = [];
  replies = refl;
  history = past;
  one = record {
    more = [];
    grows = sym (append-nil past);
    legal = legal;
    asked = tt;
    asked_for = tt;
    agree = record { stand = record { held = tt; newer = tt; apart = tt }; as_many = omega arith };
  };
  in_order = refl;
}

keeps_itself : (before : Option (List ℕ)) → Keeps before before
keeps_itself None = tt
keeps_itself (Some xs) = refl

nothing_legal : (limit : ℕ) → IsLegalFrom limit (fresh finite.empty) []
nothing_legal limit = record { begins = omega arith; next = λ k e from below. absurd (omega (arith, below)) }

pub prints_nothing : (limit : ℕ) (known before : Option (List ℕ)) (result : Result (Unit {0}) ScriptFault) → PrintsOneThread limit (fresh finite.empty) [] [] 0 known before before result
prints_nothing limit known before result = prints_none limit (fresh finite.empty) [] [] 0 known before before result (nothing_legal limit) (keeps_itself before)

-- what a script prints over a book is what one thread tells
pub prints_over : (Does : Doing) → AreAsOne Does → (book : KeptState) → IsSoundKept book → (known before after : Option (List ℕ)) (result : Result (Unit {0}) ScriptFault)
    → RunsOrNot Does (begun book) known before after result → (opening : Opening) (past : List Entry) → StandsBehind opening past book
    → PrintsOneThread book.core.state.tree.limit opening (past ++ book.history) (waiting_in book.core.state.inboxes) (mark_in book.core.state.sessions 0) known before after result
prints_over Does one_of book sound known before after result (inl runs) opening past given =
    prints_run Does one_of known before after result (begun book) sound runs opening past given
prints_over Does one_of book sound known before after result (inr never) opening past given =
    prints_none book.core.state.tree.limit opening (past ++ book.history) (waiting_in book.core.state.inboxes) (mark_in book.core.state.sessions 0) known before after result given.behind.sound.legal never.same

-- ---- the book that a script leaves

-- where memory was refused for what the script keeps of a command, nothing is told of it
module _ (sent : List Request) where
  same_did : (old new : Admin) → IsReady sent old → new ≡ old → Did sent old new []
  same_did old new ready same = did_none sent old new [] ready same refl

  quiet_did : (old new : Admin) → IsSoundKept new.book → Served old.book new.book sent [] → Did sent old new []
  quiet_did old new sound served = record { sound = sound; told = []; printed = []; whole = refl; replies = refl; served = served }

  loses_did : (old new : Admin) (rank : Rank) (dir : Ino) (f : Fragment) → IsReady sent old → LosesJob old new rank dir f → Did sent old new []
  loses_did old new rank dir f ready h =
      quiet_did old new h.stepped.sound (one_step sent old.book new.book (Ok (answer.Job h.job)) (event.CommitBegin rank dir f) ready.0 ready.1 tt h.stepped)

  alone_did : (old new : Admin) (rank : Rank) (dir : Ino) (f : Fragment) → IsReady sent old → BeginsAlone old new rank dir f → Did sent old new []
  alone_did old new rank dir f ready h =
      let begun = begins_job sent old h.middle rank dir f (Ok (Some h.number)) (begun_line (Ok (Some h.number))) ready h.begun refl in
      subst (λ (a : Admin). Did sent old a []) (sym h.rest.0) (quiet_did old h.middle begun.sound begun.served)

  lacks_step : (old new : Admin) (event : Event) → IsReady sent old → LacksForStep old new event → Did sent old new []
  lacks_step old new (event.Arrive rank request) ready h = absurd h
  lacks_step old new (event.Serve rank) ready h = absurd h
  lacks_step old new (event.Grant rank client tid) ready h = absurd h
  lacks_step old new (event.Split rank dir f bits) ready h = absurd h
  lacks_step old new (event.Merge rank dir f) ready h = absurd h
  lacks_step old new (event.CommitBegin rank dir f) ready h = absurd h
  lacks_step old new (event.CommitEnd encoded) ready h = absurd h
  lacks_step old new (event.CommitDrop job) ready h = absurd h
  lacks_step old new (event.CommitTree dir) ready h = absurd h
  lacks_step old new event.Purge ready h = absurd h
  lacks_step old new (event.Evict rank) ready h = absurd h
  lacks_step old new (event.Start from dir f to) ready h = absurd h
  lacks_step old new (event.Freeze dir f) ready h = absurd h
  lacks_step old new (event.Prep dir f) ready h = absurd h
  lacks_step old new (event.Send dir f) ready h = same_did old new ready h
  lacks_step old new (event.Import dir f bytes) ready h = same_did old new ready h.0
  lacks_step old new (event.Finish dir f) ready h = absurd h
  lacks_step old new (event.Cancel dir f) ready h = absurd h

  lacks_export : (old new : Admin) (c : ExportCommand) → IsReady sent old → LacksForExport old new c → Did sent old new []
  lacks_export old new (export.Dir from dir f to) ready h = absurd h
  lacks_export old new (export.Freeze dir f) ready h = absurd h
  lacks_export old new (export.Prep dir f) ready h = absurd h
  lacks_export old new (export.Send dir f) ready h = same_did old new ready h
  lacks_export old new (export.Import dir f) ready h = same_did old new ready h.0
  lacks_export old new (export.Finish dir f) ready h = absurd h
  lacks_export old new (export.Cancel dir f) ready h = absurd h

  lacks_store : (old new : Admin) (c : StoreCommand) → IsReady sent old → LacksForStore old new c → Did sent old new []
  lacks_store old new (store.CommitBegin rank dir f) ready h = loses_did old new rank dir f ready h
  lacks_store old new (store.CommitEnd number) ready h = same_did old new ready h.0
  lacks_store old new (store.CommitDrop number) ready h = absurd h
  lacks_store old new (store.Commit rank dir f) ready (inl h) = loses_did old new rank dir f ready h
  lacks_store old new (store.Commit rank dir f) ready (inr h) = alone_did old new rank dir f ready h
  lacks_store old new (store.CommitTree dir) ready h = absurd h
  lacks_store old new store.Purge ready h = absurd h
  lacks_store old new store.Flush ready h = absurd h
  lacks_store old new (store.Evict rank) ready h = absurd h
  lacks_store old new (store.Object name) ready h = absurd h
  lacks_store old new store.Objects ready h = absurd h

  lacks_command : (old new : Admin) (c : Command) → IsReady sent old → LacksForCommand old new c → Did sent old new []
  lacks_command old new (command.Operation op) ready h = absurd h
  lacks_command old new (command.Serve rank) ready h = absurd h
  lacks_command old new (command.Own rank) ready h = lacks_step old new h.event ready h.lacks
  lacks_command old new (command.Request rank request) ready h = absurd h
  lacks_command old new command.History ready h = absurd h
  lacks_command old new (command.Split rank dir f nb) ready h = absurd h
  lacks_command old new (command.Merge rank dir f) ready h = absurd h
  lacks_command old new (command.Leaves dir) ready h = absurd h
  lacks_command old new (command.Grant rank client tid) ready h = absurd h
  lacks_command old new command.Subtrees ready h = same_did old new ready h
  lacks_command old new (command.Authority dir f) ready h = absurd h
  lacks_command old new (command.Export c) ready h = lacks_export old new c ready h
  lacks_command old new (command.Store c) ready h = lacks_store old new c ready h

  lacks_line : (old new : Admin) (found : Line) → IsReady sent old → LacksLine old new found → Did sent old new []
  lacks_line old new line.Nothing ready h = absurd h
  lacks_line old new (line.Command c) ready h = lacks_command old new c ready h
  lacks_line old new (line.BadWord errno) ready h = absurd h
  lacks_line old new line.NotCommand ready h = absurd h

-- what lines did whose text is this, where all were done
record DidTo (sent : List Request) (old new : Admin) (text : List ℕ) (left : List (List ℕ)) : Type 0 where
  some : List ℕ
  did : Did sent old new some
  whole : left ≡ [] → some ≡ text

module _ (Does : Doing) (one_of : AreAsOne Does) (sent : List Request) (old reached new : Admin) (done : List (List ℕ)) (text : List ℕ) (ready : IsReady sent old) (runs : RunsLines Does old reached done text) where
  did_before : AllByRecursion (Contains sent) (requests_of old.operations done) → Did sent old reached text
  did_before has = did_lines Does one_of sent old reached done text ready has runs

  -- a line that was done, and of whose text nothing is printed
  one_more : (bytes more : List ℕ) → AllByRecursion (Contains sent) (requests_of old.operations (done ++ bytes ∷ [])) → RunsLine Does reached new bytes more → Did sent old new (text ++ more)
  one_more bytes more has run = did_lines Does one_of sent old new (done ++ bytes ∷ []) (text ++ more) ready has (runs-append Does old reached new done bytes text more runs run)

  quietly : (did : Did sent old reached text) → Did sent reached new [] → Did sent old new text
  quietly did then = subst (λ (t : List ℕ). Did sent old new t) (append-nil text) (did_on Does one_of sent old reached new text [] did then)

  did_to : (left : List (List ℕ)) → AllByRecursion (Contains sent) (requests_of old.operations (done ++ left)) → (new ≡ reached) ⊎ OfFirst (λ bytes. LacksMemory Does reached new bytes) left → DidTo sent old new text left
  did_to left has (inl same) =
      let did = did_before (requests_front sent old.operations done left has) in
      record { some = text; did = subst (λ (a : Admin). Did sent old a text) (sym same) did; whole = λ none. refl }
  did_to [] has (inr lacks) = absurd lacks
  did_to (bytes ∷ others) has (inr (inl (takes, same))) =
      let did = did_before (requests_front sent old.operations done (bytes ∷ others) has) in
      record { some = text; did = subst (λ (a : Admin). Did sent old a text) (sym same) did; whole = λ none. refl }
  did_to (bytes ∷ others) has (inr (inr (inl lacks))) =
      let did = did_before (requests_front sent old.operations done (bytes ∷ others) has) in
      record { some = text; did = quietly did (lacks_line sent reached new (line_of bytes) (did.sound, did.served.waits) lacks); whole = λ none. refl }
  did_to (bytes ∷ others) has (inr (inr (inr lacks))) =
      let first : AllByRecursion (Contains sent) (requests_of old.operations ((done ++ bytes ∷ []) ++ others)) = subst (λ (ls : List (List ℕ)). AllByRecursion (Contains sent) (requests_of old.operations ls)) (sym (append_assoc done (bytes ∷ []) others)) has in
      let asked = requests_front sent old.operations (done ++ bytes ∷ []) others first in
      record { some = text ++ line_text lacks.printed; did = one_more bytes (line_text lacks.printed) asked lacks.runs; whole = λ none. cc }

-- the replies of a script that ended well were printed
printed_all : (sent : List Request) (old new : Admin) (text : List ℕ) (left : List (List ℕ)) (d : DidTo sent old new text left) (before after : Option (List ℕ)) (result : Result (Unit {0}) ScriptFault)
    → IfOk result (λ ended. (left ≡ []) × Appends before after text) → IfOk result (λ ended. PrintsReplies d.did.told before after)
printed_all sent old new text left d before after (Ok ended) (none, wrote) = record {
  printed = d.did.printed;
  written = subst (λ (t : List ℕ). Appends before after t) (sym (d.whole none) ∙ d.did.whole) wrote;
  replies = d.did.replies;
}
printed_all sent old new text left d before after (Err fault) all = tt

-- a script over a book leaves what one thread leaves
pub leaves_over : (Does : Doing) → AreAsOne Does → (old : KeptState) → IsSoundKept old → (new : Admin) (known before after : Option (List ℕ)) (result : Result (Unit {0}) ScriptFault)
    → LeavesAdmin Does (begun old) new known before after result
    → (opening : Opening) (past : List Entry) → StandsBehind opening past old → LeavesOneThread opening past old new.book known before after result
leaves_over Does one_of old sound new known before after result h opening past given =
    let admin : Admin = begun old in
    let waiting = waiting_in old.core.state.inboxes in
    let made = requests_of admin.operations h.lines in
    let sent = waiting ++ made in
    let among : AreAmong sent old.core.state.inboxes = nested sent old.core.state.inboxes (each_left waiting made) in
    let all : AllByRecursion (Contains sent) (requests_of admin.operations (h.done ++ h.left)) = subst (λ (ls : List (List ℕ)). AllByRecursion (Contains sent) (requests_of admin.operations ls)) h.whole (each_right waiting made) in
    let to = did_to Does one_of sent admin h.reached new h.done h.text (sound, among) h.runs h.left all h.last in
    let did = to.did in
    let end = did.served.from opening past given in
    let its = as_one (whole_of opening past old) (whole_of opening end.forgotten new.book) sent did.told end.behind.behind.sound end.served in
    record {
      lines = h.lines;
      read = h.read;
      told = did.told;
      forgotten = end.forgotten;
      behind = end.behind;
      one = its.one;
      in_order = in_places opening past end.forgotten old new.book did.told given end.behind its.in_order;
      same_limit = end.served.limit;
      printed = printed_all sent admin new h.text h.left to before after result h.all;
    }

none_wait : (ranks : ℕ) → waiting_in (replicate ranks []) ≡ []
none_wait zero = refl
none_wait (suc ranks) = none_wait ranks

-- so it is over a new book
pub prints_new : (ranks cache limit : ℕ) (known before after : Option (List ℕ)) (result : Result (Unit {0}) ScriptFault) (book : KeptState) → IsFormatted ranks cache limit book
    → ((opening : Opening) (past : List Entry) → StandsBehind opening past book → PrintsOneThread book.core.state.tree.limit opening (past ++ book.history) (waiting_in book.core.state.inboxes) (mark_in book.core.state.sessions 0) known before after result)
    → PrintsOneThread limit (fresh finite.empty) [] [] 0 known before after result
prints_new ranks cache limit known before after result book formatted h =
    let limited : book.core.state.tree.limit ≡ limit = ap (λ (s : State). s.tree.limit) formatted.state in
    let waits : waiting_in book.core.state.inboxes ≡ [] = ap (λ (s : State). waiting_in s.inboxes) formatted.state ∙ none_wait ranks in
    let unknown : mark_in book.core.state.sessions 0 ≡ 0 = ap (λ (s : State). mark_in s.sessions 0) formatted.state ∙ ap (λ (r : Option Row). (row_or_none r).mark) (get-empty nat_cmp 0) in
    subst (λ (n : ℕ). PrintsOneThread n (fresh finite.empty) [] [] 0 known before after result) limited
    (subst (λ (es : List Entry). PrintsOneThread book.core.state.tree.limit (fresh finite.empty) es [] 0 known before after result) formatted.history
    (subst (λ (ws : List Request). PrintsOneThread book.core.state.tree.limit (fresh finite.empty) book.history ws 0 known before after result) waits
    (subst (λ (n : ℕ). PrintsOneThread book.core.state.tree.limit (fresh finite.empty) book.history (waiting_in book.core.state.inboxes) n known before after result) unknown (h (fresh finite.empty) [] formatted.goes_on))))
