-- Names of other crates, and of this one's definitions, as the proofs of this crate take them.
pub use Rattle.admin_cli.specs.Authorities.{root_of, roots_in}
pub use Rattle.admin_cli.specs.Execute.{Executes, LacksForCommand, OperatesAfter}
pub use Rattle.admin_cli.specs.Left.{LeavesAdmin}
pub use Rattle.admin_cli.specs.OneLine.{AnswersLine, DoesBytes, Prints, RunsOrNot}
pub use Rattle.admin_cli.specs.OwnLines.{MakesStep, TakesTurn}
pub use Rattle.admin_cli.specs.Reports.{path_lines}
pub use Rattle.admin_cli.specs.Scripts.{BreaksOff, EndsScript, IsFormatted, LacksMemory, OfFirst, RunsInput, RunsLine, RunsLines, RunsNew, StopsAt, StopsBefore, line_text}
pub use Rattle.admin_cli.specs.StepLines.{StepsLine, shown_line}
pub use Rattle.admin_cli.specs.StoreLines.{BeginsJob, CommitsLine, CopiesNone, EndsLine, LacksForCommit}
pub use Rattle.admin_cli.specs.Waiting.{Breaks, IsEmpty, LeavesWaiting, MayFlush, PrintsAny, PrintsCame, PrintsOf, PrintsOwn, RunsWaiting, line_at}
pub use Rattle.admin_cli.specs.Admin.{Admin, begun}
pub use Rattle.admin_cli.specs.declared.faults.FaultKind.{FaultKind}
pub use Rattle.admin_cli.specs.declared.faults.FaultKind.TheVariants.{NotCommand, OutOfMemory, ReadFault, TooLong, WriteFault}
pub use Rattle.admin_cli.specs.declared.faults.ScriptFault.{ScriptFault}
pub use Rattle.admin_cli.specs.declared.waiting.Mark.{Mark}
pub use Rattle.admin_cli.specs.declared.waiting.Waiting.{Waiting}
pub use Rattle.cluster_core.specs.Proposal.{Proposes}
pub use Rattle.cluster_core.specs.Opening.{IsLegalFrom, Opening, after_from, fresh}
pub use Rattle.cluster_core.specs.Sound.{IsSoundKept, StandsBehind}
pub use Rattle.cluster_core.specs.State.{BookState, KeptState, places_of, whole_of}
pub use Rattle.cluster_core.specs.declared.events.Answer.{Answer}
pub use Rattle.cluster_core.specs.declared.events.Event.{Event}
pub use Rattle.cluster_core.specs.declared.events.Event.TheVariants.{Serve}
pub use Rattle.mds_types.specs.Frag.{Fragment}
pub use Rattle.mds_types.specs.declared.ids.Ino.{Ino}
pub use Rattle.mds_types.specs.declared.ids.Rank.{Rank}
pub use Rattle.mds_types.specs.declared.refusals.Refusal.{Refusal}
pub use Rattle.script_output.specs.declared.lines.OutputLine.{OutputLine}
pub use Rattle.script_output.specs.declared.lines.OutputLine.TheVariants.{Errno, Nothing, Refused}
pub use Rattle.script_text.specs.Input.{IsFirstLine, IsTooLong, lines_of}
pub use Rattle.script_text.specs.declared.commands.Command.{Command}
pub use Rattle.script_text.specs.declared.lines.Line.{Line}
pub use Rattle.std.proofs.Common.{Bool, Err, IfOk, IfSome, List, None, Ok, OnErr, Option, Result, Some, [], ap, append-nil, append_assoc, arith, codes, cond, drop, false, get_or, inl, inr, le-ltb, length, length-append, length-drop, lt-ltb, ltb, ltb-false, ltb-true, map, refl, replicate, rules, subst, suc, sym, take, take-append-drop, true, vec_len, ℕ, ◌++◌, ◌+◌, ◌-◌, ◌<◌, ◌∙◌, ◌∷◌, ◌≡◌, ◌≤◌}
pub use Rattle.std.proofs.KnownBytes.{Appends-nil, Appends-trans}
pub use Rattle.std.proofs.lemmas.List.{drop_more, length-replicate, take-append-le}
pub use Rattle.std.specs.Io.KnownBytes.{Appends, Keeps}
pub use Rattle.std.specs.declared.alloc.AllocError.{AllocError}
