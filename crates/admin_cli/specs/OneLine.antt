-- One line of a script, from its bytes to the text written for it.
use Rattle.std.specs.Prelude.{◌≡◌, ◌⊎◌, ℕ, ◌+◌, ◌-◌, ◌^◌, ◌≤◌, Bool, true, List, [], Option, Some, None, IfErr, Result, Ok, Err}
use Rattle.std.specs.Io.KnownBytes.{Appends, Keeps}
use Rattle.script_text.specs.declared.lines.Line.{Line}
use Rattle.script_text.specs.declared.lines.Line.TheVariants as line
use Rattle.script_output.specs.declared.lines.OutputLine.{OutputLine}
use Rattle.script_output.specs.Writing.{AppendsBeginning, TakesText}
use Rattle.admin_cli.specs.Admin.{Admin}
use Rattle.admin_cli.specs.declared.faults.ScriptFault.{ScriptFault}
use Rattle.admin_cli.specs.declared.faults.FaultKind.{FaultKind}
use Rattle.admin_cli.specs.declared.faults.FaultKind.TheVariants.{NotCommand, TooLong, ReadFault, WriteFault, OutOfMemory}
use Rattle.admin_cli.specs.Scripts.{Doing, line_text, DoesLine, LacksLine, LacksMemory, NeverStarts, RunsInput, RunsLine, StopsAt}

-- a line before it is printed: the line to print, if it prints one; or that it isn't a command; or that memory of the
-- script's own was refused
abbrev pub AnswersLine : (Does : Doing) → (old new : Admin) → Line → Result (Option OutputLine) FaultKind → Type 0
AnswersLine Does old new found (Ok None) = DoesLine Does old new found []
AnswersLine Does old new found (Ok (Some printed)) = DoesLine Does old new found (line_text printed)
AnswersLine Does old new found (Err kind) =
    ((found ≡ line.NotCommand) × (kind ≡ NotCommand) × (new ≡ old)) ⊎ (LacksLine old new found × (kind ≡ OutOfMemory))

-- the text written for a line: all of it; nothing, if there is no memory for the text of a line that takes some; or a
-- beginning, at a write fault
abbrev pub Prints : (before after : Option (List ℕ)) → OutputLine → Result (Unit {0}) FaultKind → Type 0
Prints before after printed (Ok done) = Appends before after (line_text printed)
Prints before after printed (Err OutOfMemory) = Keeps before after × TakesText printed
Prints before after printed (Err WriteFault) = AppendsBeginning before after (line_text printed)
Prints before after printed (Err NotCommand) = ⊥
Prints before after printed (Err TooLong) = ⊥
Prints before after printed (Err ReadFault) = ⊥

-- one line that was read: its text is that of the line that it prints; or it ends the script, for this reason
abbrev pub DoesBytes : (Does : Doing) → (old new : Admin) → List ℕ → Result (Option OutputLine) FaultKind → Type 0
DoesBytes Does old new bytes (Ok None) = RunsLine Does old new bytes []
DoesBytes Does old new bytes (Ok (Some printed)) = RunsLine Does old new bytes (line_text printed)
DoesBytes Does old new bytes (Err kind) =
    StopsAt Does old new bytes kind [] × ((new ≡ old) ⊎ LacksMemory Does old new bytes)

-- if a script ended with a read fault, its reader has failed, or it has more lines than 64 bits have numbers for, where
-- so many numbers were used before its first line
abbrev pub HasReaderFailed : ℕ → Bool → Result (Unit {0}) ScriptFault → Type 0
HasReaderFailed used failed result =
    IfErr result (λ fault. fault.kind ≡ ReadFault → (failed ≡ true) ⊎ (2 ^ 64 - 1 ≤ used + fault.line))

-- lines were run after all memory for reading was taken; or that memory was refused
abbrev pub RunsOrNot : (Does : Doing) → Admin → (known before after : Option (List ℕ)) → Result (Unit {0}) ScriptFault → Type 0
RunsOrNot Does old known before after result = RunsInput Does old known before after result ⊎ NeverStarts before after result
