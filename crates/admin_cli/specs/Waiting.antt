-- Printed text that waits to be written, and the part of it that a write fault leaves.
use Rattle.std.specs.Prelude.{◌≡◌, ◌⊎◌, ℕ, ◌<◌, nat_lt, if◌then◌else◌, List, [], ◌∷◌, ◌++◌, length, take, Option, Some, None, Result, Ok, Err}
use Rattle.std.specs.Io.KnownBytes.{Appends}
use Rattle.script_output.specs.declared.lines.OutputLine.{OutputLine}
use Rattle.admin_cli.specs.Admin.{Admin}
use Rattle.admin_cli.specs.declared.faults.ScriptFault.{ScriptFault}
use Rattle.admin_cli.specs.declared.faults.FaultKind.{FaultKind}
use Rattle.admin_cli.specs.declared.faults.FaultKind.TheVariants.{OutOfMemory, WriteFault}
use Rattle.admin_cli.specs.declared.waiting.Mark.{Mark}
use Rattle.admin_cli.specs.declared.waiting.Waiting.{Waiting}
use Rattle.admin_cli.specs.Left.{LeavesAdmin}
use Rattle.admin_cli.specs.OneLine.{Prints}
use Rattle.admin_cli.specs.Scripts.{Doing, RunsInput, line_text}

-- the script's line whose text has the byte at a place, from the ends of the lines' texts; 0 if none has it
abbrev pub line_at : List Mark → ℕ → ℕ
line_at [] place = 0
line_at (mark ∷ marks) place = if nat_lt place mark.end then mark.line else line_at marks place

-- nothing waits
abbrev pub IsEmpty : Waiting → Type 0
IsEmpty waiting = (waiting.bytes.items ≡ []) × (waiting.marks.items ≡ [])

-- the text that a line of the script prints was put behind the waiting text
pub record PutsLine (old new : Waiting) (line : ℕ) (printed : OutputLine) : Type 0 where
  pub bytes : new.bytes.items ≡ old.bytes.items ++ line_text printed
  pub marks : new.marks.items ≡ old.marks.items
      ++ record { line = line; end = length (old.bytes.items ++ line_text printed) } ∷ []

-- a part of the waiting text was written, and the fault names the line whose text broke off
pub record Breaks (waiting : Waiting) (before after : Option (List ℕ)) (fault : ScriptFault) : Type 0 where
  pub place : ℕ
  pub short : place < length waiting.bytes.items
  pub written : Appends before after (take place waiting.bytes.items)
  pub told : fault ≡ record { line = line_at waiting.marks.items place; kind = WriteFault }

-- the waiting text was written, all of it or up to a fault
abbrev pub WritesOut : (old new : Waiting) → (before after : Option (List ℕ)) → Result (Unit {0}) ScriptFault → Type 0
WritesOut old new before after (Ok done) = IsEmpty new × Appends before after old.bytes.items
WritesOut old new before after (Err fault) = IsEmpty new × Breaks old before after fault

-- the waiting text was written so, or it still waits
abbrev pub MayFlush : (old new : Waiting) → (before after : Option (List ℕ)) → Result (Unit {0}) ScriptFault → Type 0
MayFlush old new before after (Ok done) =
    ((new ≡ old) × (after ≡ before)) ⊎ (IsEmpty new × Appends before after old.bytes.items)
MayFlush old new before after (Err fault) = IsEmpty new × Breaks old before after fault

-- the waiting text was written, and then a printed line, up to a fault of its own
pub record PrintsOwn (waiting : Waiting) (line : ℕ) (printed : OutputLine) (before after : Option (List ℕ))
    (fault : ScriptFault) : Type 0 where
  pub kind : FaultKind
  pub told : fault ≡ record { line = line; kind = kind }
  pub middle : Option (List ℕ)
  pub flushed : Appends before middle waiting.bytes.items
  pub prints : Prints middle after printed (Err kind)

-- the waiting text was written, and a line's text behind it
abbrev pub PrintsApart : (old new : Waiting) → (line : ℕ) → OutputLine → (before after : Option (List ℕ))
    → Result (Unit {0}) ScriptFault → Type 0
PrintsApart old new line printed before after (Ok done) =
    IsEmpty new × Appends before after (old.bytes.items ++ line_text printed)
PrintsApart old new line printed before after (Err fault) =
    IsEmpty new × (Breaks old before after fault ⊎ PrintsOwn old line printed before after fault)

-- a line's text was put behind the waiting text; or, if there was no memory for that, all was written
abbrev pub PrintsOutput : (old new : Waiting) → (line : ℕ) → OutputLine → (before after : Option (List ℕ))
    → Result (Unit {0}) ScriptFault → Type 0
PrintsOutput old new line printed before after (Ok done) =
    (PutsLine old new line printed × (after ≡ before)) ⊎ PrintsApart old new line printed before after (Ok done)
PrintsOutput old new line printed before after (Err fault) = PrintsApart old new line printed before after (Err fault)

-- the line of the script that was done prints this, if it prints anything
abbrev pub PrintsAny : (old new : Waiting) → (line : ℕ) → Option OutputLine → (before after : Option (List ℕ))
    → Result (Unit {0}) ScriptFault → Type 0
PrintsAny old new line None before after result = (new ≡ old) × (after ≡ before) × (result ≡ Ok tt)
PrintsAny old new line (Some printed) before after result = PrintsOutput old new line printed before after result

-- the script ended at this line before it was printed
pub record StopsUnprinted (old new : Waiting) (line : ℕ) (kind : FaultKind) (before after : Option (List ℕ))
    (result : Result (Unit {0}) ScriptFault) : Type 0 where
  pub waits : new ≡ old
  pub kept : after ≡ before
  pub told : result ≡ Err (record { line = line; kind = kind })

-- a line was done, and the text that it prints, if any, was printed; or the script ended at it before that
abbrev pub PrintsOf : (CameTo : Result (Option OutputLine) FaultKind → Type 0) → (old new : Waiting) → (line : ℕ)
    → (before after : Option (List ℕ)) → Result (Unit {0}) ScriptFault → Type 0
PrintsOf CameTo old new line before after result =
    ((printed : Option OutputLine) × CameTo (Ok printed) × PrintsAny old new line printed before after result)
    ⊎ ((kind : FaultKind) × CameTo (Err kind) × StopsUnprinted old new line kind before after result)

-- the line of a command was printed; or memory of the script's own was refused for it
abbrev pub PrintsCame : {E : Type 0} → Result OutputLine E → (old new : Waiting) → (line : ℕ)
    → (before after : Option (List ℕ)) → Result (Unit {0}) ScriptFault → Type 0
PrintsCame (Ok printed) old new line before after result = PrintsOutput old new line printed before after result
PrintsCame (Err refused) old new line before after result = StopsUnprinted old new line OutOfMemory before after result

-- a script ended with this result, once the waiting text is written; if writing that breaks off, with the write fault
pub record RunsWaiting (Does : Doing) (old : Admin) (waiting : Waiting) (known before middle : Option (List ℕ))
    (result : Result (Unit {0}) ScriptFault) : Type 0 where
  pub whole : (after : Option (List ℕ)) → Appends middle after waiting.bytes.items
      → RunsInput Does old known before after result
  pub broken : (after : Option (List ℕ)) (fault : ScriptFault) → Breaks waiting middle after fault
      → RunsInput Does old known before after (Err fault)

-- and it left this administrator, once the waiting text is written
pub record LeavesWaiting (Does : Doing) (old new : Admin) (waiting : Waiting) (known before middle : Option (List ℕ))
    (result : Result (Unit {0}) ScriptFault) : Type 0 where
  pub whole : (after : Option (List ℕ)) → Appends middle after waiting.bytes.items
      → LeavesAdmin Does old new known before after result
  pub broken : (after : Option (List ℕ)) (fault : ScriptFault) → LeavesAdmin Does old new known before after (Err fault)
