-- The lines of a script: how they change a book, and the text that they write.
use Rattle.std.specs.Prelude.{◌≡◌, ◌⊎◌, ℕ, ◌+◌, ◌<◌, ◌≤◌, List, [], ◌∷◌, ◌++◌, length, codes, Option, Some, IfSome, Result, Ok, Err}
use Rattle.std.specs.Io.KnownBytes.{Appends, Keeps}
use Rattle.std.specs.FinMap as map
use Rattle.cluster_core.specs.Opening.{fresh}
use Rattle.cluster_core.specs.Sound.{StandsBehind}
use Rattle.cluster_core.specs.State.{KeptState, new_caches, new_state}
use Rattle.script_text.specs.declared.commands.Command.{Command}
use Rattle.script_text.specs.declared.lines.Line.{Line}
use Rattle.script_text.specs.declared.lines.Line.TheVariants as line
use Rattle.script_output.specs.declared.lines.OutputLine.{OutputLine}
use Rattle.script_output.specs.declared.lines.OutputLine.TheVariants.{Errno}
use Rattle.script_text.specs.Input.{lines_of}
use Rattle.script_text.specs.Script.{line_of, TakesMemory}
use Rattle.script_output.specs.Lines.{output_line}
use Rattle.script_output.specs.Writing.{TakesText}
use Rattle.admin_cli.specs.Admin.{Admin, begun}
use Rattle.admin_cli.specs.declared.faults.ScriptFault.{ScriptFault}
use Rattle.admin_cli.specs.declared.faults.FaultKind.{FaultKind}
use Rattle.admin_cli.specs.declared.faults.FaultKind.TheVariants.{NotCommand, TooLong, ReadFault, WriteFault, OutOfMemory}
use Rattle.admin_cli.specs.Execute.{LacksForCommand}

-- a printed line with its LF
abbrev pub line_text : OutputLine → List ℕ
line_text line = output_line line ++ codes "\n"

-- what a command does, and the line that it prints: without options (`Executes`) or under some
abbrev pub Doing : Type 1
Doing = (old new : Admin) → Command → OutputLine → Type 0

-- what one line does, and its text. It is nothing, a command, or a line with a name outside the rules, which makes no
-- request
abbrev pub DoesLine : (Does : Doing) → (old new : Admin) → Line → List ℕ → Type 0
DoesLine Does old new line.Nothing text = (new ≡ old) × (text ≡ [])
DoesLine Does old new (line.Command command) text =
    (printed : OutputLine) × Does old new command printed × (text ≡ line_text printed)
DoesLine Does old new (line.BadWord errno) text = (new ≡ old) × (text ≡ line_text (Errno errno))
DoesLine Does old new line.NotCommand text = ⊥

-- a line of these bytes was done: it isn't too long, and it did what its bytes ask for
pub record RunsLine (Does : Doing) (old new : Admin) (bytes text : List ℕ) : Type 0 where
  pub short : length bytes ≤ 16384
  pub does : DoesLine Does old new (line_of bytes) text

-- lines were done one after the other, each on the book that the previous one left; the text is all of theirs
abbrev pub RunsLines : (Does : Doing) → (old new : Admin) → List (List ℕ) → List ℕ → Type 0
RunsLines Does old new [] text = (new ≡ old) × (text ≡ [])
RunsLines Does old new (bytes ∷ lines) text =
    (middle : Admin) × (first : List ℕ) × (rest : List ℕ) × RunsLine Does old middle bytes first
    × RunsLines Does middle new lines rest × (text ≡ first ++ rest)

-- a line was done, but only a beginning of its text was written, not all of it
pub record BreaksOff (Does : Doing) (old : Admin) (bytes front : List ℕ) : Type 0 where
  pub new : Admin
  pub text : List ℕ
  pub runs : RunsLine Does old new bytes text
  pub rest : List ℕ
  pub left : 0 < length rest
  pub whole : text ≡ front ++ rest

-- there is a first line, and this holds of it
abbrev pub OfFirst : (List ℕ → Type 0) → List (List ℕ) → Type 0
OfFirst Holds [] = ⊥
OfFirst Holds (bytes ∷ lines) = Holds bytes

-- memory of the script's own was refused for what a line asks for
abbrev pub LacksLine : (old new : Admin) → Line → Type 0
LacksLine old new line.Nothing = ⊥
LacksLine old new (line.Command command) = LacksForCommand old new command
LacksLine old new (line.BadWord errno) = ⊥
LacksLine old new line.NotCommand = ⊥

-- a line was done, and there was no memory for the text that it prints
pub record LacksText (Does : Doing) (old new : Admin) (bytes : List ℕ) : Type 0 where
  pub printed : OutputLine
  pub runs : RunsLine Does old new bytes (line_text printed)
  pub takes : TakesText printed

-- memory of the script's own was refused for a line: to read it, and then nothing changed; for what its command keeps
-- or lists; or for its text
abbrev pub LacksMemory : (Does : Doing) → (old new : Admin) → List ℕ → Type 0
LacksMemory Does old new bytes =
    (TakesMemory bytes × (new ≡ old)) ⊎ (LacksLine old new (line_of bytes) ⊎ LacksText Does old new bytes)

-- why a line that was read ends a script, and the beginning of its text that was written, which only a write fault
-- leaves. The reason is never a fault of the reader or a line that is too long
abbrev pub StopsAt : (Does : Doing) → (old new : Admin) → List ℕ → FaultKind → List ℕ → Type 0
StopsAt Does old new bytes NotCommand front = (length bytes ≤ 16384) × (line_of bytes ≡ line.NotCommand) × (front ≡ [])
StopsAt Does old new bytes TooLong front = ⊥
StopsAt Does old new bytes ReadFault front = ⊥
StopsAt Does old new bytes WriteFault front = BreaksOff Does old bytes front
StopsAt Does old new bytes OutOfMemory front = (length bytes ≤ 16384) × LacksMemory Does old new bytes × (front ≡ [])

-- why a script ends before these lines: for a reason of the first of them, being too long before all others; or the
-- reader failed
abbrev pub StopsBefore : (Does : Doing) → Admin → List (List ℕ) → FaultKind → List ℕ → Type 0
StopsBefore Does old lines NotCommand front = OfFirst (λ bytes. (new : Admin) × StopsAt Does old new bytes NotCommand front) lines
StopsBefore Does old lines TooLong front = OfFirst (λ bytes. 16384 < length bytes) lines × (front ≡ [])
StopsBefore Does old lines ReadFault front = front ≡ []
StopsBefore Does old lines WriteFault front = OfFirst (λ bytes. (new : Admin) × StopsAt Does old new bytes WriteFault front) lines
StopsBefore Does old lines OutOfMemory front =
    OfFirst (λ bytes. (new : Admin) × StopsAt Does old new bytes OutOfMemory front) lines

-- how a script ended after so many lines: Ok if none is left, otherwise a fault at the next one, counted from 1 over
-- all
abbrev pub EndsScript : (Does : Doing) → Admin → ℕ → List (List ℕ) → Result (Unit {0}) ScriptFault → List ℕ → Type 0
EndsScript Does old done left (Ok all) front = (left ≡ []) × (front ≡ [])
EndsScript Does old done left (Err fault) front = (fault.line ≡ done + 1) × StopsBefore Does old left fault.kind front

-- a script of these lines: those before its end were done. The text written is theirs, and at a write fault a beginning
-- of the next line's
pub record RunsScript (Does : Doing) (old : Admin) (lines : List (List ℕ)) (before after : Option (List ℕ))
    (result : Result (Unit {0}) ScriptFault) : Type 0 where
  pub done : List (List ℕ)
  pub left : List (List ℕ)
  pub whole : lines ≡ done ++ left
  pub new : Admin
  pub text : List ℕ
  pub runs : RunsLines Does old new done text
  pub front : List ℕ
  pub ended : EndsScript Does new (length done) left result front
  pub written : Appends before after (text ++ front)

-- a script from a reader: its lines are those of the bytes that the reader still has, where these are known
pub record RunsInput (Does : Doing) (old : Admin) (known before after : Option (List ℕ))
    (result : Result (Unit {0}) ScriptFault) : Type 0 where
  pub lines : List (List ℕ)
  pub read : IfSome known (λ bytes. lines ≡ lines_of bytes)
  pub script : RunsScript Does old lines before after result

-- a book as `format` makes it, with so many ranks, so many places in each rank's cache, and so many entries that a
-- directory may have. It is sound, with an empty tree, an empty history, and the state and caches of a new cluster: the
-- only place taken is that of the root's leaf, at rank 0. Its store reported no fault
pub record IsFormatted (ranks cache limit : ℕ) (book : KeptState) : Type 0 where
  pub opening : book.opening ≡ Some map.empty
  pub history : book.history ≡ []
  pub state : book.core.state ≡ new_state ranks limit
  pub places : book.core.caches ≡ new_caches ranks cache
  pub goes_on : StandsBehind (fresh map.empty) [] book
  pub faults : book.core.faults ≡ 0

-- a whole script over a new book, no line of which was read before
pub record RunsFormatted (Does : Doing) (ranks cache limit : ℕ) (known before after : Option (List ℕ))
    (result : Result (Unit {0}) ScriptFault) : Type 0 where
  pub book : KeptState
  pub formatted : IsFormatted ranks cache limit book
  pub runs : RunsInput Does (begun book) known before after result

-- memory for a book, or to read lines, was refused before the first line: nothing was written
pub record NeverStarts (before after : Option (List ℕ)) (result : Result (Unit {0}) ScriptFault) : Type 0 where
  pub told : result ≡ Err (record { line = 1; kind = OutOfMemory })
  pub same : Keeps before after

abbrev pub RunsNew : (Does : Doing) → (ranks cache limit : ℕ) → (known before after : Option (List ℕ)) → Result (Unit {0}) ScriptFault
    → Type 0
RunsNew Does ranks cache limit known before after result =
    RunsFormatted Does ranks cache limit known before after result ⊎ NeverStarts before after result
