-- The lines of a script's bytes.
use Rattle.std.specs.Prelude.{◌≡◌, ℕ, ◌<◌, ◌==◌, if◌then◌else◌, Bool, List, [], ◌∷◌, length, Option, Some, Result, Ok, Err}
use Rattle.std.specs.List.{onto_first}
use Rattle.script_text.specs.declared.reading.input.NextLine.{NextLine}
use Rattle.script_text.specs.declared.reading.input.NextLine.TheVariants.{Read, End}
use Rattle.script_text.specs.declared.reading.input.LineFault.{LineFault}
use Rattle.script_text.specs.declared.reading.input.LineFault.TheVariants as faults

-- the lines, without their LF: each is ended by LF or by the end of the input
unfoldable pub lines_of : List ℕ → List (List ℕ)
lines_of [] = []
lines_of (byte ∷ bytes) = if byte == 10 then [] ∷ lines_of bytes else onto_first byte (lines_of bytes)

-- the line that was read last, and whether a reader of lines has failed
pub record Buffered : Type 0 where
  pub line : List ℕ
  pub failed : Bool

-- line is the first of the lines, and the bytes left have the others
pub record IsFirstLine (bytes line : List ℕ) (left : Option (List ℕ)) : Type 0 where
  pub rest : List ℕ
  pub left_is : left ≡ Some rest
  pub lines : lines_of bytes ≡ line ∷ lines_of rest

-- the first of the lines has more bytes than a line may have
pub record IsTooLong (bytes : List ℕ) : Type 0 where
  pub line : List ℕ
  pub others : List (List ℕ)
  pub lines : lines_of bytes ≡ line ∷ others
  pub long : 16384 < length line

-- what the next line of these bytes is, and what is left; of a reader's own fault nothing is said
abbrev pub GivesLine : List ℕ → List ℕ → Option (List ℕ) → Result NextLine LineFault → Type 0
GivesLine bytes line left (Ok Read) = IsFirstLine bytes line left
GivesLine bytes line left (Ok End) = lines_of bytes ≡ []
GivesLine bytes line left (Err faults.TooLong) = IsTooLong bytes
GivesLine bytes line left (Err faults.Fault) = Unit {0}
