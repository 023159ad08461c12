-- One look at a reader's next bytes, many of which make a line.
use Rattle.std.specs.Prelude.{◌≡◌, ℕ, ◌+◌, ◌<◌, ◌==◌, Bool, true, not, List, [], ◌∷◌, ◌++◌, length, Option}
use Rattle.std.specs.List.{list_all}
use Rattle.std.specs.Io.KnownBytes.{Consumes, IsAtEnd}
use Rattle.script_text.specs.declared.reading.input.Shown.{Shown}
use Rattle.script_text.specs.declared.reading.input.Shown.TheVariants.{More, LineEnd, InputEnd}

-- any byte but LF
abbrev pub is_not_lf : ℕ → Bool
is_not_lf byte = not (byte == 10)

-- a part of one line
abbrev pub IsOfOneLine : List ℕ → Type 0
IsOfOneLine part = list_all is_not_lf part ≡ true

-- one look at the reader's next bytes: a part of the line moved from the known bytes to the end of the line, and an LF
-- after it, if there was one, was taken off
abbrev pub Moves : Option (List ℕ) → Option (List ℕ) → List ℕ → List ℕ → Shown → Type 0
Moves known left line longer More =
    (part : List ℕ) × IsOfOneLine part × (0 < length part) × (longer ≡ line ++ part) × Consumes known left part
Moves known left line longer LineEnd =
    (part : List ℕ) × IsOfOneLine part × (longer ≡ line ++ part) × Consumes known left (part ++ 10 ∷ [])
Moves known left line longer InputEnd = (longer ≡ line) × IsAtEnd known × Consumes known left []

-- a part of the line is at the front of the bytes, and no line has room for it
pub record Overflows (bytes line : List ℕ) : Type 0 where
  pub part : List ℕ
  pub rest : List ℕ
  pub front : bytes ≡ part ++ rest
  pub one_line : IsOfOneLine part
  pub long : 16384 < length line + length part
