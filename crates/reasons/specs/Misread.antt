-- Whether something is wrong with a line.
use Rattle.std.specs.Prelude.{Bool, true, false}
use Rattle.reasons.specs.declared.misreadings.Wrong.{Wrong}
use Rattle.reasons.specs.declared.misreadings.Wrong.TheVariants.{Nothing, Byte, Word, Missing, Extra}

-- a byte or a word is told that keeps the line from being a command
abbrev pub tells_one : Wrong → Bool
tells_one Nothing = false
tells_one (Byte byte column) = true
tells_one (Word word kind) = true
tells_one (Missing word kind) = true
tells_one (Extra word) = true
