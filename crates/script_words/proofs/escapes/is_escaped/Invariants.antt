use Rattle.script_words.proofs.Common.{bytes_of, is_some, length, ◌≡◌}
use Rattle.script_words.proofs.escapes.is_escaped.Given as goal

-- the word stands for bytes exactly where the rest does
abbrev pub invariant-loop-after : goal.invariant-loop-after
invariant-loop-after l = is_some (bytes_of l.fn.word) ≡ is_some (bytes_of l.rest)

abbrev pub decreases-loop-after : goal.decreases-loop-after
decreases-loop-after l = length l.rest
