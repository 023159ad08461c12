use Rattle.script_words.proofs.Common.{bytes_of, length, ◌≡◌}
use Rattle.script_words.proofs.EscapeLemmas.{before}
use Rattle.script_words.proofs.escapes.kept_bytes.Given as goal

-- the word stands for the bytes so far, and then for those of the rest
abbrev pub invariant-loop-byte : goal.invariant-loop-byte
invariant-loop-byte l = bytes_of l.fn.word ≡ before l.bytes.items (bytes_of l.rest)

abbrev pub decreases-loop-byte : goal.decreases-loop-byte
decreases-loop-byte l = length l.rest
