-- What is left decides.
use Rattle.std.specs.Cmp.Lexicographic.{pointwise}
use Rattle.script_words.proofs.Common.{◌==◌, ◌≡◌, drop}
use Rattle.script_words.proofs.words.is_text.Given as goal

abbrev pub invariant-loop-i : goal.invariant-loop-i
invariant-loop-i l = pointwise ◌==◌ (drop l.i l.fn.word) (drop l.i l.fn.text) ≡ pointwise ◌==◌ l.fn.word l.fn.text
