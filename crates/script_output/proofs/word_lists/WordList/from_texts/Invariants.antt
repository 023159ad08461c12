use Rattle.script_output.proofs.Common.{map, string_bytes, ◌≡◌}
use Rattle.script_output.proofs.word_lists.WordList.from_texts.Given as goal

-- the texts passed are in the list
abbrev pub invariant-loop-text : goal.invariant-loop-text
invariant-loop-text l = l.words.items ≡ map string_bytes l.yielded
