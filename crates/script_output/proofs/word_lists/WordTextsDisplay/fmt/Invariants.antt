use Rattle.script_output.proofs.Common.{HasWritten, IsPlainFormatter, flat_map, take, spaced_word}
use Rattle.script_output.proofs.word_lists.WordTextsDisplay.fmt.Given as goal

-- the words passed are written
abbrev pub invariant-loop-word : goal.invariant-loop-word
invariant-loop-word g l =
    IsPlainFormatter l.initial.f → HasWritten g.W.Write.write_str_gives l.initial.f (flat_map spaced_word (take l.word-index l.word-items)) l.f
