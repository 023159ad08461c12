use Rattle.script_words.proofs.Common.{are_digits, drop, value_of, ◌<◌, ◌^◌, ◌≡◌}
use Rattle.script_words.proofs.NumberLemmas.{value_from}
use Rattle.script_words.proofs.numbers.value.Given as goal

-- the number so far, carried on over the other digits, is that of the whole word, whose bytes so far are digits
abbrev pub invariant-loop-byte : goal.invariant-loop-byte
invariant-loop-byte l = record {
  fits : l.n < 2 ^ 64;
  same : value_of l.base l.word ≡ value_from l.base l.n (drop l.byte-index l.word);
  digits : are_digits l.base l.word ≡ are_digits l.base (drop l.byte-index l.word);
}
