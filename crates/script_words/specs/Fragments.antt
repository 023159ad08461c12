-- Fragments as the script's words name them, and the number of bits of a split.
use Rattle.std.specs.Prelude.{ℕ, ◌-◌, ◌*◌, Bool, ◌&&◌, ◌==◌, nat_le, if◌then◌else◌, List, length, take, slice_index_or, Option, Some, None, option_and_then, Result}
use Rattle.mds_types.specs.Frag.{Fragment, span}
use Rattle.script_words.specs.declared.faults.Fault.{Fault}
use Rattle.script_words.specs.Numbers.{are_digits, value_of, number_of}
use Rattle.script_words.specs.Arguments.{within}
use Rattle.script_words.specs.Reading.{wanted}

-- the word's last byte is a star
abbrev pub ends_in_star : List ℕ → Bool
ends_in_star word = slice_index_or word (length word - 1) 0 == 42

-- what stands before the last byte
abbrev pub before_last : List ℕ → List ℕ
before_last word = take (length word - 1) word

-- the fragment whose bits are these digits, at most 24: the number that they write in base two, left-justified in 24
-- bits
abbrev pub fragment_of_digits : List ℕ → Option Fragment
fragment_of_digits digits =
    if nat_le (length digits) 24 && are_digits 2 digits then Some (record {
      bits = length digits;
      value =
          value_of 2 digits * span (length digits);
    }) else None

-- FRAG: its bits, as it prints, and a star
unfoldable pub frag_of : List ℕ → Result Fragment Fault
frag_of word = wanted (if ends_in_star word then fragment_of_digits (before_last word) else None)

-- NB: decimal, 0 to 255
unfoldable pub split_bits_of : List ℕ → Result ℕ Fault
split_bits_of word = wanted (option_and_then (within 0 255) (number_of 10 word))
