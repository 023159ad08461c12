-- Numbers before a short text.
use Rattle.script_output.proofs.Common.{List, ap, arith, decimal, digits, drop, false, length, length-append, length-decimal-le, length-drop, ℕ, ◌++◌, ◌+◌, ◌<◌, ◌^◌, ◌≡◌, ◌≤◌}
use Rattle.mds_types.proofs.DigitLaws.{few_digits}

-- there is room for so many bytes before a text
pub roomy : (few start : ℕ) (bytes : List ℕ) (view : List ℕ) → length bytes ≡ 256 → start ≤ 256 → drop start bytes ≡ view → few + length view ≤ 256 → few ≤ start
roomy few start bytes view len within is room = omega (arith, length-drop start bytes, ap length is)

-- one more text stands before it
pub longer : (few : ℕ) (text rest now : List ℕ) → length text ≤ few → now ≡ text ++ rest → length now ≤ few + length rest
longer few text rest now short is = omega (arith, ap length is, length-append text rest)

pub short_decimal : (n : ℕ) → n < 2 ^ 64 → length (decimal n) ≤ 20
short_decimal n fits = length-decimal-le 20 n (omega arith) (omega arith) fits

pub short_hexadecimal : (n : ℕ) → n < 2 ^ 64 → length (digits 16 false n) ≤ 16
short_hexadecimal n fits = few_digits 16 n 15 (omega arith) (omega arith)

pub short_octal : (n : ℕ) → n ≤ 4095 → length (digits 8 false n) ≤ 4
short_octal n fits = few_digits 8 n 3 (omega arith) (omega arith)
