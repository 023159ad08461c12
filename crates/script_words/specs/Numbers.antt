-- Numbers as the script writes them.
use Rattle.std.specs.Prelude.{ℕ, ◌+◌, ◌-◌, ◌*◌, ◌^◌, Bool, true, false, not, ◌&&◌, ◌==◌, nat_lt, nat_le, if◌then◌else◌, List, [], ◌∷◌, length, fold, Option, Some, None}
use Rattle.std.specs.List.{list_all}

-- the value of a digit in lower case, 0 to 15; 16 for a byte that is none
abbrev pub digit_of : ℕ → ℕ
digit_of byte = if nat_le 48 byte && nat_le byte 57 then byte - 48 else (if nat_le 97 byte
    && nat_le byte 102 then byte - 87 else 16)

-- every byte is a digit of the base
abbrev pub are_digits : ℕ → List ℕ → Bool
are_digits base word = list_all (λ byte. nat_lt (digit_of byte) base) word

-- what digits stand for: each digit counts base times as much as the one after it
abbrev pub value_of : ℕ → List ℕ → ℕ
value_of base word = fold (λ n byte. n * base + digit_of byte) 0 word

-- at least one digit, and the first of several isn't 0
abbrev pub is_shortest : List ℕ → Bool
is_shortest [] = false
is_shortest (digit ∷ []) = true
is_shortest (digit ∷ next ∷ digits) = not (digit == 48)

-- a number of 64 bits with no leading zeros
abbrev pub number_of : ℕ → List ℕ → Option ℕ
number_of base word =
    if is_shortest word && are_digits base word
    && nat_lt (value_of base word) (2 ^ 64) then Some (value_of base word) else None

-- one to four octal digits, leading zeros allowed
abbrev pub octal_mode_of : List ℕ → Option ℕ
octal_mode_of word =
    if nat_lt 0 (length word) && nat_le (length word) 4 && are_digits 8 word then Some (value_of 8 word) else None
