-- Names and targets as words: `%` and two hexadecimal digits stand for a byte.
use Rattle.std.specs.Prelude.{ℕ, ◌+◌, ◌-◌, ◌*◌, ◌&&◌, ◌==◌, nat_lt, nat_le, if◌then◌else◌, List, [], ◌∷◌, Option, Some, None}
use Rattle.script_words.specs.Numbers.{digit_of}

-- the value of a hexadecimal digit of either case, 0 to 15; 16 for a byte that is none
abbrev pub hex_digit_of : ℕ → ℕ
hex_digit_of byte = if nat_le 65 byte && nat_le byte 70 then byte - 55 else digit_of byte

-- the byte that two hexadecimal digits stand for
abbrev pub hex_byte_of : ℕ → ℕ → Option ℕ
hex_byte_of high low =
    if nat_lt (hex_digit_of high) 16
    && nat_lt (hex_digit_of low) 16 then Some (hex_digit_of high * 16 + hex_digit_of low) else None

-- a byte before the others, where there are any
abbrev pub onto : Option ℕ → Option (List ℕ) → Option (List ℕ)
onto None bytes = None
onto (Some byte) None = None
onto (Some byte) (Some bytes) = Some (byte ∷ bytes)

-- a byte that stands for itself; `%` doesn't
abbrev pub plain_byte_of : ℕ → Option ℕ
plain_byte_of byte = if byte == 37 then None else Some byte

-- the bytes that a word stands for: `%` and two hexadecimal digits for one byte, any other byte for itself; none where
-- a `%` is not followed so
unfoldable pub bytes_of : List ℕ → Option (List ℕ)
bytes_of [] = Some []
bytes_of (a ∷ []) = onto (plain_byte_of a) (Some [])
bytes_of (a ∷ b ∷ []) = onto (plain_byte_of a) (bytes_of (b ∷ []))
bytes_of (a ∷ b ∷ c ∷ word) =
    if a == 37 then onto (hex_byte_of b c) (bytes_of word) else onto (Some a) (bytes_of (b ∷ c ∷ word))
