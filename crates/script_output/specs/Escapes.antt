-- Names, targets and keys as they are printed: `%` and two hexadecimal digits for a byte that isn't visible.
use Rattle.std.specs.Prelude.{ℕ, ◌/◌, ◌%◌, Bool, false, not, ◌&&◌, ◌==◌, nat_le, if◌then◌else◌, List, [], ◌∷◌}
use Rattle.std.specs.List.{flat_map}
use Rattle.std.specs.Fmt.{digit_glyph}

-- a byte that prints as it is: visible ASCII, but not `%`
abbrev pub prints_plain : ℕ → Bool
prints_plain byte = nat_le 33 byte && nat_le byte 126 && not (byte == 37)

-- what a byte prints: itself, or `%` and two hexadecimal digits in lower case
abbrev pub escaped_byte : ℕ → List ℕ
escaped_byte byte =
    if prints_plain byte then byte ∷ [] else 37 ∷ digit_glyph false (byte / 16) ∷ digit_glyph false (byte % 16) ∷ []

-- what a name, a target or a key prints
abbrev pub escaped : List ℕ → List ℕ
escaped bytes = flat_map escaped_byte bytes
