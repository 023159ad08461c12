-- The words of a line of the script, and which lines say nothing.
use Rattle.std.specs.Prelude.{ℕ, Bool, true, false, not, ◌&&◌, ◌==◌, nat_le, List, [], ◌∷◌, filter}
use Rattle.std.specs.Cmp.Lexicographic.{pointwise}
use Rattle.std.specs.List.{slice_split}

-- the space between words
abbrev pub is_space : ℕ → Bool
is_space byte = byte == 32

-- any other byte
abbrev pub is_not_space : ℕ → Bool
is_not_space byte = not (byte == 32)

-- a piece between spaces counts as a word unless it is empty
abbrev pub is_word : List ℕ → Bool
is_word [] = false
is_word (byte ∷ bytes) = true

-- a word that is this text
abbrev pub is_text : List ℕ → List ℕ → Bool
is_text word text = pointwise ◌==◌ word text

-- the words of a line: the pieces between spaces that aren't empty
unfoldable pub words_of : List ℕ → List (List ℕ)
words_of line = filter is_word (slice_split is_space line)

-- the bytes that a line may have: the printable characters of ASCII and the space
abbrev pub is_printable : ℕ → Bool
is_printable byte = nat_le 32 byte && nat_le byte 126

-- a line whose first byte is `#` is a comment, whatever follows
abbrev pub is_comment : List ℕ → Bool
is_comment [] = false
is_comment (byte ∷ bytes) = byte == 35
