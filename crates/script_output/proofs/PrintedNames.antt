-- What is printed of a name or a target is read as its bytes.
use Rattle.script_output.proofs.Common.{All, All-head, All-tail, Bool, List, Some, [], ap, arith, bytes_of-escape, bytes_of-plain, cond, digit_glyph, eq-eqb, eqb, escaped, false, hex_byte_of, hex_digit_of, leb, lt-ltb, nat_tests, not, onto, prints_plain, refl, true, ℕ, ◌%◌, ◌&&◌, ◌++◌, ◌/◌, ◌<◌, ◌∙◌, ◌∷◌, ◌≡◌, ◌≢◌}
use Rattle.script_words.specs.Escapes.{bytes_of}

-- a digit that is printed is read as itself
glyph_read : (d : ℕ) → d < 16 → hex_digit_of (digit_glyph false d) ≡ d
glyph_read d small = grind (arith, nat_tests)

-- the two digits of a byte are read as that byte
escape_read : (byte : ℕ) → byte < 256 → hex_byte_of (digit_glyph false (byte / 16)) (digit_glyph false (byte % 16)) ≡ Some byte
escape_read byte small =
    let high = glyph_read (byte / 16) (omega arith) in
    let low = glyph_read (byte % 16) (omega arith) in
    rw (high, low) (rw (lt-ltb (byte / 16) 16 (omega arith), lt-ltb (byte % 16) 16 (omega arith)) (ap Some (omega arith)))

-- a byte that prints as it is is no `%`
no_percent : (byte : ℕ) → prints_plain byte ≡ true → byte ≢ 37
no_percent byte plain = λ e. at (leb 33 byte && leb byte 126) (eqb byte 37) plain (eq-eqb byte 37 e)
  where
    at : (a b : Bool) → (a && not b) ≡ true → b ≡ true → ⊥
    at true true p q = cc
    at true false p q = cc
    at false b p q = cc

-- what is printed of bytes stands for them
pub bytes_of-escaped : (bytes : List ℕ) → All (λ byte. byte < 256) bytes → bytes_of (escaped bytes) ≡ Some bytes
unfolding bytes_of
bytes_of-escaped [] small = refl
bytes_of-escaped (byte ∷ bytes) small =
    at (prints_plain byte) refl (All-head (λ byte. byte < 256) byte bytes small) (bytes_of-escaped bytes (All-tail (λ byte. byte < 256) byte bytes small))
  where
    at : (b : Bool) → prints_plain byte ≡ b → byte < 256 → bytes_of (escaped bytes) ≡ Some bytes
        → bytes_of (cond b (byte ∷ []) (37 ∷ digit_glyph false (byte / 16) ∷ digit_glyph false (byte % 16) ∷ []) ++ escaped bytes) ≡ Some (byte ∷ bytes)
    at true plain small rest =
        bytes_of-plain byte (escaped bytes) (byte ∷ escaped bytes) refl (no_percent byte plain) ∙ ap (onto (Some byte)) rest
    at false plain small rest =
        let high = digit_glyph false (byte / 16) in
        let low = digit_glyph false (byte % 16) in
        bytes_of-escape 37 high low (high ∷ low ∷ escaped bytes) (low ∷ escaped bytes) (escaped bytes) (37 ∷ high ∷ low ∷ escaped bytes) refl refl refl refl
        ∙ rw (escape_read byte small, rest) refl
