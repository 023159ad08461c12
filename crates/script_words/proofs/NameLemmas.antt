-- Which bytes are a name, as a test.
use Rattle.script_words.proofs.Common.{BadWord, Bool, Err, IsName, List, Ok, ap, false, fits_name, is_dots, is_plain_name, le-ltb, length, list_all, lt-ltb, ltb, ltb-true, not, refl, sym, true, ℕ, ◌&&◌, ◌<◌, ◌≡◌, ◌≤◌}
use Rattle.script_words.specs.Arguments.{name_of}

-- three tests in a row, the last negated
parts : (a b c : Bool) → (a && b && not c) ≡ true → (a ≡ true) × (b ≡ true) × (c ≡ false)
parts true true true e = cc
parts true true false e = (refl, refl, refl)
parts true false c e = cc
parts false b c e = cc

-- a name passes the test
is_name : (bytes : List ℕ) → IsName bytes → is_plain_name bytes ≡ true
is_name bytes h = rw (lt-ltb 0 (length bytes) h.some, h.plain, h.no_dots) refl

-- what is short enough and no name fails the test
no_name : (bytes : List ℕ) → length bytes ≤ 255 → (IsName bytes → ⊥) → is_plain_name bytes ≡ false
no_name bytes short none = at (is_plain_name bytes) refl
  where
    at : (b : Bool) → is_plain_name bytes ≡ b → b ≡ false
    at true e =
        let p = parts (ltb 0 (length bytes)) (list_all fits_name bytes) (is_dots bytes) e in
        absurd (none (record { some = ltb-true 0 (length bytes) p.0; short = short; plain = p.1; no_dots = p.2 }))
    at false e = refl

-- a name is read as itself
pub name_of-name : (bytes name : List ℕ) → IsName bytes × (name ≡ bytes) → name_of bytes ≡ Ok name
unfolding name_of
name_of-name bytes name h = rw (le-ltb 255 (length bytes) (h.0).short) (rw (is_name bytes h.0) (ap Ok (sym h.1)))

-- what is too long
pub name_of-long : (bytes : List ℕ) → 255 < length bytes → name_of bytes ≡ Err (BadWord 36)
unfolding name_of
name_of-long bytes long = rw (lt-ltb 255 (length bytes) long) refl

-- what is no name for another reason
pub name_of-invalid : (bytes : List ℕ) → (length bytes ≤ 255) × (IsName bytes → ⊥) → name_of bytes ≡ Err (BadWord 22)
unfolding name_of
name_of-invalid bytes h = rw (le-ltb 255 (length bytes) h.0) (rw (no_name bytes h.0 h.1) refl)
