-- Digits from the left.
use Rattle.script_words.proofs.Common.{Bool, false, refl, sym, IfSome, List, None, Option, Some, SomeIff, [], add-one, and_parts, ap, are_digits, arith, digit_of, drop, drop-cons, fold, get_or, le-leb, length, lt-ltb, ltb, ltb-true, mul-le-mul_left, octal_mode_of, true, value_of, ℕ, ◌*◌, ◌+◌, ◌<◌, ◌∙◌, ◌∷◌, ◌≡◌, ◌≢◌, ◌≤◌}

-- n, carried on over more digits
abbrev pub value_from : ℕ → ℕ → List ℕ → ℕ
value_from base n word = fold (λ n byte. n * base + digit_of byte) n word

-- more digits make a number no smaller
value_from-grows : (base n : ℕ) (word : List ℕ) → 1 ≤ base → n ≤ value_from base n word
value_from-grows base n [] some = omega arith
value_from-grows base n (byte ∷ word) some =
    let more : n * 1 ≤ n * base = mul-le-mul_left n some in
    let rest : n * base + digit_of byte ≤ value_from base (n * base + digit_of byte) word = value_from-grows base (n * base + digit_of byte) word some in
    omega arith

-- a number that doesn't fit with its next digit doesn't fit at all
pub value_from-passes : (base n i v limit : ℕ) (word : List ℕ) → 1 ≤ base → i < length word → v ≡ value_from base n (drop i word)
    → (n * base + digit_of (get_or word i 0) < limit → ⊥) → v < limit → ⊥
value_from-passes base n i v limit word some within same passes fits =
    let next : drop i word ≡ get_or word i 0 ∷ drop (i + 1) word = rw add-one (drop-cons word i 0 within) in
    let grown = value_from-grows base (n * base + digit_of (get_or word i 0)) (drop (i + 1) word) some in
    let all : v ≡ value_from base (n * base + digit_of (get_or word i 0)) (drop (i + 1) word) = same ∙ ap (value_from base n) next in
    passes (omega arith)

-- every digit is below the base
pub digits_below : (base digit : ℕ) (digits : List ℕ) → are_digits base (digit ∷ digits) ≡ true → (digit_of digit < base) × (are_digits base digits ≡ true)
digits_below base digit digits e =
    let p = and_parts (ltb (digit_of digit) base) (are_digits base digits) e in
    (ltb-true (digit_of digit) base p.0, p.1)

-- four octal digits stand for no more than a mode has
pub octal_small : (word : List ℕ) → length word ≤ 4 → are_digits 8 word ≡ true → value_of 8 word ≤ 4095
octal_small [] few digits = omega arith
octal_small (a ∷ []) few digits =
    let p = digits_below 8 a [] digits in
    omega (arith, p.0)
octal_small (a ∷ b ∷ []) few digits =
    let p = digits_below 8 a (b ∷ []) digits in
    let q = digits_below 8 b [] p.1 in
    omega (arith, p.0, q.0)
octal_small (a ∷ b ∷ c ∷ []) few digits =
    let p = digits_below 8 a (b ∷ c ∷ []) digits in
    let q = digits_below 8 b (c ∷ []) p.1 in
    let r = digits_below 8 c [] q.1 in
    omega (arith, p.0, q.0, r.0)
octal_small (a ∷ b ∷ c ∷ d ∷ []) few digits =
    let p = digits_below 8 a (b ∷ c ∷ d ∷ []) digits in
    let q = digits_below 8 b (c ∷ d ∷ []) p.1 in
    let r = digits_below 8 c (d ∷ []) q.1 in
    let s = digits_below 8 d [] r.1 in
    omega (arith, p.0, q.0, r.0, s.0)
octal_small (a ∷ b ∷ c ∷ d ∷ e ∷ word) few digits = absurd (omega arith)

-- the number that octal digits stand for is the mode's, if there are one to four
pub octal_given : (word : List ℕ) (found : Option ℕ) → length word ≢ 0 → length word ≤ 4
    → SomeIff found ((are_digits 8 word ≡ true) × (value_of 8 word < 18446744073709551616)) (value_of 8 word) → (found ≡ octal_mode_of word) × IfSome found (λ n. n ≤ 4095)
octal_given word None some few given = (go (are_digits 8 word) refl, tt)
  where
    go : (b : Bool) → are_digits 8 word ≡ b → None ≡ octal_mode_of word
    go true digits = absurd (given (digits, omega (arith, octal_small word few digits)))
    go false digits = rw (lt-ltb 0 (length word) (omega arith), le-leb (length word) 4 few, digits) refl
octal_given word (Some n) some few given =
    let small = octal_small word few given.0.0 in
    (rw (lt-ltb 0 (length word) (omega arith), le-leb (length word) 4 few, given.0.0) (ap Some given.1), omega (arith, given.1))

-- the bytes that are left decide whether all are digits
pub not_digits : (base i : ℕ) (word : List ℕ) → i < length word → base ≤ digit_of (get_or word i 0) → are_digits base word ≡ are_digits base (drop i word) → are_digits base word ≡ true → ⊥
not_digits base i word within over same digits =
    let next : drop i word ≡ get_or word i 0 ∷ drop (i + 1) word = rw add-one (drop-cons word i 0 within) in
    let p = digits_below base (get_or word i 0) (drop (i + 1) word) (ap (are_digits base) (sym next) ∙ sym same ∙ digits) in
    omega (arith, p.0)
