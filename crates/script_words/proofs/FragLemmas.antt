-- Digits in base two, as the bits of a fragment.
use Rattle.script_words.proofs.Common.{Bool, false, refl, Fragment, IsFragment, List, None, Option, Some, SomeIff, [], ap, are_digits, arith, digit_of, fragment_of_digits, le-leb, length, mul-le-mul_right, mul-lt-mul_of_pos_right, mul-mod_left, pow-add, pow-le-pow_right, pow-suc, pow_pos, span, subst, sym, true, value_of, ℕ, ◌*◌, ◌+◌, ◌-◌, ◌<◌, ◌^◌, ◌∙◌, ◌∷◌, ◌≡◌, ◌≤◌}
use Rattle.script_words.proofs.NumberLemmas.{value_from, digits_below}

-- n, carried on over binary digits, stays below n + 1 carried on over as many zeros
value_from-below : (n : ℕ) (word : List ℕ) → are_digits 2 word ≡ true → value_from 2 n word < (n + 1) * 2 ^ length word
value_from-below n [] digits = omega arith
value_from-below n (byte ∷ word) digits =
    let p = digits_below 2 byte word digits in
    let rest : value_from 2 (n * 2 + digit_of byte) word < (n * 2 + digit_of byte + 1) * 2 ^ length word = value_from-below (n * 2 + digit_of byte) word p.1 in
    let most : (n * 2 + digit_of byte + 1) * 2 ^ length word ≤ ((n + 1) * 2) * 2 ^ length word = mul-le-mul_right (2 ^ length word) (omega (arith, p.0)) in
    let double : 2 ^ length (byte ∷ word) ≡ 2 ^ length word * 2 = pow-suc 2 (length word) in
    subst (λ m. value_from 2 (n * 2 + digit_of byte) word < (n + 1) * m) (sym double) (omega arith)

-- so many binary digits stand for less than as many bits can hold
pub value_of-below : (word : List ℕ) → are_digits 2 word ≡ true → value_of 2 word < 2 ^ length word
value_of-below word digits = omega (arith, value_from-below 0 word digits)

-- a number of so many bits, left-justified, has 24
pub justified-below : (number bits : ℕ) → bits ≤ 24 → number < 2 ^ bits → number * span bits < 2 ^ 24
justified-below number bits few fits =
    let sum : 24 ≡ bits + (24 - bits) = omega arith in
    let whole : 2 ^ 24 ≡ 2 ^ bits * span bits = ap (λ k. 2 ^ k) sum ∙ pow-add 2 bits (24 - bits) in
    subst (λ m. number * span bits < m) (sym whole) (mul-lt-mul_of_pos_right fits (pow_pos (24 - bits)))

-- 24 binary digits or fewer are the bits of a fragment
pub digits_are_fragment : (word : List ℕ) → length word ≤ 24 → are_digits 2 word ≡ true → IsFragment (record { bits = length word; value = value_of 2 word * span (length word) })
digits_are_fragment word few digits =
    record {
      few_bits = few;
      in_range = justified-below (value_of 2 word) (length word) few (value_of-below word digits);
      justified = mul-mod_left (value_of 2 word) (span (length word));
    }

-- 24 binary digits or fewer stand for a number of 64 bits
pub value_of-fits : (word : List ℕ) → length word ≤ 24 → are_digits 2 word ≡ true → value_of 2 word < 2 ^ 64
value_of-fits word few digits =
    let below : value_of 2 word < 2 ^ length word = value_of-below word digits in
    let most : 2 ^ length word ≤ 2 ^ 24 = pow-le-pow_right (omega arith) few in
    omega arith

-- what is made of the digits is their fragment
pub fragment_found : (word : List ℕ) (value : ℕ) (found : Option Fragment) → length word ≤ 24 → are_digits 2 word ≡ true → value ≡ value_of 2 word * span (length word)
    → SomeIff found (IsFragment (record { bits = length word; value = value })) (record { bits = length word; value = value }) → found ≡ fragment_of_digits word
fragment_found word value None few digits same given =
    absurd (given (subst (λ v. IsFragment (record { bits = length word; value = v })) (sym same) (digits_are_fragment word few digits)))
fragment_found word value (Some frag) few digits same given =
    rw (le-leb (length word) 24 few, digits) (ap Some given.1 ∙ ap (λ v. Some (record { bits = length word; value = v })) same)

-- what stands for no number isn't made of such digits
pub none_found : (word : List ℕ) → length word ≤ 24 → ((are_digits 2 word ≡ true) × (value_of 2 word < 2 ^ 64) → ⊥) → None ≡ fragment_of_digits word
none_found word few none = go (are_digits 2 word) refl
  where
    go : (b : Bool) → are_digits 2 word ≡ b → None ≡ fragment_of_digits word
    go true digits = absurd (none (digits, value_of-fits word few digits))
    go false digits = rw (le-leb (length word) 24 few, digits) refl
