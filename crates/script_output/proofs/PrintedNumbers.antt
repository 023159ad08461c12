-- Numbers are read back from their digits.
use Rattle.script_output.proofs.Common.{Bool, List, Some, [], ap, append-nil, append_assoc, are_digits, arith, cond, digit_glyph, digit_of, digits_onto, div-add-mod, div-eq_of_lt, eqb, eqb-false, eqb-true, false, fold, is_shortest, le-leb, length, length-append, lt-ltb, ltb, mod-eq_of_lt, mod-lt, mul-zero, nat_tests, ne_eqb, not, number_of, octal_mode_of, refl, subst, suc, sym, true, value_of, zero, zero-div, ℕ, ◌%◌, ◌&&◌, ◌*◌, ◌++◌, ◌+◌, ◌/◌, ◌<◌, ◌^◌, ◌∙◌, ◌∷◌, ◌≡◌, ◌≢◌, ◌≤◌}
use Rattle.mds_types.proofs.DigitLaws.{below_most, pow_once, shorter}
use Rattle.std.specs.Fmt.{digits}

-- text is how n is written in the base: digits of that value, the first of them 0 only for the number 0
record Spells (base n : ℕ) (text : List ℕ) : Type 0 where
  first : ℕ
  others : List ℕ
  parts : text ≡ first ∷ others
  digits : are_digits base text ≡ true
  value : value_of base text ≡ n
  some : 0 < n → first ≢ 48
  none : n ≡ 0 → others ≡ []
  short : (j : ℕ) → n < base ^ suc j → length text ≤ suc j

-- a digit's byte is that digit, and is 0 only for 0
glyph_value : (d : ℕ) → d < 16 → digit_of (digit_glyph false d) ≡ d
glyph_value d small = grind (arith, nat_tests)

glyph_some : (d : ℕ) → 0 < d → d < 16 → digit_glyph false d ≢ 48
glyph_some d some small = λ e. let zero : 0 ≡ d = ap digit_of (sym e) ∙ glyph_value d small in omega arith

-- one digit more
pub value_of-append : (base n digit : ℕ) (text : List ℕ)
    → fold (λ n byte. n * base + digit_of byte) n (text ++ digit ∷ []) ≡ fold (λ n byte. n * base + digit_of byte) n text * base + digit_of digit
value_of-append base n digit [] = refl
value_of-append base n digit (byte ∷ text) = value_of-append base (n * base + digit_of byte) digit text

pub are_digits-append : (base digit : ℕ) (text : List ℕ) → are_digits base text ≡ true → digit_of digit < base → are_digits base (text ++ digit ∷ []) ≡ true
are_digits-append base digit [] e small = rw (lt-ltb (digit_of digit) base small) refl
are_digits-append base digit (byte ∷ text) e small = at (ltb (digit_of byte) base) e (are_digits-append base digit text)
  where
    at : (b : Bool) → (b && are_digits base text) ≡ true → (are_digits base text ≡ true → digit_of digit < base → are_digits base (text ++ digit ∷ []) ≡ true)
        → (b && are_digits base (text ++ digit ∷ [])) ≡ true
    at true e more = more e small
    at false e more = cc

-- a number of one digit
spells_one : (base n : ℕ) → base ≤ 16 → n < base → Spells base n (digit_glyph false n ∷ [])
spells_one base n high fits =
    let value = glyph_value n (omega arith) in
    record {
      first = digit_glyph false n;
      others = [];
      parts = refl;
      digits = rw value (rw (lt-ltb n base fits) refl);
      value = rw value (omega arith);
      some = λ some. glyph_some n some (omega arith);
      none = λ _. refl;
      short = λ j fits. omega arith;
    }

-- a number of one digit more
spells_more : (base n : ℕ) (text : List ℕ) → 2 ≤ base → base ≤ 16 → n / base ≢ 0 → Spells base (n / base) text → Spells base n (text ++ digit_glyph false (n % base) ∷ [])
spells_more base n text low high more front =
    let d = n % base in
    let small : d < base = mod-lt n (omega arith) in
    let value = glyph_value d (omega arith) in
    let whole : base * (n / base) + d ≡ n = div-add-mod n base in
    record {
      first = front.first;
      others = front.others ++ digit_glyph false d ∷ [];
      parts = ap (λ l. l ++ digit_glyph false d ∷ []) front.parts;
      digits = are_digits-append base (digit_glyph false d) text front.digits (rw value small);
      value = value_of-append base 0 (digit_glyph false d) text ∙ rw (front.value, value) (omega arith);
      some = λ _. front.some (omega arith);
      none = λ zero. absurd (more (ap (λ m. m / base) zero ∙ zero-div base));
      short = at front.short;
    }
  where
    at : ((j : ℕ) → n / base < base ^ suc j → length text ≤ suc j) → (j : ℕ) → n < base ^ suc j → length (text ++ digit_glyph false (n % base) ∷ []) ≤ suc j
    at before zero fits = absurd (more (div-eq_of_lt (subst (λ m. n < m) (pow_once base) fits)))
    at before (suc j) fits = omega (arith, before j (shorter base n j low fits), length-append text (digit_glyph false (n % base) ∷ []))

-- the digits that are put before a text are a number's
spelled : (base : ℕ) → 2 ≤ base → base ≤ 16 → (k n : ℕ) (rest : List ℕ) → n < base ^ suc k → (text : List ℕ) × Spells base n text × (digits_onto (suc k) base false n rest ≡ text ++ rest)
spelled base low high zero n rest fits =
    let small : n < base = subst (λ m. n < m) (pow_once base) fits in
    let none : n / base ≡ 0 = div-eq_of_lt small in
    let same : n % base ≡ n = mod-eq_of_lt small in
    (digit_glyph false n ∷ [], spells_one base n high small, rw (none, same) refl)
spelled base low high (suc k) n rest fits =
    at (eqb (n / base) 0) refl (λ less. spelled base low high k (n / base) (digit_glyph false (n % base) ∷ rest) less)
  where
    at : (b : Bool) → eqb (n / base) 0 ≡ b
        → (n / base < base ^ suc k → (text : List ℕ) × Spells base (n / base) text × (digits_onto (suc k) base false (n / base) (digit_glyph false (n % base) ∷ rest) ≡ text ++ digit_glyph false (n % base) ∷ rest))
        → (text : List ℕ) × Spells base n text
        × (cond b (digit_glyph false (n % base) ∷ rest) (digits_onto (suc k) base false (n / base) (digit_glyph false (n % base) ∷ rest)) ≡ text ++ rest)
    at true e more =
        let none : n / base ≡ 0 = eqb-true (n / base) 0 e in
        let whole : base * (n / base) + n % base ≡ n = div-add-mod n base in
        let gone : base * (n / base) ≡ 0 = ap (λ q. base * q) none ∙ mul-zero base in
        let same : n % base ≡ n = omega arith in
        let small : n % base < base = mod-lt n (omega arith) in
        (digit_glyph false n ∷ [], spells_one base n high (omega arith), ap (λ d. digit_glyph false d ∷ rest) same)
    at false e more =
        let front = more (shorter base n k low fits) in (
          front.0 ++ digit_glyph false (n % base) ∷ [],
          spells_more base n front.0 low high (eqb-false (n / base) 0 e) front.1,
          front.2 ∙ sym (append_assoc front.0 (digit_glyph false (n % base) ∷ []) rest),
        )

-- the digits of a number below the most that can be written
digits_of : (base n : ℕ) → 2 ≤ base → base ≤ 16 → n < base ^ 64 → Spells base n (digits base false n)
unfolding digits
digits_of base n low high fits =
    let all = spelled base low high 63 n [] fits in
    subst (Spells base n) (sym (all.2 ∙ append-nil all.0)) all.1

-- no number but 0 begins with 0
spelled_shortest : (base n : ℕ) (text : List ℕ) → Spells base n text → is_shortest text ≡ true
spelled_shortest base n text h = ap is_shortest h.parts ∙ at h.others h.none
  where
    at : (others : List ℕ) → (n ≡ 0 → others ≡ []) → is_shortest (h.first ∷ others) ≡ true
    at [] none = refl
    at (next ∷ others) none =
        let not_zero : n ≢ 0 = λ zero. let e : next ∷ others ≡ [] = none zero in cc in
        ap not (ne_eqb h.first 48 (h.some (omega arith)))

-- a number without leading zeros
pub number_of-digits : (base n : ℕ) → 2 ≤ base → base ≤ 16 → n < 2 ^ 64 → number_of base (digits base false n) ≡ Some n
number_of-digits base n low high fits =
    let h = digits_of base n low high (below_most base n low fits) in
    rw (spelled_shortest base n (digits base false n) h, h.digits) (rw h.value (rw (lt-ltb n 18446744073709551616 fits) refl))

-- a mode
pub octal_mode_of-digits : (n : ℕ) → n ≤ 4095 → octal_mode_of (digits 8 false n) ≡ Some n
octal_mode_of-digits n fits =
    let text = digits 8 false n in
    let h = digits_of 8 n (omega arith) (omega arith) (below_most 8 n (omega arith) (omega arith)) in
    let few : length text ≤ 4 = h.short 3 (omega arith) in
    let some : 0 < length text = omega (arith, ap length h.parts) in
    rw (lt-ltb 0 (length text) some, le-leb (length text) 4 few, h.digits) (rw h.value refl)
