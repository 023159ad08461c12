-- Digits that are written from the last to the first.
use Rattle.std.proofs.Common.{Bool, List, [], ap, append_assoc, arith, cond, drop, eq-eqb, eqb, false, length, length-append, length-drop, length-set, mod-lt, ne_eqb, refl, set, subst, suc, sym, take, true, zero, ℕ, ◌%◌, ◌*◌, ◌++◌, ◌+◌, ◌-◌, ◌/◌, ◌<◌, ◌^◌, ◌∙◌, ◌∷◌, ◌≡◌, ◌≤◌}
use Rattle.std.proofs.Math.Nat.{div-add-mod, div-eq_of_lt, div-lt_iff_lt-mul, mod-eq_of_lt, mul-zero, one-mul, pow-le-pow_left, pow-suc, pow-zero}
use Rattle.std.proofs.lemmas.Bool.{eqb-false}
use Rattle.std.proofs.lemmas.List.{drop-set, take-set-le, take-take}
use Rattle.std.specs.Fmt.{digit_glyph, digits, digits_onto}

-- ---- powers

-- a first power
pub pow_once : (base : ℕ) → base ^ 1 ≡ base
pow_once base = pow-suc base 0 ∙ ap (λ m. m * base) (pow-zero base) ∙ one-mul base

-- what is below one power more is below that power after a division
pub shorter : (base n j : ℕ) → 2 ≤ base → n < base ^ suc (suc j) → n / base < base ^ suc j
shorter base n j low fits = (div-lt_iff_lt-mul (omega arith)).1 (subst (λ m. n < m) (pow-suc base (suc j)) fits)

-- a number of 64 bits is below the most that can be written
pub below_most : (base n : ℕ) → 2 ≤ base → n < 2 ^ 64 → n < base ^ 64
below_most base n low fits =
    let most : 2 ^ 64 ≤ base ^ 64 = pow-le-pow_left low 64 in
    omega arith

-- ---- digits

-- digits by one step: what ends them is that none is left
by_step : (base n : ℕ) (text : List ℕ) (k : ℕ) (t : Bool) → eqb (n / base) 0 ≡ t
    → digits_onto (suc k) base false n text ≡ cond t (digit_glyph false (n % base) ∷ text) (digits_onto k base false (n / base) (digit_glyph false (n % base) ∷ text))
by_step base n text k t = ap (λ b. cond b (digit_glyph false (n % base) ∷ text) (digits_onto k base false (n / base) (digit_glyph false (n % base) ∷ text)))

-- digits that are put before others are those put before none, and then the others
onto_append : (k base n : ℕ) (acc : List ℕ) → digits_onto k base false n acc ≡ digits_onto k base false n [] ++ acc
onto_append zero base n acc = refl
onto_append (suc k) base n acc =
    let g = digit_glyph false (n % base) in
    at (eqb (n / base) 0) (onto_append k base (n / base) (g ∷ acc) ∙ sym (ap (λ l. l ++ acc) (onto_append k base (n / base) (g ∷ [])) ∙ append_assoc (digits_onto k base false (n / base) []) (g ∷ []) acc))
  where
    at : (b : Bool) → digits_onto k base false (n / base) (digit_glyph false (n % base) ∷ acc) ≡ digits_onto k base false (n / base) (digit_glyph false (n % base) ∷ []) ++ acc
        → cond b (digit_glyph false (n % base) ∷ acc) (digits_onto k base false (n / base) (digit_glyph false (n % base) ∷ acc))
        ≡ cond b (digit_glyph false (n % base) ∷ []) (digits_onto k base false (n / base) (digit_glyph false (n % base) ∷ [])) ++ acc
    at true e = refl
    at false e = e

-- something is put before them
onto_longer : (k base n : ℕ) (acc : List ℕ) → length acc < length (digits_onto (suc k) base false n acc)
onto_longer zero base n acc = at (eqb (n / base) 0)
  where
    at : (b : Bool) → length acc < length (cond b (digit_glyph false (n % base) ∷ acc) (digit_glyph false (n % base) ∷ acc))
    at true = omega arith
    at false = omega arith
onto_longer (suc k) base n acc =
    let more = onto_longer k base (n / base) (digit_glyph false (n % base) ∷ acc) in
    at (eqb (n / base) 0) (omega (arith, more))
  where
    at : (b : Bool) → length acc < length (digits_onto (suc k) base false (n / base) (digit_glyph false (n % base) ∷ acc))
        → length acc < length (cond b (digit_glyph false (n % base) ∷ acc) (digits_onto (suc k) base false (n / base) (digit_glyph false (n % base) ∷ acc)))
    at true more = omega arith
    at false more = more

-- so many digits are put before others at most
few_onto : (base : ℕ) → 2 ≤ base → (k j n : ℕ) (acc : List ℕ) → n < base ^ suc j → length (digits_onto k base false n acc) ≤ suc j + length acc
few_onto base low zero j n acc fits = omega arith
few_onto base low (suc k) j n acc fits = at (eqb (n / base) 0) refl (few j fits (λ i less. few_onto base low k i (n / base) (digit_glyph false (n % base) ∷ acc) less))
  where
    few : (j : ℕ) → n < base ^ suc j → ((i : ℕ) → n / base < base ^ suc i → length (digits_onto k base false (n / base) (digit_glyph false (n % base) ∷ acc)) ≤ suc i + suc (length acc))
        → eqb (n / base) 0 ≡ false → length (digits_onto k base false (n / base) (digit_glyph false (n % base) ∷ acc)) ≤ suc j + length acc
    few zero fits less more = absurd (eqb-false (n / base) 0 more (div-eq_of_lt (subst (λ m. n < m) (pow_once base) fits)))
    few (suc j) fits less more = omega (arith, less j (shorter base n j low fits))

    at : (b : Bool) → eqb (n / base) 0 ≡ b → (eqb (n / base) 0 ≡ false → length (digits_onto k base false (n / base) (digit_glyph false (n % base) ∷ acc)) ≤ suc j + length acc)
        → length (cond b (digit_glyph false (n % base) ∷ acc) (digits_onto k base false (n / base) (digit_glyph false (n % base) ∷ acc))) ≤ suc j + length acc
    at true e more = omega arith
    at false e more = more e

-- a number below a power of the base has no more digits than that
pub few_digits : (base n most : ℕ) → 2 ≤ base → n < base ^ suc most → length (digits base false n) ≤ suc most
unfolding digits
few_digits base n most low fits = omega (arith, few_onto base low 64 most n [] fits)

-- all is what stands so far, with the digits of what is left before it
pub record IsWriting (base : ℕ) (all : List ℕ) (left : ℕ) (text : List ℕ) : Type 0 where
  pub more : ℕ
  pub fits : left < base ^ suc more
  pub same : digits_onto (suc more) base false left text ≡ all

-- nothing of a number is written
pub begin : (base n : ℕ) (rest : List ℕ) → 2 ≤ base → n < 2 ^ 64 → IsWriting base (digits base false n ++ rest) n rest
unfolding digits
begin base n rest low fits = record { more = 63; fits = below_most base n low fits; same = onto_append 64 base n rest }

-- there is room for one digit more
pub room : (base left : ℕ) (all text : List ℕ) → IsWriting base all left text → length text < length all
room base left all text w = subst (λ l. length text < length l) w.same (onto_longer w.more base left text)

-- the last digit of what is left is written
pub go_on : (base left : ℕ) (all text : List ℕ) → 2 ≤ base → base ≤ left → IsWriting base all left text → IsWriting base all (left / base) (digit_glyph false (left % base) ∷ text)
go_on base left all text low more w = at w.more w.fits w.same
  where
    not_zero : left / base ≡ 0 → ⊥
    not_zero e =
        let whole : base * (left / base) + left % base ≡ left = div-add-mod left base in
        let none : base * (left / base) ≡ 0 = ap (λ q. base * q) e ∙ mul-zero base in
        let small : left % base < base = mod-lt left (omega arith) in
        omega arith

    at : (k : ℕ) → left < base ^ suc k → digits_onto (suc k) base false left text ≡ all → IsWriting base all (left / base) (digit_glyph false (left % base) ∷ text)
    at zero fits same = let few : left < base = subst (λ m. left < m) (pow_once base) fits in absurd (omega arith)
    at (suc k) fits same = record {
      more = k;
      fits = shorter base left k low fits;
      same = sym (by_step base left text (suc k) false (ne_eqb _ 0 not_zero)) ∙ same;
    }

-- one digit is left
pub finish : (base left : ℕ) (all text : List ℕ) → left < base → IsWriting base all left text → digit_glyph false left ∷ text ≡ all
finish base left all text few w =
    ap (λ d. digit_glyph false d ∷ text) (sym (mod-eq_of_lt few)) ∙ sym (by_step base left text w.more true (eq-eqb _ 0 (div-eq_of_lt few))) ∙ w.same

-- one byte is put before those that stand from a place on
pub put_before : (bytes : List ℕ) (at byte : ℕ) → 1 ≤ at → at ≤ length bytes → drop (at - 1) (set bytes (at - 1) byte) ≡ byte ∷ drop at bytes
put_before bytes at byte some within = drop-set bytes (at - 1) byte (omega arith) ∙ ap (λ i. byte ∷ drop i bytes) (let e : at - 1 + 1 ≡ at = omega arith in e)

-- a byte that is put before those from a place on changes none before it
pub kept : (bytes old : List ℕ) (at byte : ℕ) → take at bytes ≡ take at old → take (at - 1) (set bytes (at - 1) byte) ≡ take (at - 1) old
kept bytes old at byte same =
    let le : at - 1 ≤ at = omega arith in
    take-set-le (at - 1) bytes (at - 1) byte (omega arith) ∙ sym (take-take (at - 1) at bytes le) ∙ ap (take (at - 1)) same ∙ take-take (at - 1) at old le

module _ (base left at end : ℕ) (text old now : List ℕ) (fits : length text ≤ end) (within : end ≤ length old) (before : at ≤ end) (len : length now ≡ length old) (w : IsWriting base (text ++ drop end old) left (drop at now)) where
  -- the place isn't the first
  pub has_room : 1 ≤ at
  has_room = omega (arith, room base left (text ++ drop end old) (drop at now) w, length-drop at now, length-append text (drop end old), length-drop end old)

  -- the last digit stands there
  pub ended : (byte : ℕ) → left < base → byte ≡ digit_glyph false left → drop (at - 1) (set now (at - 1) byte) ≡ text ++ drop end old
  ended byte few is =
      put_before now at byte has_room (omega (arith, before, within, len))
      ∙ ap (λ b. b ∷ drop at now) is ∙ finish base left (text ++ drop end old) (drop at now) few w

  -- the digits begin where the last was put
  pub begins : (byte : ℕ) → left < base → byte ≡ digit_glyph false left → at - 1 + length text ≡ end
  begins byte few is =
      omega (arith, has_room, ap length (ended byte few is), length-drop (at - 1) (set now (at - 1) byte), length-set now (at - 1) byte, length-append text (drop end old), length-drop end old)
