-- The digits that a fragment prints are its bits.
use Rattle.script_output.proofs.Common.{Fragment, IsFragment, List, None, Ok, Some, [], add-one, ap, are_digits, arith, before_last, cond, digit_at, digit_of, div-add-mod, div-div-eq-div-mul, div-eq_of_lt, ends_in_star, fragment_of_digits, fragment_text, get_or-append_seam, le-leb, length, length-map-range_with_len, map, map-range_with_len_more, mod-lt, nat_tests, pow-suc, range_with_len, refl, span, suc, sym, take-append_seam, true, value_of, wanted, zero, ℕ, ◌%◌, ◌*◌, ◌++◌, ◌+◌, ◌-◌, ◌/◌, ◌<◌, ◌==◌, ◌^◌, ◌∙◌, ◌∷◌, ◌≡◌, ◌≤◌}
use Rattle.std.proofs.lemmas.List.{length-append}
use Rattle.script_words.specs.Fragments.{frag_of}
use Rattle.script_output.proofs.PrintedNumbers.{are_digits-append, value_of-append}

-- the digits of the first k bits
abbrev first_digits : Fragment → ℕ → List ℕ
first_digits f k = map (digit_at f) (range_with_len 0 k)

-- a bit that is printed is read as itself
bit_read : (b : ℕ) → b < 2 → digit_of (48 + b) ≡ b
bit_read b small = grind (arith, nat_tests)

-- one bit more halves the span
span_halved : (k : ℕ) → k < 24 → span k ≡ span (k + 1) * 2
span_halved k few =
    let e : 24 - k ≡ suc (24 - (k + 1)) = omega arith in
    ap (λ n. 2 ^ n) e ∙ pow-suc 2 (24 - (k + 1))

-- the first k digits stand for the first k bits of the value
digits_read : (f : Fragment) → IsFragment f → (k : ℕ) → k ≤ 24 → (are_digits 2 (first_digits f k) ≡ true) × (value_of 2 (first_digits f k) ≡ f.value / span k)
digits_read f h zero few = (refl, sym (div-eq_of_lt h.in_range))
digits_read f h (suc k) few =
    let before = digits_read f h k (omega arith) in
    let s = span (k + 1) in
    let bit : f.value / s % 2 < 2 = mod-lt (f.value / s) (omega arith) in
    let read : digit_of (digit_at f k) ≡ f.value / s % 2 = bit_read (f.value / s % 2) bit in
    let small : digit_of (digit_at f k) < 2 = omega arith in
    let halved : f.value / span k ≡ f.value / s / 2 = ap (λ n. f.value / n) (span_halved k (omega arith)) ∙ sym (div-div-eq-div-mul f.value s 2) in
    let more : first_digits f (k + 1) ≡ first_digits f k ++ digit_at f k ∷ [] = map-range_with_len_more (digit_at f) 0 k k (omega arith) in
    let value : value_of 2 (first_digits f (k + 1)) ≡ f.value / s = ap (value_of 2) more ∙ value_of-append 2 0 (digit_at f k) (first_digits f k) ∙ rw (before.1, read) (omega arith) in
    let next : k + 1 ≡ suc k = add-one k in (
      ap (λ n. are_digits 2 (first_digits f n)) (sym next) ∙ ap (are_digits 2) more ∙ are_digits-append 2 (digit_at f k) (first_digits f k) before.0 small,
      ap (λ n. value_of 2 (first_digits f n)) (sym next) ∙ value ∙ ap (λ n. f.value / span n) next,
    )

-- a fragment of the same bits and value is the same
same_fragment : (f : Fragment) (bits value : ℕ) → bits ≡ f.bits → value ≡ f.value → record { bits = bits; value = value } ≡ f
same_fragment f bits value p q = λ i. record { bits = p i; value = q i }

-- the digits that a fragment prints are read as it
digits_found : (f : Fragment) → IsFragment f → fragment_of_digits (first_digits f f.bits) ≡ Some f
digits_found f h =
    let digits = first_digits f f.bits in
    let count : length digits ≡ f.bits = length-map-range_with_len (digit_at f) 0 f.bits in
    let read = digits_read f h f.bits h.few_bits in
    let s = span f.bits in
    let whole : s * (f.value / s) + f.value % s ≡ f.value = div-add-mod f.value s in
    let value : f.value / s * s ≡ f.value = omega (arith, h.justified) in
    let few : length digits ≤ 24 = omega (arith, h.few_bits) in
    rw (le-leb (length digits) 24 few, read.0) (ap Some (same_fragment f (length digits) (value_of 2 digits * span (length digits)) count (rw (count, read.1) value)))

-- a text before a star
starred : (digits : List ℕ) → (ends_in_star (digits ++ 42 ∷ []) ≡ true) × (before_last (digits ++ 42 ∷ []) ≡ digits)
starred digits =
    let text = digits ++ 42 ∷ [] in
    let last : length text - 1 ≡ length digits = omega (arith, length-append digits (42 ∷ [])) in
    (rw last (ap (λ byte. byte == 42) (get_or-append_seam digits 42 [] 0)), rw last (take-append_seam digits (42 ∷ [])))

-- what a fragment prints is read as it
pub frag_of-printed : (f : Fragment) → IsFragment f → frag_of (fragment_text f) ≡ Ok f
unfolding frag_of
frag_of-printed f h =
    let star = starred (first_digits f f.bits) in
    ap (λ b. wanted (cond b (fragment_of_digits (before_last (fragment_text f))) None)) star.0
    ∙ ap (λ digits. wanted (fragment_of_digits digits)) star.1
    ∙ ap wanted (digits_found f h)
