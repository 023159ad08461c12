-- Fragments in fragments: why a child and a parent of a fragment are fragments.
use Rattle.std.proofs.Common.{◌≡◌, ℕ, ◌+◌, ◌-◌, ◌*◌, ◌/◌, ◌%◌, ◌^◌, ◌<◌, ◌≤◌, [], ◌∷◌, ◌++◌, map, sym, ap, subst, ◌∙◌, arith}
use Rattle.std.proofs.lemmas.Fmt.{decimal_digit}
use Rattle.std.proofs.lemmas.List.FromFn.{map-range_with_len_more}
use Rattle.std.proofs.lemmas.Nat.{pow-add, pow_pos}
use Rattle.std.proofs.Math.Nat.{div-add-mod, mul-mod_left, mul-le-mul_left, mul-le-mul_right}
use Rattle.std.specs.Fmt.{decimal}
use Rattle.std.specs.List.{range_with_len}
use Rattle.mds_types.specs.Frag.{Fragment, IsFragment, child_of, parent_of, span, digit_at}

-- the hashes of a fragment are those of 2^n fragments of n more bits
pub span-split : (b n : ℕ) → b + n ≤ 24 → span b ≡ 2 ^ n * span (b + n)
span-split b n h =
    let e : 24 - b ≡ n + (24 - (b + n)) = omega arith in
    ap (λ k. 2 ^ k) e ∙ pow-add 2 n (24 - (b + n))

-- all hashes are those of 2^b fragments of b bits
pub all-split : (b : ℕ) → b ≤ 24 → 2 ^ 24 ≡ 2 ^ b * span b
all-split b h =
    let e : 24 ≡ b + (24 - b) = omega arith in
    ap (λ k. 2 ^ k) e ∙ pow-add 2 b (24 - b)

less_unless : (a b : ℕ) → (b ≤ a → ⊥) → a < b
less_unless a b unless = omega arith

-- a multiple of k t below m k t, and less than k steps of t: still below, and a multiple of t
pub step_within : (v i k t m : ℕ) → v % (k * t) ≡ 0 → v < m * (k * t) → i < k → (v + i * t + t ≤ m * (k * t)) × ((v + i * t) % t ≡ 0)
step_within v i k t m whole below few =
    let q = v / (k * t) in
    let as_multiple : k * t * q ≡ v = omega (arith, div-add-mod v (k * t)) in
    let less : q < m = less_unless q m (λ most. omega (arith, mul-le-mul_left (k * t) most)) in
    let room : (k * t) * (q + 1) ≤ (k * t) * m = mul-le-mul_left (k * t) (omega arith) in
    let steps : (i + 1) * t ≤ k * t = mul-le-mul_right t (omega arith) in
    let joined : v + i * t ≡ (k * q + i) * t = omega arith in
    (omega arith, ap (λ n. n % t) joined ∙ mul-mod_left (k * q + i) t)

-- a multiple of t is one of any k that t is a multiple of
pub whole_below : (v k t : ℕ) → (v - v % (k * t)) % t ≡ 0
whole_below v k t =
    let q = v / (k * t) in
    let joined : v - v % (k * t) ≡ (k * q) * t = omega (arith, div-add-mod v (k * t)) in
    ap (λ n. n % t) joined ∙ mul-mod_left (k * q) t

-- what is below all hashes and steps within the fragment
pub child-bounds : (f : Fragment) (i nb : ℕ) → IsFragment f → f.bits + nb ≤ 24 → i < 2 ^ nb
    → (f.value + i * span (f.bits + nb) + span (f.bits + nb) ≤ 2 ^ 24) × ((f.value + i * span (f.bits + nb)) % span (f.bits + nb) ≡ 0)
child-bounds f i nb h few below =
    let t = span (f.bits + nb) in
    let s : span f.bits ≡ 2 ^ nb * t = span-split f.bits nb few in
    let all : 2 ^ 24 ≡ 2 ^ f.bits * (2 ^ nb * t) = all-split f.bits h.few_bits ∙ ap (λ n. 2 ^ f.bits * n) s in
    let w = step_within f.value i (2 ^ nb) t (2 ^ f.bits) (ap (λ n. f.value % n) (sym s) ∙ h.justified) (subst (λ n. f.value < n) all h.in_range) below in
    (subst (λ n. f.value + i * t + t ≤ n) (sym all) w.0, w.1)

pub child_is_fragment : (f : Fragment) (i nb : ℕ) → IsFragment f → f.bits + nb ≤ 24 → i < 2 ^ nb → IsFragment (child_of f i nb)
child_is_fragment f i nb h few below =
    let w = child-bounds f i nb h few below in
    record { few_bits = few; in_range = omega (arith, w.0, pow_pos (24 - (f.bits + nb))); justified = w.1 }

pub parent_is_fragment : (f : Fragment) → IsFragment f → 0 < f.bits → IsFragment (parent_of f)
parent_is_fragment f h some =
    let s = span (f.bits - 1) in
    record {
      few_bits = omega (arith, h.few_bits);
      in_range = omega (arith, h.in_range);
      justified = ap (λ n. (f.value - f.value % n) % s) (omega arith) ∙ whole_below f.value 1 s;
    }

-- one digit more of a fragment's text
pub digits_more : (f : Fragment) (k s : ℕ) → s ≡ span (k + 1) → map (digit_at f) (range_with_len 0 k) ++ decimal (f.value / s % 2) ≡ map (digit_at f) (range_with_len 0 (k + 1))
digits_more f k s size =
    let bound : f.value / s % 2 < 10 = omega arith in
    let same : 48 + f.value / s % 2 ≡ digit_at f k = ap (λ m. 48 + f.value / m % 2) size in
    ap (λ ds. map (digit_at f) (range_with_len 0 k) ++ ds) (decimal_digit (f.value / s % 2) bound ∙ ap (λ d. d ∷ []) same)
    ∙ sym (map-range_with_len_more (digit_at f) 0 k k (omega arith))
