-- Fragments as ranges of hashes: from the value up to the value and the span.
use Rattle.std.proofs.Common.{◌≡◌, ℕ, ◌+◌, ◌-◌, ◌*◌, ◌/◌, ◌%◌, ◌^◌, ◌<◌, ◌≤◌, true, refl, sym, ap, subst, ◌∙◌, arith}
use Rattle.std.proofs.Math.Nat.{div-add-mod, dvd-add, dvd-mul_left, dvd-sub, mul-le-mul_right}
use Rattle.std.proofs.lemmas.Bool.Decides.{nat_tests}
use Rattle.std.proofs.lemmas.Nat.Gcd.{dvd_of_mod-eq-zero, dvd_trans, le_of_dvd}
use Rattle.std.proofs.lemmas.Nat.{pow_pos, div-mul-add}
use Rattle.std.specs.Int.{◌∣◌}
use Rattle.mds_types.specs.Frag.{Fragment, IsFragment, Contains, span}
use Rattle.mds_types.proofs.Fragments.{span-split}
use Rattle.fragtree.specs.FragTree.{lies_inside}

pub span_pos : (b : ℕ) → 0 < span b
span_pos b = pow_pos (24 - b)

-- a multiple of t that is above another is above it by t at least
next_multiple : (v m t : ℕ) → t ∣ v → t ∣ m → v < m → v + t ≤ m
next_multiple v m t p q less = let step : t ≤ m - v = le_of_dvd (omega arith) (dvd-sub t q p) in omega arith

-- the edges of a fragment are multiples of the span of more bits
edges : (f : Fragment) (c : ℕ) → IsFragment f → f.bits ≤ c → c ≤ 24 → (span c ∣ f.value) × (span c ∣ f.value + span f.bits)
edges f c h le few =
    let bits : f.bits + (c - f.bits) ≡ c = omega arith in
    let times : 2 ^ (c - f.bits) * span c ≡ span f.bits = ap (λ b. 2 ^ (c - f.bits) * span b) (sym bits) ∙ sym (span-split f.bits (c - f.bits) (omega arith)) in
    let steps : span c ∣ span f.bits = subst (λ s. span c ∣ s) times (dvd-mul_left (span c) (2 ^ (c - f.bits))) in
    let value : span c ∣ f.value = dvd_trans (span c) steps (dvd_of_mod-eq-zero (span f.bits) h.justified) in
    (value, dvd-add (span c) value steps)

-- f has no more bits than g: where g begins before f, it ends before f
pub ends_before : (f g : Fragment) → IsFragment f → IsFragment g → f.bits ≤ g.bits → g.value < f.value → g.value + span g.bits ≤ f.value
ends_before f g hf hg le less = next_multiple g.value f.value (span g.bits) (dvd_of_mod-eq-zero (span g.bits) hg.justified) (edges f g.bits hf le hg.few_bits).0 less

-- f has no more bits than g: where g begins before the end of f, it ends there at the latest
pub ends_within : (f g : Fragment) → IsFragment f → IsFragment g → f.bits ≤ g.bits → g.value < f.value + span f.bits → g.value + span g.bits ≤ f.value + span f.bits
ends_within f g hf hg le less =
    next_multiple g.value (f.value + span f.bits) (span g.bits) (dvd_of_mod-eq-zero (span g.bits) hg.justified) (edges f g.bits hf le hg.few_bits).1 less

-- a fragment ends at 2 ^ 24 at the latest
pub ends_low : (f : Fragment) → IsFragment f → f.value + span f.bits ≤ 2 ^ 24
ends_low f h = ends_within (record { bits = 0; value = 0 }) f (record { few_bits = omega arith; in_range = omega arith; justified = refl }) h (omega arith) h.in_range

-- a child ends where its parent does, or before
pub child_within : (f : Fragment) (i nb : ℕ) → f.bits + nb ≤ 24 → i < 2 ^ nb → f.value + i * span (f.bits + nb) + span (f.bits + nb) ≤ f.value + span f.bits
child_within f i nb few below =
    let steps : (i + 1) * span (f.bits + nb) ≤ 2 ^ nb * span (f.bits + nb) = mul-le-mul_right (span (f.bits + nb)) (omega arith) in
    omega (arith, steps, span-split f.bits nb few)

-- numbers with the quotient of a multiple of s are the s numbers from it on
module _ (v h s : ℕ) (some : 0 < s) (whole : v % s ≡ 0) where
  pub range_from_quotient : h / s ≡ v / s → (v ≤ h) × (h < v + s)
  range_from_quotient e =
      let same : s * (h / s) ≡ s * (v / s) = ap (λ q. s * q) e in
      (omega (arith, div-add-mod v s, div-add-mod h s), omega (arith, div-add-mod v s, div-add-mod h s))

  pub quotient_from_range : v ≤ h → h < v + s → h / s ≡ v / s
  quotient_from_range low high =
      let joined : h ≡ v / s * s + (h - v) = omega (arith, div-add-mod v s) in
      ap (λ n. n / s) joined ∙ div-mul-add (v / s) s (h - v) (omega arith)

pub range_from_Contains : (f : Fragment) (hash : ℕ) → IsFragment f → Contains f hash → (f.value ≤ hash % 2 ^ 24) × (hash % 2 ^ 24 < f.value + span f.bits)
range_from_Contains f hash h e = range_from_quotient f.value (hash % 2 ^ 24) (span f.bits) (span_pos f.bits) h.justified e

pub Contains-from_range : (f : Fragment) (hash : ℕ) → IsFragment f → f.value ≤ hash % 2 ^ 24 → hash % 2 ^ 24 < f.value + span f.bits → Contains f hash
Contains-from_range f hash h low high = quotient_from_range f.value (hash % 2 ^ 24) (span f.bits) (span_pos f.bits) h.justified low high

pub lies_inside-true : (f g : Fragment) → IsFragment f → f.bits < g.bits → f.value ≤ g.value → g.value < f.value + span f.bits → lies_inside f g ≡ true
lies_inside-true f g h more low high =
    let same = quotient_from_range f.value g.value (span f.bits) (span_pos f.bits) h.justified low high in
    grind (arith, nat_tests)

-- what lies inside has more bits, and begins inside
pub range_from_inside : (f g : Fragment) → IsFragment f → lies_inside f g ≡ true → (f.bits < g.bits) × (f.value ≤ g.value) × (g.value < f.value + span f.bits)
range_from_inside f g h e =
    let both : (f.bits < g.bits) × (g.value / span f.bits ≡ f.value / span f.bits) = (grind (arith, nat_tests), grind (arith, nat_tests)) in
    let w = range_from_quotient f.value g.value (span f.bits) (span_pos f.bits) h.justified both.1 in
    (both.0, w.0, w.1)
