-- The fragments round a hash.
use Rattle.std.proofs.Common.{◌≡◌, ◌≢◌, ◌⊎◌, inl, inr, ℕ, ◌+◌, ◌-◌, ◌*◌, ◌/◌, ◌%◌, ◌^◌, ◌<◌, ◌≤◌, ap, subst, ◌∙◌, arith}
use Rattle.std.proofs.Math.Nat.{div-add-mod, mul-mod_left}
use Rattle.std.proofs.lemmas.Bool.{cases_lt}
use Rattle.std.proofs.lemmas.Nat.{mod_below}
use Rattle.mds_types.specs.Frag.{Fragment, IsFragment, ContainsFragment, span}
use Rattle.fragtree.specs.Descents.{frag_of_hash}
use Rattle.fragtree.proofs.Ranges.{span_pos, ends_before, ends_within, range_from_quotient, quotient_from_range}

-- a hash lies in the fragment round it
pub round_it : (b h : ℕ) → ((frag_of_hash b h).value ≤ h) × (h < (frag_of_hash b h).value + span b)
round_it b h = let below : h % span b < span b = mod_below h (span b) (span_pos b) in (omega arith, omega (arith, below))

pub frag_at-IsFragment : (b h : ℕ) → b ≤ 24 → h < 2 ^ 24 → IsFragment (frag_of_hash b h)
frag_at-IsFragment b h few low =
    let whole : h - h % span b ≡ (h / span b) * span b = omega (arith, div-add-mod h (span b)) in
    record { few_bits = few; in_range = omega (arith, low); justified = ap (λ n. n % span b) whole ∙ mul-mod_left (h / span b) (span b) }

-- a fragment is the one of its bits round each of its hashes
pub frag_at-is : (g : Fragment) (h : ℕ) → IsFragment g → g.value ≤ h → h < g.value + span g.bits → frag_of_hash g.bits h ≡ g
frag_at-is g h fragment low high =
    let s = span g.bits in
    let quotients : h / s ≡ g.value / s = quotient_from_range g.value h s (span_pos g.bits) fragment.justified low high in
    let products : s * (h / s) ≡ s * (g.value / s) = ap (λ q. s * q) quotients in
    let value : h - h % s ≡ g.value = omega (arith, div-add-mod h s, div-add-mod g.value s, fragment.justified) in
    λ i. record { bits = g.bits; value = value i }

-- round a hash of a fragment and round its first one are the same fragments of no more bits
pub frag_at-alike : (g : Fragment) (h b : ℕ) → IsFragment g → g.value ≤ h → h < g.value + span g.bits → b ≤ g.bits → frag_of_hash b h ≡ frag_of_hash b g.value
frag_at-alike g h b fragment low high few =
    let f = frag_of_hash b g.value in
    let is : IsFragment f = frag_at-IsFragment b g.value (omega (arith, fragment.few_bits)) fragment.in_range in
    let w = round_it b g.value in
    frag_at-is f h is (omega (arith, w.0)) (omega (arith, ends_within f g is fragment few w.1))

-- a hash lies in the fragment, or before it, or behind it
pub in_or_out : (g : Fragment) (h : ℕ) → ((g.value ≤ h) × (h < g.value + span g.bits)) ⊎ ((g.value ≤ h) × (h < g.value + span g.bits) → ⊥)
in_or_out g h = elim (cases_lt h g.value) [
  | inl before ↦ inr (λ w. omega (arith, w.0))
  | inr from ↦ elim (cases_lt h (g.value + span g.bits)) [ inl within ↦ inl (from, within) | inr behind ↦ inr (λ w. omega (arith, w.1)) ]
]

-- no fragment round a hash that lies outside is the fragment
pub outside : (g : Fragment) (h b : ℕ) → ((g.value ≤ h) × (h < g.value + span g.bits) → ⊥) → frag_of_hash b h ≢ g
outside g h b out same =
    let w = subst (λ (f : Fragment). (f.value ≤ h) × (h < f.value + span f.bits)) same (round_it b h) in out w

-- the fragments round a hash that lie within one of it have as many bits or more
pub within_round : (f : Fragment) (h b : ℕ) → IsFragment f → h < 2 ^ 24 → b ≤ 24 → f.value ≤ h → h < f.value + span f.bits → f.bits ≤ b → ContainsFragment f (frag_of_hash b h)
within_round f h b fragment below few low high more =
    let k = frag_of_hash b h in
    let w = round_it b h in
    let not_before : k.value < f.value → ⊥ = λ before. omega (arith, ends_before f k fragment (frag_at-IsFragment b h few below) more before, w.1) in
    (more, quotient_from_range f.value k.value (span f.bits) (span_pos f.bits) fragment.justified (omega arith) (omega (arith, w.0)))

-- and none round another hash does
pub not_within_round : (f : Fragment) (h b : ℕ) → IsFragment f → h < 2 ^ 24 → b ≤ 24 → ((f.value ≤ h) × (h < f.value + span f.bits) → ⊥) → ContainsFragment f (frag_of_hash b h) → ⊥
not_within_round f h b fragment below few out (more, same) =
    let k = frag_of_hash b h in
    let w = round_it b h in
    let v = range_from_quotient f.value k.value (span f.bits) (span_pos f.bits) fragment.justified same in
    let ends = ends_within f k fragment (frag_at-IsFragment b h few below) more v.1 in
    out (omega (arith, v.0, w.0), omega (arith, ends, w.1))
