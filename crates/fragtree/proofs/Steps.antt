-- The steps of a descent to the leaf of a hash, and to a fragment at which leaves are merged.
use Rattle.fragtree.proofs.Common.{AllSome, Descends, Ends, EndsBeyond, Fragment, IsFragment, KeepsEnds, None, Some, FragSplits, ap, arith, frag_of_hash, halved, mod-eq_of_lt, on, refl, root_fragment, splits_round, sym, there, ℕ, ◌%◌, ◌+◌, ◌-◌, ◌<◌, ◌^◌, ◌∙◌, ◌≡◌, ◌≤◌}
use Rattle.std.specs.FinMap as map
use Rattle.fragtree.proofs.DescentLaws.{joined, next, one_end, rest, rises, stays}
use Rattle.fragtree.proofs.Rounds.{frag_at-IsFragment, round_it}
use Rattle.fragtree.proofs.Spelled.{halved_keeps, halved_passes, halved_some}

-- the descent of a hash comes by the fragment
pub record ComesBy (splits : FragSplits) (hash : ℕ) (f : Fragment) : Type 0 where
  pub bits : ℕ
  pub few : bits ≤ 24
  pub ends : Ends (splits_round splits hash) bits
  pub onward : Descends (splits_round splits hash) bits f.bits
  pub is : f ≡ frag_of_hash f.bits hash

pub started : (s : FragSplits) (h : ℕ) → h < 2 ^ 24 → EndsBeyond s h 0 → ComesBy s h root_fragment
started s h low e = record {
  bits = e.bits;
  few = e.few;
  ends = e.ends;
  onward = e.ends.descends;
  is = let value : 0 ≡ h - h % 2 ^ 24 = omega (arith, mod-eq_of_lt low) in λ i. record { bits = 0; value = value i };
}

module _ (s : FragSplits) (some : AllSome s) (h : ℕ) (f : Fragment) (c : ComesBy s h f) where
  pub goes_on : (nb : ℕ) → Some nb ≡ map.get s f → (f.bits + nb ≤ 24) × (1 ≤ nb) × ComesBy s h (frag_of_hash (f.bits + nb) h)
  goes_on nb is =
      let here : splits_round s h f.bits ≡ Some nb = ap (map.get s) (sym c.is) ∙ sym is in
      let more = rest (splits_round s h) (f.bits + nb) c.bits f.bits (on f.bits nb here (there (f.bits + nb) refl)) c.onward (c.ends.nothing c.bits (omega arith) c.few) in
      (omega (arith, rises (splits_round s h) c.bits (f.bits + nb) more, c.few), some f nb (sym is), record { bits = c.bits; few = c.few; ends = c.ends; onward = more; is = refl })

  pub arrived : None ≡ map.get s f → (bits : ℕ) → bits ≤ 24 → Ends (splits_round s h) bits → f ≡ frag_of_hash bits h
  arrived none bits few ends =
      let here : splits_round s h f.bits ≡ None = ap (map.get s) (sym c.is) ∙ sym none in
      let there_now : f.bits ≡ bits = stays (splits_round s h) c.bits f.bits c.onward here ∙ one_end (splits_round s h) c.bits bits c.ends ends c.few few in
      c.is ∙ ap (λ b. frag_of_hash b h) there_now

-- a descent that goes beyond f, at a fragment of fewer bits that it passes
module _ (s : FragSplits) (some : AllSome s) (f : Fragment) (whole : IsFragment f) (bits : ℕ) (before : bits < f.bits) (passes : Descends (splits_round s f.value) bits 0) (beyond : EndsBeyond s f.value (f.bits + 1)) where
  pub split_there : (nb : ℕ) × (map.get s (frag_of_hash bits f.value) ≡ Some nb) × (bits + nb ≤ 24)
  split_there =
      let onward = rest (splits_round s f.value) bits beyond.bits 0 passes beyond.ends.descends (beyond.ends.nothing beyond.bits (omega arith) beyond.few) in
      let w = next (splits_round s f.value) beyond.bits bits onward (omega (arith, beyond.more)) in
      (w.0, w.1, omega (arith, rises (splits_round s f.value) beyond.bits (bits + w.0) w.2, beyond.few))

  module _ (nb : ℕ) (is : map.get s (frag_of_hash bits f.value) ≡ Some nb) where
    pub fits_there : bits + nb ≤ 24
    fits_there = let w = split_there in let same : w.0 ≡ nb = let both : Some w.0 ≡ Some nb = sym w.1 ∙ is in cc in omega (arith, w.2, same)

    pub passes_on : Descends (splits_round s f.value) (bits + nb) 0
    passes_on = joined (splits_round s f.value) bits (bits + nb) 0 passes (on bits nb is (there (bits + nb) refl))

    -- halved, it still leads to f
    pub halved_there : f.bits - bits < nb → KeepsEnds s (halved s (frag_of_hash bits f.value) nb) × AllSome (halved s (frag_of_hash bits f.value) nb) × Descends (splits_round (halved s (frag_of_hash bits f.value) nb) f.value) (bits + 1) 0
    halved_there over =
        let g = frag_of_hash bits f.value in
        let fragment = frag_at-IsFragment bits f.value (omega (arith, whole.few_bits)) whole.in_range in
        let (low, high) = round_it bits f.value in
        let two : 2 ≤ nb = omega arith in (
          halved_keeps s some g nb f.value fragment is two fits_there low high passes,
          halved_some s some g nb f.value fragment is two fits_there low high passes,
          halved_passes s some g nb f.value fragment is two fits_there low high passes f.value low high,
        )
