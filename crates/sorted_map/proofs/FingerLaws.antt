-- A place that was tried is the key's, or where it would go.
use Rattle.sorted_map.proofs.Common.{Equal, Greater, IsKeyAt, IsGap, IsTotalOrder, Less, List, Ordering, T, [], arith, drop, flat, get_or, is_sorted, length, length-append, items_before, subst, suc, sym, zero, ℕ, ◌+◌, ◌-◌, ◌<◌, ◌∷◌, ◌≡◌}
use Rattle.std.specs.Cmp.{tied_back}
use Rattle.sorted_map.proofs.Bools.{left_of, right_of}
use Rattle.sorted_map.proofs.FlatLaws.{flat_get}
use Rattle.sorted_map.proofs.HomeLaws.{gap_less}
use Rattle.sorted_map.proofs.PlaceLaws.{at_tied, gap_behind, gap_tied}

flat_within : {A : Type 0} (cs : List (List A)) (i at : ℕ) → at < length (get_or cs i []) → items_before cs i + at < length (flat cs)
flat_within [] i at lt = absurd (omega (arith, lt))
flat_within (c ∷ cs) zero at lt = rw length-append (omega (arith, lt))
flat_within (c ∷ cs) (suc i) at lt = rw length-append (omega (arith, flat_within cs i at lt))

module _ {K V : Type 0} {R : K → K → Ordering} (o : IsTotalOrder R) (k : K) where
  -- the pairs from one on that is above the key are above it
  above_from : (es : List (K × V)) (i : ℕ) (d : K × V) → T (is_sorted R es) → i < length es → R k (get_or es i d).0 ≡ Less → IsGap R k (drop i es) zero
  above_from [] i d s lt above = absurd (omega (arith, lt))
  above_from (e ∷ es) zero d s lt above = (above, gap_less o k e.0 es above (left_of _ _ s))
  above_from (e ∷ es) (suc i) d s lt above = above_from es i d (right_of _ _ s) (omega (arith, lt)) above

  -- those behind one that ties with the key are above it
  behind_tied : (es : List (K × V)) (i : ℕ) (d : K × V) → T (is_sorted R es) → i < length es → R k (get_or es i d).0 ≡ Equal → IsGap R k (drop (suc i) es) zero
  behind_tied [] i d s lt tied = absurd (omega (arith, lt))
  behind_tied (e ∷ es) zero d s lt tied = gap_tied o e.0 k es (tied_back o k e.0 tied) (left_of _ _ s)
  behind_tied (e ∷ es) (suc i) d s lt tied = behind_tied es i d (right_of _ _ s) (omega (arith, lt)) tied

  module _ (cs : List (List (K × V))) (i at : ℕ) (d : K × V) (s : T (is_sorted R (flat cs))) (lt : at < length (get_or cs i [])) where
    pub near_at : R k (get_or (get_or cs i []) at d).0 ≡ Equal → IsKeyAt R k (flat cs) (items_before cs i + at)
    near_at tied =
        let here = subst (λ (e : K × V). R k e.0 ≡ Equal) (sym (flat_get cs i at d lt)) tied in
        let within = flat_within cs i at lt in
        at_tied o k (flat cs) (items_before cs i + at) d s within here (behind_tied (flat cs) (items_before cs i + at) d s within here)

    pub near_gap : (before : K × V) → 0 < at → R k (get_or (get_or cs i []) at d).0 ≡ Less → R k (get_or (get_or cs i []) (at - 1) before).0 ≡ Greater → IsGap R k (flat cs) (items_before cs i + at)
    near_gap before some above below =
        let n = items_before cs i + (at - 1) in
        let next : items_before cs i + at ≡ suc n = omega (arith, some) in
        let last : at - 1 < length (get_or cs i []) = omega (arith, lt) in
        let less = subst (λ (e : K × V). R k e.0 ≡ Greater) (sym (flat_get cs i (at - 1) before last)) below in
        let greater = subst (λ (e : K × V). R k e.0 ≡ Less) (sym (flat_get cs i at d lt)) above in
        let rest = above_from (flat cs) (items_before cs i + at) d s (flat_within cs i at lt) greater in
        subst (IsGap R k (flat cs)) (sym next)
        (gap_behind o k (flat cs) n before s (flat_within cs i (at - 1) last) less (subst (λ m. IsGap R k (drop m (flat cs)) zero) next rest))
