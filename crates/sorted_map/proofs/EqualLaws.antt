-- When a test of pairs tells maps apart.
use Rattle.sorted_map.proofs.Common.{Bool, Decides, Equal-is, IsAntisymmetric, IsTotalOrder, List, Ordering, T, TellsApart, and_from, and_parts, ap, entries-from_sorted, eq_by_cmp, is_eq, pairs_eq, pointwise, slice_eq-Decides, subst, sym, tied_itself, true, ◌∙◌, ◌≡◌}
use Rattle.std.specs.FinMap as map
use Rattle.std.specs.FinMap.Entries.{is_sorted}

-- `==` at keys in an exact order
pub keys_told : {K : Type 0} {R : K → K → Ordering} → IsTotalOrder R → IsAntisymmetric R → (E : K → K → Bool) → ((x y : K) → E x y ≡ eq_by_cmp R x y) → TellsApart E
keys_told {K} {R} o exact E ties x y = (
  λ e. exact x y ((Equal-is (R x y)).0 (sym (ties x y) ∙ e)),
  λ e. subst (λ z. E x z ≡ true) e (ties x x ∙ ap is_eq (tied_itself o x)),
)

-- and at pairs
pub pairs_told : {K V : Type 0} (E : K → K → Bool) (F : V → V → Bool) → TellsApart E → TellsApart F → TellsApart (pairs_eq E F)
pairs_told E F e f p q = (
  λ t i. ((e p.0 q.0).0 (and_parts _ _ t).0 i, (f p.1 q.1).0 (and_parts _ _ t).1 i),
  λ s. and_from _ _ ((e p.0 q.0).1 (ap (λ r. r.0) s)) ((f p.1 q.1).1 (ap (λ r. r.1) s)),
)

-- the pairs of two maps are equal just where the maps are one
pub maps_told : {K V : Type 0} (R : K → K → Ordering) (E : K × V → K × V → Bool) → TellsApart E → (es fs : List (K × V)) (r : Bool) → T (is_sorted R es) → T (is_sorted R fs) → r ≡ pointwise E es fs → Decides r (map.from_sorted {R = R} es ≡ map.from_sorted fs)
maps_told R E told es fs r s t e =
    let told_lists = slice_eq-Decides told es fs r e in (
      λ same. ap map.from_sorted (told_lists.0 same),
      λ same. told_lists.1 (sym (entries-from_sorted R es s) ∙ ap map.entries same ∙ entries-from_sorted R fs t),
    )
