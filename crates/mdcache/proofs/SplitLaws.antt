-- Splits and merges are right: each of them gives a directory another cover.
use Rattle.mdcache.proofs.Common.{All-contains, All-contains_itself, All-filter, Bool, Fragment, HasLeaf, IsMerge, IsSplit, List, MergesAreRight, SplitsAreRight, [], ap, arith, cases_Bool, cond, false, filter_passes, first_or_later, inl, inr, later, leaves_inside, leaves_of, lies_inside, nat_tests, one_or_other, rules, subst, sym, true, zero, ℕ, ⊎_elim, ◌+◌, ◌^◌, ◌∙◌, ◌∷◌, ◌≡◌, ◌≤◌}
use Rattle.mdcache.proofs.RegroupLaws.{Replaces, regroup_right}

-- ---- a split

-- the one leaf that ends
pub only_one : (f g : Fragment) → HasLeaf (f ∷ []) g → f ≡ g
only_one f g is = search rules

pub split_replaces : (old cover : List Fragment) (frag : Fragment) (nb : ℕ) → 1 ≤ nb → HasLeaf old frag → IsSplit old cover frag nb → Replaces old (frag ∷ []) cover
split_replaces old cover frag nb some stands divided = record {
  ends = λ f there. ⊎_elim (λ is. inl (zero, omega arith, is)) (λ other. inr ((divided.leaves f).1 (inl (there, λ same. other (sym same))))) (one_or_other frag f);
  stood = λ f ended.
      let same = only_one frag f ended in
      (subst (HasLeaf old) same stands, λ has. ⊎_elim (λ other. other.1 (sym same)) (λ child. let bits : frag.bits ≡ frag.bits + nb = ap (λ (g : Fragment). g.bits) (same ∙ child.2) in omega (arith, bits, some)) ((divided.leaves f).0 has));
}

pub splits_right : SplitsAreRight
splits_right old new dir frag nb sound split =
    regroup_right old sound dir (frag ∷ []) split.cover (2 ^ nb) new split.regrouped (split_replaces (leaves_of old.covers dir.0) split.cover frag nb split.can.fits.some split.can.stands split.divided)

-- ---- a merge

-- the leaves inside a fragment are those leaves that lie inside it
pub inside_has : (frag f : Fragment) (fs : List Fragment) → HasLeaf fs f → lies_inside frag f ≡ true → HasLeaf (leaves_inside frag fs) f
inside_has frag f [] (k, within, is) inside = absurd (omega (arith, within))
inside_has frag f (g ∷ gs) has inside = ⊎_elim
    (λ same. subst (λ (b : Bool). HasLeaf (cond b (g ∷ leaves_inside frag gs) (leaves_inside frag gs)) f) (sym (ap (lies_inside frag) same ∙ inside)) (zero, omega arith, same))
    (λ more.
    let rest = inside_has frag f gs more inside in
    elim (lies_inside frag g) as (λ b. HasLeaf (cond b (g ∷ leaves_inside frag gs) (leaves_inside frag gs)) f) [ true ↦ later g f (leaves_inside frag gs) rest | false ↦ rest ]) (first_or_later g f gs has)

pub has_inside : (frag f : Fragment) (fs : List Fragment) → HasLeaf (leaves_inside frag fs) f → HasLeaf fs f × (lies_inside frag f ≡ true)
has_inside frag f fs has = (
  All-contains (HasLeaf fs) (leaves_inside frag fs) f (All-filter (lies_inside frag) (HasLeaf fs) fs (All-contains_itself fs)) has,
  All-contains (λ g. lies_inside frag g ≡ true) (leaves_inside frag fs) f (filter_passes (lies_inside frag) fs) has,
)

-- a fragment doesn't lie inside itself
pub not_itself : (f : Fragment) → lies_inside f f ≡ false
not_itself f = grind (arith, nat_tests)

pub merge_replaces : (old cover : List Fragment) (frag : Fragment) → IsMerge old cover frag → Replaces old (leaves_inside frag old) cover
merge_replaces old cover frag merged = record {
  ends = λ f there. ⊎_elim (λ inside. inl (inside_has frag f old there inside)) (λ outside. inr ((merged.leaves f).1 (inl (there, outside)))) (cases_Bool (lies_inside frag f));
  stood = λ f ended.
      let both = has_inside frag f old ended in
      let not_inside : (lies_inside frag f ≡ false) → ⊥ = λ outside. (let clash : true ≡ false = sym both.1 ∙ outside in cc) in
      (both.0, λ has. ⊎_elim (λ outside. not_inside outside.1) (λ same. not_inside (ap (lies_inside frag) same ∙ not_itself frag)) ((merged.leaves f).0 has));
}

pub merges_right : MergesAreRight
merges_right old new dir frag sound merge =
    regroup_right old sound dir (leaves_inside frag (leaves_of old.covers dir.0)) merge.cover 1 new merge.regrouped (merge_replaces (leaves_of old.covers dir.0) merge.cover frag merge.merged)
