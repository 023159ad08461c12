-- The first fragment that is split, of those from another on.
use Rattle.fragtree.proofs.Common.{ContainsFragment, Equal, Fragment, Greater, IsFragment, Less, List, MatchOrdering, None, Ordering, Some, FragSplits, T, [], ap, arith, below_all, cases_Bool, cases_lt, cond, entries_sorted, find, find-where_key, frag-exact, frag_cmp, get-entries, inl, inr, is_from, is_le, is_lt, is_sorted, is_sorted-where_key, left_of, nat_cmp, ordering_then, ranks, refl, right_of, span, subst, sym, true, where_key, ℕ, ◌+◌, ◌<◌, ◌↔◌, ◌∙◌, ◌∷◌, ◌≡◌, ◌≤◌, ◌⊎◌}
use Rattle.std.specs.FinMap as map
use Rattle.sorted_map.proofs.PlaceLaws.{less as less_so}
use Rattle.fragtree.proofs.Entries.{apart, itself}
use Rattle.fragtree.proofs.Ranges.{span_pos, ends_before, quotient_from_range, range_from_quotient}

-- the order of fragments
frag_le_by : (v w b c : ℕ) (r s : Ordering) → MatchOrdering r (v < w) (v ≡ w) (w < v) → MatchOrdering s (b < c) (b ≡ c) (c < b) → (is_le (ordering_then r s) ≡ true) ↔ ((v < w) ⊎ ((v ≡ w) × (b ≤ c)))
frag_le_by v w b c Less s h k = (λ le. inl h, λ _. refl)
frag_le_by v w b c Equal Less h k = (λ le. inr (h, omega arith), λ _. refl)
frag_le_by v w b c Equal Equal h k = (λ le. inr (h, omega arith), λ _. refl)
frag_le_by v w b c Equal Greater h k = (λ le. cc, λ le. absurd (omega arith))
frag_le_by v w b c Greater s h k = (λ le. cc, λ le. absurd (omega arith))

frag_le_iff : (f g : Fragment) → (is_le (frag_cmp f g) ≡ true) ↔ ((f.value < g.value) ⊎ ((f.value ≡ g.value) × (f.bits ≤ g.bits)))
frag_le_iff f g = frag_le_by f.value g.value f.bits g.bits (nat_cmp f.value g.value) (nat_cmp f.bits g.bits) (ranks f.value g.value) (ranks f.bits g.bits)

pub frag_le : (f g : Fragment) → is_le (frag_cmp f g) ≡ true → (f.value < g.value) ⊎ ((f.value ≡ g.value) × (f.bits ≤ g.bits))
frag_le f g = (frag_le_iff f g).0

value_rises : (f e : Fragment) → T (is_lt (frag_cmp f e)) → f.value ≤ e.value
value_rises f e rises = elim (frag_le f e (ap is_le (less_so (frag_cmp f e) rises))) [ inl before ↦ omega arith | inr tied ↦ omega (arith, tied.0) ]

-- what begins before a key isn't found among the keys behind it
not_behind : (g e : Fragment) (es : List (Fragment × ℕ)) → g.value < e.value → T (below_all frag_cmp e es) → find frag_cmp g es ≡ None
not_behind g e [] less below = refl
not_behind g e (x ∷ es) less below =
    let rises : e.value ≤ x.0.value = value_rises e x.0 (left_of _ _ below) in
    ap (λ b. cond b (Some x.1) (find frag_cmp g es)) (apart g x.0 (λ same. omega (arith, ap (λ (k : Fragment). k.value) same, less, rises))) ∙ not_behind g e es less (right_of _ _ below)

module _ (m : FragSplits) (f : Fragment) where
  -- a key is found among those from f on if it is one of them
  found_there : (g : Fragment) (found : List (Fragment × ℕ)) → where_key frag_cmp (is_from frag_cmp f) (map.entries m) ≡ found → find frag_cmp g found ≡ cond (is_from frag_cmp f g) (map.get m g) None
  found_there g found is =
      ap (find frag_cmp g) (sym is)
      ∙ find-where_key frag_cmp (is_from frag_cmp f) g (λ x tied. ap (is_from frag_cmp f) (sym (frag-exact g x tied))) (map.entries m)
      ∙ ap (λ o. cond (is_from frag_cmp f g) o None) (sym (get-entries m g))

  pub from_found : (g : Fragment) (found : List (Fragment × ℕ)) → where_key frag_cmp (is_from frag_cmp f) (map.entries m) ≡ found → is_from frag_cmp f g ≡ true → map.get m g ≡ find frag_cmp g found
  from_found g found is from = sym (found_there g found is ∙ ap (λ b. cond b (map.get m g) None) from)

  module _ (e : Fragment × ℕ) (rest : List (Fragment × ℕ)) (is : where_key frag_cmp (is_from frag_cmp f) (map.entries m) ≡ e ∷ rest) where
    pub first_split : (map.get m e.0 ≡ Some e.1) × (is_from frag_cmp f e.0 ≡ true)
    first_split =
        let first : find frag_cmp e.0 (e ∷ rest) ≡ Some e.1 = ap (λ b. cond b (Some e.1) (find frag_cmp e.0 rest)) (itself e.0) in
        elim (cases_Bool (is_from frag_cmp f e.0)) [
          | inl from ↦ (from_found e.0 (e ∷ rest) is from ∙ first, from)
          | inr before ↦ let clash : None ≡ Some e.1 = sym (found_there e.0 (e ∷ rest) is ∙ ap (λ b. cond b (map.get m e.0) None) before) ∙ first in cc
        ]

    pub none_before : (g : Fragment) → is_from frag_cmp f g ≡ true → g.value < e.0.value → map.get m g ≡ None
    none_before g from less =
        let sorted = subst (λ es. T (is_sorted frag_cmp es)) is (is_sorted-where_key frag_cmp (is_from frag_cmp f) (map.entries m) (entries_sorted m)) in
        from_found g (e ∷ rest) is from
        ∙ ap (λ b. cond b (Some e.1) (find frag_cmp g rest)) (apart g e.0 (λ same. omega (arith, ap (λ (k : Fragment). k.value) same, less)))
        ∙ not_behind g e.0 rest less (left_of _ _ sorted)

-- what lies within f stands from f on, and begins before the end of f
pub within_from : (f g : Fragment) → IsFragment f → ContainsFragment f g → (is_from frag_cmp f g ≡ true) × (g.value < f.value + span f.bits)
within_from f g fragment (more, same) =
    let v = range_from_quotient f.value g.value (span f.bits) (span_pos f.bits) fragment.justified same in
    (elim (cases_lt f.value g.value) [ inl less ↦ (frag_le_iff f g).1 (inl less) | inr tied ↦ (frag_le_iff f g).1 (inr (omega (arith, v.0), more)) ], v.1)

-- and what stands from f on, and begins before the end of f, lies within it
pub from_within : (f g : Fragment) → IsFragment f → IsFragment g → is_from frag_cmp f g ≡ true → g.value < f.value + span f.bits → ContainsFragment f g
from_within f g hf hg from below = elim (frag_le f g from) [
  | inr tied ↦ (tied.1, quotient_from_range f.value g.value (span f.bits) (span_pos f.bits) hf.justified (omega (arith, tied.0)) below)
  | inl less ↦
      let not_coarse : g.bits ≤ f.bits → ⊥ = λ coarse. omega (arith, ends_before g f hg hf coarse less, below) in
      (omega arith, quotient_from_range f.value g.value (span f.bits) (span_pos f.bits) hf.justified (omega (arith, less)) below)
]
