-- The bounds of a region, listed one after the other.
use Rattle.subtree_map.proofs.Common.{Contains-append_cases, Contains-append_left, Contains-append_right, Covers, Homes, IsBound, IsNextBelow, IsSome, Leaf, List, Rank, Roots, Some, [], ap, arith, cond, false, find, get-entries, inl, inr, is_some, leaf_cmp, length, refl, same_or_apart, subst, suc, sym, tied_apart, tied_same, true, zero, ◌++◌, ◌==◌, ◌↔◌, ◌∙◌, ◌∷◌, ◌≡◌, ◌⊎◌}
use Rattle.std.specs.List as list
use Rattle.std.specs.FinMap as map

module _ (roots : Roots) (homes : Homes) (covers : Covers) (root : Leaf) where
  -- a bound is one of the rows to come, or was listed
  abbrev pub AreListed : List (Leaf × Rank) → List Leaf → Type 0
  AreListed rest listed = (bound : Leaf) → ((IsSome (find leaf_cmp bound rest) × IsNextBelow roots homes covers root bound) ⊎ list.Contains listed bound) ↔ IsBound roots homes covers root bound

  none_in : (bound : Leaf) → list.Contains [] bound → ⊥
  none_in bound (i, stands, is) = omega (arith, stands)

  only_in : (one bound : Leaf) → list.Contains (one ∷ []) bound → bound ≡ one
  only_in one bound (zero, stands, is) = sym is
  only_in one bound (suc k, stands, is) = absurd (omega (arith, stands))

  pub listed_first : (rest : List (Leaf × Rank)) (listed : List Leaf) → rest ≡ map.entries roots → listed ≡ [] → AreListed rest listed
  listed_first rest listed all none bound = (is_bound, to_come)
    where
      found : find leaf_cmp bound rest ≡ map.get roots bound
      found = ap (find leaf_cmp bound) all ∙ sym (get-entries roots bound)

      is_bound : (IsSome (find leaf_cmp bound rest) × IsNextBelow roots homes covers root bound) ⊎ list.Contains listed bound → IsBound roots homes covers root bound
      is_bound (inl (some, below)) = record { is_root = ap is_some (sym found) ∙ some; home = below.home; holder = below.holder; stands = below.stands; holds = below.holds; nearest = below.nearest }
      is_bound (inr has) = absurd (none_in bound (subst (λ ls. list.Contains ls bound) none has))

      to_come : IsBound roots homes covers root bound → (IsSome (find leaf_cmp bound rest) × IsNextBelow roots homes covers root bound) ⊎ list.Contains listed bound
      to_come is = inl (ap is_some found ∙ is.is_root, record { home = is.home; holder = is.holder; stands = is.stands; holds = is.holds; nearest = is.nearest })

  module _ (rest more : List (Leaf × Rank)) (row : Leaf × Rank) (listed : List Leaf) (next : rest ≡ row ∷ more) (so_far : AreListed rest listed) where
    -- the first row is found at its own key, each other one behind it
    here : (bound : Leaf) → bound ≡ row.0 → IsSome (find leaf_cmp bound rest)
    here bound same = ap (λ r. is_some (find leaf_cmp bound r)) next ∙ ap (λ b. is_some (cond b (Some row.1) (find leaf_cmp bound more))) (tied_same bound row.0 same)

    behind : (bound : Leaf) → (bound ≡ row.0 → ⊥) → find leaf_cmp bound rest ≡ find leaf_cmp bound more
    behind bound apart = ap (find leaf_cmp bound) next ∙ ap (λ b. cond b (Some row.1) (find leaf_cmp bound more)) (tied_apart bound row.0 apart)

    still_found : (bound : Leaf) → IsSome (find leaf_cmp bound more) → IsSome (find leaf_cmp bound rest)
    still_found bound some = elim (same_or_apart bound row.0) [
      | inl same ↦ here bound same
      | inr apart ↦ ap is_some (behind bound apart) ∙ some
    ]

    -- the first row is a bound, if it is next below
    pub bound_here : IsNextBelow roots homes covers root row.0 → IsBound roots homes covers root row.0
    bound_here below = (so_far row.0).0 (inl (here row.0 refl, below))

    pub listed_push : (now : List Leaf) → now ≡ listed ++ row.0 ∷ [] → IsNextBelow roots homes covers root row.0 → AreListed more now
    listed_push now is below bound = (is_bound, to_come)
      where
        last : bound ≡ row.0 → list.Contains now bound
        last same = subst (λ ls. list.Contains ls bound) (sym is) (Contains-append_right listed (row.0 ∷ []) bound (zero, omega arith, sym same))

        is_bound : (IsSome (find leaf_cmp bound more) × IsNextBelow roots homes covers root bound) ⊎ list.Contains now bound → IsBound roots homes covers root bound
        is_bound (inl (some, its)) = (so_far bound).0 (inl (still_found bound some, its))
        is_bound (inr has) = elim (Contains-append_cases listed (row.0 ∷ []) bound (subst (λ ls. list.Contains ls bound) is has)) [
          | inl before ↦ (so_far bound).0 (inr before)
          | inr own ↦ let same = only_in row.0 bound own in (so_far bound).0 (inl (here bound same, subst (IsNextBelow roots homes covers root) (sym same) below))
        ]

        to_come : IsBound roots homes covers root bound → (IsSome (find leaf_cmp bound more) × IsNextBelow roots homes covers root bound) ⊎ list.Contains now bound
        to_come its = elim ((so_far bound).1 its) [
          | inl (some, next_below) ↦ elim (same_or_apart bound row.0) [
            | inl same ↦ inr (last same)
            | inr apart ↦ inl (ap is_some (sym (behind bound apart)) ∙ some, next_below)
          ]
          | inr before ↦ inr (subst (λ ls. list.Contains ls bound) (sym is) (Contains-append_left listed (row.0 ∷ []) bound before))
        ]

    pub listed_skip : (IsNextBelow roots homes covers root row.0 → ⊥) → AreListed more listed
    listed_skip above bound = (is_bound, to_come)
      where
        is_bound : (IsSome (find leaf_cmp bound more) × IsNextBelow roots homes covers root bound) ⊎ list.Contains listed bound → IsBound roots homes covers root bound
        is_bound (inl (some, its)) = (so_far bound).0 (inl (still_found bound some, its))
        is_bound (inr has) = (so_far bound).0 (inr has)

        to_come : IsBound roots homes covers root bound → (IsSome (find leaf_cmp bound more) × IsNextBelow roots homes covers root bound) ⊎ list.Contains listed bound
        to_come its = elim ((so_far bound).1 its) [
          | inl (some, next_below) ↦ elim (same_or_apart bound row.0) [
            | inl same ↦ absurd (above (subst (IsNextBelow roots homes covers root) same next_below))
            | inr apart ↦ inl (ap is_some (sym (behind bound apart)) ∙ some, next_below)
          ]
          | inr before ↦ inr before
        ]

  pub listed_all : (rest : List (Leaf × Rank)) (listed : List Leaf) → rest ≡ [] → AreListed rest listed → (bound : Leaf) → list.Contains listed bound ↔ IsBound roots homes covers root bound
  listed_all rest listed none so_far bound = (λ has. (so_far bound).0 (inr has), λ its. at_end ((so_far bound).1 its))
    where
      at_end : (IsSome (find leaf_cmp bound rest) × IsNextBelow roots homes covers root bound) ⊎ list.Contains listed bound → list.Contains listed bound
      at_end (inl (some, below)) = let clash : false ≡ true = ap (λ r. is_some (find leaf_cmp bound r)) (sym none) ∙ some in absurd cc
      at_end (inr has) = has

  -- a list that isn't empty has a bound
  pub some_bound : (listed : List Leaf) → (length listed == 0) ≡ false → ((bound : Leaf) → list.Contains listed bound ↔ IsBound roots homes covers root bound) → (bound : Leaf) × IsBound roots homes covers root bound
  some_bound [] some are = cc
  some_bound (leaf ∷ rest) some are = (leaf, (are leaf).0 (zero, omega arith, refl))
