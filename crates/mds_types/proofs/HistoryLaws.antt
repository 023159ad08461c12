-- Laws of histories: what one more entry changes.
use Rattle.mds_types.proofs.Common.{IsLegal, IsNext, IsTaken, IsUsed, List, Some, Tree, [], after, ap, arith, cases_lt, get_or-append_seam, get_or_append_left, inl, inr, length, length-append, number_or, refl, slice_index_or, step, subst, sym, take, take-append-le, take-append_seam, ℕ, ⊎_elim, ◌++◌, ◌<◌, ◌∙◌, ◌∷◌, ◌≡◌, ◌≤◌, ◌⊎◌}
use Rattle.mds_types.specs.declared.entries.Entry.{Entry}

-- the tree after one entry more
pub after-push : (limit : ℕ) (opening : Tree) (past : List Entry) (e : Entry) → after limit opening (past ++ e ∷ []) ≡ (step limit (after limit opening past) e.op (number_or e.number)).tree
after-push limit opening [] e = refl
after-push limit opening (x ∷ past) e = after-push limit (step limit opening x.op (number_or x.number)).tree past e

-- one entry more is legal where it may come next
pub legal-push : (limit : ℕ) (opening : Tree) (past : List Entry) (e : Entry) → IsLegal limit opening past → IsNext limit opening past e → IsLegal limit opening (past ++ e ∷ [])
legal-push limit opening past e legal next k d below = ⊎_elim earlier last (cases_lt k (length past))
  where
    earlier : k < length past → IsNext limit opening (take k (past ++ e ∷ [])) (slice_index_or (past ++ e ∷ []) k d)
    earlier h =
        let few : k ≤ length past = omega arith in
        rw (take-append-le k past (e ∷ []) few, get_or_append_left past (e ∷ []) d k h) (legal k d h)

    last : length past ≤ k → IsNext limit opening (take k (past ++ e ∷ [])) (slice_index_or (past ++ e ∷ []) k d)
    last h =
        let long : length past ≡ k = omega (arith, below, length-append past (e ∷ [])) in
        subst (λ n. IsNext limit opening (take n (past ++ e ∷ [])) (slice_index_or (past ++ e ∷ []) n d)) long
        (rw (take-append_seam past (e ∷ []), get_or-append_seam past e [] d) next)

-- a number that is taken with one entry more was taken before or by that entry
pub taken-push : (past : List Entry) (e : Entry) (n : ℕ) → IsTaken (past ++ e ∷ []) n → IsTaken past n ⊎ (e.number ≡ Some (record { 0 = n }))
taken-push past e n (k, x, below, is, took) = ⊎_elim earlier last (cases_lt k (length past))
  where
    earlier : k < length past → IsTaken past n ⊎ (e.number ≡ Some (record { 0 = n }))
    earlier h = inl (k, x, h, sym (get_or_append_left past (e ∷ []) x k h) ∙ is, took)

    last : length past ≤ k → IsTaken past n ⊎ (e.number ≡ Some (record { 0 = n }))
    last h =
        let long : k ≡ length past = omega (arith, below, length-append past (e ∷ [])) in
        let same : e ≡ x = sym (get_or-append_seam past e [] x) ∙ ap (λ i. slice_index_or (past ++ e ∷ []) i x) (sym long) ∙ is in
        inr (ap (λ (y : Entry). y.number) same ∙ took)

-- a number that is used with one entry more was used before or is that entry's
pub used-push : (opening : Tree) (past : List Entry) (e : Entry) (n : ℕ) → IsUsed opening (past ++ e ∷ []) n → IsUsed opening past n ⊎ (e.number ≡ Some (record { 0 = n }))
used-push opening past e n (inl one) = inl (inl one)
used-push opening past e n (inr (inl stands)) = inl (inr (inl stands))
used-push opening past e n (inr (inr taken)) = ⊎_elim (λ before. inl (inr (inr before))) inr (taken-push past e n taken)
