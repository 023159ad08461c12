-- A walk over the first entries of a history, each of which is forgotten.
use Rattle.sessions.proofs.Common.{Entry, List, Table, [], ap, arith, drop, forget_all, forget_first, get_or-drop, length, refl, set, slice_index_or, suc, sym, take, zero, ℕ, ◌++◌, ◌+◌, ◌<◌, ◌∙◌, ◌∷◌, ◌≡◌}
use Rattle.sessions.proofs.AsideLaws.{forgot_more}

drop_set : (l : List Entry) (i : ℕ) (e : Entry) → drop (suc i) (set l i e) ≡ drop (suc i) l
drop_set [] zero e = refl
drop_set [] (suc i) e = refl
drop_set (x ∷ l) zero e = refl
drop_set (x ∷ l) (suc i) e = drop_set l i e

drop_one : (l : List Entry) (i : ℕ) → drop 1 (drop i l) ≡ drop (suc i) l
drop_one [] zero = refl
drop_one [] (suc i) = refl
drop_one (x ∷ l) zero = refl
drop_one (x ∷ l) (suc i) = drop_one l i

take_one : (l : List Entry) (i : ℕ) (e : Entry) → i < length l → e ≡ slice_index_or l i e → take (suc i) l ≡ take i l ++ e ∷ []
take_one [] i e low is = absurd (omega (arith, low))
take_one (x ∷ l) zero e low is = ap (λ y. y ∷ []) (sym is)
take_one (x ∷ l) (suc i) e low is = ap (λ t. x ∷ t) (take_one l i e (omega (arith, low)) is)

module _ (all now : List Entry) (i : ℕ) (left : drop i now ≡ drop i all) where
  -- the entry there is as it was
  pub first_left : (e : Entry) → slice_index_or now i e ≡ slice_index_or all i e
  first_left e =
      let at : i + 0 ≡ i = omega arith in
      ap (λ n. slice_index_or now n e) (sym at) ∙ sym (get_or-drop i now 0 e) ∙ ap (λ l. slice_index_or l 0 e) left ∙ get_or-drop i all 0 e ∙ ap (λ n. slice_index_or all n e) at

  -- once it is forgotten
  pub left_on : (e : Entry) → drop (i + 1) (set now i e) ≡ drop (i + 1) all
  left_on e =
      let one : i + 1 ≡ suc i = omega arith in
      ap (λ n. drop n (set now i e)) one ∙ drop_set now i e ∙ sym (drop_one now i) ∙ ap (drop 1) left ∙ drop_one all i ∙ ap (λ n. drop n all) (sym one)

  pub aside_on : (table next : Table) (start : Table) (e : Entry) → i < length all → e ≡ slice_index_or now i e → table ≡ forget_all start (take i all) → next ≡ forget_first table e
      → next ≡ forget_all start (take (i + 1) all)
  aside_on table next start e low is before made =
      let one : i + 1 ≡ suc i = omega arith in
      made ∙ ap (λ t. forget_first t e) before ∙ sym (forgot_more start (take i all) (e ∷ []))
      ∙ ap (forget_all start) (sym (take_one all i e low (is ∙ first_left e)) ∙ ap (λ n. take n all) (sym one))
