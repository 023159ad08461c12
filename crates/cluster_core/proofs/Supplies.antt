-- The whole range of numbers for each of some ranks, one rank more.
use Rattle.cluster_core.proofs.Common.{List, Supply, [], ap, arith, first_number, suc, whole_supplies, zero, ℕ, ◌++◌, ◌+◌, ◌∙◌, ◌∷◌, ◌≡◌}

-- all numbers of a rank
abbrev pub whole_supply : ℕ → Supply
whole_supply rank = record { rank = rank; next = first_number rank }

supplies_suc : (first n : ℕ) → whole_supplies first (suc n) ≡ whole_supplies first n ++ (whole_supply (first + n) ∷ [])
supplies_suc first zero = let at : first ≡ first + 0 = omega arith in ap (λ (r : ℕ). whole_supply r ∷ []) at
supplies_suc first (suc n) =
    let at : suc first + n ≡ first + suc n = omega arith in
    ap (λ (s : List Supply). whole_supply first ∷ s) (supplies_suc (suc first) n) ∙ ap (λ (r : ℕ). whole_supply first ∷ (whole_supplies (suc first) n ++ (whole_supply r ∷ []))) at

pub supplies_more : (n : ℕ) → whole_supplies 0 (n + 1) ≡ whole_supplies 0 n ++ (whole_supply n ∷ [])
supplies_more n =
    let more : n + 1 ≡ suc n = omega arith in
    let at : 0 + n ≡ n = omega arith in
    ap (whole_supplies 0) more ∙ supplies_suc 0 n ∙ ap (λ (r : ℕ). whole_supplies 0 n ++ (whole_supply r ∷ [])) at
