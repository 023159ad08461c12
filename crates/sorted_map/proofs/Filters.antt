-- Filters that let everything pass.
use Rattle.std.specs.Prelude.{◌≡◌, true, List, [], ◌∷◌, filter, refl}
use Rattle.std.proofs.Common.{ap}

pub all_kept : {A : Type 0} (xs : List A) → filter (λ _. true) xs ≡ xs
all_kept [] = refl
all_kept (x ∷ xs) = ap (λ l. x ∷ l) (all_kept xs)
