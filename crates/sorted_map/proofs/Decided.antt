-- The equality test of pairs, for the laws of `PartialEq`.
use Rattle.std.specs.Prelude.{◌≡◌, Bool, ◌&&◌, Option, Some, None, refl}
use Rattle.std.specs.Option.{option_eq}
use Rattle.std.specs.Bool.{Decides}
use Rattle.std.proofs.Common.{ap}
use Rattle.std.proofs.lemmas.Bool.Decides.{Decides-and}
use Rattle.std.proofs.lemmas.Option.{same_Some}

-- pairs are equal where both parts are
pub pair_decides : {A B : Type 0} (E : A → A → Bool) (F : B → B → Bool) → ((a b : A) → Decides (E a b) (a ≡ b)) → ((a b : B) → Decides (F a b) (a ≡ b))
    → (p q : A × B) → Decides (E p.0 q.0 && F p.1 q.1) (p ≡ q)
pair_decides E F d e p q =
    let both = Decides-and (E p.0 q.0) (F p.1 q.1) (d p.0 q.0) (e p.1 q.1) in
    (λ t. let w = both.0 t in λ i. (w.0 i, w.1 i), λ s. both.1 (ap (λ r. r.0) s, ap (λ r. r.1) s))

-- options are equal where both or neither have a value, and the values are equal
pub option_decides : {A : Type 0} (E : A → A → Bool) → ((a b : A) → Decides (E a b) (a ≡ b)) → (a b : Option A) → Decides (option_eq E a b) (a ≡ b)
option_decides E d None None = (λ t. refl, λ s. refl)
option_decides E d None (Some b) = (λ t. cc, λ s. cc)
option_decides E d (Some a) None = (λ t. cc, λ s. cc)
option_decides E d (Some a) (Some b) = (λ t. ap Some ((d a b).0 t), λ s. (d a b).1 (same_Some a b s))
