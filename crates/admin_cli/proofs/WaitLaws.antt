-- Inboxes in which nothing waits.
use Rattle.admin_cli.proofs.Common.{[], arith, get_or, length, ℕ, ◌<◌, ◌∷◌, ◌≡◌, ◌≤◌}
use Rattle.std.specs.Prelude.{suc, zero}
use Rattle.std.proofs.lemmas.List.{nil_from_length}
use Rattle.inboxes.specs.Inboxes.{Inboxes, waiting_in_all}
use Rattle.asking.specs.Ask.{NoneWaits}

-- no rank has more than all
at_most_all : (xs : Inboxes) (n : ℕ) → length (get_or xs n []) ≤ waiting_in_all xs
at_most_all [] n = omega arith
at_most_all (x ∷ xs) zero = omega arith
at_most_all (x ∷ xs) (suc n) = omega (arith, at_most_all xs n)

pub none_from_all : (xs : Inboxes) (count : ℕ) → count ≡ waiting_in_all xs → (0 < count → ⊥) → NoneWaits xs
none_from_all xs count is none rank = nil_from_length (get_or xs rank.0 []) (omega (arith, at_most_all xs rank.0, is, none))
