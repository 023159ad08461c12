-- The parts of tests that are joined by `and`. Equations of tests are std's: `and_parts`, `and_from`, `or_cases` and the like.
use Rattle.std.proofs.Common.{◌≡◌, Bool, true, false, ◌&&◌, T, refl}

pub left_of : (a b : Bool) → T (a && b) → T a
left_of true b h = tt
left_of false b h = h

pub right_of : (a b : Bool) → T (a && b) → T b
right_of true b h = h
right_of false b h = absurd h

pub both_of : (a b : Bool) → T a → T b → T (a && b)
both_of true b p q = q
both_of false b p q = p

pub true_of : (b : Bool) → T b → b ≡ true
true_of true h = refl
true_of false h = absurd h

pub false_of : (b : Bool) → (T b → ⊥) → b ≡ false
false_of true h = absurd (h tt)
false_of false h = refl
