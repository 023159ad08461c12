-- What is there isn't absent.
use Rattle.subtree_map.proofs.Common.{IsSome, None, Option, Some, refl, sym, ◌∙◌, ◌≡◌}

pub not_none : {A : Type 0} (o : Option A) (x : A) → o ≡ None → o ≡ Some x → ⊥
not_none o x none some = let clash : None ≡ Some x = sym none ∙ some in cc

pub value_of : {A : Type 0} (o : Option A) → IsSome o → (x : A) × (o ≡ Some x)
value_of None some = cc
value_of (Some x) some = (x, refl)

pub one_value : {A : Type 0} (o : Option A) (x y : A) → o ≡ Some x → o ≡ Some y → x ≡ y
one_value o x y is other = let same : Some x ≡ Some y = sym is ∙ other in cc
