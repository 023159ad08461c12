-- The first step of several kinds.
use Rattle.cluster_core.proofs.Common.{Event, IsFirstKindOf, IsFirstStep, Kind, List, None, Option, Sight, Some, [], false, inl, inr, is_some, true, ◌∷◌, ◌≡◌}

-- there is one of the first kind
pub first_found : (s : Sight) (kind : Kind) (others : List Kind) (found : Option Event) → IsFirstStep s kind found → is_some found ≡ true → IsFirstKindOf s (kind ∷ others) found
first_found s kind others None none is = let clash : false ≡ true = is in cc
first_found s kind others (Some event) least is = inl least

-- there is none, so it is the first of the others
pub first_passed : (s : Sight) (kind : Kind) (others : List Kind) (found rest : Option Event) → IsFirstStep s kind found → is_some found ≡ false → IsFirstKindOf s others rest → IsFirstKindOf s (kind ∷ others) rest
first_passed s kind others (Some event) rest least is first = let clash : true ≡ false = is in cc
first_passed s kind others None None none is first = (none, first)
first_passed s kind others None (Some event) none is first = inr (none, first)

-- there are no others
pub first_last : (s : Sight) (kind : Kind) (found : Option Event) → IsFirstStep s kind found → IsFirstKindOf s (kind ∷ []) found
first_last s kind None none = (none, tt)
first_last s kind (Some event) least = inl least
