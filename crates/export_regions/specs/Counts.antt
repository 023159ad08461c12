-- Whether a place has too many dirty names. Only this crate's own contracts use these words.
use Rattle.std.specs.Prelude.{◌≡◌, ◌⊎◌, ◌^◌, Bool, true, false, not, nat_lt, List, [], ◌∷◌, Option, Some, None}
use Rattle.std.specs.FinMap as map
use Rattle.mds_types.specs.Leaf.{Leaf}
use Rattle.cached_frag.specs.Cached.{Cached}
use Rattle.dentry_cache.specs.PlacesByUse.{PlaceOf}

-- whether there is a fragment with more dirty names than 32 bits count
abbrev pub is_too_long : Option Cached → Bool
is_too_long None = false
is_too_long (Some f) = not (nat_lt (map.len f.dirty) (2 ^ 32))

-- one of these places has such a fragment, in a region
abbrev pub AnyTooMany : (In : Leaf → Type 0) → List PlaceOf → Type 0
AnyTooMany In [] = ⊥
AnyTooMany In (place ∷ places) = ((is_too_long place.1 ≡ true) × In place.0) ⊎ AnyTooMany In places
