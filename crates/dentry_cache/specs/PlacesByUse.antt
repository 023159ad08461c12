-- The places of a rank one by one, in the order of their use.
use Rattle.std.specs.Prelude.{ℕ, List, map, Option, Some}
use Rattle.cached_frag.specs.Cached.{Cached}
use Rattle.dentry_cache.specs.declared.cache.Place.{Place}
use Rattle.dentry_cache.specs.Cache.{Leaf, fragment_in}
use Rattle.dentry_cache.specs.CacheMap.{CacheMap, here, order}

-- a leaf that has a place, with the fragment in it; none in one that is kept for a fragment that will be made
abbrev pub PlaceOf : Type 0
PlaceOf = Leaf × Option Cached

-- the places of a rank, the most recently used first
abbrev pub places_at : CacheMap → ℕ → List PlaceOf
places_at c r = map (λ (leaf : Leaf). (leaf, here c r leaf)) (order c r)

-- so a place of the code is seen
abbrev pub in_place : Leaf × Place → PlaceOf
in_place e = (e.0, fragment_in (Some e.1))
