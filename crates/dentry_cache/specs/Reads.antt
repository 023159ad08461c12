-- What reads and preparations make of the caches of all ranks.
use Rattle.std.specs.Prelude.{◌≡◌, ◌⊎◌, ℕ, false, Option, Some, None}
use Rattle.std.specs.FinMap as finmap
use Rattle.objstore.specs.Objects.{Objects}
use Rattle.cached_frag.specs.Cached.{Cached}
use Rattle.dentry_cache.specs.CacheMap.{At, CacheMap, lies_by, given_up, has_place, here, rewritten, roomy, used_at, with_frag}
use Rattle.dentry_cache.specs.Came.{StaysNamed}
use Rattle.dentry_cache.specs.Loading.{Loads, object_of}
use Rattle.dentry_cache.specs.Cache.{Leaf}

-- the same fragment, but for its room
abbrev pub IsButRoom : Cached → Cached → Type 0
IsButRoom f now = now ≡ record f { room = now.room; places = now.places }

-- these caches came from others (`Came`) by steps that change no name: a fragment that comes is the one that its object
-- spells, one that was there has other room at most, and what ends is a place in which there is no fragment
pub data Reads (Uses Ends : ℕ → Leaf → Type 0) (objects : Objects) (old : CacheMap) : CacheMap → Type 0 where
  stays : Reads Uses Ends objects old old
  uses : (mid : CacheMap) (r : ℕ) (leaf : Leaf)
      → Reads Uses Ends objects old mid → Uses r leaf
      → Reads Uses Ends objects old (used_at mid r leaf)
  grows : (mid : CacheMap) (r : ℕ) (leaf : Leaf) (f now : Cached)
      → Reads Uses Ends objects old mid → Uses r leaf → here mid r leaf ≡ Some f → IsButRoom f now
      → Reads Uses Ends objects old (rewritten mid r leaf now)
  loads : (mid : CacheMap) (r : ℕ) (leaf : Leaf) (f : Cached)
      → Reads Uses Ends objects old mid → Uses r leaf → finmap.get mid.held leaf ≡ None
      → Loads leaf.1 (object_of objects leaf.0 leaf.1) (Some f)
      → Reads Uses Ends objects old (with_frag mid r leaf f)
  room : (mid new : CacheMap) (r : ℕ) (leaf : Leaf) (stay : Option Leaf)
      → Reads Uses Ends objects old mid → Uses r leaf → has_place mid r leaf ≡ false → StaysNamed Uses stay
      → roomy mid r stay ≡ Some new → Reads Uses Ends objects old new
  frees : (mid : CacheMap) (r : ℕ) (leaf : Leaf)
      → Reads Uses Ends objects old mid → Ends r leaf → finmap.get mid.held leaf ≡ None
      → Reads Uses Ends objects old (given_up mid r leaf)

-- a fragment that reads left: it was there at its rank, with other room at most, or its object spells it, and its leaf
-- is read at its rank
abbrev pub IsReadOf : (ℕ → Leaf → Type 0) → Objects → Leaf → Option At → At → Type 0
IsReadOf Uses objects q was now =
    ((f : Cached) × (was ≡ Some (lies_by now.rank f)) × IsButRoom f now.frag)
    ⊎ (Uses now.rank q × (f : Cached) × Loads q.1 (object_of objects q.0 q.1) (Some f) × IsButRoom f now.frag)
