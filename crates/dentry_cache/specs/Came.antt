-- What a step does to the order in which the fragments of each rank were used.
use Rattle.std.specs.Prelude.{◌≡◌, ℕ, false, Option, Some, None}
use Rattle.cached_frag.specs.Cached.{Cached}
use Rattle.dentry_cache.specs.CacheMap.{CacheMap, given_up, has_place, here, rewritten, roomy, used_at, with_frag}
use Rattle.dentry_cache.specs.Cache.{Leaf}

-- the fragment that is to stay is one that the step names
abbrev pub StaysNamed : (Uses : ℕ → Leaf → Type 0) → Option Leaf → Type 0
StaysNamed Uses None = Unit {0}
StaysNamed Uses (Some one) = (r : ℕ) × Uses r one

-- these caches came from others by uses of leaves that are named, each of which comes to the front of its rank's
-- order; by changes of fragments of such leaves, where they stand or as they come to the front; by places that
-- became free for a named leaf that had none, where the least recently used of the rank's clean fragments went if
-- all were taken; and by ends of leaves that are named as ending. So a leaf that isn't named is left where it is, or
-- was clean and the least recently used
pub data Came (Uses Ends : ℕ → Leaf → Type 0) (old : CacheMap) : CacheMap → Type 0 where
  stays : Came Uses Ends old old
  uses : (mid : CacheMap) (r : ℕ) (leaf : Leaf) → Came Uses Ends old mid → Uses r leaf
      → Came Uses Ends old (used_at mid r leaf)
  has : (mid : CacheMap) (r : ℕ) (leaf : Leaf) (f : Cached) → Came Uses Ends old mid → Uses r leaf
      → Came Uses Ends old (with_frag mid r leaf f)
  alters : (mid : CacheMap) (r : ℕ) (leaf : Leaf) (f now : Cached) → Came Uses Ends old mid → Uses r leaf
      → here mid r leaf ≡ Some f → Came Uses Ends old (rewritten mid r leaf now)
  room : (mid new : CacheMap) (r : ℕ) (leaf : Leaf) (stay : Option Leaf) → Came Uses Ends old mid → Uses r leaf
      → has_place mid r leaf ≡ false → StaysNamed Uses stay
      → roomy mid r stay ≡ Some new → Came Uses Ends old new
  ends : (mid : CacheMap) (r : ℕ) (leaf : Leaf) → Came Uses Ends old mid → Ends r leaf
      → Came Uses Ends old (given_up mid r leaf)

-- this leaf at this rank alone
abbrev pub IsThat : ℕ → Leaf → ℕ → Leaf → Type 0
IsThat r leaf s q = (s ≡ r) × (q ≡ leaf)

-- no leaf ends
abbrev pub NoneEnds : ℕ → Leaf → Type 0
NoneEnds r leaf = ⊥
