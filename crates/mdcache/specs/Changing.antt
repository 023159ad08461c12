-- What a change of the tree makes of the whole.
use Rattle.std.specs.Prelude.{◌≡◌, ℕ, Option, Some, None, Result, Ok, Err}
use Rattle.std.specs.FinMap as map
use Rattle.mds_types.specs.declared.refusals.Refusal.{Refusal}
use Rattle.dentry_cache.specs.Cache.{Leaf, Unsaved}
use Rattle.dentry_cache.specs.CacheMap.{At, CacheMap, unclean}
use Rattle.dentry_cache.specs.Came.{Came, NoneEnds}
use Rattle.dentry_cache.specs.Reads.{Reads}
use Rattle.namespace_ops.specs.declared.plans.Change.{Change}
use Rattle.mdcache.specs.Changes.{Makes}
use Rattle.mdcache.specs.Core.{Core, ReadsCore, state_of}
use Rattle.mdcache.specs.Frags.{LacksPlacesOf, LacksToMake}
use Rattle.mdcache.specs.Made.{IsRightChange}
use Rattle.mdcache.specs.Ranks.{EndsWith, IsNamedIn}
use Rattle.mdcache.specs.Ready.{MayNotBeReady}
use Rattle.mdcache.specs.State.{IsLive}

-- the generation of a leaf's cached fragment; where none is cached 0, that of one that is fetched
abbrev pub generation_in : Option At → ℕ
generation_in None = 0
generation_in (Some a) = a.frag.generation

-- a change was made, and is right; of the caches its leaves were read at most, and then used and changed, and those of
-- a directory that went ended
pub record IsChangedBy (change : Change) (old new : Core) : Type 0 where
  pub made : Makes change (state_of old) (state_of new)
  pub right : IsRightChange change (state_of old) (state_of new)
  pub between : CacheMap
  pub read : Reads (IsNamedIn change) NoneEnds old.objects old.caches between
  pub came : Came (IsNamedIn change) (EndsWith change) between new.caches
  -- a leaf that stood before keeps its fragment: what isn't clean of it has the generation of the one that was read
  pub generations : (leaf : Leaf) (u : Unsaved) → IsLive old.homes old.covers leaf
      → map.get (unclean new.caches) leaf ≡ Some u → u.generation ≡ generation_in (map.get between.held leaf)
  -- so one that wasn't cached before, and was fetched, has generation 0
  pub fetched : (leaf : Leaf) (u : Unsaved) → IsLive old.homes old.covers leaf → map.get old.caches.held leaf ≡ None
      → map.get (unclean new.caches) leaf ≡ Some u → u.generation ≡ 0

-- where it isn't made, its leaves were read at most: numbers lack, and exactly then it is refused so; otherwise for
-- want of memory, by a fault, or for places that lack
abbrev pub ChangesTree : Change → (old new : Core) → Result (Unit {0}) Refusal → Type 0
ChangesTree change old new (Ok done) = IsChangedBy change old new
ChangesTree change old new (Err reason) =
    ReadsCore (IsNamedIn change) NoneEnds old new
    × MayNotBeReady (LacksToMake change (state_of old)) (LacksPlacesOf old change) old.faults new.faults reason
