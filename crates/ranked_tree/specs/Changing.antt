-- What a change makes of the tree with its subtree roots. Here the roots are those with the ranks that hold their
-- regions.
use Rattle.std.specs.Prelude.{◌≡◌, ◌⊎◌, Some, Result, Ok, Err}
use Rattle.mds_types.specs.declared.refusals.Refusal.{Refusal}
use Rattle.mds_types.specs.declared.refusals.Refusal.TheVariants.{NoMemory}
use Rattle.dentry_cache.specs.CacheMap.{CacheMap}
use Rattle.dentry_cache.specs.Came.{Came, NoneEnds}
use Rattle.dentry_cache.specs.Reads.{Reads}
use Rattle.namespace_ops.specs.declared.plans.Change.{Change}
use Rattle.subtree_map.specs.Authority.{Roots}
use Rattle.subtree_map.specs.Changes.{Subtrees}
use Rattle.mdcache.specs.Changes.{Makes}
use Rattle.mdcache.specs.Core.{Core, state_of}
use Rattle.mdcache.specs.Frags.{KeepsState, LacksToMake}
use Rattle.mdcache.specs.Made.{IsRightChange}
use Rattle.mdcache.specs.Ready.{MayNotBeReady}
use Rattle.mdcache.specs.Shown.{shown_tree}
use Rattle.mdcache.specs.State.{State as TreeState}
use Rattle.ranked_tree.specs.Held.{AsksFor, ComesWith, IsGone, LacksPlacesAsked, NamesDir, ReadsFor}
use Rattle.ranked_tree.specs.Subtrees.{FollowChange, LoseDirectory}

-- a change was made, and is right; of the caches live leaves of the directories that it names were read at most, each
-- at the rank that holds it, and the first leaf of the directory that it makes, and then used and changed; those of a
-- directory that went ended
pub record IsChangedHeld (roots : Roots) (change : Change) (old new : Core) : Type 0 where
  pub made : Makes change (state_of old) (state_of new)
  pub right : IsRightChange change (state_of old) (state_of new)
  pub between : CacheMap
  pub read : Reads (AsksFor (state_of old) roots (NamesDir change) (ComesWith (state_of old) roots change)) NoneEnds
      old.objects old.caches between
  pub came : Came (AsksFor (state_of old) roots (NamesDir change) (ComesWith (state_of old) roots change))
      (IsGone (shown_tree (state_of new))) between new.caches

-- where it isn't made, such leaves were read at most: for want of memory, which may come first; otherwise numbers lack,
-- and exactly then it is refused so, a fault came, or places lack
abbrev pub ChangesHeld : Roots → Change → (old new : Core) → Result (Unit {0}) Refusal → Type 0
ChangesHeld roots change old new (Ok done) = IsChangedHeld roots change old new
ChangesHeld roots change old new (Err reason) =
    KeepsState old new (Some reason) × ReadsFor roots (NamesDir change) (ComesWith (state_of old) roots change) old new
    × ((reason ≡ NoMemory)
    ⊎ MayNotBeReady (LacksToMake change (state_of old))
    (LacksPlacesAsked 2 old roots (NamesDir change)) old.faults new.faults reason)

-- the subtree roots follow a change that is made, and a directory that goes has no promise either
abbrev pub FollowsChange : Change → TreeState → (before after : Subtrees) → Result (Unit {0}) Refusal → Type 0
FollowsChange change tree before after (Ok done) =
    FollowChange change tree before.roots after.roots × LoseDirectory before.promises after.promises change.gone
FollowsChange change tree before after (Err reason) = (after.roots ≡ before.roots) × (after.promises ≡ before.promises)
