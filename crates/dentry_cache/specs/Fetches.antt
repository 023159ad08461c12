-- What a fetch makes of a cache, and why it may be refused.
use Rattle.std.specs.Prelude.{◌≡◌, ◌⊎◌, ℕ, ◌<◌, Option, Some, None}
use Rattle.mds_types.specs.declared.object_names.ObjName.TheVariants.{Frag as FragOf}
use Rattle.mds_types.specs.declared.refusals.Refusal.{Refusal}
use Rattle.mds_types.specs.declared.refusals.Refusal.TheVariants.{NoMemory, StoreFault, NoInodes, Trimmed, NotAuthority, Frozen, Pinned, NoSuchFrag, BadSplit, TooManyFrags, StaleJob, JobOutstanding, WrongExportState, InboxEmpty, InboxFull, NothingToEvict, Damaged, NotClean}
use Rattle.objstore.specs.Omap.{Omap}
use Rattle.cached_frag.specs.Cached.{Cached}
use Rattle.dentry_cache.specs.Loading.{Loads}
use Rattle.dentry_cache.specs.Cache.{Held, IsFull, Leaf, MakesRoom, MayMakeRoom, TakesPlace, held, used_as}
use Rattle.dentry_cache.specs.declared.cache.Place.{Place}

-- why a fetch may be refused, that has to leave one fragment where it is: no place is free and no fragment may go; or
-- as the object or the store has it
abbrev pub MayNotFetch : Option Leaf → Held → Leaf → Option Omap → ℕ → ℕ → Refusal → Type 0
MayNotFetch stay old leaf object before after NoMemory = Unit {0}
MayNotFetch stay old leaf object before after StoreFault = before < after
MayNotFetch stay old leaf object before after (Damaged name) = (name ≡ FragOf leaf.0 leaf.1) × Loads leaf.1 object None
MayNotFetch stay old leaf object before after NothingToEvict = IsFull stay old
MayNotFetch stay old leaf object before after NoInodes = ⊥
MayNotFetch stay old leaf object before after Trimmed = ⊥
MayNotFetch stay old leaf object before after NotAuthority = ⊥
MayNotFetch stay old leaf object before after Frozen = ⊥
MayNotFetch stay old leaf object before after Pinned = ⊥
MayNotFetch stay old leaf object before after NoSuchFrag = ⊥
MayNotFetch stay old leaf object before after BadSplit = ⊥
MayNotFetch stay old leaf object before after TooManyFrags = ⊥
MayNotFetch stay old leaf object before after StaleJob = ⊥
MayNotFetch stay old leaf object before after JobOutstanding = ⊥
MayNotFetch stay old leaf object before after WrongExportState = ⊥
MayNotFetch stay old leaf object before after InboxEmpty = ⊥
MayNotFetch stay old leaf object before after InboxFull = ⊥
MayNotFetch stay old leaf object before after NotClean = ⊥

-- what a fetch leaves: a fragment that was there is the most recently used; any other is there as its object spells it
abbrev pub IsFetched : Option Leaf → Held → Leaf → Option Omap → Option Place → Held → Type 0
IsFetched stay old leaf object (Some place) new = new ≡ used_as leaf place old
IsFetched stay old leaf object None new =
    (f : Cached) × Loads leaf.1 object (Some f) × TakesPlace stay leaf (held f) old new

-- what a refused fetch leaves: the fragment isn't there
abbrev pub IsNotFetched : Option Leaf → Held → Option Place → Held → Type 0
IsNotFetched stay old (Some place) new = ⊥
IsNotFetched stay old None new = MayMakeRoom stay old new

-- what a refusal leaves: where no place could become free, all as it was; any other comes after a place was free or
-- became so
abbrev pub IsRefusedIn : Option Leaf → (old new : Held) → Refusal → Type 0
IsRefusedIn stay old new reason =
    ((reason ≡ NothingToEvict) × (new ≡ old)) ⊎ ((reason ≡ NothingToEvict → ⊥) × MakesRoom stay old new)
