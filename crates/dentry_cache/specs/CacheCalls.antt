-- What calls at a rank make of the caches of all ranks, and why they may be refused.
use Rattle.std.specs.Prelude.{◌≡◌, ◌⊎◌, ℕ, ◌+◌, ◌<◌, ◌≤◌, Bool, true, false, not, List, filter, length, is_some, Option, Some, None}
use Rattle.mds_types.specs.declared.object_names.ObjName.TheVariants.{Frag as FragOf}
use Rattle.mds_types.specs.declared.refusals.Refusal.{Refusal}
use Rattle.mds_types.specs.declared.refusals.Refusal.TheVariants.{NoMemory, StoreFault, Damaged, NothingToEvict}
use Rattle.objstore.specs.Omap.{Omap}
use Rattle.cached_frag.specs.Cached.{Cached, is_clean}
use Rattle.std.specs.FinMap as finmap
use Rattle.dentry_cache.specs.Cache.{IsThere, Leaf}
use Rattle.dentry_cache.specs.CacheMap.{CacheMap, goes, has_place, here, order, rewritten, roomy, used_at, with_frag}
use Rattle.dentry_cache.specs.Loading.{Loads}

-- the fragment of a leaf at a rank is another, which this relates to it, and is the most recently used
abbrev pub IsEdited : (Cached → Cached → Type 0) → ℕ → Leaf → Option Cached → (old new : CacheMap) → Type 0
IsEdited Change r leaf None old new = ⊥
IsEdited Change r leaf (Some f) old new = (now : Cached) × Change f now × (new ≡ with_frag old r leaf now)

abbrev pub Edits : (Cached → Cached → Type 0) → ℕ → Leaf → (old new : CacheMap) → Type 0
Edits Change r leaf old new = IsEdited Change r leaf (here old r leaf) old new

-- the same, but the order of use stays
abbrev pub IsRewritten : (Cached → Cached → Type 0) → ℕ → Leaf → Option Cached → (old new : CacheMap) → Type 0
IsRewritten Change r leaf None old new = ⊥
IsRewritten Change r leaf (Some f) old new = (now : Cached) × Change f now × (new ≡ rewritten old r leaf now)

abbrev pub Rewrites : (Cached → Cached → Type 0) → ℕ → Leaf → (old new : CacheMap) → Type 0
Rewrites Change r leaf old new = IsRewritten Change r leaf (here old r leaf) old new

-- no place is kept at a rank for a fragment of this leaf that will be made: where it has a place, its fragment is in it
abbrev pub HasNoKeptPlace : CacheMap → ℕ → Leaf → Type 0
HasNoKeptPlace c r leaf = has_place c r leaf ≡ true → IsThere (here c r leaf)

-- no place is kept for any leaf at any rank
abbrev pub KeepsNone : CacheMap → Type 0
KeepsNone c = (r : ℕ) (leaf : Leaf) → HasNoKeptPlace c r leaf

-- a leaf has no place at a rank, and its fragment is at none
abbrev pub IsAbsent : CacheMap → ℕ → Leaf → Type 0
IsAbsent c r leaf = (has_place c r leaf ≡ false) × (finmap.get c.held leaf ≡ None)

-- no place was taken at a rank, but one may have become free
abbrev pub MakesRoomAt : ℕ → Option Leaf → (old new : CacheMap) → Type 0
MakesRoomAt r stay old new = (new ≡ old) ⊎ (roomy old r stay ≡ Some new)

-- a place was kept for a leaf: one that was free, or became so
abbrev pub KeepsAt : ℕ → Leaf → Option Leaf → (old new : CacheMap) → Type 0
KeepsAt r leaf stay old new = (mid : CacheMap) × (roomy old r stay ≡ Some mid) × (new ≡ used_at mid r leaf)

-- why none was: no place is free and no fragment may go, or want of memory
abbrev pub MayNotKeepAt : ℕ → Option Leaf → CacheMap → Refusal → Type 0
MayNotKeepAt r stay old reason = (reason ≡ NoMemory) ⊎ ((reason ≡ NothingToEvict) × (roomy old r stay ≡ None))

-- what a refusal leaves: where no place could become free, all as it was; any other comes after a place was free or
-- became so
abbrev pub IsRefusedAt : ℕ → Option Leaf → (old new : CacheMap) → Refusal → Type 0
IsRefusedAt r stay old new reason =
    ((reason ≡ NothingToEvict) × (new ≡ old)) ⊎ ((reason ≡ NothingToEvict → ⊥) × (roomy old r stay ≡ Some new))

-- a leaf that had a place is the most recently used; any other is there as its object spells it, in a place that was
-- free or became so
abbrev pub FetchesAt : ℕ → Leaf → Option Leaf → Option Omap → Bool → (old new : CacheMap) → Type 0
FetchesAt r leaf stay object true old new = new ≡ used_at old r leaf
FetchesAt r leaf stay object false old new =
    (finmap.get old.held leaf ≡ None) × (f : Cached) × Loads leaf.1 object (Some f) × (mid : CacheMap)
    × (roomy old r stay ≡ Some mid) × (new ≡ with_frag mid r leaf f)

-- why it isn't: as the store refused a call, or its object spells no fragment of it, or no place is free and no
-- fragment may go
abbrev pub MayNotFetchAt : ℕ → Leaf → Option Leaf → Option Omap → CacheMap → Refusal → Type 0
MayNotFetchAt r leaf stay object old reason =
    (reason ≡ NoMemory)
    ⊎ (reason ≡ StoreFault)
    ⊎ ((reason ≡ Damaged (FragOf leaf.0 leaf.1)) × Loads leaf.1 object None)
    ⊎ ((reason ≡ NothingToEvict) × (roomy old r stay ≡ None))

-- ---- places that can't become free

abbrev pub unclean_in : Option Cached → Bool
unclean_in (Some f) = not (is_clean f)
unclean_in None = false

-- the leaves of a rank whose fragments aren't clean, and those for which a place is kept
abbrev pub unclean_at : CacheMap → ℕ → List Leaf
unclean_at c r = filter (λ (leaf : Leaf). unclean_in (here c r leaf)) (order c r)

abbrev pub kept_at : CacheMap → ℕ → List Leaf
kept_at c r = filter (λ (leaf : Leaf). not (is_some (here c r leaf))) (order c r)

-- fewer than so many places of a rank are free or can become so: each other one is that of a fragment that isn't clean
abbrev pub LacksAt : ℕ → CacheMap → ℕ → Type 0
LacksAt count c r = c.cap < length (unclean_at c r) + count

-- ---- places for several fragments

-- the leaves of a rank whose fragments may go, while one is to stay
abbrev pub going_at : CacheMap → ℕ → Option Leaf → List Leaf
going_at c r stay = filter (goes c r stay) (order c r)

-- so many places of a rank are free, or become so where such fragments go
abbrev pub CanKeep : ℕ → CacheMap → ℕ → Option Leaf → Type 0
CanKeep count c r stay = length (order c r) + count ≤ c.cap + length (going_at c r stay)

-- fewer are
abbrev pub CanNotKeep : ℕ → CacheMap → ℕ → Option Leaf → Type 0
CanNotKeep count c r stay = c.cap + length (going_at c r stay) < length (order c r) + count
