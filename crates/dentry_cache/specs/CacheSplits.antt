-- What is made ready at a rank for a fragment's split, and what the split makes of the caches of all ranks.
use Rattle.std.specs.Prelude.{◌≡◌, ◌⊎◌, ℕ, zero, suc, ◌+◌, ◌<◌, ◌≤◌, ◌^◌, true, length, List, [], ◌∷◌, Some, None}
use Rattle.std.specs.FinMap as finmap
use Rattle.objstore.specs.Objects.{Objects}
use Rattle.cached_frag.specs.Cached.{Cached, shown_names}
use Rattle.mds_types.specs.Frag.{Fragment, child_of}
use Rattle.mds_types.specs.declared.ids.Ino.{Ino}
use Rattle.mds_types.specs.declared.refusals.Refusal.{Refusal}
use Rattle.mds_types.specs.declared.refusals.Refusal.TheVariants.{NoMemory, NothingToEvict}
use Rattle.dentry_cache.specs.declared.parts.Part.{Part}
use Rattle.dentry_cache.specs.Cache.{HasCached, Leaf, Unsaved, leaf_cmp, unsaved_in, with_unsaved}
use Rattle.dentry_cache.specs.CacheCalls.{CanKeep, CanNotKeep, IsAbsent, KeepsAt, Rewrites, kept_at, unclean_at}
use Rattle.dentry_cache.specs.CacheMap.{CacheMap, given_up, has_place, here, roomy, with_frag}
use Rattle.dentry_cache.specs.Divided.{AreChildren, AreReady}
use Rattle.dentry_cache.specs.Parting.{AreKeptApart}
use Rattle.dentry_cache.specs.Reads.{Reads}

-- a place is kept at a rank for a leaf's fragment that will be made
abbrev pub IsKeptFor : CacheMap → ℕ → Leaf → Type 0
IsKeptFor c r leaf = (has_place c r leaf ≡ true) × (finmap.get c.held leaf ≡ None)

-- the children of a fragment by so many bits, at a rank
abbrev pub IsChildAt : ℕ → Ino → Fragment → ℕ → ℕ → Leaf → Type 0
IsChildAt r dir frag bits s q = (s ≡ r) × (i : ℕ) × (i < 2 ^ bits) × (q ≡ (dir, child_of frag i bits))

-- the fragment, or one of its children, at a rank
abbrev pub IsFamilyAt : ℕ → Ino → Fragment → ℕ → ℕ → Leaf → Type 0
IsFamilyAt r dir frag bits s q = ((s ≡ r) × (q ≡ (dir, frag))) ⊎ IsChildAt r dir frag bits s q

-- each child has a kept place; none has a place, or a fragment at any rank
abbrev pub HaveKeptPlaces : CacheMap → ℕ → Ino → Fragment → ℕ → Type 0
HaveKeptPlaces c r dir frag bits = (i : ℕ) → i < 2 ^ bits → IsKeptFor c r (dir, child_of frag i bits)

abbrev pub AreAbsent : CacheMap → ℕ → Ino → Fragment → ℕ → Type 0
AreAbsent c r dir frag bits = (i : ℕ) → i < 2 ^ bits → IsAbsent c r (dir, child_of frag i bits)

-- the same fragment, but for its room for names that become clean
abbrev pub IsButPlaces : Cached → Cached → Type 0
IsButPlaces f now = now ≡ record f { places = now.places }

-- a fragment stays where it is, but for that room
abbrev pub StaysAt : ℕ → Leaf → (old new : CacheMap) → Type 0
StaysAt r leaf old new = HasCached (here old r leaf) (λ (f : Cached). HasCached (here new r leaf) (IsButPlaces f))

-- a fragment is ready to give its names away, and these are its children, each with room for its names
abbrev pub IsReadyToSplit : Fragment → ℕ → List Part → Cached → Type 0
IsReadyToSplit frag bits parts f = (finmap.len f.dirty ≤ f.places) × AreReady frag bits (shown_names f) parts

-- so of the fragment of a leaf at a rank
abbrev pub IsReadyAt : ℕ → Ino → Fragment → ℕ → CacheMap → List Part → Type 0
IsReadyAt r dir frag bits c parts = HasCached (here c r (dir, frag)) (IsReadyToSplit frag bits parts)

-- places were kept for so many children, one after the other: each was free, or became so where the least recently
-- used of the rank's clean fragments went, but for the one that splits
abbrev pub KeepsChildren : ℕ → Ino → Fragment → ℕ → ℕ → (old new : CacheMap) → Type 0
KeepsChildren r dir frag bits zero old new = new ≡ old
KeepsChildren r dir frag bits (suc n) old new =
    (mid : CacheMap)
    × KeepsChildren r dir frag bits n old mid
    × KeepsAt r (dir, child_of frag n bits) (Some (dir, frag)) mid new

-- so for all of them
abbrev pub KeepsAll : ℕ → Ino → Fragment → ℕ → (old new : CacheMap) → Type 0
KeepsAll r dir frag bits old new = KeepsChildren r dir frag bits (2 ^ bits) old new

-- all is ready for a split at a rank: the fragment is the most recently used but for its children, and a place was
-- kept for each of these
abbrev pub ReadiesAt : ℕ → Ino → Fragment → ℕ → (old new : CacheMap) → Type 0
ReadiesAt r dir frag bits old new =
    (mid : CacheMap) × Rewrites IsButPlaces r (dir, frag) old mid × KeepsAll r dir frag bits mid new

-- no name changed, none but the fragment and its children were used, and places of children at most were given up
abbrev pub ReadsFamily : ℕ → Ino → Fragment → ℕ → (old new : CacheMap) → Type 0
ReadsFamily r dir frag bits old new =
    (objects : Objects) → Reads (IsFamilyAt r dir frag bits) (IsChildAt r dir frag bits) objects old new

-- the places of so many children are given up
abbrev pub without_children : ℕ → Ino → Fragment → ℕ → ℕ → CacheMap → CacheMap
without_children r dir frag bits zero c = c
without_children r dir frag bits (suc n) c =
    given_up (without_children r dir frag bits n c) r (dir, child_of frag n bits)

-- want of memory came with the place of one of the children, once it was free, and those that were kept before are
-- given up
abbrev pub WantsChild : ℕ → Ino → Fragment → ℕ → (old new : CacheMap) → Type 0
WantsChild r dir frag bits old new =
    (n : ℕ) × (n < 2 ^ bits) × (mid : CacheMap) × KeepsChildren r dir frag bits n old mid
    × (then : CacheMap) × (roomy mid r (Some (dir, frag)) ≡ Some then)
    × (new ≡ without_children r dir frag bits (2 ^ bits) then)

-- it came so, or before any place was taken; the fragment is the most recently used
abbrev pub WantsAt : ℕ → Ino → Fragment → ℕ → (old new : CacheMap) → Type 0
WantsAt r dir frag bits old new =
    (mid : CacheMap) × Rewrites IsButPlaces r (dir, frag) old mid × ((new ≡ mid) ⊎ WantsChild r dir frag bits mid new)

-- why nothing was made ready, and what that leaves: where fewer places of the rank are free or can become so than there
-- will be children, beside that of the fragment, all as it was; where as many are it was want of memory
abbrev pub RefusesAt : ℕ → Ino → Fragment → ℕ → (old new : CacheMap) → Refusal → Type 0
RefusesAt r dir frag bits old new reason =
    ((reason ≡ NothingToEvict) × CanNotKeep (2 ^ bits) old r (Some (dir, frag)) × (new ≡ old))
    ⊎ ((reason ≡ NoMemory) × CanKeep (2 ^ bits) old r (Some (dir, frag)) × WantsAt r dir frag bits old new)

-- why no places were kept for so many children: want of memory, or each place but so many is kept, or that of a
-- fragment that isn't clean
abbrev pub MayNotKeepAll : ℕ → CacheMap → ℕ → Refusal → Type 0
MayNotKeepAll count c r reason =
    (reason ≡ NoMemory)
    ⊎ ((reason ≡ NothingToEvict) × (c.cap < length (unclean_at c r) + length (kept_at c r) + count + 1))

-- these fragments in their places, each the most recently used when it comes in
abbrev pub with_parts : Ino → ℕ → List Part → CacheMap → CacheMap
with_parts dir r [] c = c
with_parts dir r (part ∷ parts) c = with_parts dir r parts (with_frag c r (dir, part.frag) part.fragment)

-- a place is kept at a rank for each of these fragments, and no two of them are one leaf
abbrev pub AreFillable : ℕ → Ino → List Part → CacheMap → Type 0
AreFillable r dir [] c = Unit {0}
AreFillable r dir (part ∷ parts) c =
    IsKeptFor c r (dir, part.frag) × AreKeptApart (dir, part.frag) dir parts × AreFillable r dir parts c

-- a fragment was split at its rank: its place is given up, and its children stand in theirs, with its names dirty at
-- this version
abbrev pub SplitsAt : ℕ → Ino → Fragment → ℕ → List Part → ℕ → (old new : CacheMap) → Cached → Type 0
SplitsAt r dir frag bits parts version old new f =
    (made : List Part)
    × AreChildren frag bits (shown_names f) version parts made
    × (new ≡ with_parts dir r made (given_up old r (dir, frag)))

-- so it was with the fragment that a leaf had there
abbrev pub SplitsInto : ℕ → Ino → Fragment → ℕ → List Part → ℕ → (old new : CacheMap) → Type 0
SplitsInto r dir frag bits parts version old new =
    HasCached (here old r (dir, frag)) (SplitsAt r dir frag bits parts version old new)

-- what isn't clean, with these fragments
abbrev pub with_unclean : Ino → List Part → finmap.FinMap leaf_cmp Unsaved → finmap.FinMap leaf_cmp Unsaved
with_unclean dir [] m = m
with_unclean dir (part ∷ parts) m =
    with_unclean dir parts (with_unsaved m (dir, part.frag) (unsaved_in (Some part.fragment)))
