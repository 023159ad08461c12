-- Fragments that go from the cache of one rank to that of another.
use Rattle.std.specs.Prelude.{◌≡◌, ◌⊎◌, ℕ, ◌+◌, ◌<◌, true, false, cond, List, [], ◌∷◌, drop, length, Option, Some, None}
use Rattle.std.specs.Option.{option_map}
use Rattle.std.specs.List.{AllByRecursion, list_any}
use Rattle.std.specs.FinMap as map
use Rattle.mds_types.specs.declared.refusals.Refusal.{Refusal}
use Rattle.mds_types.specs.declared.refusals.Refusal.TheVariants.{NoMemory, NothingToEvict}
use Rattle.cached_frag.specs.Cached.{Cached, imported}
use Rattle.dentry_cache.specs.Cache.{Leaf, Unsaved, leaf_cmp, leaf_is}
use Rattle.dentry_cache.specs.CacheCalls.{CanKeep, CanNotKeep, unclean_in}
use Rattle.dentry_cache.specs.CacheMap.{CacheMap, clean_in, given_up, has_place, here, roomy, used_at, with_frag}

-- ---- what is asked of the leaves

-- a rank has each of these leaves' fragments, and it isn't clean
abbrev pub AreUncleanAt : CacheMap → ℕ → List Leaf → Type 0
AreUncleanAt c r leaves = AllByRecursion (λ (leaf : Leaf). unclean_in (here c r leaf) ≡ true) leaves

-- it has each of these, and it is clean
abbrev pub AreCleanAt : CacheMap → ℕ → List Leaf → Type 0
AreCleanAt c r leaves = AllByRecursion (λ (leaf : Leaf). clean_in (here c r leaf) ≡ true) leaves

-- none of these leaves has a place at a rank
abbrev pub HaveNoPlace : CacheMap → ℕ → List Leaf → Type 0
HaveNoPlace c r leaves = AllByRecursion (λ (leaf : Leaf). has_place c r leaf ≡ false) leaves

-- ---- what is made of the caches

-- a rank keeps a place for one leaf more: one that is free, or becomes so where the least recently used of its clean
-- fragments goes
abbrev pub and_kept : Option CacheMap → ℕ → Leaf → Option CacheMap
and_kept (Some c) r leaf = option_map (λ (mid : CacheMap). used_at mid r leaf) (roomy c r None)
and_kept None r leaf = None

-- so for each of these leaves, the last one first
abbrev pub kept_all : CacheMap → ℕ → List Leaf → Option CacheMap
kept_all c r [] = Some c
kept_all c r (leaf ∷ leaves) = and_kept (kept_all c r leaves) r leaf

-- a fragment that was taken from a rank is at another, as the most recently used
abbrev pub moved_as : CacheMap → ℕ → Leaf → Option Cached → CacheMap
moved_as c to leaf (Some f) = with_frag c to leaf (imported f)
moved_as c to leaf None = c

abbrev pub moved : CacheMap → ℕ → ℕ → Leaf → CacheMap
moved c from to leaf = moved_as (given_up c from leaf) to leaf (here c from leaf)

-- so of each of these leaves, the last one first
abbrev pub moved_all : CacheMap → ℕ → ℕ → List Leaf → CacheMap
moved_all c from to [] = c
moved_all c from to (leaf ∷ leaves) = moved (moved_all c from to leaves) from to leaf

-- the places of these leaves at a rank are given up, each with the fragment in it
abbrev pub without_all : CacheMap → ℕ → List Leaf → CacheMap
without_all c r [] = c
without_all c r (leaf ∷ leaves) = given_up (without_all c r leaves) r leaf

-- a rank handed leaves over to another: a place was kept for each that isn't clean, then each went there, and those
-- that are clean are cached no more
abbrev pub HandsFragmentsOver : ℕ → ℕ → List Leaf → List Leaf → (old new : CacheMap) → Type 0
HandsFragmentsOver from to leaves clean old new =
    (mid : CacheMap) × (kept_all old to leaves ≡ Some mid)
    × (new ≡ without_all (moved_all mid from to leaves) from clean)

-- ---- what is left where they aren't

-- want of memory came with the place of one of these leaves, once it was free, and those that were kept before are
-- given up
abbrev pub WantsPlace : ℕ → List Leaf → (old new : CacheMap) → Type 0
WantsPlace r leaves old new =
    (i : ℕ) × (i < length leaves) × (mid : CacheMap) × (kept_all old r (drop (i + 1) leaves) ≡ Some mid)
    × (then : CacheMap) × (roomy mid r None ≡ Some then)
    × (new ≡ without_all then r (drop (i + 1) leaves))

-- why nothing was handed over: fewer places of the other rank are free or can become so than are asked for, and all is
-- as it was; where as many are it was want of memory
abbrev pub MayNotHandOver : ℕ → List Leaf → (old new : CacheMap) → Refusal → Type 0
MayNotHandOver to leaves old new reason =
    ((reason ≡ NothingToEvict) × CanNotKeep (length leaves) old to None × (new ≡ old))
    ⊎ ((reason ≡ NoMemory) × CanKeep (length leaves) old to None × WantsPlace to leaves old new)

-- ---- what isn't clean

-- what isn't clean of these leaves is of generation 0, and of any other as it was
abbrev pub handed : List Leaf → Leaf → Option Unsaved → Option Unsaved
handed leaves leaf u =
    cond (list_any (leaf_is leaf) leaves) (option_map (λ (v : Unsaved). record v { generation = 0 }) u) u

abbrev pub AreHanded : List Leaf → (old new : map.FinMap leaf_cmp Unsaved) → Type 0
AreHanded leaves old new = (leaf : Leaf) → map.get new leaf ≡ handed leaves leaf (map.get old leaf)
