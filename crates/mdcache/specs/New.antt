-- The state over a store that has no object.
use Rattle.std.specs.Prelude.{◌≡◌, ◌⊎◌, ℕ}
use Rattle.std.specs.FinMap as map
use Rattle.mds_types.specs.Frag.{root_fragment}
use Rattle.mds_types.specs.declared.refusals.Refusal.{Refusal}
use Rattle.mds_types.specs.declared.refusals.Refusal.TheVariants.{NotClean}
use Rattle.objstore.specs.Objects.{MayRefuse, Objects}
use Rattle.cached_frag.specs.declared.bases.Base.TheVariants.{Fresh}
use Rattle.cached_frag.specs.Cached.{Cached}
use Rattle.dentry_cache.specs.Cache.{Leaf, Unsaved}
use Rattle.dentry_cache.specs.CacheMap.{CacheMap, no_caches, with_frag}
use Rattle.mdcache.specs.State.{State}

-- the one leaf of the root directory
abbrev pub root_leaf : Leaf
root_leaf = (record { 0 = 1 }, root_fragment)

-- it is the first fragment made, and has no names; no object counts for it
abbrev pub new_root : Unsaved
new_root = record { base = Fresh; generation = 1; dirty = map.empty }

abbrev pub cached_root : Cached
cached_root = record { base = Fresh; generation = 1; clean = map.empty; dirty = map.empty; room = 0; places = 0 }

-- the caches of so many ranks, each with so many places: the root's leaf is cached at rank 0, and nothing else
abbrev pub new_caches : ℕ → ℕ → CacheMap
new_caches ranks places = with_frag (no_caches ranks places) 0 root_leaf cached_root

-- the root directory alone, with no entry, and nothing begun, where a directory may have so many entries
abbrev pub new_tree_state : ℕ → State
new_tree_state limit = record {
  limit = limit;
  homes = map.empty;
  covers = map.empty;
  counts = map.insert map.empty 1 0;
  pins = map.empty;
  unsaved = map.insert map.empty root_leaf new_root;
  objects = map.empty;
  jobs = map.empty;
  purge = map.empty;
  next_job = 1;
  next_generation = 2;
  next_version = 1;
}

-- a store is refused NotClean exactly where it has objects, unless it refuses to tell, or want of memory comes
abbrev pub MayNotFormat : Objects → (before after : ℕ) → Refusal → Type 0
MayNotFormat objects before after reason =
    ((reason ≡ NotClean) × (objects ≡ map.empty → ⊥)) ⊎ MayRefuse before after reason
