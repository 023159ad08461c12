-- What a mount of a store gives, and why it may be refused.
use Rattle.std.specs.Prelude.{◌≡◌, ◌⊎◌, ℕ, slice_get, length, List, Some}
use Rattle.std.specs.FinMap as map
use Rattle.mds_types.specs.Tree.{Tree}
use Rattle.mds_types.specs.declared.refusals.Refusal.{Refusal}
use Rattle.objstore.specs.Omap.{Keys}
use Rattle.objstore.specs.Objects.{Objects}
use Rattle.dentry_cache.specs.CacheMap.{no_caches}
use Rattle.inode_table.specs.Dirs.{Counts, Covers, DirPins, Homes}
use Rattle.inode_table.specs.TreeTable.{IsCounted}
use Rattle.inode_table.specs.Numbers.{Supply}
pub use Rattle.cold_store.specs.ColdTree.{IsColdTree, IsFaulty}
pub use Rattle.cold_store.specs.Numbers.{IsNextNumber, IsOfRank}
pub use Rattle.cold_store.specs.Walked.{IsWalked, MayFail}
use Rattle.mdcache.specs.Core.{Core, state_of}
use Rattle.mdcache.specs.New.{new_caches, new_tree_state}
use Rattle.mdcache.specs.State.{State}

-- the directories that a store has, with the leaves of each, its count and its pin, some of its objects to be removed,
-- nothing that isn't clean, and nothing begun
abbrev pub mounted : ℕ → Objects → Homes → Covers → Counts → DirPins → Keys → State
mounted limit objects homes covers counts pins purge = record {
  limit = limit;
  homes = homes;
  covers = covers;
  counts = counts;
  pins = pins;
  unsaved = map.empty;
  objects = objects;
  jobs = map.empty;
  purge = purge;
  next_job = 1;
  next_generation = 1;
  next_version = 1;
}

-- the tree over a store that was walked, where a directory may have so many entries, whatever they have: it has what
-- the walk found, the objects that weren't reached are to be removed, and nothing is cached
pub record IsMounted (limit : ℕ) (objects : Objects) (ranks places : ℕ) (tree : Tree) (c : Core) : Type 0 where
  pub walked : IsWalked objects tree c.homes c.covers c.purge
  pub counted : IsCounted tree c.counts c.pins
  pub state : state_of c ≡ mounted limit objects c.homes c.covers c.counts c.pins c.purge
  pub caches : c.caches ≡ no_caches ranks places

-- the tree over a store that has no object, as `format` makes it
pub record IsNewTree (limit ranks places : ℕ) (tree : Tree) (c : Core) : Type 0 where
  pub none : tree ≡ map.empty
  pub state : state_of c ≡ new_tree_state limit
  pub caches : c.caches ≡ new_caches ranks places

-- a store with no object is mounted as a new one; any other as a walk finds it
abbrev pub Mounts : ℕ → Objects → (ranks places : ℕ) → Tree → Core → Type 0
Mounts limit objects ranks places tree c =
    ((objects ≡ map.empty) × IsNewTree limit ranks places tree c)
    ⊎ ((objects ≡ map.empty → ⊥) × IsMounted limit objects ranks places tree c)

-- for each of so many ranks the number that it hands out next beside a tree
pub record AreNumbers (tree : Tree) (ranks : ℕ) (numbers : List Supply) : Type 0 where
  pub count : length numbers ≡ ranks
  pub nexts : (rank : ℕ) (s : Supply) → slice_get numbers rank ≡ Some s → (s.rank ≡ rank) × IsNextNumber tree s

-- it is refused `Damaged` only with the name of a faulty object, and only where the store has objects, so never for the
-- leaf of the root that a new store lacks; otherwise for want of memory, or a fault of the store, whose count of faults
-- rose
abbrev pub MayNotMount : Objects → (before after : ℕ) → Refusal → Type 0
MayNotMount objects before after reason =
    MayFail (λ name. (objects ≡ map.empty → ⊥) × IsFaulty objects name) before after reason
