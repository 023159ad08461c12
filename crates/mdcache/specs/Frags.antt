-- The tree over caches and a store as operations see it: what reads keep, why a call is refused, and what a change
-- takes.
use Rattle.std.specs.Prelude.{◌≡◌, ◌⊎◌, ℕ, ◌+◌, ◌-◌, ◌<◌, ◌≤◌, ◌^◌, Bool, true, false, Option, Some, None, length}
use Rattle.mds_types.specs.declared.ids.Ino.{Ino}
use Rattle.mds_types.specs.declared.ids.Rank.{Rank}
use Rattle.mds_types.specs.declared.operations.Op.{Op}
use Rattle.mds_types.specs.declared.refusals.Refusal.{Refusal}
use Rattle.mds_types.specs.declared.refusals.Refusal.TheVariants.{NoInodes, NoMemory, NothingToEvict, StoreFault}
use Rattle.mds_types.specs.declared.inodes.Inode.{Inode}
use Rattle.mds_types.specs.Shape.{Shape, Looks, Lists, Makes, Sets, Unlinks, Removes, Moves, shape}
use Rattle.mds_types.specs.Tree.{is_dir_kind}
use Rattle.objstore.specs.Objects.{faults_told}
use Rattle.dentry_cache.specs.Cache.{HasRoom, Leaf}
use Rattle.dentry_cache.specs.CacheMap.{here, unclean_of}
use Rattle.dentry_cache.specs.CacheSplits.{IsKeptFor}
use Rattle.inode_table.specs.Dirs.{Covers, leaves_of}
use Rattle.namespace_ops.specs.Changes.{directory_at}
use Rattle.namespace_ops.specs.declared.plans.Spot.{Spot}
use Rattle.namespace_ops.specs.declared.plans.Change.{Change}
use Rattle.mdcache.specs.Core.{Core, LacksPlacesAt, state_of}
use Rattle.mdcache.specs.Changes.{first_leaf}
use Rattle.mdcache.specs.Ready.{LacksNumbers}
use Rattle.mdcache.specs.State.{State}

-- ---- reads and refusals

-- reads and refusals keep the state, what isn't clean of each rank, and the number of ranks and places; the store's
-- count of faults rises by one where a fault is told, and not otherwise
pub record KeepsState (old new : Core) (told : Option Refusal) : Type 0 where
  pub state : state_of new ≡ state_of old
  pub unclean : (r : ℕ) → unclean_of new.caches r ≡ unclean_of old.caches r
  pub count : length new.caches.used ≡ length old.caches.used
  pub cap : new.caches.cap ≡ old.caches.cap
  pub counted : new.faults ≡ old.faults + faults_told told

-- the numbers that lack: a version for the name that is changed, two for a move, and a generation for the leaf of a new
-- directory
abbrev pub LacksForIn : Shape → State → Type 0
LacksForIn (Looks dentry answer) s = ⊥
LacksForIn (Lists dir after max) s = ⊥
LacksForIn (Makes dentry kind mode birth) s =
    LacksNumbers 1 s.next_version ⊎ ((is_dir_kind kind ≡ true) × LacksNumbers 1 s.next_generation)
LacksForIn (Sets dentry alteration) s = LacksNumbers 1 s.next_version
LacksForIn (Unlinks dentry) s = LacksNumbers 1 s.next_version
LacksForIn (Removes dentry) s = LacksNumbers 1 s.next_version
LacksForIn (Moves from to) s = LacksNumbers 2 s.next_version

abbrev pub LacksFor : Op → State → Type 0
LacksFor op s = LacksForIn (shape op) s

-- the numbers that lack for a change: a version for each name, and a generation for the leaf of a directory that comes
abbrev pub LacksBy : Option Spot → Option (Spot × Inode) → Bool → State → Type 0
LacksBy None None comes s = ⊥
LacksBy None (Some put) true s =
    LacksNumbers 1 s.next_version ⊎ ((is_dir_kind put.1.kind ≡ true) × LacksNumbers 1 s.next_generation)
LacksBy None (Some put) false s = LacksNumbers 1 s.next_version
LacksBy (Some spot) None comes s = LacksNumbers 1 s.next_version
LacksBy (Some spot) (Some put) comes s = LacksNumbers 2 s.next_version

abbrev pub LacksToMake : Change → State → Type 0
LacksToMake change s = LacksBy change.takes change.puts change.comes s

-- a call for an operation is refused for want of memory, by a store whose count of faults rose, for places that lack,
-- or where a counter is at its end
abbrev pub MayRefuse : (NoPlace : Type 0) → (old new : Core) → Op → Refusal → Type 0
MayRefuse NoPlace old new op reason =
    (reason ≡ NoMemory) ⊎ ((reason ≡ StoreFault) × (old.faults < new.faults)) ⊎ ((reason ≡ NothingToEvict) × NoPlace)
    ⊎ ((reason ≡ NoInodes) × LacksFor op (state_of old))

-- fewer than two places are free, or can become so, at one of the ranks that hold the leaves which a change names
abbrev pub LacksPlacesBy : Core → Option Spot → Option (Spot × Inode) → Type 0
LacksPlacesBy core None None = ⊥
LacksPlacesBy core None (Some put) = LacksPlacesAt 2 core put.0.at.rank
LacksPlacesBy core (Some spot) None = LacksPlacesAt 2 core spot.at.rank
LacksPlacesBy core (Some spot) (Some put) = LacksPlacesAt 2 core spot.at.rank ⊎ LacksPlacesAt 2 core put.0.at.rank

abbrev pub LacksPlacesOf : Core → Change → Type 0
LacksPlacesOf core change = LacksPlacesBy core change.takes change.puts

-- ---- what is ready for a change, within its call

-- a leaf is cached at a rank and has room for a change of a name, and a version is left for it
pub record IsNameReady (core : Core) (rank : Rank) (leaf : Leaf) : Type 0 where
  pub room : HasRoom (here core.caches rank.0 leaf)
  pub number : core.next_version < 2 ^ 64 - 1

-- a place is kept at a rank for the leaf of a directory that comes, a generation is left for it, and there is room for
-- the directory
pub record IsDirectoryReady (core : Core) (rank : Rank) (dir : Ino) : Type 0 where
  pub place : IsKeptFor core.caches rank.0 (first_leaf dir)
  pub home : 0 < core.room.dirs
  pub generation : core.next_generation < 2 ^ 64 - 1

-- there is room on the purge list for the names of a directory's objects, if one goes
abbrev pub HasListRoom : Covers → ℕ → Option Ino → Type 0
HasListRoom covers room None = Unit {0}
HasListRoom covers room (Some dir) = 1 + length (leaves_of covers dir.0) ≤ room

-- the directory that a change moves, if it moves one
abbrev pub dir_moved : Option Spot → Option (Spot × Inode) → Option Ino
dir_moved None puts = None
dir_moved (Some spot) None = None
dir_moved (Some spot) (Some put) = directory_at (Some put.1)

abbrev pub dir_moving : Change → Option Ino
dir_moving change = dir_moved change.takes change.puts
