-- What a flush ends in, and what commits of whole fragments leave.
use Rattle.std.specs.Prelude.{◌≡◌, ◌⊎◌, ℕ, ◌<◌, nat_lt, true, cond, is_some, length, List, Some, None, Ok}
use Rattle.std.specs.FinMap as map
use Rattle.mds_types.specs.declared.ids.Ino.{Ino}
use Rattle.mds_types.specs.Leaf.{Leaf}
use Rattle.cached_frag.specs.declared.jobs.Job.{Job}
use Rattle.dentry_cache.specs.Cache.{IsThere, Unsaved}
use Rattle.dentry_cache.specs.CacheMap.{CacheMap, here}
use Rattle.dentry_cache.specs.Came.{Came, NoneEnds}
use Rattle.dentry_cache.specs.Loading.{object_of}
use Rattle.inode_table.specs.Dirs.{is_known, leaves_of}
use Rattle.cold_store.specs.ColdTree.{IsColdTree, tree_object_of}
use Rattle.mdcache.specs.Commits.{Begins, IsEnded, leaf_of_job}
use Rattle.mdcache.specs.Core.{Core, shown_in}
use Rattle.mdcache.specs.Objects.{tree_object}
use Rattle.mdcache.specs.SavedTrees.{HasTrees}
use Rattle.mdcache.specs.Shown.{shown_tree}
use Rattle.mdcache.specs.Sound.{IsSound}
use Rattle.mdcache.specs.State.{IsLive, State, text_of, tree_text}

-- nothing is unsaved, and each directory of more than one leaf has a tree object that says so, each other none
pub record IsFlushed (s : State) : Type 0 where
  pub clean : s.unsaved ≡ map.empty
  pub trees : (dir : Ino) → is_known s.homes dir.0 ≡ true
      → tree_object_of s.objects dir ≡ cond (nat_lt 1 (length (leaves_of s.covers dir.0)))
      (Some (tree_object (leaves_of s.covers dir.0))) None

-- the store's cold tree is the shown tree then
abbrev pub FlushedIsCold : Type 0
FlushedIsCold = (s : State) → IsSound s → IsFlushed s → IsColdTree s.objects (shown_tree s)

-- the objects are exactly those of the live leaves and of the trees of more than one leaf
pub record AreExact (s : State) : Type 0 where
  pub only : (name : List ℕ) → is_some (map.get s.objects name) ≡ true
      → ((leaf : Leaf) × IsLive s.homes s.covers leaf × (name ≡ text_of leaf))
      ⊎ ((dir : Ino) × (is_known s.homes dir.0 ≡ true) × (1 < length (leaves_of s.covers dir.0))
      × (name ≡ tree_text dir))
  pub leaves : (leaf : Leaf) → IsLive s.homes s.covers leaf → is_some (object_of s.objects leaf.0 leaf.1) ≡ true
  pub trees : (dir : Ino) → is_known s.homes dir.0 ≡ true → 1 < length (leaves_of s.covers dir.0)
      → is_some (map.get s.objects (tree_text dir)) ≡ true

-- they are so where nothing is left to be removed
abbrev pub PurgedAreExact : Type 0
PurgedAreExact = (s : State) → IsSound s → IsFlushed s → s.purge ≡ map.empty → AreExact s

-- ---- what each step of a flush keeps

-- the rank has the leaf's fragment
abbrev pub HasFragment : CacheMap → ℕ → Leaf → Type 0
HasFragment caches rank leaf = IsThere (here caches rank leaf)

-- how many entries a directory may have, where each directory stands, its leaves, its count and its pin, the shown
-- tree, and the numbers of the next fragment and the next dirty name stay; only fragments that are there are used, each
-- at its rank
pub record KeepsTree (old new : Core) : Type 0 where
  pub limit : new.limit ≡ old.limit
  pub homes : new.homes ≡ old.homes
  pub covers : new.covers ≡ old.covers
  pub counts : new.counts ≡ old.counts
  pub pins : new.pins ≡ old.pins
  pub tree : shown_in new ≡ shown_in old
  pub generation : new.next_generation ≡ old.next_generation
  pub version : new.next_version ≡ old.next_version
  pub caches : Came (HasFragment old.caches) NoneEnds old.caches new.caches

-- two such steps, one after the other, are one
abbrev pub StepsKeepTree : Type 0
StepsKeepTree = (old mid new : Core) → KeepsTree old mid → KeepsTree mid new → KeepsTree old new

-- ---- purges

-- objects that were to be removed are gone, and off the list; nothing else changed
pub record ArePurged (old new : State) : Type 0 where
  pub left : new ≡ record old { objects = new.objects; purge = new.purge }
  pub tree : shown_tree new ≡ shown_tree old
  pub others : (name : List ℕ) → map.get old.purge name ≡ None → (map.get new.objects name ≡ map.get old.objects name)
      × (map.get new.purge name ≡ None)
  pub gone : (name : List ℕ) → map.get new.purge name ≡ None → (map.get old.purge name ≡ None)
      ⊎ (map.get new.objects name ≡ None)

-- where nothing was unsaved and each directory's tree was saved whose leaves were ever set, all is flushed once nothing
-- is left to be removed
abbrev pub PurgedAreFlushed : Type 0
PurgedAreFlushed =
    (old new : State) → old.unsaved ≡ map.empty → HasTrees old → ArePurged old new → IsSound new → new.purge ≡ map.empty
    → IsFlushed new

-- ---- commits of whole fragments

-- the job stands, and has the fragment as it is still: its names are all dirty ones
pub record IsAtHand (s : State) (job : Job) : Type 0 where
  pub stands : map.get s.jobs (leaf_of_job job) ≡ Some job
  pub unsaved : Unsaved
  pub beside : map.get s.unsaved (leaf_of_job job) ≡ Some unsaved
  pub names : job.snapshot.names ≡ unsaved.dirty

-- a job that begins is at hand, and those of other leaves stay so
abbrev pub BegunAreAtHand : Type 0
BegunAreAtHand =
    (old new : State) (leaf : Leaf) (job : Job) → Begins old new leaf (Ok (Some job)) → IsAtHand new job
    × (leaf_of_job job ≡ leaf)

abbrev pub BegunLeaveAtHand : Type 0
BegunLeaveAtHand =
    (old new : State) (leaf : Leaf) (job other : Job) → Begins old new leaf (Ok (Some job)) → (leaf_of_job other ≡ leaf → ⊥)
    → IsAtHand old other → IsAtHand new other

-- a job at hand that ends leaves its fragment clean, and other jobs at hand stay so
abbrev pub EndedAreClean : Type 0
EndedAreClean =
    (old new : State) (job : Job) → IsAtHand old job → IsEnded old new job
    → new.unsaved ≡ map.remove old.unsaved (leaf_of_job job)

abbrev pub OthersStayAtHand : Type 0
OthersStayAtHand =
    (old new : State) (job other : Job) → IsEnded old new job → (leaf_of_job other ≡ leaf_of_job job → ⊥) → IsAtHand old job
    → IsAtHand old other → IsAtHand new other
