-- Commits of whole fragments, several at once.
use Rattle.std.specs.Prelude.{◌≡◌, ◌⊎◌, ℕ, true, is_some, Some, None, List, [], ◌∷◌, map as list_map, Result, MatchResult}
use Rattle.std.specs.List.{AllByRecursion}
use Rattle.std.specs.FinMap as map
use Rattle.mds_types.specs.Leaf.{leaf_of}
use Rattle.mds_types.specs.declared.dirfrags.Dirfrag.{Dirfrag}
use Rattle.mds_types.specs.declared.refusals.Refusal.{Refusal}
use Rattle.mds_types.specs.declared.refusals.Refusal.TheVariants.{NoInodes, NoMemory}
use Rattle.dentry_cache.specs.Cache.{Leaf, Unsaved}
use Rattle.dentry_cache.specs.CacheMap.{CacheMap, unclean}
use Rattle.mdcache.specs.Commits.{HasSpelled, LacksJobNumber, leaf_of_job}
use Rattle.mdcache.specs.Core.{Core, state_of}
use Rattle.mdcache.specs.Flushed.{IsAtHand}
use Rattle.mdcache.specs.Ranks.{MayHold}
use Rattle.mdcache.specs.Ready.{LacksNumbers}
use Rattle.mdcache.specs.State.{IsLive, State, UnsavedLeaves, text_of}
use Rattle.mdcache.specs.declared.batches.Begun.{Begun}
use Rattle.mdcache.specs.declared.batches.Ready.{Ready}
use Rattle.cached_frag.specs.Commit.{carried}
use Rattle.cached_frag.specs.Snap.{IsBelowEnd, next_version}
use Rattle.objstore.specs.Objects.{MayRefuse}
use Rattle.dentry_cache.specs.Loading.{object_of}
use Rattle.mdcache.specs.Shown.{names_of, shown_tree}

-- a fragment isn't clean, and no other rank than this has it
pub record IsUncleanAt (caches : CacheMap) (at : Dirfrag) : Type 0 where
  pub holds : MayHold caches at.rank (leaf_of at)
  pub dirty : is_some (map.get (unclean caches) (leaf_of at)) ≡ true

-- no two leaves are one
abbrev pub NotAmong : Leaf → List Leaf → Type 0
NotAmong leaf leaves = AllByRecursion (λ (q : Leaf). q ≡ leaf → ⊥) leaves

abbrev pub AreOfOtherLeaves : List Leaf → Type 0
AreOfOtherLeaves [] = Unit {0}
AreOfOtherLeaves (leaf ∷ leaves) = NotAmong leaf leaves × AreOfOtherLeaves leaves

-- what isn't clean is as it was, but of these leaves
pub record LeavesOtherLeaves (leaves : List Leaf) (old new : UnsavedLeaves) : Type 0 where
  pub same : (q : Leaf) → NotAmong q leaves → map.get new q ≡ map.get old q

-- where fragments lie, and whose jobs were begun
abbrev pub leaves_of_places : List Dirfrag → List Leaf
leaves_of_places places = list_map (λ (a : Dirfrag). leaf_of a) places

abbrev pub leaves_of_jobs : List Begun → List Leaf
leaves_of_jobs begun = list_map (λ (b : Begun). leaf_of_job b.job) begun

-- a commit was begun of a fragment that hasn't changed since; no other rank than this has it
pub record IsBegunAt (core : Core) (b : Begun) : Type 0 where
  pub holds : MayHold core.caches b.rank (leaf_of_job b.job)
  pub hand : IsAtHand (state_of core) b.job

-- the write of a job that was begun
abbrev pub ready_of : Begun → Ready
ready_of b = record { rank = b.rank; encoded = carried b.job }

-- what was made of a job that was begun: its write, or nothing for want of memory
abbrev pub IsReadied : Begun → Result Ready Refusal → Type 0
IsReadied b result = MatchResult result (λ ready. ready ≡ ready_of b) (λ reason. reason ≡ NoMemory)

abbrev pub leaves_of_writes : List Ready → List Leaf
leaves_of_writes ready = list_map (λ (r : Ready). leaf_of_job r.encoded.job) ready

-- the job of this write was begun, and its fragment hasn't changed since
abbrev pub IsReadyWrite : Core → Ready → Type 0
IsReadyWrite core r = IsBegunAt core (record { rank = r.rank; job = r.encoded.job })

-- no number is left for a job of a leaf that isn't clean, or none for the version that its commit would write
abbrev pub LacksNumberFor : State → Leaf → Type 0
LacksNumberFor s leaf = (u : Unsaved) × (map.get s.unsaved leaf ≡ Some u) × LacksJobNumber s u

-- why no commit of a leaf begins that isn't clean and for which no job stands
abbrev pub MayNotBeginOne : State → Leaf → Refusal → Type 0
MayNotBeginOne s leaf reason = (reason ≡ NoMemory) ⊎ ((reason ≡ NoInodes) × LacksNumberFor s leaf)

-- why no commits begin of so many leaves: a version is used up of one that isn't clean, or fewer numbers than so many
-- are left for jobs; want of memory
abbrev pub LacksForCommits : ℕ → State → Type 0
LacksForCommits count s = LacksNumbers count s.next_job ⊎ ((leaf : Leaf) × (u : Unsaved)
    × (map.get s.unsaved leaf ≡ Some u) × (IsBelowEnd u.base → ⊥))

abbrev pub MayNotBeginAll : ℕ → State → Refusal → Type 0
MayNotBeginAll count s reason = (reason ≡ NoMemory) ⊎ ((reason ≡ NoInodes) × LacksForCommits count s)

-- why so many leaves aren't all committed: numbers lack, want of memory, or a fault
abbrev pub MayNotCommit : ℕ → State → (before after : ℕ) → Refusal → Type 0
MayNotCommit count s before after reason =
    MayRefuse before after reason ⊎ ((reason ≡ NoInodes) × LacksForCommits count s)

-- ---- what commits of whole fragments leave

-- a leaf is as it was, in what isn't clean and in the store
abbrev pub IsAsItWas : (old new : State) → Leaf → Type 0
IsAsItWas old new leaf =
    (map.get new.unsaved leaf ≡ map.get old.unsaved leaf)
    × (object_of new.objects leaf.0 leaf.1 ≡ object_of old.objects leaf.0 leaf.1)

-- a leaf that wasn't clean is: its object spells what it showed, one version higher
pub record IsSavedNow (old new : State) (leaf : Leaf) : Type 0 where
  pub unsaved : Unsaved
  pub was : map.get old.unsaved leaf ≡ Some unsaved
  pub clean : map.get new.unsaved leaf ≡ None
  pub spelled : HasSpelled (object_of new.objects leaf.0 leaf.1) (next_version unsaved.base)
      (names_of old.unsaved old.objects leaf)

-- some leaves were committed whole, and each other is as it was; no objects but those of leaves changed, and beside the
-- jobs nothing else
pub record CommitsWhole (old new : State) : Type 0 where
  pub left : new ≡ record old { unsaved = new.unsaved; objects = new.objects; jobs = new.jobs; next_job = new.next_job }
  pub tree : shown_tree new ≡ shown_tree old
  pub each : (leaf : Leaf) → IsLive old.homes old.covers leaf → IsAsItWas old new leaf ⊎ IsSavedNow old new leaf
  pub others : (name : List ℕ) → ((leaf : Leaf) → IsLive old.homes old.covers leaf → name ≡ text_of leaf → ⊥)
      → map.get new.objects name ≡ map.get old.objects name
