-- A flush: the book after it, whatever its result, and why it is refused.
use Rattle.std.specs.Prelude.{◌≡◌, ◌≢◌, ◌⊎◌, Result, Err, IfErr}
use Rattle.std.specs.FinMap as map
use Rattle.mds_types.specs.declared.refusals.Refusal.{Refusal}
use Rattle.mds_types.specs.declared.refusals.Refusal.TheVariants.{NotClean}
use Rattle.dentry_cache.specs.Came.{Came, NoneEnds}
use Rattle.mdcache.specs.Batches.{MayNotCommit}
use Rattle.mdcache.specs.Flushed.{HasFragment}
pub use Rattle.mdcache.specs.Flushed.{AreExact}
pub use Rattle.mdcache.specs.Mounted.{IsColdTree}
use Rattle.mdcache.specs.State.{State as TreeState}
use Rattle.cluster_core.specs.State.{Core, KeptState, shown}

-- a tree without commits under way; otherwise only its unclean content, the store's objects and the purge list differ
abbrev pub saved_as : TreeState → TreeState → TreeState
saved_as old new = record old { unsaved = new.unsaved; objects = new.objects; purge = new.purge; jobs = map.empty }

-- the shown tree is the same, and so are the directories and their leaves, next numbers, authorities, inboxes, grants
-- and sessions; no fragment is fetched, and none is evicted
pub record KeepsCore (old new : Core) : Type 0 where
  pub left : new.state ≡ record old.state { tree = saved_as old.state.tree new.state.tree }
  pub tree : shown new.state ≡ shown old.state
  pub caches : Came (HasFragment old.caches) NoneEnds old.caches new.caches

-- the same for a book, whose opening tree and history are the same too
pub record KeepsBook (old new : KeptState) : Type 0 where
  pub opening : new.opening ≡ old.opening
  pub history : new.history ≡ old.history
  pub core : KeepsCore old.core new.core

-- why not all is written: the version of a fragment that isn't clean is used up, or fewer than 256 job numbers are
-- left; otherwise want of memory, or a fault of the store
abbrev pub MayNotFlush : (old new : Core) → Refusal → Type 0
MayNotFlush old new reason = MayNotCommit 256 (record old.state.tree { jobs = map.empty }) old.faults new.faults reason

-- while an export exists a flush is refused, and nothing changes
pub record IsHindered (old new : KeptState) (result : Result (Unit {0}) Refusal) : Type 0 where
  pub stands : old.core.state.exports ≢ map.empty
  pub refused : result ≡ Err NotClean
  pub left : new ≡ old

-- without exports the book is kept, whatever the result, and a refusal has its reason
pub record IsTried (old new : KeptState) (result : Result (Unit {0}) Refusal) : Type 0 where
  pub none : old.core.state.exports ≡ map.empty
  pub kept : KeepsBook old new
  pub refused : IfErr result (MayNotFlush old.core new.core)

abbrev pub Flushes : (old new : KeptState) → Result (Unit {0}) Refusal → Type 0
Flushes old new result = IsHindered old new result ⊎ IsTried old new result
