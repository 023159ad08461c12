-- The administrator's steps, and how they change a cluster.
use Rattle.std.specs.Prelude.{◌≡◌, ◌≢◌, ◌⊎◌, ℕ, ◌+◌, ◌^◌, Bool, true, false, List, Option, Some, None, Result, Ok, Err}
use Rattle.std.specs.List.{list_any}
use Rattle.mds_types.specs.declared.ids.Ino.{Ino}
use Rattle.mds_types.specs.declared.ids.Rank.{Rank}
use Rattle.mds_types.specs.declared.entries.Entry.{Entry}
use Rattle.mds_types.specs.declared.refusals.Refusal.{Refusal}
use Rattle.mds_types.specs.declared.refusals.Refusal.TheVariants.{Frozen, NoMemory, NoSuchFrag, NotAuthority, NothingToEvict, Pinned}
use Rattle.mds_types.specs.Frag.{Fragment}
use Rattle.mds_types.specs.Tree.{is_directory}
use Rattle.fragtree.specs.FragTree.{CanMerge, CanSplit, RefusesMerge, RefusesSplit}
use Rattle.cached_frag.specs.declared.jobs.Job.{Job as Begun}
use Rattle.dentry_cache.specs.Cache.{Leaf}
use Rattle.dentry_cache.specs.CacheMap.{evicted}
use Rattle.inboxes.specs.declared.pins.Pin.{Pin}
use Rattle.inboxes.specs.Pins.{is_on}
use Rattle.inode_table.specs.Dirs.{Covers, Homes, IsLive, is_known, leaves_of}
use Rattle.subtree_map.specs.Changes.{IsRootMerge, IsRootSplit, is_inside}
use Rattle.mdcache.specs.Commits.{Begins, Drops, EndsJobOf}
use Rattle.mdcache.specs.Objects.{Purges, SavesTree}
use Rattle.mdcache.specs.Regroups.{MayNotRegroup}
use Rattle.mdcache.specs.Splits.{IsMergedInto, IsSplitInto}
use Rattle.cluster_core.specs.declared.events.Answer.{Answer}
use Rattle.cluster_core.specs.declared.events.Answer.TheVariants.{Job, Nothing}
use Rattle.cluster_core.specs.State.{Core, LacksPlacesAt, State, shown}
use Rattle.cluster_core.specs.Master.{IsAuthority, IsFrozenAt}
use Rattle.cluster_core.specs.Serve.{IsLeft}
use Rattle.ranked_tree.specs.Exported.{IsAnyFrozen}
use Rattle.ranked_tree.specs.Subtrees.{AllHave}

-- clients see nothing of such a step: history and shown tree are the same; only the tree's own state and the subtree
-- roots change
pub record IsUnseen (old new : State) (past now : List Entry) : Type 0 where
  pub same : now ≡ past
  pub tree : shown new ≡ shown old
  pub left : new ≡ record old { tree = new.tree; roots = new.roots }

-- a step with an answer did its work, tells what that gave, and clients see nothing of it; a refused step changed
-- nothing, for the reason of the work
abbrev pub Administers : {X : Type 0} → (old new : State) → (past now : List Entry) → (told : X → Answer)
    → (Did : Result X Refusal → Type 0) → Result Answer Refusal → Type 0
Administers old new past now told Did (Ok answer) =
    (given : _) × (answer ≡ told given) × Did (Ok given) × IsUnseen old new past now
Administers old new past now told Did (Err reason) = Did (Err reason) × IsLeft old new past now

-- the same, for a step that changes no subtree roots
abbrev pub AdministersTree : {X : Type 0} → (old new : State) → (past now : List Entry) → (told : X → Answer)
    → (Did : Result X Refusal → Type 0) → Result Answer Refusal → Type 0
AdministersTree old new past now told Did result =
    Administers old new past now told Did result × (new.roots ≡ old.roots)

-- the answer of work that gives nothing
abbrev pub told_nothing : Unit {0} → Answer
told_nothing done = Nothing

-- the rank is the authority of each leaf of a directory that is properly inside a fragment
abbrev pub HoldsInside : State → Rank → Ino → Fragment → Type 0
HoldsInside state rank dir f = AllHave state.tree.homes state.tree.covers state.roots dir f rank

-- ---- leaves

-- why leaves of a directory aren't split or merged: there is no such directory; its leaves refuse it; the rank isn't
-- the authority of all these leaves; one of them is frozen; one is granted; or another reason
abbrev pub RefusesRegroup : (known : Bool) → (Refuses : Refusal → Type 0) → (Can Mine Frozen Pinned : Type 0)
    → (Else : Refusal → Type 0) → Refusal → Type 0
RefusesRegroup known Refuses Can Mine IsFrozen IsPinned Else reason =
    ((reason ≡ NoSuchFrag) × (known ≡ false))
    ⊎ ((known ≡ true) × (reason ≢ NoMemory) × Refuses reason)
    ⊎ ((known ≡ true) × Can × (reason ≡ NotAuthority) × (Mine → ⊥))
    ⊎ ((known ≡ true) × Can × Mine × (reason ≡ Frozen) × IsFrozen)
    ⊎ ((known ≡ true) × Can × Mine × (IsFrozen → ⊥) × (reason ≡ Pinned) × IsPinned)
    ⊎ ((known ≡ true) × Can × Mine × (IsFrozen → ⊥) × (IsPinned → ⊥) × Else reason)

-- a leaf is granted to some request
abbrev pub IsPinned : State → Leaf → Type 0
IsPinned state leaf = list_any (is_on leaf.0 leaf.1) state.pins ≡ true

-- a leaf of a directory that is properly inside a fragment is granted
abbrev pub IsAnyPinned : Homes → Covers → List Pin → Ino → Fragment → Type 0
IsAnyPinned homes covers pins dir frag =
    (leaf : Leaf) × IsLive homes covers leaf × (is_inside dir.0 frag leaf ≡ true)
    × (list_any (is_on leaf.0 leaf.1) pins ≡ true)

-- a leaf of the rank, neither frozen nor granted, was split by so many bits, and its children are subtree roots if it
-- was one. Or it wasn't split: the leaves refuse it, the rank isn't its authority, it is frozen or granted, a counter
-- is at its end, the rank lacks places for the children and one more, or the store or memory refused
abbrev pub SplitsLeaf : (old new : Core) → Rank → Ino → Fragment → ℕ → Result (Unit {0}) Refusal → Type 0
SplitsLeaf old new rank dir f nb (Ok done) =
    IsAuthority old.state (dir, f) rank × (IsFrozenAt old.state (dir, f) → ⊥) × (IsPinned old.state (dir, f) → ⊥)
    × IsSplitInto old.state.tree new.state.tree dir f nb × IsRootSplit old.state.roots new.state.roots dir.0 f nb
SplitsLeaf old new rank dir f nb (Err reason) =
    RefusesRegroup (is_known old.state.tree.homes dir.0) (RefusesSplit (leaves_of old.state.tree.covers dir.0) f nb)
    (CanSplit (leaves_of old.state.tree.covers dir.0) f nb) (IsAuthority old.state (dir, f) rank)
    (IsFrozenAt old.state (dir, f)) (IsPinned old.state (dir, f))
    (λ why. MayNotRegroup (CanSplit (leaves_of old.state.tree.covers dir.0) f nb)
    (RefusesSplit (leaves_of old.state.tree.covers dir.0) f nb) old.state.tree dir (2 ^ nb)
    (LacksPlacesAt (2 ^ nb + 1) old rank) old.faults new.faults why)
    reason

-- a leaf of a directory that is properly inside a fragment is frozen
abbrev pub HasFrozenInside : State → Ino → Fragment → Type 0
HasFrozenInside state dir f = IsAnyFrozen state.exports state.roots state.tree.homes state.tree.covers dir f

-- a leaf of a directory that is properly inside a fragment is granted
abbrev pub HasPinnedInside : State → Ino → Fragment → Type 0
HasPinnedInside state dir f = IsAnyPinned state.tree.homes state.tree.covers state.pins dir f

-- the leaves inside a fragment, all of the rank and none frozen or granted, were merged into one, which is a subtree
-- root if one of them was. Or they weren't merged, for reasons like those of a split, where the rank needs one place
abbrev pub MergesLeaves : (old new : Core) → Rank → Ino → Fragment → Result (Unit {0}) Refusal → Type 0
MergesLeaves old new rank dir f (Ok done) =
    HoldsInside old.state rank dir f × (HasFrozenInside old.state dir f → ⊥) × (HasPinnedInside old.state dir f → ⊥)
    × IsMergedInto old.state.tree new.state.tree dir f × IsRootMerge old.state.roots new.state.roots dir.0 f
MergesLeaves old new rank dir f (Err reason) =
    RefusesRegroup (is_known old.state.tree.homes dir.0) (RefusesMerge (leaves_of old.state.tree.covers dir.0) f)
    (CanMerge (leaves_of old.state.tree.covers dir.0) f) (HoldsInside old.state rank dir f)
    (HasFrozenInside old.state dir f) (HasPinnedInside old.state dir f)
    (λ why. MayNotRegroup (CanMerge (leaves_of old.state.tree.covers dir.0) f)
    (RefusesMerge (leaves_of old.state.tree.covers dir.0) f) old.state.tree dir 1
    (LacksPlacesAt 1 old rank) old.faults new.faults why)
    reason

abbrev pub Splits : (old new : Core) → (past now : List Entry) → Rank → Ino → Fragment → ℕ → Result Answer Refusal
    → Type 0
Splits old new past now rank dir f nb result =
    Administers old.state new.state past now told_nothing (SplitsLeaf old new rank dir f nb) result

abbrev pub Merges : (old new : Core) → (past now : List Entry) → Rank → Ino → Fragment → Result Answer Refusal → Type 0
Merges old new past now rank dir f result =
    Administers old.state new.state past now told_nothing (MergesLeaves old new rank dir f) result

-- the leaves of a directory in order; refused NoSuchFrag exactly where there is no such directory, otherwise for want
-- of memory
abbrev pub ListsLeaves : State → Ino → Result (List Fragment) Refusal → Type 0
ListsLeaves state dir (Ok leaves) =
    (is_directory (shown state) dir.0 ≡ true) × (leaves ≡ leaves_of state.tree.covers dir.0)
ListsLeaves state dir (Err reason) =
    ((reason ≡ NoSuchFrag) × (is_directory (shown state) dir.0 ≡ false))
    ⊎ ((reason ≡ NoMemory) × (is_directory (shown state) dir.0 ≡ true))

-- the authority of a leaf; refused NoSuchFrag exactly where there is no such directory or leaf
abbrev pub TellsAuthority : State → Leaf → Result Rank Refusal → Type 0
TellsAuthority state leaf (Ok rank) = IsLive state.tree.homes state.tree.covers leaf × IsAuthority state leaf rank
TellsAuthority state leaf (Err reason) = (reason ≡ NoSuchFrag) × (IsLive state.tree.homes state.tree.covers leaf → ⊥)

-- ---- commits

-- the job that was begun; nothing for a clean fragment
abbrev pub told_job : Option Begun → Answer
told_job None = Nothing
told_job (Some job) = Job job

-- a commit of a leaf that isn't frozen begins at its authority; another rank is refused NotAuthority; after that a
-- frozen leaf is refused Frozen
abbrev pub BeginsAt : (old new : State) → Rank → Leaf → Result (Option Begun) Refusal → Type 0
BeginsAt old new rank leaf (Ok job) =
    IsAuthority old leaf rank × (IsFrozenAt old leaf → ⊥) × Begins old.tree new.tree leaf (Ok job)
BeginsAt old new rank leaf (Err reason) =
    ((reason ≡ NotAuthority) × IsLive old.tree.homes old.tree.covers leaf × (IsAuthority old leaf rank → ⊥)
    × (new.tree ≡ old.tree))
    ⊎ ((reason ≡ Frozen) × IsLive old.tree.homes old.tree.covers leaf × IsAuthority old leaf rank × IsFrozenAt old leaf
    × (new.tree ≡ old.tree))
    ⊎ ((IsLive old.tree.homes old.tree.covers leaf → IsAuthority old leaf rank × (IsFrozenAt old leaf → ⊥))
    × Begins old.tree new.tree leaf (Err reason))

abbrev pub BeginsCommit : (old new : Core) → (past now : List Entry) → Rank → Leaf → Result Answer Refusal → Type 0
BeginsCommit old new past now rank leaf result =
    AdministersTree old.state new.state past now told_job (BeginsAt old.state new.state rank leaf) result

abbrev pub EndsCommit : (old new : Core) → (past now : List Entry) → Begun → Result Answer Refusal → Type 0
EndsCommit old new past now job result =
    AdministersTree old.state new.state past now told_nothing
    (EndsJobOf old.state.tree new.state.tree old.faults new.faults job) result

abbrev pub DropsCommit : (old new : Core) → (past now : List Entry) → ℕ → Result Answer Refusal → Type 0
DropsCommit old new past now number result =
    AdministersTree old.state new.state past now told_nothing (Drops old.state.tree new.state.tree number) result

-- ---- objects and places

abbrev pub CommitsTree : (old new : Core) → (past now : List Entry) → Ino → Result Answer Refusal → Type 0
CommitsTree old new past now dir result =
    AdministersTree old.state new.state past now told_nothing
    (SavesTree old.state.tree new.state.tree old.faults new.faults dir) result

abbrev pub PurgesObject : (old new : Core) → (past now : List Entry) → Result Answer Refusal → Type 0
PurgesObject old new past now result =
    AdministersTree old.state new.state past now told_nothing
    (Purges old.state.tree new.state.tree old.faults new.faults) result

-- the rank's least recently used clean fragment is evicted (`UsesStep` says which), and the state is the same; refused
-- exactly where the rank caches no clean fragment
abbrev pub EvictsOne : (old new : Core) → Rank → Result (Unit {0}) Refusal → Type 0
EvictsOne old new rank (Ok done) = new.state ≡ old.state
EvictsOne old new rank (Err reason) = (reason ≡ NothingToEvict) × (evicted old.caches rank.0 None ≡ None)

abbrev pub EvictsFragment : (old new : Core) → (past now : List Entry) → Rank → Result Answer Refusal → Type 0
EvictsFragment old new past now rank result =
    AdministersTree old.state new.state past now told_nothing (EvictsOne old new rank) result
