-- The laws of exports that `src/laws.rt` states: who holds a region, and what is frozen, before and after each step.
use Rattle.std.specs.Prelude.{◌≡◌, ◌↔◌}
use Rattle.std.specs.FinMap as map
use Rattle.mds_types.specs.declared.ids.Rank.{Rank}
use Rattle.inode_table.specs.Dirs.{Homes, Covers, IsLive, IsTable}
use Rattle.mds_types.specs.Leaf.{Leaf}
use Rattle.subtree_map.specs.Authority.{HasAuthority, IsInRegion, IsSubtrees, Roots}
use Rattle.subtree_map.specs.Changes.{Subtrees as SubtreesSeen}
use Rattle.export_steps.specs.Standing.{ArePlaced, ComesTo, IsCancel, IsFinish, IsFreeze, IsStart, Standing}
use Rattle.export_steps.specs.declared.exports.ExportState.TheVariants as state
use Rattle.export_steps.specs.Handover.{CancelsSoundly, FinishesSoundly, FreezesSoundly, HandsOver, StepsSoundly}
use Rattle.export_steps.specs.Holder.{HasHolder, IsFrozen, holding}
use Rattle.export_steps.specs.Regions.{AreFrozenRegionsKept, IsMakingElsewhere, IsMergeElsewhere, IsMoveElsewhere, IsRemovalElsewhere, IsReplacedElsewhere, IsSplitElsewhere, StandsOver}

-- each live leaf has a holder
abbrev pub EachLeafHasHolder : Type 0
EachLeafHasHolder =
    (standing : Standing) (roots : Roots) (homes : Homes) (covers : Covers) (leaf : Leaf) → IsTable homes covers
    → IsSubtrees roots homes covers → IsLive homes covers leaf → (rank : Rank)
    × HasHolder standing roots homes covers leaf rank

-- no leaf has two holders
abbrev pub NoLeafHasTwoHolders : Type 0
NoLeafHasTwoHolders =
    (standing : Standing) (roots : Roots) (homes : Homes) (covers : Covers) (leaf : Leaf) (a b : Rank)
    → HasHolder standing roots homes covers leaf a → HasHolder standing roots homes covers leaf b → a ≡ b

-- a leaf of a region is frozen exactly if the root of the region is
abbrev pub IsFrozenAsItsRoot : Type 0
IsFrozenAsItsRoot =
    (standing : Standing) (roots : Roots) (homes : Homes) (covers : Covers) (root leaf : Leaf)
    → IsInRegion roots homes covers root leaf → IsFrozen standing roots homes covers leaf
    ↔ IsFrozen standing roots homes covers root

-- before a Freeze, a leaf of the region to come is frozen exactly if its root to come is
abbrev pub IsFrozenAsItsNewRoot : Type 0
IsFrozenAsItsNewRoot =
    (old new : Standing) (was now : SubtreesSeen) (root : Leaf) → IsFreeze old new was now root
    → (homes : Homes) (covers : Covers) (leaf : Leaf) → IsInRegion now.roots homes covers root leaf
    → IsFrozen old was.roots homes covers leaf ↔ IsFrozen old was.roots homes covers root

-- a split elsewhere leaves each frozen region as it is
abbrev pub SplitsKeepFrozen : Type 0
SplitsKeepFrozen =
    (standing : Standing) (was now : SubtreesSeen) (homes : Homes) (covers later : Covers)
    → StandsOver standing was homes covers → IsSplitElsewhere standing was now homes covers later
    → AreFrozenRegionsKept standing was now homes homes covers later

-- a merge elsewhere leaves each frozen region as it is
abbrev pub MergesKeepFrozen : Type 0
MergesKeepFrozen =
    (standing : Standing) (was now : SubtreesSeen) (homes : Homes) (covers later : Covers)
    → StandsOver standing was homes covers → IsMergeElsewhere standing was now homes covers later
    → AreFrozenRegionsKept standing was now homes homes covers later

-- a directory's move elsewhere leaves each frozen region as it is
abbrev pub MovesKeepFrozen : Type 0
MovesKeepFrozen =
    (standing : Standing) (was now : SubtreesSeen) (homes later : Homes) (covers : Covers)
    → StandsOver standing was homes covers → IsMoveElsewhere standing was now homes later covers
    → AreFrozenRegionsKept standing was now homes later covers covers

-- a new directory elsewhere leaves each frozen region as it is
abbrev pub NewDirectoriesKeepFrozen : Type 0
NewDirectoriesKeepFrozen =
    (standing : Standing) (subtrees : SubtreesSeen) (homes later : Homes) (covers : Covers)
    → StandsOver standing subtrees homes covers → IsMakingElsewhere standing subtrees homes later covers
    → AreFrozenRegionsKept standing subtrees subtrees homes later covers covers

-- a directory's removal elsewhere leaves each frozen region as it is
abbrev pub RemovalsKeepFrozen : Type 0
RemovalsKeepFrozen =
    (standing : Standing) (was now : SubtreesSeen) (homes later_homes : Homes) (covers later_covers : Covers)
    → StandsOver standing was homes covers → IsRemovalElsewhere standing was now homes later_homes covers later_covers
    → AreFrozenRegionsKept standing was now homes later_homes covers later_covers

-- a Freeze of a region that is not frozen leaves each frozen region as it is
abbrev pub FreezesKeepFrozen : Type 0
FreezesKeepFrozen =
    (old new : Standing) (was now : SubtreesSeen) (root : Leaf) → IsFreeze old new was now root → ArePlaced old was
    → (homes : Homes) (covers : Covers) → (IsFrozen old was.roots homes covers root → ⊥)
    → AreFrozenRegionsKept old was now homes homes covers covers

-- a Finish leaves each other frozen region as it is
abbrev pub FinishesKeepFrozen : Type 0
FinishesKeepFrozen =
    (old new : Standing) (was now : SubtreesSeen) (root : Leaf) → IsFinish old new was now root → ArePlaced old was
    → (homes : Homes) (covers : Covers) → AreFrozenRegionsKept new was now homes homes covers covers

-- after a Start every leaf has the holder that it had, and is frozen exactly if it was
abbrev pub StartKeepsHolders : Type 0
StartKeepsHolders =
    (old new : Standing) (root : Leaf) (exporter importer : Rank) → IsStart old new root exporter importer
    → (roots : Roots) (homes : Homes) (covers : Covers) → StepsSoundly old new roots homes covers

-- after a Start each export has the root and the promise that its state wants
abbrev pub StartKeepsPlaced : Type 0
StartKeepsPlaced =
    (old new : Standing) (root : Leaf) (exporter importer : Rank) → IsStart old new root exporter importer
    → (subtrees : SubtreesSeen) → ArePlaced old subtrees → ArePlaced new subtrees

-- a Freeze of a region that is not frozen freezes it alone, and every leaf keeps its holder
abbrev pub FreezeKeepsHolders : Type 0
FreezeKeepsHolders =
    (old new : Standing) (was now : SubtreesSeen) (root : Leaf) (is : IsFreeze old new was now root) (homes : Homes)
    (covers : Covers)
    → (IsFrozen old was.roots homes covers root → ⊥)
    → HasAuthority was.roots homes covers root is.step.export.exporter
    → FreezesSoundly old new was.roots now.roots homes covers root

-- after a Prep every leaf has the holder that it had, and is frozen exactly if it was
abbrev pub PrepKeepsHolders : Type 0
PrepKeepsHolders =
    (old new : Standing) (root : Leaf) → ComesTo old new root state.Frozen state.Prepared
    → (roots : Roots) (homes : Homes) (covers : Covers) → StepsSoundly old new roots homes covers

-- after a Send every leaf has the holder that it had, and is frozen exactly if it was
abbrev pub SendKeepsHolders : Type 0
SendKeepsHolders =
    (old new : Standing) (root : Leaf) → ComesTo old new root state.Prepared state.Sent
    → (roots : Roots) (homes : Homes) (covers : Covers) → StepsSoundly old new roots homes covers

-- after a Send each export has the root and the promise that its state wants
abbrev pub SendKeepsPlaced : Type 0
SendKeepsPlaced =
    (old new : Standing) (root : Leaf) → ComesTo old new root state.Prepared state.Sent → (subtrees : SubtreesSeen)
    → ArePlaced old subtrees → ArePlaced new subtrees

-- after an Import the importer holds the region, and every other leaf keeps its holder
abbrev pub ImportHandsOver : Type 0
ImportHandsOver =
    (old new : Standing) (root : Leaf) (is : ComesTo old new root state.Sent state.Imported) (roots : Roots)
    (homes : Homes) (covers : Covers)
    → HandsOver old new roots homes covers root is.export.importer

-- after a Finish the importer is the region's authority, the region is not frozen, and every leaf keeps its holder
abbrev pub FinishKeepsHolders : Type 0
FinishKeepsHolders =
    (old new : Standing) (was now : SubtreesSeen) (root : Leaf) (is : IsFinish old new was now root)
    → ArePlaced old was → (homes : Homes) (covers : Covers)
    → FinishesSoundly old new was.roots now.roots homes covers root is.export.importer

-- after a Cancel the region is not frozen, and every leaf keeps its holder
abbrev pub CancelKeepsHolders : Type 0
CancelKeepsHolders =
    (old new : Standing) (was now : SubtreesSeen) (root : Leaf) → IsCancel old new was now root
    → (homes : Homes) (covers : Covers) → CancelsSoundly old new was.roots homes covers root

-- the holder of a leaf is its authority by the roots that are held
abbrev pub HoldersAreAuthorities : Type 0
HoldersAreAuthorities =
    (standing : Standing) (roots : Roots) (homes : Homes) (covers : Covers) (leaf : Leaf) (rank : Rank)
    → HasHolder standing roots homes covers leaf rank ↔ HasAuthority (holding standing roots) homes covers leaf rank

-- where frozen regions are kept, leaves that keep their authority keep their holder
abbrev pub RegionsKeepHolders : Type 0
RegionsKeepHolders =
    (standing : Standing) (was now : SubtreesSeen) (homes later_homes : Homes) (covers later_covers : Covers)
    → AreFrozenRegionsKept standing was now homes later_homes covers later_covers
    → ((leaf : Leaf) (rank : Rank) → IsLive homes covers leaf → IsLive later_homes later_covers leaf
    → HasAuthority was.roots homes covers leaf rank → HasAuthority now.roots later_homes later_covers leaf rank)
    → (leaf : Leaf) (rank : Rank) → IsLive homes covers leaf → IsLive later_homes later_covers leaf
    → HasHolder standing was.roots homes covers leaf rank
    → HasHolder standing now.roots later_homes later_covers leaf rank

-- where frozen regions are kept, a leaf is frozen exactly if it was
abbrev pub RegionsKeepFrozen : Type 0
RegionsKeepFrozen =
    (standing : Standing) (was now : SubtreesSeen) (homes later_homes : Homes) (covers later_covers : Covers)
    → AreFrozenRegionsKept standing was now homes later_homes covers later_covers → (leaf : Leaf)
    → IsLive homes covers leaf → IsLive later_homes later_covers leaf → IsFrozen standing was.roots homes covers leaf
    ↔ IsFrozen standing now.roots later_homes later_covers leaf

-- a Freeze adds its root, held by the exporter
abbrev pub FreezeChangesHolding : Type 0
FreezeChangesHolding =
    (old new : Standing) (was now : SubtreesSeen) (root : Leaf) (is : IsFreeze old new was now root)
    → holding new now.roots ≡ map.insert (holding old was.roots) root is.step.export.exporter

-- an Import gives one root to the importer
abbrev pub ImportChangesHolding : Type 0
ImportChangesHolding =
    (old new : Standing) (root : Leaf) (is : ComesTo old new root state.Sent state.Imported) (subtrees : SubtreesSeen)
    → ArePlaced old subtrees
    → holding new subtrees.roots ≡ map.insert (holding old subtrees.roots) root is.export.importer

-- a directory's move elsewhere, over another directory, leaves each frozen region as it is
abbrev pub ReplacementsKeepFrozen : Type 0
ReplacementsKeepFrozen =
    (standing : Standing) (was mid now : SubtreesSeen) (homes later later_homes : Homes)
    (covers later_covers : Covers)
    → StandsOver standing was homes covers → IsMoveElsewhere standing was mid homes later covers
    → IsReplacedElsewhere standing was mid now homes later later_homes covers later_covers
    → AreFrozenRegionsKept standing was now homes later_homes covers later_covers
