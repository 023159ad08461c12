-- The proposal of a rank's own step (CephFS's balancer and its subtree pins, with this project's own order of steps):
-- the next step of an export, the split of a leaf, the merge of leaves, or the start of an export to the rank that a
-- subtree is pinned to.
use Rattle.std.specs.Prelude.{◌≡◌, ◌≢◌, ◌⊎◌, ℕ, ◌<◌, ◌≤◌, Bool, false, cond, List, [], ◌∷◌, length, Option, Some, None, IsSome, Result, Ok, Err}
use Rattle.std.specs.List.{list_any}
use Rattle.std.specs.declared.cmp.Ordering.TheVariants.{Less}
use Rattle.std.specs.Ordering.{is_lt}
use Rattle.std.specs.FinMap as map
use Rattle.mds_types.specs.declared.ids.Rank.{Rank}
use Rattle.mds_types.specs.declared.refusals.Refusal.{Refusal}
use Rattle.mds_types.specs.declared.refusals.Refusal.TheVariants.{NotAuthority}
use Rattle.mds_types.specs.Leaf.{Leaf, leaf_cmp}
use Rattle.fragtree.specs.FragTree.{CanMerge, CanSplit, IsTree}
use Rattle.inboxes.specs.declared.pins.Pin.{Pin}
use Rattle.inboxes.specs.Pins.{is_on}
use Rattle.inode_table.specs.Dirs.{Covers, DirPins, Homes, IsLive, leaves_of}
use Rattle.subtree_map.specs.Authority.{HasAuthority, NearestRoot, Roots}
use Rattle.export_steps.specs.declared.exports.ExportState.{ExportState}
use Rattle.export_steps.specs.declared.exports.ExportState.TheVariants as at
use Rattle.export_steps.specs.declared.exports.StandingExport.{StandingExport}
use Rattle.export_steps.specs.ByExporter.{IsNextOf}
use Rattle.export_steps.specs.Holder.{IsFrozen}
use Rattle.export_steps.specs.Standing.{Standing}
use Rattle.dentry_cache.specs.Candidates.{IsLargeIn, IsNextLeaf, IsSmallIn, Sizes, child, sizes_at}
use Rattle.ranked_tree.specs.Ranked.{Ranked}
use Rattle.cluster_core.specs.declared.events.Event.{Event}
use Rattle.cluster_core.specs.declared.events.Event.TheVariants.{Arrive, Serve, Grant, Split, Merge, CommitBegin, CommitEnd, CommitDrop, CommitTree, Purge, Evict, Start, Freeze, Prep, Send, Import, Finish, Cancel}
use Rattle.cluster_core.specs.Pins.{HasPin}
use Rattle.cluster_core.specs.State.{Core}

-- all that a rank's proposal depends on: the number of ranks, the directories and their leaves, the authorities, the
-- exports, the pins, the leaves that are granted, and the fragments that it caches, each with its number of entries
pub record Sight : Type 0 where
  pub rank : Rank
  pub ranks : ℕ
  pub homes : Homes
  pub covers : Covers
  pub roots : Roots
  pub exports : Standing
  pub pins : DirPins
  pub granted : Leaf → Bool
  pub cached : Sizes

-- a live leaf whose authority is the rank
pub record IsMine (s : Sight) (leaf : Leaf) : Type 0 where
  pub live : IsLive s.homes s.covers leaf
  pub mine : HasAuthority s.roots s.homes s.covers leaf s.rank

-- a leaf in no frozen region
abbrev pub IsThawed : Sight → Leaf → Type 0
IsThawed s leaf = IsFrozen s.exports s.roots s.homes s.covers leaf → ⊥

-- a leaf that the rank may split or merge: it is the authority, and the leaf is neither frozen nor granted
pub record IsIdle (s : Sight) (leaf : Leaf) : Type 0 where
  pub own : IsMine s leaf
  pub thawed : IsThawed s leaf
  pub free : s.granted leaf ≡ false

-- ---- first: the next step of an export whose exporter is the rank

-- a started export can be frozen: the rank is the authority of its root, which isn't frozen, and no leaf of the region
-- to be frozen is granted
pub record WouldFreeze (s : Sight) (root : Leaf) : Type 0 where
  pub own : IsMine s root
  pub thawed : IsThawed s root
  pub free : (leaf : Leaf) → NearestRoot (map.insert s.roots root s.rank) s.homes s.covers leaf root
      → s.granted leaf ≡ false

-- the next step of an export, from its state. A started one is cancelled if its root no longer exists or has another
-- authority; it has no next step if it can't be frozen now
abbrev pub IsNextStep : Sight → Leaf → ExportState → Event → Type 0
IsNextStep s root at.Started event =
    ((event ≡ Freeze root.0 root.1) × WouldFreeze s root) ⊎ ((event ≡ Cancel root.0 root.1) × (IsMine s root → ⊥))
IsNextStep s root at.Frozen event = event ≡ Prep root.0 root.1
IsNextStep s root at.Prepared event = event ≡ Send root.0 root.1
IsNextStep s root at.Sent event = event ≡ Import root.0 root.1 []
IsNextStep s root at.Imported event = event ≡ Finish root.0 root.1

pub record GoesOn (s : Sight) (root : Leaf) (event : Event) : Type 0 where
  pub export : StandingExport
  pub stands : map.get s.exports root ≡ Some export
  pub exporter : export.exporter ≡ s.rank
  pub next : IsNextStep s root export.state event

-- ---- second: a leaf with more than 10000 entries is split by 3 bits

pub record IsLarge (s : Sight) (leaf : Leaf) (event : Event) : Type 0 where
  pub many : IsLargeIn s.cached leaf
  pub idle : IsIdle s leaf
  pub leaves : length (leaves_of s.covers leaf.0.0) ≤ 4089
  pub is : event ≡ Split s.rank leaf.0 leaf.1 3

-- ---- third: eight leaves with fewer than 50 entries together are merged

pub record AreSmall (s : Sight) (whole : Leaf) (event : Event) : Type 0 where
  pub few : IsSmallIn s.cached whole
  pub idle : (i : ℕ) → i < 8 → IsIdle s (child whole i)
  pub is : event ≡ Merge s.rank whole.0 whole.1

-- ---- fourth: an export starts of a subtree whose directory is pinned to another rank

pub record IsPinnedAway (s : Sight) (leaf : Leaf) (event : Event) : Type 0 where
  pub to : Rank
  pub own : IsMine s leaf
  -- the leaf is a subtree root, or its directory has a pin of its own
  pub place : IsSome (map.get s.roots leaf) ⊎ IsSome (map.get s.pins leaf.0.0)
  pub pin : HasPin s.pins s.homes leaf.0.0 to
  pub other : to ≢ s.rank
  pub there : to.0 < s.ranks
  pub thawed : IsThawed s leaf
  pub none : map.get s.exports leaf ≡ None
  pub is : event ≡ Start s.rank leaf.0 leaf.1 to

-- ---- the proposal

-- the kinds of steps, in their order
pub data Kind : Type 0 where
  OfExport : Kind
  OfLarge : Kind
  OfSmall : Kind
  OfPin : Kind

abbrev pub kinds : List Kind
kinds = OfExport ∷ OfLarge ∷ OfSmall ∷ OfPin ∷ []

-- the rank would make this step of a kind at a leaf
abbrev pub Would : Sight → Kind → Leaf → Event → Type 0
Would s OfExport leaf event = GoesOn s leaf event
Would s OfLarge leaf event = IsLarge s leaf event
Would s OfSmall leaf event = AreSmall s leaf event
Would s OfPin leaf event = IsPinnedAway s leaf event

-- the rank would make no step of this kind
abbrev pub WouldNot : Sight → Kind → Type 0
WouldNot s kind = (leaf : Leaf) (event : Event) → Would s kind leaf event → ⊥

-- the step of this kind at the least leaf at which the rank would make one: by inode, then value, then bits
pub record IsLeast (s : Sight) (kind : Kind) (event : Event) : Type 0 where
  pub leaf : Leaf
  pub would : Would s kind leaf event
  pub least : (other : Leaf) (another : Event) → Would s kind other another → (other ≡ leaf)
      ⊎ (leaf_cmp leaf other ≡ Less)

-- the least step of the first of these kinds that has one; none if no kind has one
abbrev pub IsFirstKindOf : Sight → List Kind → Option Event → Type 0
IsFirstKindOf s [] None = Unit {0}
IsFirstKindOf s [] (Some event) = ⊥
IsFirstKindOf s (kind ∷ others) None = WouldNot s kind × IsFirstKindOf s others None
IsFirstKindOf s (kind ∷ others) (Some event) = IsLeast s kind event ⊎ (WouldNot s kind × IsFirstKindOf s others (Some event))

-- the proposal of a rank's own step
abbrev pub IsProposal : Sight → Option Event → Type 0
IsProposal s event = IsFirstKindOf s kinds event

-- the steps that a rank may propose
abbrev pub IsOwnStep : Event → Type 0
IsOwnStep (Arrive rank request) = ⊥
IsOwnStep (Serve rank) = ⊥
IsOwnStep (Grant rank client tid) = ⊥
IsOwnStep (Split rank dir f bits) = Unit {0}
IsOwnStep (Merge rank dir f) = Unit {0}
IsOwnStep (CommitBegin rank dir f) = ⊥
IsOwnStep (CommitEnd encoded) = ⊥
IsOwnStep (CommitDrop job) = ⊥
IsOwnStep (CommitTree dir) = ⊥
IsOwnStep Purge = ⊥
IsOwnStep (Evict rank) = ⊥
IsOwnStep (Start from dir f to) = Unit {0}
IsOwnStep (Freeze dir f) = Unit {0}
IsOwnStep (Prep dir f) = Unit {0}
IsOwnStep (Send dir f) = Unit {0}
IsOwnStep (Import dir f bytes) = Unit {0}
IsOwnStep (Finish dir f) = Unit {0}
IsOwnStep (Cancel dir f) = Unit {0}

-- ---- the proposal of a cluster's rank

-- all that the proposal of a cluster's rank depends on
abbrev pub sight : Core → Rank → Sight
sight core rank = record {
  rank = rank;
  ranks = length core.state.numbers;
  homes = core.state.tree.homes;
  covers = core.state.tree.covers;
  roots = core.state.roots;
  exports = core.state.exports;
  pins = core.state.tree.pins;
  granted = λ leaf. list_any (is_on leaf.0 leaf.1) core.state.pins;
  cached = sizes_at core.caches rank.0;
}

-- the proposal of a rank; refused exactly if the rank doesn't exist
abbrev pub Proposes : Core → Rank → Result (Option Event) Refusal → Type 0
Proposes core rank (Ok event) = (rank.0 < length core.state.numbers) × IsProposal (sight core rank) event
Proposes core rank (Err reason) = (reason ≡ NotAuthority) × (length core.state.numbers ≤ rank.0)

-- ---- laws

-- there is at most one proposal
abbrev pub ThereIsOne : Type 0
ThereIsOne = (s : Sight) (a b : Option Event) → IsProposal s a → IsProposal s b → a ≡ b

-- a proposed split passes the listed checks of Split
pub record PassesSplit (s : Sight) (leaf : Leaf) : Type 0 where
  pub can : CanSplit (leaves_of s.covers leaf.0.0) leaf.1 3
  pub own : IsMine s leaf
  pub thawed : IsThawed s leaf
  pub free : s.granted leaf ≡ false

abbrev pub ProposedSplitsPass : Type 0
ProposedSplitsPass = (s : Sight) (leaf : Leaf) (event : Event) → IsLarge s leaf event → PassesSplit s leaf

-- a proposed merge passes the listed checks of Merge
abbrev pub ProposedMergesPass : Type 0
ProposedMergesPass =
    (s : Sight) (whole : Leaf) (event : Event) → IsTree (leaves_of s.covers whole.0.0) → AreSmall s whole event
    → CanMerge (leaves_of s.covers whole.0.0) whole.1 × ((i : ℕ) → i < 8 → IsIdle s (child whole i))

-- if a rank has no candidate of a kind, it proposes nothing of that kind
pub record NoCandidateNoProposal : Type 0 where
  pub exports : (s : Sight) → IsNextOf s.exports s.rank None None → WouldNot s OfExport
  pub large : (s : Sight) → IsNextLeaf (IsLargeIn s.cached) None None → WouldNot s OfLarge
  pub small : (s : Sight) → IsNextLeaf (IsSmallIn s.cached) None None → WouldNot s OfSmall

-- ---- words of this crate's own contracts

-- all that a proposal depends on, from the tree, the grants, and the number of ranks
abbrev pub sight_of : Ranked → List Pin → ℕ → Rank → Sight
sight_of ranked grants ranks rank = record {
  rank = rank;
  ranks = ranks;
  homes = ranked.tree.homes;
  covers = ranked.tree.covers;
  roots = ranked.subtrees.roots;
  exports = ranked.exports;
  pins = ranked.tree.pins;
  granted = λ leaf. list_any (is_on leaf.0 leaf.1) grants;
  cached = sizes_at ranked.tree.caches rank.0;
}

-- the step of a kind at the least leaf, if the rank would make one
abbrev pub IsFirstStep : Sight → Kind → Option Event → Type 0
IsFirstStep s kind None = WouldNot s kind
IsFirstStep s kind (Some event) = IsLeast s kind event

-- an export of a leaf may start
pub record WouldStart (s : Sight) (leaf : Leaf) : Type 0 where
  pub own : IsMine s leaf
  pub thawed : IsThawed s leaf
  pub none : map.get s.exports leaf ≡ None

-- the rank to which an export of a leaf would start, since its directory is pinned to that rank
pub record IsAwayTo (s : Sight) (leaf : Leaf) (to : Rank) : Type 0 where
  pub own : IsMine s leaf
  pub pin : HasPin s.pins s.homes leaf.0.0 to
  pub other : to ≢ s.rank
  pub there : to.0 < s.ranks
  pub thawed : IsThawed s leaf
  pub none : map.get s.exports leaf ≡ None

-- a leaf is a subtree root; or of a directory with a pin of its own; or one of the two
abbrev pub IsRootAt : Sight → Leaf → Type 0
IsRootAt s leaf = IsSome (map.get s.roots leaf)

abbrev pub IsOfPinned : Sight → Leaf → Type 0
IsOfPinned s leaf = IsSome (map.get s.pins leaf.0.0)

abbrev pub IsProposable : Sight → Leaf → Type 0
IsProposable s leaf = IsRootAt s leaf ⊎ IsOfPinned s leaf

-- the first of these leaves whose export would start, with the rank that it would start to
abbrev pub IsFirstAway : Sight → (Leaf → Type 0) → Option (Leaf × Rank) → Type 0
IsFirstAway s Place None = (leaf : Leaf) (to : Rank) → Place leaf → IsAwayTo s leaf to → ⊥
IsFirstAway s Place (Some found) =
    Place found.0 × IsAwayTo s found.0 found.1
    × ((leaf : Leaf) (to : Rank) → Place leaf → IsAwayTo s leaf to → (leaf ≡ found.0)
    ⊎ (leaf_cmp found.0 leaf ≡ Less))

-- of two leaves with ranks, the lesser leaf's
abbrev pub lesser_away : Leaf × Rank → Leaf × Rank → Leaf × Rank
lesser_away one other = cond (is_lt (leaf_cmp other.0 one.0)) other one

-- of a leaf and perhaps another, with ranks, the lesser leaf's
abbrev pub lesser_candidate : Leaf × Rank → Option (Leaf × Rank) → Leaf × Rank
lesser_candidate one None = one
lesser_candidate one (Some other) = lesser_away one other
