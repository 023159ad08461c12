-- The ranks of which nothing is pinned to another rank. A book remembers them, so that a proposal needn't look again.
use Rattle.std.specs.Prelude.{◌≡◌, ◌≢◌, ◌⊎◌, ◌++◌, ◌∷◌, [], ◌<◌, ℕ, Bool, true, false, List, length, slice_index_or, IsSome}
use Rattle.std.specs.List.{Contains}
use Rattle.std.specs.FinMap as map
use Rattle.mds_types.specs.declared.entries.Entry.{Entry}
use Rattle.mds_types.specs.declared.ids.Rank.{Rank}
use Rattle.mds_types.specs.declared.inodes.Alteration.TheVariants.{Attributed, Pinned}
use Rattle.mds_types.specs.declared.operations.Op.{Op}
use Rattle.mds_types.specs.Leaf.{Leaf}
use Rattle.mds_types.specs.Shape.{Shape, Looks, Lists, Makes, Sets, Unlinks, Removes, Moves, shape}
use Rattle.inode_table.specs.Dirs.{IsLive}
use Rattle.subtree_map.specs.Authority.{HasAuthority}
use Rattle.cluster_core.specs.declared.events.Event.{Event}
use Rattle.cluster_core.specs.declared.events.Event.TheVariants.{Arrive, Serve, Grant, Split, Merge, CommitBegin, CommitEnd, CommitDrop, CommitTree, Purge, Evict, Start, Freeze, Prep, Send, Import, Finish, Cancel}
use Rattle.cluster_core.specs.Pins.{HasPin}
use Rattle.cluster_core.specs.Sound.{IsSoundKept}
use Rattle.cluster_core.specs.State.{KeptState, State}

-- the rank is the authority of a leaf, which is a subtree root or of a directory with a pin of its own, and the
-- directory is pinned to another rank of the book
pub record IsAway (state : State) (rank : Rank) (leaf : Leaf) (to : Rank) : Type 0 where
  pub live : IsLive state.tree.homes state.tree.covers leaf
  pub mine : HasAuthority state.roots state.tree.homes state.tree.covers leaf rank
  pub place : IsSome (map.get state.roots leaf) ⊎ IsSome (map.get state.tree.pins leaf.0.0)
  pub pin : HasPin state.tree.pins state.tree.homes leaf.0.0 to
  pub other : to ≢ rank
  pub there : to.0 < length state.numbers

-- the rank is the authority of no such leaf
abbrev pub HasSettled : State → Rank → Type 0
HasSettled state rank = (leaf : Leaf) (to : Rank) → IsAway state rank leaf to → ⊥

-- each of these ranks is the authority of no such leaf
abbrev pub AreSettled : State → List Rank → Type 0
AreSettled state ranks = (rank : Rank) → Contains ranks rank → HasSettled state rank

-- a book is sound, and no leaf of these ranks is pinned to another rank so
pub record IsSettledBook (book : KeptState) (ranks : List Rank) : Type 0 where
  pub sound : IsSoundKept book
  pub settled : AreSettled book.core.state ranks

-- an operation that moves nothing and pins nothing
abbrev pub IsCalmIn : Shape → Type 0
IsCalmIn (Looks dentry answer) = Unit {0}
IsCalmIn (Lists dir after max) = Unit {0}
IsCalmIn (Makes dentry kind mode birth) = Unit {0}
IsCalmIn (Sets dentry (Attributed given)) = Unit {0}
IsCalmIn (Sets dentry (Pinned pin)) = ⊥
IsCalmIn (Unlinks dentry) = Unit {0}
IsCalmIn (Removes dentry) = Unit {0}
IsCalmIn (Moves from to) = ⊥

abbrev pub IsCalmOp : Op → Type 0
IsCalmOp op = IsCalmIn (shape op)

-- a step that makes no subtree root and hands no authority on, whatever request it serves
abbrev pub IsCalm : Event → Type 0
IsCalm (Arrive rank request) = Unit {0}
IsCalm (Serve rank) = Unit {0}
IsCalm (Grant rank client tid) = Unit {0}
IsCalm (Split rank dir f bits) = Unit {0}
IsCalm (Merge rank dir f) = Unit {0}
IsCalm (CommitBegin rank dir f) = Unit {0}
IsCalm (CommitEnd encoded) = Unit {0}
IsCalm (CommitDrop job) = Unit {0}
IsCalm (CommitTree dir) = Unit {0}
IsCalm Purge = Unit {0}
IsCalm (Evict rank) = Unit {0}
IsCalm (Start from dir f to) = Unit {0}
IsCalm (Freeze dir f) = ⊥
IsCalm (Prep dir f) = Unit {0}
IsCalm (Send dir f) = Unit {0}
IsCalm (Import dir f bytes) = Unit {0}
IsCalm (Finish dir f) = ⊥
IsCalm (Cancel dir f) = Unit {0}

-- behind so many entries an operation was applied that moves something or pins a directory
abbrev pub HasUnsettled : (history : List Entry) → (past : ℕ) → Type 0
HasUnsettled history past = (past < length history) × ((e : Entry) → IsCalmOp (slice_index_or history past e).op → ⊥)

-- the ranks of which it is known afterwards: none, if the step wasn't calm, or applied an operation that isn't, behind
-- so many entries; otherwise the same
abbrev pub KeepsSettled : (before after : List Rank) → (may : Bool) → (history : List Entry) → (past : ℕ) → Type 0
KeepsSettled before after may history past =
    ((after ≡ []) × ((may ≡ true) ⊎ HasUnsettled history past))
    ⊎ ((after ≡ before) × (may ≡ false)
    × ((earlier : List Entry) (e : Entry) → length earlier ≡ past → history ≡ earlier ++ e ∷ [] → IsCalmOp e.op))
