-- The checks of a split and of a merge, in their order and in the form that Exporting has for those of an export.
use Rattle.std.specs.Prelude.{◌≡◌, ◌⊎◌, ℕ, ◌+◌, ◌-◌, ◌<◌, ◌^◌, false, [], length, Err}
use Rattle.mds_types.specs.declared.ids.Ino.{Ino}
use Rattle.mds_types.specs.declared.ids.Rank.{Rank}
use Rattle.mds_types.specs.declared.refusals.Refusal.{Refusal}
use Rattle.mds_types.specs.declared.refusals.Refusal.TheVariants as why
use Rattle.mds_types.specs.Frag.{Fragment}
use Rattle.fragtree.specs.FragTree.{FitsSplit, leaves_inside}
use Rattle.inode_table.specs.Dirs.{IsLive, is_known, leaves_of}
use Rattle.mdcache.specs.Reads.{MayNotFind}
use Rattle.mdcache.specs.Regroups.{LacksCounts}
use Rattle.cluster_core.specs.Administers.{HasFrozenInside, HasPinnedInside, HoldsInside, IsPinned, MergesLeaves, SplitsLeaf}
use Rattle.cluster_core.specs.Exporting.{Check}
use Rattle.cluster_core.specs.Master.{IsAuthority, IsFrozenAt}
use Rattle.cluster_core.specs.State.{Core, LacksPlacesAt}

-- the checks of a rank that splits a leaf of a directory by so many bits
abbrev pub SplitChecks : (old new : Core) → Rank → Ino → Fragment → ℕ → Refusal → Type 0
SplitChecks old new rank dir f nb =
    Check why.NoSuchFrag (IsLive old.state.tree.homes old.state.tree.covers (dir, f) → ⊥)
    (Check why.BadSplit (FitsSplit f nb → ⊥)
    (Check why.TooManyFrags (4096 < length (leaves_of old.state.tree.covers dir.0) - 1 + 2 ^ nb)
    (Check why.NotAuthority (IsAuthority old.state (dir, f) rank → ⊥)
    (Check why.Frozen (IsFrozenAt old.state (dir, f))
    (Check why.Pinned (IsPinned old.state (dir, f))
    (Check why.NoInodes (LacksCounts (2 ^ nb) old.state.tree)
    (MayNotFind (LacksPlacesAt (2 ^ nb + 1) old rank) old.faults new.faults)))))))

-- the checks of a rank that merges the leaves of a directory properly inside a fragment
abbrev pub MergeChecks : (old new : Core) → Rank → Ino → Fragment → Refusal → Type 0
MergeChecks old new rank dir f =
    let inside = leaves_inside f (leaves_of old.state.tree.covers dir.0) in
    Check why.NoSuchFrag ((is_known old.state.tree.homes dir.0 ≡ false) ⊎ (inside ≡ []))
    (Check why.TooManyFrags (256 < length inside)
    (Check why.NotAuthority (HoldsInside old.state rank dir f → ⊥)
    (Check why.Frozen (HasFrozenInside old.state dir f)
    (Check why.Pinned (HasPinnedInside old.state dir f)
    (Check why.NoInodes (LacksCounts 1 old.state.tree)
    (MayNotFind (LacksPlacesAt 1 old rank) old.faults new.faults))))))

-- each refusal of a split, and each of a merge, is by these checks
abbrev pub SplitsByChecks : Type 0
SplitsByChecks =
    (old new : Core) (rank : Rank) (dir : Ino) (f : Fragment) (nb : ℕ) (reason : Refusal)
    → SplitsLeaf old new rank dir f nb (Err reason) → SplitChecks old new rank dir f nb reason

abbrev pub MergesByChecks : Type 0
MergesByChecks =
    (old new : Core) (rank : Rank) (dir : Ino) (f : Fragment) (reason : Refusal)
    → MergesLeaves old new rank dir f (Err reason) → MergeChecks old new rank dir f reason
