-- What splits and merges of the whole do, and why they are refused.
use Rattle.std.specs.Prelude.{◌≡◌, ℕ, ◌^◌, List, [], ◌∷◌, Result, Ok, Err}
use Rattle.mds_types.specs.declared.ids.Ino.{Ino}
use Rattle.mds_types.specs.declared.refusals.Refusal.{Refusal}
use Rattle.mds_types.specs.Frag.{Fragment}
use Rattle.fragtree.specs.FragTree.{CanMerge, CanSplit, RefusesMerge, RefusesSplit, leaves_inside}
use Rattle.inode_table.specs.Dirs.{leaves_of}
use Rattle.mdcache.specs.Regroups.{MayNotRegroup}
use Rattle.mdcache.specs.Splits.{IsMergedInto, IsSplitInto, KeepsShownTree}
use Rattle.mdcache.specs.Core.{Core, state_of}

-- nothing was done, but that clean fragments came or went
abbrev pub IsUndone : (old new : Core) → Type 0
IsUndone old new = state_of new ≡ state_of old

-- a leaf was split by so many bits; where it wasn't, either its directory's leaves refuse that, or places lack at the
-- rank that holds it (`NoPlace`), or numbers, or the store or memory refused
abbrev pub MayNotSplit : (NoPlace : Type 0) → (old new : Core) → Ino → Fragment → ℕ → Refusal → Type 0
MayNotSplit NoPlace old new dir frag nb reason =
    MayNotRegroup (CanSplit (leaves_of old.covers dir.0) frag nb) (RefusesSplit (leaves_of old.covers dir.0) frag nb)
    (state_of old) dir (2 ^ nb) NoPlace old.faults new.faults reason

abbrev pub SplitsFrag : (NoPlace : Type 0) → (old new : Core) → Ino → Fragment → ℕ → Result (Unit {0}) Refusal → Type 0
SplitsFrag NoPlace old new dir frag nb (Ok done) =
    IsSplitInto (state_of old) (state_of new) dir frag nb × KeepsShownTree (state_of old) (state_of new) dir (frag ∷ [])
SplitsFrag NoPlace old new dir frag nb (Err reason) = MayNotSplit NoPlace old new dir frag nb reason × IsUndone old new

-- the leaves that a merge at a fragment ends
abbrev pub merged_leaves : Core → Ino → Fragment → List Fragment
merged_leaves c dir frag = leaves_inside frag (leaves_of c.covers dir.0)

-- leaves were merged; where they weren't it was refused so too
abbrev pub MayNotMerge : (NoPlace : Type 0) → (old new : Core) → Ino → Fragment → Refusal → Type 0
MayNotMerge NoPlace old new dir frag reason =
    MayNotRegroup (CanMerge (leaves_of old.covers dir.0) frag) (RefusesMerge (leaves_of old.covers dir.0) frag)
    (state_of old) dir 1 NoPlace old.faults new.faults reason

abbrev pub MergesFrags : (NoPlace : Type 0) → (old new : Core) → Ino → Fragment → Result (Unit {0}) Refusal → Type 0
MergesFrags NoPlace old new dir frag (Ok done) =
    IsMergedInto (state_of old) (state_of new) dir frag
    × KeepsShownTree (state_of old) (state_of new) dir (merged_leaves old dir frag)
MergesFrags NoPlace old new dir frag (Err reason) = MayNotMerge NoPlace old new dir frag reason × IsUndone old new
