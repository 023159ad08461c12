-- What reads leave, and why they may be refused.
use Rattle.std.specs.Prelude.{◌≡◌, ◌⊎◌, ℕ, ◌<◌, Bool, ◌==◌, List}
use Rattle.std.specs.FinMap as map
use Rattle.mds_types.specs.declared.refusals.Refusal.{Refusal}
use Rattle.mds_types.specs.declared.refusals.Refusal.TheVariants.{NoMemory, StoreFault, NothingToEvict}
use Rattle.mds_types.specs.Frag.{Fragment}
use Rattle.mds_types.specs.declared.ids.Ino.{Ino}
use Rattle.fragtree.specs.FragTree.{HasLeaf}
use Rattle.dirfrag_codec.specs.FragmentObject.{Names}
use Rattle.dentry_cache.specs.Cache.{Leaf}

-- want of memory, a store whose count of faults rose, or places that lack: no leaf of a sound state has an object that
-- is damaged
abbrev pub MayNotFind : (NoPlace : Type 0) → (before after : ℕ) → Refusal → Type 0
MayNotFind NoPlace before after reason =
    (reason ≡ NoMemory) ⊎ ((reason ≡ StoreFault) × (before < after)) ⊎ ((reason ≡ NothingToEvict) × NoPlace)

-- a leaf of a directory that has these
abbrev pub IsLeafOf : Ino → List Fragment → Leaf → Type 0
IsLeafOf dir leaves leaf = (leaf.0 ≡ dir) × HasLeaf leaves leaf.1

-- whether names are none
abbrev pub has_none : Names → Bool
has_none names = map.len names == 0
