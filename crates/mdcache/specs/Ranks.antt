-- The ranks that hold the leaves of a call, and the places that are kept.
use Rattle.std.specs.Prelude.{◌≡◌, ◌<◌, ◌⊎◌, ℕ, Bool, true, false, length, Option, Some, None, IfSome}
use Rattle.std.specs.FinMap as map
use Rattle.mds_types.specs.declared.ids.Rank.{Rank}
use Rattle.mds_types.specs.Leaf.{leaf_of}
use Rattle.mds_types.specs.Tree.{is_dir_kind}
use Rattle.dentry_cache.specs.Cache.{IsThere, Leaf}
use Rattle.dentry_cache.specs.CacheMap.{CacheMap, IsFreeFor, has_place, here}
use Rattle.dentry_cache.specs.Came.{IsThat}
use Rattle.mds_types.specs.declared.inodes.Inode.{Inode}
use Rattle.namespace_ops.specs.declared.plans.Change.{Change}
use Rattle.namespace_ops.specs.declared.plans.Spot.{Spot}
use Rattle.mdcache.specs.Changes.{first_leaf}

-- there is such a rank, and no other has the leaf's fragment
pub record MayHold (caches : CacheMap) (rank : Rank) (leaf : Leaf) : Type 0 where
  pub there : rank.0 < length caches.used
  pub alone : IsFreeFor caches rank.0 leaf

-- if a place is kept for a fragment that will be made, it is that of this leaf at this rank
abbrev pub KeepsOnlyAt : Option (Rank × Leaf) → CacheMap → Type 0
KeepsOnlyAt kept c =
    (r : ℕ) (leaf : Leaf) → has_place c r leaf ≡ true → IsThere (here c r leaf)
    ⊎ ((map.get c.held leaf ≡ None) × (kept ≡ Some (record { 0 = r }, leaf)))

-- ---- the ranks of a change

-- the leaf of a name that loses its inode and that of the one that gets it are at one rank, where they are one
abbrev pub AreOneRank : Option Spot → Option (Spot × Inode) → Type 0
AreOneRank None puts = Unit {0}
AreOneRank (Some spot) None = Unit {0}
AreOneRank (Some spot) (Some put) = ◌≡◌ {A = Leaf} (leaf_of spot.at) (leaf_of put.0.at) → spot.at.rank ≡ put.0.at.rank

-- the ranks may hold the leaves that a change names
pub record MayHoldEach (caches : CacheMap) (change : Change) : Type 0 where
  pub taken : IfSome change.takes (λ spot. MayHold caches spot.at.rank (leaf_of spot.at))
  pub put : IfSome change.puts (λ put. MayHold caches put.0.at.rank (leaf_of put.0.at))
  pub one : AreOneRank change.takes change.puts

-- the leaves of these names, each at its rank, and that of a new directory beside its name's
abbrev pub IsNamedBy : Option Spot → Option (Spot × Inode) → Bool → ℕ → Leaf → Type 0
IsNamedBy None None comes r q = ⊥
IsNamedBy None (Some put) true r q =
    IsThat put.0.at.rank.0 (leaf_of put.0.at) r q
    ⊎ ((is_dir_kind put.1.kind ≡ true) × IsThat put.0.at.rank.0 (first_leaf put.1.ino) r q)
IsNamedBy None (Some put) false r q = IsThat put.0.at.rank.0 (leaf_of put.0.at) r q
IsNamedBy (Some spot) None comes r q = IsThat spot.at.rank.0 (leaf_of spot.at) r q
IsNamedBy (Some spot) (Some put) comes r q =
    IsThat spot.at.rank.0 (leaf_of spot.at) r q ⊎ IsThat put.0.at.rank.0 (leaf_of put.0.at) r q

-- the leaves that a change names
abbrev pub IsNamedIn : Change → ℕ → Leaf → Type 0
IsNamedIn change r q = IsNamedBy change.takes change.puts change.comes r q

-- a leaf of the directory that goes with a change, whichever rank has it
abbrev pub EndsWith : Change → ℕ → Leaf → Type 0
EndsWith change r q = change.gone ≡ Some q.0
