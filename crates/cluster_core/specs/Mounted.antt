-- The cluster over a mounted store.
use Rattle.std.specs.Prelude.{◌≡◌, ◌⊎◌, ℕ, [], replicate}
use Rattle.std.specs.FinMap as map
use Rattle.mds_types.specs.Tree.{Tree}
use Rattle.objstore.specs.Objects.{Objects}
use Rattle.dentry_cache.specs.CacheMap.{no_caches}
use Rattle.inode_table.specs.TreeTable.{IsCounted}
use Rattle.mdcache.specs.Mounted.{AreNumbers, IsWalked, mounted}
use Rattle.mdcache.specs.New.{new_caches}
use Rattle.ranked_tree.specs.Mounted.{AreTopRoots}
use Rattle.sessions.specs.Table.{no_table}
use Rattle.cluster_core.specs.State.{Core, new_state}

-- the cluster over a store that has no object, as `format` makes it: only the root's leaf is cached
pub record IsNewCore (limit ranks places : ℕ) (core : Core) : Type 0 where
  pub state : core.state ≡ new_state ranks limit
  pub caches : core.caches ≡ new_caches ranks places

-- the cluster over a store that was walked. A directory may have so many entries, even if it already has more. The tree
-- is what the walk found, and the objects that it didn't reach are on the purge list. The authority of the root
-- directory's leaves is rank 0, and there is no export. Each rank has the numbers after the greatest of its range.
-- Nothing waits, is granted, is kept for a client, or is cached
pub record IsMountedCore (limit : ℕ) (objects : Objects) (ranks places : ℕ) (opening : Tree)
    (core : Core) : Type 0 where
  pub walked : IsWalked objects opening core.state.tree.homes core.state.tree.covers core.state.tree.purge
  pub counted : IsCounted opening core.state.tree.counts core.state.tree.pins
  pub tree : core.state.tree ≡ mounted limit objects core.state.tree.homes core.state.tree.covers core.state.tree.counts
      core.state.tree.pins core.state.tree.purge
  pub roots : AreTopRoots core.state.tree.covers core.state.roots
  pub exports : core.state.exports ≡ map.empty
  pub numbers : AreNumbers opening ranks core.state.numbers
  pub inboxes : core.state.inboxes ≡ replicate ranks []
  pub pins : core.state.pins ≡ []
  pub sessions : core.state.sessions ≡ no_table
  pub caches : core.caches ≡ no_caches ranks places

-- a store that has no object gives a new cluster; any other store gives what a walk finds
abbrev pub MountsCore : ℕ → Objects → (ranks places : ℕ) → Tree → Core → Type 0
MountsCore limit objects ranks places opening core =
    ((objects ≡ map.empty) × (opening ≡ map.empty) × IsNewCore limit ranks places core)
    ⊎ ((objects ≡ map.empty → ⊥) × IsMountedCore limit objects ranks places opening core)
