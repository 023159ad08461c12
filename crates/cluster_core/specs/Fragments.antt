-- Where fragments are cached (Weil et al., OSDI 2006: a metadata server caches what it is the authority of; while a
-- subtree moves, CephFS's importer has it before it becomes the authority).
use Rattle.std.specs.Prelude.{◌≡◌, Some}
use Rattle.std.specs.FinMap as map
use Rattle.mds_types.specs.declared.ids.Rank.{Rank}
use Rattle.cached_frag.specs.Cached.{Cached}
use Rattle.dentry_cache.specs.Cache.{HasCached, Leaf, Unsaved, unsaved_of}
use Rattle.dentry_cache.specs.CacheMap.{here}
use Rattle.cluster_core.specs.Master.{IsHolder}
use Rattle.cluster_core.specs.State.{Core}

-- a rank caches only what it holds; and a fragment that isn't clean is in the cache of the rank that holds it, with
-- exactly its unclean content
pub record LieAtHolder (core : Core) : Type 0 where
  pub held : (rank : Rank) (leaf : Leaf) (f : Cached) → here core.caches rank.0 leaf ≡ Some f
      → IsHolder core.state leaf rank
  pub unclean : (leaf : Leaf) (u : Unsaved) (rank : Rank) → map.get core.state.tree.unsaved leaf ≡ Some u
      → IsHolder core.state leaf rank → HasCached (here core.caches rank.0 leaf) (λ (f : Cached). unsaved_of f ≡ Some u)
