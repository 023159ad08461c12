-- The bytes of an export, beside the leaves that they are made of (this project's own profile).
use Rattle.std.specs.Prelude.{◌≡◌, length}
use Rattle.mds_types.specs.declared.dirfrags.Dirfrag.{Dirfrag}
use Rattle.mds_types.specs.declared.ids.Rank.{Rank}
use Rattle.mds_types.specs.Leaf.{Leaf}
use Rattle.dentry_cache.specs.CacheMap.{AreCaches, CacheMap, unclean}
use Rattle.export_bytes.specs.declared.exports.Export.{Export}
use Rattle.export_bytes.specs.Export.{SpellsExport}
use Rattle.export_regions.specs.declared.spelling.Spelled.{Spelled}
use Rattle.export_regions.specs.Regions.{AreCachedOf, IsExportOf}

-- the leaves of a region as its root's rank caches it, and the bytes that spell what an export of it to another rank
-- hands over: a fragment for each leaf that isn't clean
pub record IsSpelled (In : Leaf → Type 0) (c : CacheMap) (root : Dirfrag) (to : Rank) (spelled : Spelled) : Type 0 where
  pub export : Export
  pub spells : SpellsExport spelled.bytes.items export
  pub handed : IsExportOf In (unclean c) root to export
  pub many : length export.frags ≡ length spelled.leaves.unclean
  pub cached : AreCachedOf In c root.rank.0 spelled.leaves
  pub valid : AreCaches c
