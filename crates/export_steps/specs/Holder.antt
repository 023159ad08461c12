-- Which leaves are frozen, and which rank holds a leaf: both by the nearest subtree root.
use Rattle.std.specs.Prelude.{◌≡◌, Bool, true, false, cond, List, [], ◌∷◌, Option, Some, None}
use Rattle.std.specs.FinMap as map
use Rattle.mds_types.specs.declared.ids.Rank.{Rank}
use Rattle.inode_table.specs.Dirs.{Homes, Covers}
use Rattle.mds_types.specs.Leaf.{Leaf}
use Rattle.subtree_map.specs.Authority.{Roots, NearestRoot}
use Rattle.export_steps.specs.declared.exports.ExportState.{ExportState}
use Rattle.export_steps.specs.declared.exports.ExportState.TheVariants.{Started, Frozen, Prepared, Sent, Imported}
use Rattle.export_steps.specs.declared.exports.StandingExport.{StandingExport}
use Rattle.export_steps.specs.Standing.{Standing, is_freezing}

-- a leaf is frozen: the export of its nearest root is frozen, prepared, sent or imported
pub record IsFrozen (standing : Standing) (roots : Roots) (homes : Homes) (covers : Covers) (leaf : Leaf) : Type 0 where
  pub root : Leaf
  pub export : StandingExport
  pub nearest : NearestRoot roots homes covers leaf root
  pub stands : map.get standing root ≡ Some export
  pub freezing : is_freezing export.state ≡ true

-- from Import to Finish the importer holds the region
abbrev pub is_imported : ExportState → Bool
is_imported Started = false
is_imported Frozen = false
is_imported Prepared = false
is_imported Sent = false
is_imported Imported = true

-- the rank that holds the region of a root, by the root's export, if one stands, and the root's rank: the importer
-- where it is imported, otherwise the authority
abbrev pub region_holder : Option StandingExport → Option Rank → Option Rank
region_holder None rank = rank
region_holder (Some export) rank = cond (is_imported export.state) (Some export.importer) rank

-- the holder of a leaf: the rank that holds the region of its nearest root
pub record HasHolder (standing : Standing) (roots : Roots) (homes : Homes) (covers : Covers) (leaf : Leaf)
    (rank : Rank) : Type 0 where
  pub root : Leaf
  pub nearest : NearestRoot roots homes covers leaf root
  pub holds : region_holder (map.get standing root) (map.get roots root) ≡ Some rank

-- the rank that holds the region of a root of this rank
abbrev pub holder_or : Option StandingExport → Rank → Rank
holder_or None rank = rank
holder_or (Some export) rank = cond (is_imported export.state) export.importer rank

abbrev pub held_by : Standing → List (Leaf × Rank) → List (Leaf × Rank)
held_by standing [] = []
held_by standing (e ∷ es) = (e.0, holder_or (map.get standing e.0) e.1) ∷ held_by standing es

-- the roots, each with the rank that holds its region
unfoldable pub holding : Standing → Roots → Roots
holding standing roots = map.from_entries (held_by standing (map.entries roots))
