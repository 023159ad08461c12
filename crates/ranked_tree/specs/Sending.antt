-- What Send hands out: the bytes of what isn't clean of the region of a prepared export (this project's own profile).
use Rattle.std.specs.Prelude.{◌≡◌, ◌≢◌, ◌⊎◌, ℕ, List, Some}
use Rattle.std.specs.FinMap as map
use Rattle.mds_types.specs.declared.refusals.Refusal.{Refusal}
use Rattle.mds_types.specs.declared.refusals.Refusal.TheVariants.{WrongExportState}
use Rattle.export_bytes.specs.declared.exports.Export.{Export}
use Rattle.export_bytes.specs.Export.{SpellsExport}
use Rattle.export_regions.specs.Regions.{IsExportOf, IsOfRegion}
use Rattle.export_regions.specs.Sending.{MayNotSend}
use Rattle.export_steps.specs.declared.exports.ExportState.TheVariants.{Prepared, Sent}
use Rattle.export_steps.specs.declared.exports.StandingExport.{StandingExport}
use Rattle.export_steps.specs.Standing.{ComesTo, Standing, state_at}
use Rattle.subtree_map.specs.Authority.{Leaf, Roots}
use Rattle.mdcache.specs.Core.{state_of}
use Rattle.mdcache.specs.State.{State as TreeState}
use Rattle.ranked_tree.specs.Ranked.{Ranked}

-- a leaf is in the region of a root
abbrev pub IsInRegionOf : TreeState → Roots → (root leaf : Leaf) → Type 0
IsInRegionOf tree roots root leaf = IsOfRegion roots tree.homes tree.covers root leaf

-- bytes spell what an export of a root's region hands over: each fragment of the region that isn't clean, and no other,
-- from exporter to importer
pub record SpellsRegion (tree : TreeState) (roots : Roots) (root : Leaf) (standing : StandingExport)
    (bytes : List ℕ) : Type 0 where
  pub export : Export
  pub spelled : SpellsExport bytes export
  pub handed : IsExportOf (IsInRegionOf tree roots root) tree.unsaved (record {
    dir =
        root.0;
    frag = root.1;
    rank = standing.exporter;
  }) standing.importer export

-- so it is of a prepared export that stands
pub record SpellsPrepared (tree : TreeState) (roots : Roots) (exports : Standing) (root : Leaf)
    (bytes : List ℕ) : Type 0 where
  pub export : StandingExport
  pub stands : map.get exports root ≡ Some export
  pub prepared : export.state ≡ Prepared
  pub region : SpellsRegion tree roots root export bytes

-- Send: the export of a root goes from prepared to sent, and the bytes spell what it hands over
pub record Sends (old new : Ranked) (root : Leaf) (bytes : List ℕ) : Type 0 where
  pub step : ComesTo old.exports new.exports root Prepared Sent
  pub region : SpellsRegion (state_of old.tree) old.subtrees.roots root step.export bytes

-- why Send is refused: no prepared export of the root stands; or, where one does, a fragment of its region has too many
-- dirty names, or, where none has, want of memory
abbrev pub RefusesSend : TreeState → Roots → Standing → Leaf → Refusal → Type 0
RefusesSend tree roots exports root reason =
    ((reason ≡ WrongExportState) × (state_at exports root ≢ Some Prepared))
    ⊎ ((state_at exports root ≡ Some Prepared) × MayNotSend (IsInRegionOf tree roots root) tree.unsaved reason)
