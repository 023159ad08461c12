-- The bytes of an export that stands sent, told anew: they spell what isn't clean of its region now, as those of Send did
-- (this project's own profile).
use Rattle.std.specs.Prelude.{◌≡◌, ◌≢◌, ◌⊎◌, ℕ, List, Some}
use Rattle.std.specs.FinMap as map
use Rattle.mds_types.specs.declared.refusals.Refusal.{Refusal}
use Rattle.mds_types.specs.declared.refusals.Refusal.TheVariants.{WrongExportState}
use Rattle.export_regions.specs.Sending.{MayNotSend}
use Rattle.export_steps.specs.declared.exports.ExportState.TheVariants.{Sent}
use Rattle.export_steps.specs.declared.exports.StandingExport.{StandingExport}
use Rattle.export_steps.specs.Standing.{Standing, state_at}
use Rattle.subtree_map.specs.Authority.{Leaf, Roots}
use Rattle.mdcache.specs.State.{State as TreeState}
use Rattle.ranked_tree.specs.Sending.{IsInRegionOf, SpellsRegion}

-- bytes spell what the sent export of a root hands over
pub record SpellsSent (tree : TreeState) (roots : Roots) (exports : Standing) (root : Leaf) (bytes : List ℕ) : Type 0 where
  pub export : StandingExport
  pub stands : map.get exports root ≡ Some export
  pub sent : export.state ≡ Sent
  pub region : SpellsRegion tree roots root export bytes

-- why they aren't told: no sent export of the root stands; or, where one does, a fragment of its region has too many
-- dirty names, or, where none has, want of memory
abbrev pub RefusesSentBytes : TreeState → Roots → Standing → Leaf → Refusal → Type 0
RefusesSentBytes tree roots exports root reason =
    ((reason ≡ WrongExportState) × (state_at exports root ≢ Some Sent))
    ⊎ ((state_at exports root ≡ Some Sent) × MayNotSend (IsInRegionOf tree roots root) tree.unsaved reason)
