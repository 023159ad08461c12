-- The exports that stand, and what each step makes of them: CephFS's Migrator, with this project's own table of steps.
use Rattle.std.specs.Prelude.{◌≡◌, ◌≢◌, ◌<◌, ◌⊎◌, Bool, true, false, Option, Some, None, IsSome, option_map, Result, Ok, Err}
use Rattle.std.specs.FinMap as map
use Rattle.mds_types.specs.declared.ids.Rank.{Rank}
use Rattle.mds_types.specs.declared.refusals.Refusal.{Refusal}
use Rattle.mds_types.specs.declared.refusals.Refusal.TheVariants.{NoMemory, WrongExportState}
use Rattle.mds_types.specs.Leaf.{Leaf, leaf_cmp}
use Rattle.subtree_map.specs.Changes.{Subtrees}
use Rattle.export_steps.specs.declared.exports.ExportState.{ExportState}
use Rattle.export_steps.specs.declared.exports.ExportState.TheVariants.{Started, Frozen, Prepared, Sent, Imported}
use Rattle.export_steps.specs.declared.exports.StandingExport.{StandingExport}

-- from the root of a region to its export
abbrev pub Standing : Type 0
Standing = map.FinMap leaf_cmp StandingExport

-- an export goes from one of 16 ranks to another
pub record IsBetweenRanks (export : StandingExport) : Type 0 where
  pub exporter : export.exporter.0 < 16
  pub importer : export.importer.0 < 16
  pub apart : export.exporter.0 ≢ export.importer.0

pub record AreBetweenRanks (standing : Standing) : Type 0 where
  pub each : (root : Leaf) (export : StandingExport) → map.get standing root ≡ Some export → IsBetweenRanks export

-- the state of a root's export, if one stands
abbrev pub state_at : Standing → Leaf → Option ExportState
state_at standing root = option_map (λ e. e.state) (map.get standing root)

-- an export that has come to a state
abbrev pub come_to : ExportState → StandingExport → StandingExport
come_to state export = record { exporter = export.exporter; importer = export.importer; state = state }

-- from Freeze to the end of the export its region is frozen
abbrev pub is_freezing : ExportState → Bool
is_freezing Started = false
is_freezing Frozen = true
is_freezing Prepared = true
is_freezing Sent = true
is_freezing Imported = true

-- from Prep to the end of the export its region is promised to the importer
abbrev pub is_prepared : ExportState → Bool
is_prepared Started = false
is_prepared Frozen = false
is_prepared Prepared = true
is_prepared Sent = true
is_prepared Imported = true

-- an export can be cancelled before Send
abbrev pub is_before_send : ExportState → Bool
is_before_send Started = true
is_before_send Frozen = true
is_before_send Prepared = true
is_before_send Sent = false
is_before_send Imported = false

-- the export of a root was in one state, and has come to another; no other export changes
pub record ComesTo (old new : Standing) (root : Leaf) (from to : ExportState) : Type 0 where
  pub export : StandingExport
  pub stood : map.get old root ≡ Some export
  pub was : export.state ≡ from
  pub changed : new ≡ map.insert old root (come_to to export)

-- Start: no export of the root stood, and one does now, from exporter to importer
abbrev pub IsStart : Standing → Standing → Leaf → Rank → Rank → Type 0
IsStart old new root exporter importer =
    (map.get old root ≡ None) × (new ≡ map.insert old root (record {
      exporter = exporter;
      importer = importer;
      state =
          Started;
    }))

-- Start records exporter and importer; it is refused where an export of the root stands, or else for want of memory,
-- and nothing changes
abbrev pub Starts : Standing → Standing → Leaf → Rank → Rank → Result (Unit {0}) Refusal → Type 0
Starts old new root exporter importer (Ok done) = IsStart old new root exporter importer
Starts old new root exporter importer (Err reason) =
    (((reason ≡ WrongExportState) × IsSome (map.get old root)) ⊎ ((reason ≡ NoMemory) × (map.get old root ≡ None)))
    × (new ≡ old)

-- the roots and the promises of a map of subtrees stay; its room may grow
pub record AreKept (old new : Subtrees) : Type 0 where
  pub roots : new.roots ≡ old.roots
  pub promises : new.promises ≡ old.promises

-- Freeze: the export goes from started to frozen, and its root is a subtree root of the exporter
pub record IsFreeze (old new : Standing) (was now : Subtrees) (root : Leaf) : Type 0 where
  pub step : ComesTo old new root Started Frozen
  pub roots : now.roots ≡ map.insert was.roots root step.export.exporter
  pub promises : now.promises ≡ was.promises

-- the leaf of an export is no subtree root of its exporter yet
abbrev pub IsNoRootYet : Standing → Subtrees → Leaf → Type 0
IsNoRootYet old was root =
    (export : StandingExport) → map.get old root ≡ Some export → map.get was.roots root ≢ Some export.exporter

abbrev pub Freezes : Standing → Standing → Subtrees → Subtrees → Leaf → Result (Unit {0}) Refusal → Type 0
Freezes old new was now root (Ok done) = IsFreeze old new was now root
Freezes old new was now root (Err reason) =
    (((reason ≡ WrongExportState) × (state_at old root ≢ Some Started))
    ⊎ ((reason ≡ NoMemory) × (state_at old root ≡ Some Started))) × (new ≡ old) × AreKept was now

-- Prep: the export goes from frozen to prepared, and its root is promised to the importer
pub record IsPrep (old new : Standing) (was now : Subtrees) (root : Leaf) : Type 0 where
  pub step : ComesTo old new root Frozen Prepared
  pub roots : now.roots ≡ was.roots
  pub promises : now.promises ≡ map.insert was.promises root step.export.importer

abbrev pub Preps : Standing → Standing → Subtrees → Subtrees → Leaf → Result (Unit {0}) Refusal → Type 0
Preps old new was now root (Ok done) = IsPrep old new was now root
Preps old new was now root (Err reason) =
    (((reason ≡ WrongExportState) × (state_at old root ≢ Some Frozen))
    ⊎ ((reason ≡ NoMemory) × (state_at old root ≡ Some Frozen))) × (new ≡ old) × AreKept was now

-- Finish: an imported export ends, and its root is a subtree root of the importer, promised to no one
pub record IsFinish (old new : Standing) (was now : Subtrees) (root : Leaf) : Type 0 where
  pub export : StandingExport
  pub stood : map.get old root ≡ Some export
  pub imported : export.state ≡ Imported
  pub ended : new ≡ map.remove old root
  pub roots : now.roots ≡ map.insert was.roots root export.importer
  pub promises : now.promises ≡ map.remove was.promises root

abbrev pub Finishes : Standing → Standing → Subtrees → Subtrees → Leaf → Result (Unit {0}) Refusal → Type 0
Finishes old new was now root (Ok done) = IsFinish old new was now root
Finishes old new was now root (Err reason) =
    (reason ≡ WrongExportState) × (state_at old root ≢ Some Imported) × (new ≡ old) × (now ≡ was)

-- Cancel: an export that isn't sent yet ends, and its root is promised to no one; a subtree root stays one
pub record IsCancel (old new : Standing) (was now : Subtrees) (root : Leaf) : Type 0 where
  pub export : StandingExport
  pub stood : map.get old root ≡ Some export
  pub before_send : is_before_send export.state ≡ true
  pub ended : new ≡ map.remove old root
  pub roots : now.roots ≡ was.roots
  pub promises : now.promises ≡ map.remove was.promises root

abbrev pub Cancels : Standing → Standing → Subtrees → Subtrees → Leaf → Result (Unit {0}) Refusal → Type 0
Cancels old new was now root (Ok done) = IsCancel old new was now root
Cancels old new was now root (Err reason) =
    (reason ≡ WrongExportState) × ((export : StandingExport) → map.get old root ≡ Some export
    → is_before_send export.state ≡ false) × (new ≡ old) × (now ≡ was)

-- what Finish changes has its place: the root of each export that is frozen to imported is a subtree root of the
-- exporter, and promised to the importer once that is prepared
pub record ArePlaced (standing : Standing) (subtrees : Subtrees) : Type 0 where
  pub ranked : (root : Leaf) (export : StandingExport) → map.get standing root ≡ Some export
      → is_freezing export.state ≡ true → map.get subtrees.roots root ≡ Some export.exporter
  pub promised : (root : Leaf) (export : StandingExport) → map.get standing root ≡ Some export
      → is_prepared export.state ≡ true → map.get subtrees.promises root ≡ Some export.importer
