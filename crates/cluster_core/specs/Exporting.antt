-- The steps of an export, and how they change a cluster (CephFS's Migrator, with this project's own table of steps).
use Rattle.std.specs.Prelude.{◌≡◌, ◌≢◌, ◌⊎◌, ℕ, true, List, None, Some, IsSome, Result, Ok, Err}
use Rattle.std.specs.FinMap as map
use Rattle.std.specs.List.{Contains}
use Rattle.mds_types.specs.declared.entries.Entry.{Entry}
use Rattle.mds_types.specs.declared.ids.Rank.{Rank}
use Rattle.mds_types.specs.declared.object_names.ObjName.{ObjName}
use Rattle.mds_types.specs.declared.refusals.Refusal.{Refusal}
use Rattle.mds_types.specs.declared.refusals.Refusal.TheVariants as why
use Rattle.mds_types.specs.Leaf.{Leaf}
use Rattle.export_regions.specs.Regions.{HasTooMany}
use Rattle.export_steps.specs.declared.exports.ExportState.TheVariants as state
use Rattle.export_steps.specs.declared.exports.StandingExport.{StandingExport}
use Rattle.export_steps.specs.Standing.{ComesTo, is_before_send, state_at}
use Rattle.inboxes.specs.declared.pins.Pin.{Pin}
use Rattle.inode_table.specs.Dirs.{Covers, Homes, IsLive}
use Rattle.subtree_map.specs.Authority.{Roots}
use Rattle.ranked_tree.specs.Exported.{EndsRegion, IsUnder}
use Rattle.ranked_tree.specs.Importing.{IsRenewed, RefusesImport}
use Rattle.ranked_tree.specs.Sending.{IsInRegionOf, SpellsRegion}
use Rattle.ranked_tree.specs.SentBytes.{SpellsSent}
use Rattle.cluster_core.specs.declared.events.Answer.{Answer}
use Rattle.cluster_core.specs.declared.events.Answer.TheVariants.{Nothing, Sent}
use Rattle.cluster_core.specs.Master.{IsAuthority, IsFrozenAt}
use Rattle.cluster_core.specs.Serve.{IsLeft}
use Rattle.cluster_core.specs.State.{Core, LacksPlacesAt, State, shown}

-- ---- refusals: the first check that holds gives the reason

-- refused with this reason exactly where this holds; otherwise the next checks decide
abbrev pub Check : Refusal → (Holds : Type 0) → (Else : Refusal → Type 0) → Refusal → Type 0
Check number Holds Else reason = ((reason ≡ number) × Holds) ⊎ ((Holds → ⊥) × Else reason)

-- the last check: the only other reason is want of memory
abbrev pub ForMemory : Refusal → Type 0
ForMemory reason = reason ≡ why.NoMemory

-- the last check: there is no other reason
abbrev pub Never : Refusal → Type 0
Never reason = ⊥

-- ---- a step of an export

-- clients see nothing of such a step: history and shown tree are the same; only the tree's own state, the subtree roots
-- and the exports change
pub record IsUnseenStep (old new : State) (past now : List Entry) : Type 0 where
  pub same : now ≡ past
  pub tree : shown new ≡ shown old
  pub left : new ≡ record old { tree = new.tree; roots = new.roots; exports = new.exports }

-- a step with an answer did its work, tells nothing more, and clients see nothing of it; a refused step changed
-- nothing, for the reason of the work
abbrev pub Exports : (old new : Core) → (past now : List Entry) → (Did : Result (Unit {0}) Refusal → Type 0)
    → Result Answer Refusal → Type 0
Exports old new past now Did (Ok answer) =
    (answer ≡ Nothing) × Did (Ok tt) × IsUnseenStep old.state new.state past now
Exports old new past now Did (Err reason) = Did (Err reason) × IsLeft old.state new.state past now

-- the tree and the subtree roots are the same
pub record KeepsTreeAndRoots (old new : State) : Type 0 where
  pub tree : new.tree ≡ old.tree
  pub roots : new.roots ≡ old.roots

-- ---- Start

-- an export of a leaf's region may start from its authority to another rank: the root has no export yet, and the leaf
-- isn't frozen
pub record MayStart (old : State) (from : Rank) (leaf : Leaf) (to : Rank) : Type 0 where
  pub none : map.get old.exports leaf ≡ None
  pub live : IsLive old.tree.homes old.tree.covers leaf
  pub apart : from ≡ to → ⊥
  pub mine : IsAuthority old leaf from
  pub thawed : IsFrozenAt old leaf → ⊥

-- the export is recorded as started
abbrev pub StartsIn : (old new : State) → Rank → Leaf → Rank → Result (Unit {0}) Refusal → Type 0
StartsIn old new from leaf to (Ok done) =
    MayStart old from leaf to × (new.exports ≡ map.insert old.exports leaf (record {
      exporter = from;
      importer =
          to;
      state = state.Started;
    })) × KeepsTreeAndRoots old new
StartsIn old new from leaf to (Err reason) =
    Check why.WrongExportState (IsSome (map.get old.exports leaf))
    (Check why.NoSuchFrag (IsLive old.tree.homes old.tree.covers leaf → ⊥)
    (Check why.NotAuthority ((from ≡ to)
    ⊎ (IsAuthority old leaf from → ⊥)) (Check why.Frozen (IsFrozenAt old leaf) ForMemory))) reason

abbrev pub StartsExport : (old new : Core) → (past now : List Entry) → Rank → Leaf → Rank → Result Answer Refusal
    → Type 0
StartsExport old new past now from leaf to result =
    Exports old new past now (StartsIn old.state new.state from leaf to) result

-- ---- Freeze

-- some leaf in the region that this root has as a subtree root is granted
abbrev pub HasPinnedUnder : Roots → Homes → Covers → List Pin → Leaf → Type 0
HasPinnedUnder roots homes covers pins root =
    (pin : Pin) × Contains pins pin × IsUnder roots homes covers root (pin.dir, pin.frag)

abbrev pub IsRegionPinned : State → Leaf → Type 0
IsRegionPinned old leaf = HasPinnedUnder old.roots old.tree.homes old.tree.covers old.pins leaf

-- the exporter is still the leaf's authority
abbrev pub IsExporters : State → Leaf → Type 0
IsExporters old leaf =
    (export : StandingExport) × (map.get old.exports leaf ≡ Some export) × IsAuthority old leaf export.exporter

-- the region of a started export may freeze: its root is still a leaf, whose authority is the exporter, and no part of
-- it is frozen or granted
pub record MayFreeze (old : State) (leaf : Leaf) : Type 0 where
  pub started : state_at old.exports leaf ≡ Some state.Started
  pub live : IsLive old.tree.homes old.tree.covers leaf
  pub mine : IsExporters old leaf
  pub thawed : IsFrozenAt old leaf → ⊥
  pub free : IsRegionPinned old leaf → ⊥

-- the region freezes: its root is a subtree root of the exporter, and the jobs of its leaves end
pub record IsFreezeIn (old new : State) (leaf : Leaf) : Type 0 where
  pub step : ComesTo old.exports new.exports leaf state.Started state.Frozen
  pub roots : new.roots ≡ map.insert old.roots leaf step.export.exporter
  pub ended : EndsRegion old.tree new.tree new.roots leaf

abbrev pub FreezesIn : (old new : State) → Leaf → Result (Unit {0}) Refusal → Type 0
FreezesIn old new leaf (Ok done) = MayFreeze old leaf × IsFreezeIn old new leaf
FreezesIn old new leaf (Err reason) =
    Check why.WrongExportState (state_at old.exports leaf ≢ Some state.Started)
    (Check why.NoSuchFrag (IsLive old.tree.homes old.tree.covers leaf → ⊥)
    (Check why.NotAuthority (IsExporters old leaf
    → ⊥) (Check why.Frozen (IsFrozenAt old leaf) (Check why.Pinned (IsRegionPinned old leaf) ForMemory)))) reason

abbrev pub FreezesExport : (old new : Core) → (past now : List Entry) → Leaf → Result Answer Refusal → Type 0
FreezesExport old new past now leaf result = Exports old new past now (FreezesIn old.state new.state leaf) result

-- ---- Prep

-- a frozen export is prepared; refused if the root has no frozen export, or for want of memory
abbrev pub PrepsIn : (old new : State) → Leaf → Result (Unit {0}) Refusal → Type 0
PrepsIn old new leaf (Ok done) = ComesTo old.exports new.exports leaf state.Frozen state.Prepared × KeepsTreeAndRoots old new
PrepsIn old new leaf (Err reason) =
    Check why.WrongExportState (state_at old.exports leaf ≢ Some state.Frozen) ForMemory reason

abbrev pub PrepsExport : (old new : Core) → (past now : List Entry) → Leaf → Result Answer Refusal → Type 0
PrepsExport old new past now leaf result = Exports old new past now (PrepsIn old.state new.state leaf) result

-- ---- Send

-- a prepared export is sent, and these bytes spell all that isn't clean in its region; refused if the root has no
-- prepared export, or a fragment of the region has too many dirty names
abbrev pub SendsAt : (old new : State) → Leaf → Result (List ℕ) Refusal → Type 0
SendsAt old new leaf (Ok bytes) =
    (step : ComesTo old.exports new.exports leaf state.Prepared state.Sent)
    × SpellsRegion old.tree old.roots leaf step.export bytes × KeepsTreeAndRoots old new
SendsAt old new leaf (Err reason) =
    Check why.WrongExportState (state_at old.exports leaf ≢ Some state.Prepared)
    (Check why.TooManyFrags (HasTooMany (IsInRegionOf old.tree old.roots leaf) old.tree.unsaved) ForMemory) reason

-- the answer of a Send is those bytes
abbrev pub SendsExport : (old new : Core) → (past now : List Entry) → Leaf → Result Answer Refusal → Type 0
SendsExport old new past now leaf (Ok answer) =
    (bytes : List ℕ) × (answer ≡ Sent bytes) × SendsAt old.state new.state leaf (Ok bytes)
    × IsUnseenStep old.state new.state past now
SendsExport old new past now leaf (Err reason) =
    SendsAt old.state new.state leaf (Err reason) × IsLeft old.state new.state past now

-- ---- the bytes of a sent export, told again

-- the bytes spell all that isn't clean in the region; refused if the root has no sent export, or a fragment of the
-- region has too many dirty names
abbrev pub TellsSentBytes : State → Leaf → Result (List ℕ) Refusal → Type 0
TellsSentBytes old leaf (Ok bytes) = SpellsSent old.tree old.roots old.exports leaf bytes
TellsSentBytes old leaf (Err reason) =
    Check why.WrongExportState (state_at old.exports leaf ≢ Some state.Sent)
    (Check why.TooManyFrags (HasTooMany (IsInRegionOf old.tree old.roots leaf) old.tree.unsaved) ForMemory) reason

-- in the state after a Send, the told bytes are those that the Send gave
abbrev pub TellsWhatSendGave : Type 0
TellsWhatSendGave =
    (old new : State) (leaf : Leaf) (bytes told : List ℕ) → SendsAt old new leaf (Ok bytes)
    → TellsSentBytes new leaf (Ok told) → told ≡ bytes

-- in one state the told bytes are always the same
abbrev pub TellsOneBytes : Type 0
TellsOneBytes =
    (old : State) (leaf : Leaf) (one other : List ℕ) → TellsSentBytes old leaf (Ok one)
    → TellsSentBytes old leaf (Ok other) → one ≡ other

-- ---- Import

-- a sent export is imported: the bytes are those of its region, and its importer has all that isn't clean in it, with
-- generation 0
pub record IsImport (old new : Core) (leaf : Leaf) (bytes : List ℕ) : Type 0 where
  pub step : ComesTo old.state.exports new.state.exports leaf state.Sent state.Imported
  pub region : SpellsRegion old.state.tree old.state.roots leaf step.export bytes
  pub renewed : IsRenewed (IsInRegionOf old.state.tree old.state.roots leaf) old.state.tree new.state.tree
  pub roots : new.state.roots ≡ old.state.roots

-- refused if the root has no sent export; if the bytes are others; if the importer lacks places; or for want of memory
abbrev pub ImportsExport : (old new : Core) → (past now : List Entry) → Leaf → (bytes : List ℕ) → Result Answer Refusal
    → Type 0
ImportsExport old new past now leaf bytes (Ok answer) =
    (answer ≡ Nothing) × IsImport old new leaf bytes × IsUnseenStep old.state new.state past now
ImportsExport old new past now leaf bytes (Err reason) =
    RefusesImport (λ count rank. LacksPlacesAt count old rank) old.state.tree old.state.roots old.state.exports leaf
    bytes reason
    × IsLeft old.state new.state past now

-- an Import never refuses the told bytes as damaged
abbrev pub ImportsWhatIsTold : Type 0
ImportsWhatIsTold =
    (old new : Core) (past now : List Entry) (leaf : Leaf) (bytes : List ℕ) (object : ObjName)
    → TellsSentBytes old.state leaf (Ok bytes) → ImportsExport old new past now leaf bytes (Err (why.Damaged object)) → ⊥

-- ---- Finish

-- the importer of an imported region, which holds it, becomes its authority, and the export ends
pub record IsFinishIn (old new : State) (leaf : Leaf) : Type 0 where
  pub export : StandingExport
  pub stood : map.get old.exports leaf ≡ Some export
  pub imported : export.state ≡ state.Imported
  pub ended : new.exports ≡ map.remove old.exports leaf
  pub roots : new.roots ≡ map.insert old.roots leaf export.importer
  pub tree : new.tree ≡ old.tree

-- refused exactly where the root has no imported export
abbrev pub FinishesIn : (old new : State) → Leaf → Result (Unit {0}) Refusal → Type 0
FinishesIn old new leaf (Ok done) = IsFinishIn old new leaf
FinishesIn old new leaf (Err reason) =
    Check why.WrongExportState (state_at old.exports leaf ≢ Some state.Imported) Never reason

abbrev pub FinishesExport : (old new : Core) → (past now : List Entry) → Leaf → Result Answer Refusal → Type 0
FinishesExport old new past now leaf result = Exports old new past now (FinishesIn old.state new.state leaf) result

-- ---- Cancel

-- the export of a root isn't sent yet
abbrev pub IsUnsent : State → Leaf → Type 0
IsUnsent old leaf =
    (export : StandingExport) × (map.get old.exports leaf ≡ Some export) × (is_before_send export.state ≡ true)

-- an export that isn't sent yet ends, and its subtree root stays; refused exactly where the root has no such export
abbrev pub CancelsAt : (old new : State) → Leaf → Result (Unit {0}) Refusal → Type 0
CancelsAt old new leaf (Ok done) = IsUnsent old leaf × (new.exports ≡ map.remove old.exports leaf) × KeepsTreeAndRoots old new
CancelsAt old new leaf (Err reason) = Check why.WrongExportState (IsUnsent old leaf → ⊥) Never reason

abbrev pub CancelsExport : (old new : Core) → (past now : List Entry) → Leaf → Result Answer Refusal → Type 0
CancelsExport old new past now leaf result = Exports old new past now (CancelsAt old.state new.state leaf) result
