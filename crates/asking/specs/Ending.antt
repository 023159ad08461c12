-- An export whose region is frozen is ended by its own next steps.
use Rattle.std.specs.Prelude.{◌≡◌, ◌⊎◌, ◌≤◌, ◌++◌, ◌∷◌, [], ℕ, Bool, true, false, List, length, Option, None, Some, Result, Ok, Err, IsOk}
use Rattle.std.specs.FinMap as map
use Rattle.std.specs.List.{AllByRecursion}
use Rattle.mds_types.specs.declared.ids.Rank.{Rank}
use Rattle.mds_types.specs.declared.refusals.Refusal.{Refusal}
use Rattle.mds_types.specs.declared.refusals.Refusal.TheVariants.{NoMemory, WrongExportState}
use Rattle.mds_types.specs.Leaf.{Leaf}
use Rattle.export_steps.specs.declared.exports.ExportState.TheVariants.{Prepared, Sent}
use Rattle.export_steps.specs.declared.exports.StandingExport.{StandingExport}
use Rattle.export_steps.specs.Standing.{Standing, is_before_send, is_freezing}
use Rattle.ranked_tree.specs.Importing.{MayNotImport}
use Rattle.ranked_tree.specs.Sending.{SpellsRegion}
use Rattle.cluster_core.specs.Exporting.{SendsAt}
use Rattle.cluster_core.specs.Runs.{Runs}
use Rattle.cluster_core.specs.SentBytes.{SentBytes, bytes_for}
use Rattle.cluster_core.specs.State.{BookState, Core, LacksPlacesAt, State, shown}
use Rattle.cluster_core.specs.Steps.{Steps}
use Rattle.cluster_core.specs.Uses.{UsesStep}
use Rattle.cluster_core.specs.declared.events.Answer.{Answer}
use Rattle.cluster_core.specs.declared.events.Event.{Event}
use Rattle.cluster_core.specs.declared.events.Event.TheVariants.{Arrive, Grant, Serve, Split, Merge, CommitBegin, CommitEnd, CommitDrop, CommitTree, Purge, Evict, Start, Freeze, Prep, Send, Import, Finish, Cancel}

-- an export of this root is frozen, prepared, sent or imported
abbrev pub IsFreezing : Standing → Leaf → Type 0
IsFreezing exports root =
    (export : StandingExport) × (map.get exports root ≡ Some export) × (is_freezing export.state ≡ true)

-- no export is frozen, prepared, sent or imported
abbrev pub NoneFreezing : Standing → Type 0
NoneFreezing exports = (root : Leaf) → IsFreezing exports root → ⊥

-- a step of the export of this root after its freeze; a Cancel only where the caller allows it
abbrev pub IsStepOn : (cancel : Bool) → Leaf → Event → Type 0
IsStepOn cancel root (Arrive rank request) = ⊥
IsStepOn cancel root (Serve rank) = ⊥
IsStepOn cancel root (Grant rank client tid) = ⊥
IsStepOn cancel root (Split rank dir f nb) = ⊥
IsStepOn cancel root (Merge rank dir f) = ⊥
IsStepOn cancel root (CommitBegin rank dir f) = ⊥
IsStepOn cancel root (CommitEnd encoded) = ⊥
IsStepOn cancel root (CommitDrop job) = ⊥
IsStepOn cancel root (CommitTree dir) = ⊥
IsStepOn cancel root Purge = ⊥
IsStepOn cancel root (Evict rank) = ⊥
IsStepOn cancel root (Start from dir f to) = ⊥
IsStepOn cancel root (Freeze dir f) = ⊥
IsStepOn cancel root (Prep dir f) = (dir, f) ≡ root
IsStepOn cancel root (Send dir f) = (dir, f) ≡ root
IsStepOn cancel root (Import dir f bytes) = (dir, f) ≡ root
IsStepOn cancel root (Finish dir f) = (dir, f) ≡ root
IsStepOn cancel root (Cancel dir f) = (cancel ≡ true) × ((dir, f) ≡ root)

-- the last of these results is this refusal; or memory was refused between two steps, and no step was refused
abbrev pub EndsRefused : List (Result Answer Refusal) → Refusal → Type 0
EndsRefused results reason =
    ((before : List (Result Answer Refusal)) × (results ≡ before ++ Err reason ∷ []))
    ⊎ ((reason ≡ NoMemory) × AllByRecursion IsOk results)

-- bytes that spell the region of another root still spell it
abbrev pub KeepsSpelled : (old new : State) → Leaf → Type 0
KeepsSpelled old new root =
    (other : Leaf) (export : StandingExport) (bytes : List ℕ) → (other ≡ root → ⊥)
    → SpellsRegion old.tree old.roots other export bytes → SpellsRegion new.tree new.roots other export bytes

-- at most so many steps of the export of a root lead from one book to another. A refusal that is told is the refusal of
-- the last step. Clients see nothing of it: history and shown tree are the same. Only the tree's own state, the subtree
-- roots and this export change; the bytes that other exports sent or would send stay valid
pub record TakesOn (cancel : Bool) (root : Leaf) (most : ℕ) (refused : Option Refusal) (old new : BookState) : Type 0 where
  pub events : List Event
  pub results : List (Result Answer Refusal)
  pub ran : Runs old events results new
  pub of_it : AllByRecursion (IsStepOn cancel root) events
  pub few : length events ≤ most
  pub last : (reason : Refusal) → refused ≡ Some reason → EndsRefused results reason
  pub same : new.history ≡ old.history
  pub tree : shown new.core.state ≡ shown old.core.state
  pub left : new.core.state ≡ record old.core.state {
    tree = new.core.state.tree;
    roots = new.core.state.roots;
    exports =
        new.core.state.exports;
  }
  pub others : (other : Leaf) → (other ≡ root → ⊥)
      → map.get new.core.state.exports other ≡ map.get old.core.state.exports other
  pub spelled : KeepsSpelled old.core.state new.core.state root

-- ---- kept bytes

-- the bytes of all other exports are kept as they were
abbrev pub KeepsOtherBytes : (before after : SentBytes) → Leaf → Type 0
KeepsOtherBytes before after root =
    (other : Leaf) → (other ≡ root → ⊥) → map.get after.bytes other ≡ map.get before.bytes other

-- if the export of this root is sent, the bytes kept for it are those that it sent
abbrev pub HasBytes : State → SentBytes → Leaf → Type 0
HasBytes state kept root =
    (export : StandingExport) → map.get state.exports root ≡ Some export → export.state ≡ Sent
    → SpellsRegion state.tree state.roots root export (bytes_for kept root)

-- the kept bytes of each sent export are those that it sent
abbrev pub HasAllBytes : State → SentBytes → Type 0
HasAllBytes state kept = (root : Leaf) → HasBytes state kept root

-- ---- how an export ends

-- the importer is the authority of the region; or the export was cancelled before it was sent, where the caller allows
-- it
abbrev pub HandsOrCancels : (cancel : Bool) → (old new : State) → Leaf → StandingExport → Type 0
HandsOrCancels cancel old new root export =
    (new.roots ≡ map.insert old.roots root export.importer)
    ⊎ ((cancel ≡ true) × (is_before_send export.state ≡ true) × (new.roots ≡ old.roots) × (new.tree ≡ old.tree))

-- why an export can't be ended. It is sent, and its Import is refused: memory is refused, the kept bytes aren't those
-- that were sent, or the importer lacks places. Or it isn't sent and may not be cancelled: memory is refused, or a
-- fragment has too many dirty names
abbrev pub WhyNotEnded : (cancel : Bool) → Core → SentBytes → Leaf → StandingExport → Refusal → Type 0
WhyNotEnded cancel core kept root export reason =
    ((export.state ≡ Sent)
    × MayNotImport (λ count rank. LacksPlacesAt count core rank) core.state.tree core.state.roots root export
    (bytes_for kept root) reason)
    ⊎ ((is_before_send export.state ≡ true) × (cancel ≡ false)
    × ((reason ≡ NoMemory) ⊎ ((export.state ≡ Prepared) × SendsAt core.state core.state root (Err reason))))

-- the export made at most so many steps, and ended: its region was handed over, or the export was cancelled
pub record HasEnded (cancel : Bool) (root : Leaf) (most : ℕ) (old new : BookState) (before after : SentBytes) : Type 0 where
  pub export : StandingExport
  pub stood : map.get old.core.state.exports root ≡ Some export
  pub freezing : is_freezing export.state ≡ true
  pub taken : TakesOn cancel root most None old new
  pub ended : new.core.state.exports ≡ map.remove old.core.state.exports root
  pub by : HandsOrCancels cancel old.core.state new.core.state root export
  pub bytes : KeepsOtherBytes before after root

-- the export made at most so many steps, and still exists: its region remains frozen; if the bytes that it sent were
-- kept, they still are
pub record StandsStill (cancel : Bool) (root : Leaf) (most : ℕ) (reason : Refusal) (old new : BookState)
    (before after : SentBytes) : Type 0 where
  pub export : StandingExport
  pub stands : map.get new.core.state.exports root ≡ Some export
  pub freezing : is_freezing export.state ≡ true
  pub taken : TakesOn cancel root most (Some reason) old new
  pub why : WhyNotEnded cancel new.core after root export reason
  pub bytes : KeepsOtherBytes before after root
  pub kept : HasBytes old.core.state before root → HasBytes new.core.state after root

-- an export whose region is frozen ends, or still exists
abbrev pub EndsFrozen : (cancel : Bool) → Leaf → (most : ℕ) → (old new : BookState) → (before after : SentBytes)
    → Result (Unit {0}) Refusal → Type 0
EndsFrozen cancel root most old new before after (Ok done) = HasEnded cancel root most old new before after
EndsFrozen cancel root most old new before after (Err reason) =
    StandsStill cancel root most reason old new before after

-- the same for the export of a root, by at most four steps; refused `WrongExportState` exactly where no export of this
-- root has frozen its region
abbrev pub EndsExport : (cancel : Bool) → Leaf → (old new : BookState) → (before after : SentBytes)
    → Result (Unit {0}) Refusal → Type 0
EndsExport cancel root old new before after result =
    (IsFreezing old.core.state.exports root × EndsFrozen cancel root 4 old new before after result)
    ⊎ ((IsFreezing old.core.state.exports root → ⊥) × (result ≡ Err WrongExportState) × (new ≡ old) × (after ≡ before))

-- ---- words of this crate's own contracts

-- no export of this rank has frozen its region
abbrev pub NoneFreezingOf : Standing → Rank → Type 0
NoneFreezingOf exports rank =
    (root : Leaf) (export : StandingExport) → map.get exports root ≡ Some export → export.exporter ≡ rank
    → is_freezing export.state ≡ true → ⊥

-- an export was cancelled, where the caller allows it; otherwise nothing happened
abbrev pub CancelsOr : (cancel : Bool) → Leaf → (old new : BookState) → Refusal → Result (Unit {0}) Refusal → Type 0
CancelsOr cancel root old new refusal (Ok done) =
    (cancel ≡ true) × (answer : Answer)
    × Steps old.core new.core old.history new.history (Ok answer) (Cancel root.0 root.1)
    × UsesStep old.core new.core (Ok answer) (Cancel root.0 root.1)
CancelsOr cancel root old new refusal (Err reason) = (reason ≡ refusal) × (cancel ≡ false) × (new ≡ old)

-- a Send of a prepared export was made, or refused; or there was no room for its bytes
abbrev pub TriesToSend : Leaf → (old new : BookState) → Result Answer Refusal → Type 0
TriesToSend root old new (Ok answer) =
    Steps old.core new.core old.history new.history (Ok answer) (Send root.0 root.1)
    × UsesStep old.core new.core (Ok answer) (Send root.0 root.1)
TriesToSend root old new (Err reason) =
    (Steps old.core new.core old.history new.history (Err reason) (Send root.0 root.1)
    × UsesStep old.core new.core (Err reason) (Send root.0 root.1))
    ⊎ ((reason ≡ NoMemory) × (new ≡ old))
