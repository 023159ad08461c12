-- What Import of the tree with its ranks is to the cluster.
use Rattle.cluster_core.proofs.Common.{Answer, Core, Entry, Err, Imports, ImportsExport, Inboxes, IsErr, IsErrAnd, KeepsAuthorities, Leaf, LeavesCaches, List, Nothing, Ok, Pin, Ranked, Refusal, RefusesImport, Result, Some, StandingExport, Subtrees, Supply, Table, ap, core_of, refl, shown_in, state_of, subst, sym, ℕ, ◌≡◌}
use Rattle.mdcache.specs.Core.{LacksPlacesAt as LacksPlacesIn, state_of as tree_state}
use Rattle.ranked_tree.specs.Importing.{HandsRegion}
use Rattle.ranked_tree.specs.Sending.{IsInRegionOf}
use Rattle.std.specs.FinMap as map
use Rattle.std.specs.Prelude.{IfErr, OnOk}

module _ (old new : Ranked) (subtrees : new.subtrees ≡ old.subtrees) where
  roots_same : new.subtrees.roots ≡ old.subtrees.roots
  roots_same = ap (λ (s : Subtrees). s.roots) subtrees

  -- where directories and leaves stay, so do the authorities
  pub keeps_all : (tree_state new.tree).homes ≡ (tree_state old.tree).homes → (tree_state new.tree).covers ≡ (tree_state old.tree).covers → KeepsAuthorities (tree_state old.tree) (tree_state new.tree) old.subtrees.roots new.subtrees.roots
  keeps_all homes covers leaf rank was is rules = rw (homes, covers, roots_same) rules

  module _ (numbers : List Supply) (inboxes : Inboxes) (pins : List Pin) (sessions : Table) (past : List Entry) (leaf : Leaf) (bytes : List ℕ) where
    abbrev was : Core
    was = core_of old.tree old.subtrees.roots old.exports numbers inboxes pins sessions

    abbrev is : Core
    is = core_of new.tree new.subtrees.roots new.exports numbers inboxes pins sessions

    pub imported_so : Imports old new leaf bytes → shown_in new.tree ≡ shown_in old.tree → ImportsExport was is past past leaf bytes (Ok Nothing)
    imported_so imports shown = (
      refl,
      record { step = imports.step; region = imports.region; renewed = imports.renewed; roots = roots_same },
      record { same = refl; tree = shown; left = refl },
    )

    -- what becomes of the caches
    abbrev Uses : Result Answer Refusal → Type 0
    Uses result =
        OnOk result ((export : StandingExport) × (map.get old.exports leaf ≡ Some export) × HandsRegion (IsInRegionOf (tree_state old.tree) old.subtrees.roots leaf) export old.tree.caches new.tree.caches)
        × IfErr result (LeavesCaches old.exports leaf old.tree.caches new.tree.caches)

    -- the region was handed over
    pub handed_so : Imports old new leaf bytes → Uses (Ok Nothing)
    handed_so imports = ((imports.step.export, imports.step.stood, imports.caches), tt)

    pub refused_so : (reason : Refusal) → RefusesImport (λ count rank. LacksPlacesIn count old.tree rank) (tree_state old.tree) old.subtrees.roots old.exports leaf bytes reason → tree_state new.tree ≡ tree_state old.tree → new.exports ≡ old.exports
        → ImportsExport was is past past leaf bytes (Err reason)
    refused_so reason refuses tree exports =
        (refuses, record { same = refl; left = λ i. state_of (tree i) (roots_same i) (exports i) numbers inboxes pins sessions })

    -- an Import whose result is an error for this reason is refused so
    pub refused_by : (result : Result Answer Refusal) (why : Refusal) → IsErr result → IsErrAnd result (λ e. e ≡ why) → RefusesImport (λ count rank. LacksPlacesIn count old.tree rank) (tree_state old.tree) old.subtrees.roots old.exports leaf bytes why
        → tree_state new.tree ≡ tree_state old.tree → new.exports ≡ old.exports → ImportsExport was is past past leaf bytes result
    refused_by (Ok answer) why error that refuses tree exports = absurd that
    refused_by (Err reason) why error that refuses tree exports = subst (λ (r : Refusal). ImportsExport was is past past leaf bytes (Err r)) (sym that) (refused_so why refuses tree exports)

    -- and of the caches what its refusal says
    pub kept_by : (result : Result Answer Refusal) (why : Refusal) → IsErr result → IsErrAnd result (λ e. e ≡ why) → LeavesCaches old.exports leaf old.tree.caches new.tree.caches why → Uses result
    kept_by (Ok answer) why error that caches = absurd that
    kept_by (Err reason) why error that caches = (tt, subst (LeavesCaches old.exports leaf old.tree.caches new.tree.caches) (sym that) caches)
