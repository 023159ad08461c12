-- The bytes of a sent export, told anew; and how those that are kept are handed out.
use Rattle.cluster_core.proofs.Common.{Bool, Core, Err, Inboxes, Leaf, List, None, Ok, Option, Pin, Rank, Ranked, Refusal, RefusesImport, Result, Some, State, Supply, Table, ap, core_of, get_put, inl, inr, one_value, refl, subst, sym, ℕ, ◌∙◌, ◌∷◌, ◌≡◌}
use Rattle.std.specs.FinMap as map
use Rattle.std.specs.FinMap.{empty_of_len, find, get-entries, len-entries}
use Rattle.std.specs.Prelude.{IfErr, IfNone, IfOk, IfSome, MatchOption, cond, drop, length}
use Rattle.mds_types.specs.Leaf.{leaf_cmp}
use Rattle.mds_types.proofs.LeafLaws.{key_itself}
use Rattle.sorted_map.specs.SortedMap.{first_pair}
use Rattle.sorted_map.proofs.OverlayLaws.{none_left, popped}
use Rattle.export_bytes.specs.Export.{export_bytes}
use Rattle.export_regions.proofs.ExportLaws.{one_export}
use Rattle.export_steps.specs.declared.exports.ExportState.TheVariants.{Sent}
use Rattle.export_steps.specs.declared.exports.StandingExport.{StandingExport}
use Rattle.export_steps.specs.Standing.{come_to}
use Rattle.mdcache.specs.Core.{state_of as tree_state}
use Rattle.mdcache.specs.State.{State as TreeState}
use Rattle.mds_types.specs.declared.object_names.ObjName.{ObjName}
use Rattle.mds_types.specs.declared.refusals.Refusal.TheVariants as why
use Rattle.subtree_map.specs.Authority.{Roots}
use Rattle.ranked_tree.specs.Importing.{MayNotImport}
use Rattle.ranked_tree.specs.Sending.{IsInRegionOf, SpellsRegion}
use Rattle.ranked_tree.specs.SentBytes.{RefusesSentBytes, SpellsSent}
use Rattle.cluster_core.specs.Exporting.{ImportsWhatIsTold, TellsOneBytes, TellsSentBytes, TellsWhatSendGave}
use Rattle.cluster_core.specs.SentBytes.{HandsOut}
use Rattle.cluster_core.specs.State.{LacksPlacesAt}

-- ---- one region has one spelling

region_once : (tree : TreeState) (roots : Roots) (leaf : Leaf) (export : StandingExport) (one other : List ℕ) → SpellsRegion tree roots leaf export one → SpellsRegion tree roots leaf export other → one ≡ other
region_once tree roots leaf export one other a b =
    a.spelled.spelled ∙ ap export_bytes (one_export (IsInRegionOf tree roots leaf) tree.unsaved (record { dir = leaf.0; frag = leaf.1; rank = export.exporter }) export.importer a.export b.export a.handed b.handed) ∙ sym b.spelled.spelled

-- so has that of a sent export
sent_once : (old : State) (leaf : Leaf) (export : StandingExport) (one other : List ℕ) → map.get old.exports leaf ≡ Some export → SpellsRegion old.tree old.roots leaf export one → SpellsSent old.tree old.roots old.exports leaf other → other ≡ one
sent_once old leaf export one other stands a b =
    region_once old.tree old.roots leaf export other one (subst (λ (e : StandingExport). SpellsRegion old.tree old.roots leaf e other) (one_value _ b.export export b.stands stands) b.region) a

pub tells_one : TellsOneBytes
tells_one old leaf one other a b = sent_once old leaf b.export other one b.stands b.region a

pub tells_what_send_gave : TellsWhatSendGave
tells_what_send_gave old new leaf bytes told sends tells =
    let step = sends.0 in
    let keeps = sends.2 in
    let stands : map.get new.exports leaf ≡ Some (come_to Sent step.export) = ap (λ (m : map.FinMap leaf_cmp StandingExport). map.get m leaf) step.changed ∙ get_put old.exports leaf (come_to Sent step.export) in
    sent_once new leaf (come_to Sent step.export) bytes told stands
    (subst (λ (r : Roots). SpellsRegion new.tree r leaf (come_to Sent step.export) bytes) (sym keeps.roots)
    (subst (λ (t : TreeState). SpellsRegion t old.roots leaf (come_to Sent step.export) bytes) (sym keeps.tree) (record { export = sends.1.export; spelled = sends.1.spelled; handed = sends.1.handed }))) tells

-- bytes that are those of the region are no damaged ones
not_damaged : (Lacks : ℕ → Rank → Type 0) (tree : TreeState) (roots : Roots) (leaf : Leaf) (export : StandingExport) (bytes : List ℕ) (object : ObjName) → MayNotImport Lacks tree roots leaf export bytes (why.Damaged object) → SpellsRegion tree roots leaf export bytes → ⊥
not_damaged Lacks tree roots leaf export bytes object (inl is) region = let clash : why.Damaged object ≡ why.NoMemory = is in cc
not_damaged Lacks tree roots leaf export bytes object (inr (inl (is, other))) region = other region
not_damaged Lacks tree roots leaf export bytes object (inr (inr full)) region = let clash : why.Damaged object ≡ why.NothingToEvict = full.0 in cc

pub imports_what_is_told : ImportsWhatIsTold
imports_what_is_told old new past now leaf bytes object tells refuses = go refuses.0
  where
    go : RefusesImport (λ count rank. LacksPlacesAt count old rank) old.state.tree old.state.roots old.state.exports leaf bytes (why.Damaged object) → ⊥
    go (inl none) = let clash : why.Damaged object ≡ why.WrongExportState = none.0 in cc
    go (inr found) =
        not_damaged (λ count rank. LacksPlacesAt count old rank) old.state.tree old.state.roots leaf found.0 bytes object found.3
        (subst (λ (e : StandingExport). SpellsRegion old.state.tree old.state.roots leaf e bytes) (one_value _ tells.export found.0 tells.stands found.1) tells.region)

-- ---- a cluster tells what its tree tells

module _ (ranked : Ranked) (numbers : List Supply) (inboxes : Inboxes) (pins : List Pin) (sessions : Table) (leaf : Leaf) where
  abbrev is : Core
  is = core_of ranked.tree ranked.subtrees.roots ranked.exports numbers inboxes pins sessions

  pub tells_so : (result : Result (List ℕ) Refusal) → IfOk result (SpellsSent (tree_state ranked.tree) ranked.subtrees.roots ranked.exports leaf) → IfErr result (RefusesSentBytes (tree_state ranked.tree) ranked.subtrees.roots ranked.exports leaf) → TellsSentBytes is.state leaf result
  tells_so (Ok bytes) spelled refused = spelled
  tells_so (Err reason) spelled (inl none) = inl none
  tells_so (Err reason) spelled (inr (stands, inl many)) = inr (λ not. not stands, inl many)
  tells_so (Err reason) spelled (inr (stands, inr (memory, few))) = inr (λ not. not stands, inr (few, memory))

-- ---- the first of the bytes that are kept

abbrev Kept : Type 0
Kept = map.FinMap leaf_cmp (List ℕ)

pub popped_first : {S : Type 0} (seen : S → Kept) (was now : S) (o : Option (Leaf × List ℕ)) → o ≡ first_pair (seen was) → map.entries (seen now) ≡ drop 1 (map.entries (seen was)) → IfSome o (λ pair. seen now ≡ map.remove (seen was) pair.0) → IfNone o (now ≡ was)
    → MatchOption o ((seen was ≡ map.empty) × (seen now ≡ seen was)) (HandsOut (seen was) (seen now))
popped_first seen was now None value rest removed left =
    (empty_of_len (seen was) (len-entries (seen was) ∙ ap (length {A = Leaf × List ℕ}) (none_left (map.entries (seen was)) None refl value)), ap seen left)
popped_first seen was now (Some pair) value rest removed left =
    let all : map.entries (seen was) ≡ pair ∷ map.entries (seen now) = popped (map.entries (seen was)) (map.entries (seen now)) (Some pair) pair refl value rest in (
      get-entries (seen was) pair.0 ∙ ap (find leaf_cmp pair.0) all ∙ ap (λ (b : Bool). cond b (Some pair.1) (find leaf_cmp pair.0 (map.entries (seen now)))) (key_itself pair.0),
      removed,
    )
