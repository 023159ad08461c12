-- What each step makes of the roots with the ranks that hold their regions, and what Start, Prep and Send leave of holders and frozen leaves.
use Rattle.export_steps.proofs.Common.{ArePlaced, Bool, ComesTo, Covers, ExportState, Frozen, HasAuthority, Homes, Imported, IsCancel, IsFinish, IsFreeze, IsFrozen, IsStart, KeepFrozen, KeepHolders, Leaf, NearestRoot, None, Option, Prepared, Rank, Roots, Sent, Some, Standing, StandingExport, Started, StepsSoundly, Subtrees, ap, come_to, cond, false, get_beside, get_left, get_put, get_removed, holder_or, holding, inl, inr, is_before_send, is_freezing, is_imported, leaf-exact, leaf-total, not_none, one_value, option_map, refl, same_map, same_or_apart, subst, sym, true, ◌∙◌, ◌≡◌, ◌≢◌, ◌⊎◌}
use Rattle.std.specs.FinMap as map
use Rattle.export_steps.proofs.Handover.{early_holds}
use Rattle.export_steps.proofs.Holding.{get_holding, holder_is}

-- where an export isn't imported, the root's own rank holds its region
own_holds : (o : Option StandingExport) (rank : Rank) → ((export : StandingExport) → o ≡ Some export → is_imported export.state ≡ false) → holder_or o rank ≡ rank
own_holds None rank not = refl
own_holds (Some export) rank not = ap (λ (b : Bool). cond b export.importer rank) (not export refl)

-- the same ranks hold, if each root has the same holder
same_holding : (old new : Standing) (roots : Roots) → ((q : Leaf) (rank : Rank) → holder_or (map.get new q) rank ≡ holder_or (map.get old q) rank) → holding new roots ≡ holding old roots
same_holding old new roots same = same_map leaf-total leaf-exact (holding new roots) (holding old roots) (λ q. get_holding new roots q ∙ by q (map.get roots q) ∙ sym (get_holding old roots q))
  where
    by : (q : Leaf) (o : Option Rank) → option_map (holder_or (map.get new q)) o ≡ option_map (holder_or (map.get old q)) o
    by q None = refl
    by q (Some rank) = ap (λ (r : Rank). Some r) (same q rank)

-- each leaf then keeps its holder
same_holders : (old new : Standing) (roots : Roots) (homes : Homes) (covers : Covers) → holding new roots ≡ holding old roots → KeepHolders old new roots roots homes covers
same_holders old new roots homes covers same leaf rank holds =
    (holder_is new roots homes covers leaf rank).1 (subst (λ (r : Roots). HasAuthority r homes covers leaf rank) (sym same) ((holder_is old roots homes covers leaf rank).0 holds))

-- a step changes the export of one root alone
abbrev ChangesOne : Standing → Standing → Leaf → Type 0
ChangesOne old new root = (leaf : Leaf) → leaf ≢ root → map.get new leaf ≡ map.get old leaf

-- the export of a root isn't imported, if there is one
abbrev IsOwn : Standing → Leaf → Type 0
IsOwn standing root = (export : StandingExport) → map.get standing root ≡ Some export → is_imported export.state ≡ false

-- an export of a root stands that freezes its region
abbrev Freezes : Standing → Leaf → Type 0
Freezes standing root = (export : StandingExport) × (map.get standing root ≡ Some export) × (is_freezing export.state ≡ true)

module _ (old new : Standing) (root : Leaf) (beside : ChangesOne old new root) where
  -- it is imported neither before nor after
  own_holding : IsOwn old root → IsOwn new root → (roots : Roots) → holding new roots ≡ holding old roots
  own_holding was is roots = same_holding old new roots (λ q rank. at q rank (same_or_apart q root))
    where
      at : (q : Leaf) (rank : Rank) → (q ≡ root) ⊎ (q ≢ root) → holder_or (map.get new q) rank ≡ holder_or (map.get old q) rank
      at q rank (inl same) =
          ap (λ (k : Leaf). holder_or (map.get new k) rank) same ∙ own_holds (map.get new root) rank is
          ∙ sym (own_holds (map.get old root) rank was) ∙ ap (λ (k : Leaf). holder_or (map.get old k) rank) (sym same)
      at q rank (inr apart) = ap (λ (o : Option StandingExport). holder_or o rank) (beside q apart)

  -- the root's region has this holder now
  put_holding : (was now : Roots) (rank : Rank) → ((leaf : Leaf) → leaf ≢ root → map.get now leaf ≡ map.get was leaf) → map.get (holding new now) root ≡ Some rank → holding new now ≡ map.insert (holding old was) root rank
  put_holding was now rank ranks here = same_map leaf-total leaf-exact (holding new now) (map.insert (holding old was) root rank) (λ q. at q (same_or_apart q root))
    where
      at : (q : Leaf) → (q ≡ root) ⊎ (q ≢ root) → map.get (holding new now) q ≡ map.get (map.insert (holding old was) root rank) q
      at q (inl same) = ap (map.get (holding new now)) same ∙ here ∙ sym (get_put (holding old was) root rank) ∙ ap (map.get (map.insert (holding old was) root rank)) (sym same)
      at q (inr apart) =
          get_holding new now q ∙ ap (λ (o : Option StandingExport). option_map (holder_or o) (map.get now q)) (beside q apart) ∙ ap (option_map (holder_or (map.get old q))) (ranks q apart)
          ∙ sym (get_holding old was q) ∙ sym (get_beside (holding old was) root rank q apart)

  -- it freezes its region exactly if it did
  same_frozen : (Freezes new root → Freezes old root) → (Freezes old root → Freezes new root) → (roots : Roots) (homes : Homes) (covers : Covers) → KeepFrozen old new roots homes covers
  same_frozen back onto roots homes covers leaf = (
    λ its. elim (same_or_apart its.root root) [
      | inl same ↦ at_root old its.root its.nearest same (back (its.export, ap (map.get new) (sym same) ∙ its.stands, its.freezing))
      | inr apart ↦ record { root = its.root; export = its.export; nearest = its.nearest; stands = sym (beside its.root apart) ∙ its.stands; freezing = its.freezing }
    ],
    λ its. elim (same_or_apart its.root root) [
      | inl same ↦ at_root new its.root its.nearest same (onto (its.export, ap (map.get old) (sym same) ∙ its.stands, its.freezing))
      | inr apart ↦ record { root = its.root; export = its.export; nearest = its.nearest; stands = beside its.root apart ∙ its.stands; freezing = its.freezing }
    ],
  )
    where
      at_root : (standing : Standing) (near : Leaf) → NearestRoot roots homes covers leaf near → near ≡ root → Freezes standing root → IsFrozen standing roots homes covers leaf
      at_root standing near nearest same freezes = record { root = root; export = freezes.0; nearest = subst (NearestRoot roots homes covers leaf) same nearest; stands = freezes.1; freezing = freezes.2 }

-- ---- Start

module _ (old new : Standing) (root : Leaf) (exporter importer : Rank) (is : IsStart old new root exporter importer) where
  abbrev started : StandingExport
  started = record { exporter = exporter; importer = importer; state = Started }

  start_here : map.get new root ≡ Some started
  start_here = ap (λ (m : Standing). map.get m root) is.1 ∙ get_put old root started

  start_beside : ChangesOne old new root
  start_beside leaf apart = ap (λ (m : Standing). map.get m leaf) is.1 ∙ get_beside old root started leaf apart

  start_state : (export : StandingExport) → map.get new root ≡ Some export → export.state ≡ Started
  start_state export stands = ap (λ (e : StandingExport). e.state) (one_value _ export started stands start_here)

  pub start_holding : (roots : Roots) → holding new roots ≡ holding old roots
  start_holding = own_holding old new root start_beside (λ export stands. absurd (not_none _ export is.0 stands)) (λ export stands. ap is_imported (start_state export stands))

  pub start_soundly : (roots : Roots) (homes : Homes) (covers : Covers) → StepsSoundly old new roots homes covers
  start_soundly roots homes covers = record {
    holders = same_holders old new roots homes covers (start_holding roots);
    frozen = same_frozen old new root start_beside
        (λ freezes. let clash : false ≡ true = sym (ap is_freezing (start_state freezes.0 freezes.1)) ∙ freezes.2 in absurd cc)
        (λ freezes. absurd (not_none _ freezes.0 is.0 freezes.1)) roots homes covers;
  }

-- ---- a step from one state to another

module _ (old new : Standing) (root : Leaf) (from to : ExportState) (is : ComesTo old new root from to) where
  come_here : map.get new root ≡ Some (come_to to is.export)
  come_here = ap (λ (m : Standing). map.get m root) is.changed ∙ get_put old root (come_to to is.export)

  come_beside : ChangesOne old new root
  come_beside leaf apart = ap (λ (m : Standing). map.get m leaf) is.changed ∙ get_beside old root (come_to to is.export) leaf apart

  come_own : is_imported to ≡ false → IsOwn new root
  come_own own export stands = ap (λ (e : StandingExport). is_imported e.state) (one_value _ export (come_to to is.export) stands come_here) ∙ own

  come_holding : is_imported from ≡ false → is_imported to ≡ false → (roots : Roots) → holding new roots ≡ holding old roots
  come_holding was own = own_holding old new root come_beside
      (λ export stands. ap (λ (e : StandingExport). is_imported e.state) (one_value _ export is.export stands is.stood) ∙ ap is_imported is.was ∙ was)
      (come_own own)

  come_soundly : is_imported from ≡ false → is_imported to ≡ false → is_freezing from ≡ true → is_freezing to ≡ true → (roots : Roots) (homes : Homes) (covers : Covers) → StepsSoundly old new roots homes covers
  come_soundly was own froze freezes roots homes covers = record {
    holders = same_holders old new roots homes covers (come_holding was own roots);
    frozen = same_frozen old new root come_beside (λ any. (is.export, is.stood, ap is_freezing is.was ∙ froze)) (λ any. (come_to to is.export, come_here, freezes)) roots homes covers;
  }

pub prep_holding : (old new : Standing) (root : Leaf) → ComesTo old new root Frozen Prepared → (roots : Roots) → holding new roots ≡ holding old roots
prep_holding old new root is = come_holding old new root Frozen Prepared is refl refl

pub send_holding : (old new : Standing) (root : Leaf) → ComesTo old new root Prepared Sent → (roots : Roots) → holding new roots ≡ holding old roots
send_holding old new root is = come_holding old new root Prepared Sent is refl refl

pub prep_soundly : (old new : Standing) (root : Leaf) → ComesTo old new root Frozen Prepared → (roots : Roots) (homes : Homes) (covers : Covers) → StepsSoundly old new roots homes covers
prep_soundly old new root is = come_soundly old new root Frozen Prepared is refl refl refl refl

pub send_soundly : (old new : Standing) (root : Leaf) → ComesTo old new root Prepared Sent → (roots : Roots) (homes : Homes) (covers : Covers) → StepsSoundly old new roots homes covers
send_soundly old new root is = come_soundly old new root Prepared Sent is refl refl refl refl

-- ---- Freeze, Import, Cancel

pub freeze_holding : (old new : Standing) (was now : Subtrees) (root : Leaf) (is : IsFreeze old new was now root) → holding new now.roots ≡ map.insert (holding old was.roots) root is.step.export.exporter
freeze_holding old new was now root is = put_holding old new root (come_beside old new root Started Frozen is.step) was.roots now.roots is.step.export.exporter
    (λ leaf apart. ap (λ (m : Roots). map.get m leaf) is.roots ∙ get_beside was.roots root is.step.export.exporter leaf apart)
    (get_holding new now.roots root ∙ ap (option_map (holder_or (map.get new root))) (ap (λ (m : Roots). map.get m root) is.roots ∙ get_put was.roots root is.step.export.exporter)
    ∙ ap (λ (r : Rank). Some r) (own_holds (map.get new root) is.step.export.exporter (come_own old new root Started Frozen is.step refl)))

pub import_holding : (old new : Standing) (root : Leaf) (is : ComesTo old new root Sent Imported) (subtrees : Subtrees) → ArePlaced old subtrees → holding new subtrees.roots ≡ map.insert (holding old subtrees.roots) root is.export.importer
import_holding old new root is subtrees placed = put_holding old new root (come_beside old new root Sent Imported is) subtrees.roots subtrees.roots is.export.importer
    (λ leaf apart. refl)
    (get_holding new subtrees.roots root ∙ ap (option_map (holder_or (map.get new root))) (placed.ranked root is.export is.stood (ap is_freezing is.was))
    ∙ ap (λ (o : Option StandingExport). Some (holder_or o is.export.exporter)) (come_here old new root Sent Imported is))

pub cancel_holding : (old new : Standing) (was now : Subtrees) (root : Leaf) → IsCancel old new was now root → holding new now.roots ≡ holding old was.roots
cancel_holding old new was now root is = ap (holding new) is.roots ∙ own_holding old new root
    (λ leaf apart. ap (λ (m : Standing). map.get m leaf) is.ended ∙ get_left old root leaf apart)
    (λ export stands. early_holds export.state (ap (λ (e : StandingExport). is_before_send e.state) (one_value _ export is.export stands is.stood) ∙ is.before_send))
    (λ export stands. absurd (not_none _ export (ap (λ (m : Standing). map.get m root) is.ended ∙ get_removed old root) stands)) was.roots

-- ---- Finish

module _ (old new : Standing) (was now : Subtrees) (root : Leaf) (is : IsFinish old new was now root) (placed : ArePlaced old was) where
  finish_was : map.get (holding old was.roots) root ≡ Some is.export.importer
  finish_was = get_holding old was.roots root ∙ ap (λ (o : Option StandingExport). option_map (holder_or o) (map.get was.roots root)) is.stood
      ∙ ap (option_map (holder_or (Some is.export))) (placed.ranked root is.export is.stood (ap is_freezing is.imported))
      ∙ ap (λ (s : ExportState). Some (cond (is_imported s) is.export.importer is.export.exporter)) is.imported

  finish_here : map.get (holding new now.roots) root ≡ Some is.export.importer
  finish_here = get_holding new now.roots root ∙ ap (λ (o : Option StandingExport). option_map (holder_or o) (map.get now.roots root)) (ap (λ (m : Standing). map.get m root) is.ended ∙ get_removed old root)
      ∙ ap (option_map (holder_or None)) (ap (λ (m : Roots). map.get m root) is.roots ∙ get_put was.roots root is.export.importer)

  -- the importer, which held the region, holds it as its authority
  pub finish_holding : holding new now.roots ≡ holding old was.roots
  finish_holding = same_map leaf-total leaf-exact (holding new now.roots) (holding old was.roots) (λ q. at q (same_or_apart q root))
    where
      at : (q : Leaf) → (q ≡ root) ⊎ (q ≢ root) → map.get (holding new now.roots) q ≡ map.get (holding old was.roots) q
      at q (inl same) = ap (map.get (holding new now.roots)) same ∙ finish_here ∙ sym finish_was ∙ ap (map.get (holding old was.roots)) (sym same)
      at q (inr apart) =
          get_holding new now.roots q ∙ ap (λ (o : Option StandingExport). option_map (holder_or o) (map.get now.roots q)) (ap (λ (m : Standing). map.get m q) is.ended ∙ get_left old root q apart)
          ∙ ap (option_map (holder_or (map.get old q))) (ap (λ (m : Roots). map.get m q) is.roots ∙ get_beside was.roots root is.export.importer q apart) ∙ sym (get_holding old was.roots q)
