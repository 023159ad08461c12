-- What Finish changes keeps its place through every step.
use Rattle.export_steps.proofs.Common.{ArePlaced, Cancels, ComesTo, Err, ExportState, Finishes, Freezes, Frozen, Imported, Leaf, Ok, Prepared, Preps, Rank, Refusal, Result, Roots, Sent, Some, Standing, StandingExport, Started, Starts, Subtrees, ap, come_to, false, get-empty, get_beside, get_left, get_put, get_removed, inl, inr, is_freezing, is_prepared, not_none, one_value, refl, same_or_apart, subst, sym, true, ◌∙◌, ◌≡◌, ◌≢◌, ◌⊎◌}
use Rattle.std.specs.FinMap as map

-- a prepared export is frozen
pub prepared_freezing : (state : ExportState) → is_prepared state ≡ true → is_freezing state ≡ true
prepared_freezing Started prepared = let clash : false ≡ true = prepared in cc
prepared_freezing Frozen prepared = refl
prepared_freezing Prepared prepared = refl
prepared_freezing Sent prepared = refl
prepared_freezing Imported prepared = refl

-- an export has its place in the subtrees
abbrev pub HasPlace : Subtrees → Leaf → StandingExport → Type 0
HasPlace subtrees root export = (is_freezing export.state ≡ true → map.get subtrees.roots root ≡ Some export.exporter) × (is_prepared export.state ≡ true → map.get subtrees.promises root ≡ Some export.importer)

abbrev AllPlaced : Standing → Subtrees → Type 0
AllPlaced standing subtrees = (root : Leaf) (export : StandingExport) → map.get standing root ≡ Some export → HasPlace subtrees root export

all_of : (standing : Standing) (subtrees : Subtrees) → ArePlaced standing subtrees → AllPlaced standing subtrees
all_of standing subtrees placed root export stands = (λ freezing. placed.ranked root export stands freezing, λ prepared. placed.promised root export stands prepared)

placed_by : (standing : Standing) (subtrees : Subtrees) → AllPlaced standing subtrees → ArePlaced standing subtrees
placed_by standing subtrees all = record {
  ranked = λ root export stands freezing. (all root export stands).0 freezing;
  promised = λ root export stands prepared. (all root export stands).1 prepared;
}

-- the rows of other leaves stay
abbrev pub StaysBeside : Roots → Roots → Leaf → Type 0
StaysBeside was now root = (leaf : Leaf) → leaf ≢ root → map.get now leaf ≡ map.get was leaf

pub beside_put : (was now : Roots) (root : Leaf) (rank : Rank) → now ≡ map.insert was root rank → StaysBeside was now root
beside_put was now root rank is leaf apart = ap (λ (m : Roots). map.get m leaf) is ∙ get_beside was root rank leaf apart

pub beside_removed : (was now : Roots) (root : Leaf) → now ≡ map.remove was root → StaysBeside was now root
beside_removed was now root is leaf apart = ap (λ (m : Roots). map.get m leaf) is ∙ get_left was root leaf apart

pub beside_same : (was now : Roots) (root : Leaf) → now ≡ was → StaysBeside was now root
beside_same was now root is leaf apart = ap (λ (m : Roots). map.get m leaf) is

pub here_put : (was now : Roots) (root : Leaf) (rank : Rank) → now ≡ map.insert was root rank → map.get now root ≡ Some rank
here_put was now root rank is = ap (λ (m : Roots). map.get m root) is ∙ get_put was root rank

module _ (old new : Standing) (was now : Subtrees) (root : Leaf) (roots : StaysBeside was.roots now.roots root) (promises : StaysBeside was.promises now.promises root) (placed : ArePlaced old was) where
  beside_placed : (leaf : Leaf) (export : StandingExport) → leaf ≢ root → map.get old leaf ≡ Some export → HasPlace now leaf export
  beside_placed leaf export apart stands = let its = all_of old was placed leaf export stands in (λ freezing. roots leaf apart ∙ its.0 freezing, λ prepared. promises leaf apart ∙ its.1 prepared)

  -- an export comes, or goes on
  pub put_placed : (export : StandingExport) → new ≡ map.insert old root export → HasPlace now root export → ArePlaced new now
  put_placed export changed here = placed_by new now (λ leaf its stands. at leaf its stands (same_or_apart leaf root))
    where
      at : (leaf : Leaf) (its : StandingExport) → map.get new leaf ≡ Some its → (leaf ≡ root) ⊎ (leaf ≢ root) → HasPlace now leaf its
      at leaf its stands (inl same) =
          let gets : map.get new root ≡ Some export = ap (λ (m : Standing). map.get m root) changed ∙ get_put old root export in
          let is : its ≡ export = one_value _ its export stands (ap (map.get new) same ∙ gets) in
          let place : HasPlace now root export = here in
          subst (λ (e : StandingExport). HasPlace now leaf e) (sym is) (subst (λ (k : Leaf). HasPlace now k export) (sym same) place)
      at leaf its stands (inr apart) = beside_placed leaf its apart (sym (ap (λ (m : Standing). map.get m leaf) changed ∙ get_beside old root export leaf apart) ∙ stands)

  -- an export ends
  pub removed_placed : new ≡ map.remove old root → ArePlaced new now
  removed_placed changed = placed_by new now (λ leaf its stands. at leaf its stands (same_or_apart leaf root))
    where
      at : (leaf : Leaf) (its : StandingExport) → map.get new leaf ≡ Some its → (leaf ≡ root) ⊎ (leaf ≢ root) → HasPlace now leaf its
      at leaf its stands (inl same) = absurd (not_none _ its (ap (map.get new) same ∙ ap (λ (m : Standing). map.get m root) changed ∙ get_removed old root) stands)
      at leaf its stands (inr apart) = beside_placed leaf its apart (sym (ap (λ (m : Standing). map.get m leaf) changed ∙ get_left old root leaf apart) ∙ stands)

pub empty_placed : (standing : Standing) (subtrees : Subtrees) → standing ≡ map.empty → ArePlaced standing subtrees
empty_placed standing subtrees is = placed_by standing subtrees (λ leaf its stands. absurd (not_none _ its (ap (λ (m : Standing). map.get m leaf) is ∙ get-empty _ leaf) stands))

same_placed : (old new : Standing) (was now : Subtrees) → new ≡ old → now.roots ≡ was.roots → now.promises ≡ was.promises → ArePlaced old was → ArePlaced new now
same_placed old new was now same roots promises placed = placed_by new now (λ leaf its stands.
    let place = all_of old was placed leaf its (ap (λ (m : Standing). map.get m leaf) (sym same) ∙ stands) in
    (λ freezing. ap (λ (m : Roots). map.get m leaf) roots ∙ place.0 freezing, λ prepared. ap (λ (m : Roots). map.get m leaf) promises ∙ place.1 prepared))

module _ (old new : Standing) (root : Leaf) where
  pub starts_placed : (exporter importer : Rank) (result : Result (Unit {0}) Refusal) → Starts old new root exporter importer result → (subtrees : Subtrees) → ArePlaced old subtrees → ArePlaced new subtrees
  starts_placed exporter importer (Ok done) (none, changed) subtrees placed =
      put_placed old new subtrees subtrees root (λ leaf apart. refl) (λ leaf apart. refl) placed (record { exporter = exporter; importer = importer; state = Started }) changed (λ never. let clash : false ≡ true = never in cc, λ never. let clash : false ≡ true = never in cc)
  starts_placed exporter importer (Err reason) (why, left) subtrees placed = same_placed old new subtrees subtrees left refl refl placed

  pub comes_placed : (from to : ExportState) → is_prepared from ≡ true → ComesTo old new root from to → (subtrees : Subtrees) → ArePlaced old subtrees → ArePlaced new subtrees
  comes_placed from to prepared comes subtrees placed =
      let its = all_of old subtrees placed root comes.export comes.stood in
      put_placed old new subtrees subtrees root (λ leaf apart. refl) (λ leaf apart. refl) placed (come_to to comes.export) comes.changed
      (λ now. its.0 (ap is_freezing comes.was ∙ prepared_freezing from prepared), λ now. its.1 (ap is_prepared comes.was ∙ prepared))

  pub freezes_placed : (was now : Subtrees) (result : Result (Unit {0}) Refusal) → Freezes old new was now root result → ArePlaced old was → ArePlaced new now
  freezes_placed was now (Ok done) is placed =
      let export = is.step.export in
      put_placed old new was now root (beside_put was.roots now.roots root export.exporter is.roots) (beside_same was.promises now.promises root is.promises) placed (come_to Frozen export) is.step.changed
      (λ freezing. here_put was.roots now.roots root export.exporter is.roots, λ never. let clash : false ≡ true = never in cc)
  freezes_placed was now (Err reason) (why, left, kept) placed = same_placed old new was now left kept.roots kept.promises placed

  pub preps_placed : (was now : Subtrees) (result : Result (Unit {0}) Refusal) → Preps old new was now root result → ArePlaced old was → ArePlaced new now
  preps_placed was now (Ok done) is placed =
      let export = is.step.export in
      put_placed old new was now root (beside_same was.roots now.roots root is.roots) (beside_put was.promises now.promises root export.importer is.promises) placed (come_to Prepared export) is.step.changed
      (λ freezing. ap (λ (m : Roots). map.get m root) is.roots ∙ placed.ranked root export is.step.stood (ap is_freezing is.step.was), λ prepared. here_put was.promises now.promises root export.importer is.promises)
  preps_placed was now (Err reason) (why, left, kept) placed = same_placed old new was now left kept.roots kept.promises placed

  pub finishes_placed : (was now : Subtrees) (result : Result (Unit {0}) Refusal) → Finishes old new was now root result → ArePlaced old was → ArePlaced new now
  finishes_placed was now (Ok done) is placed =
      removed_placed old new was now root (beside_put was.roots now.roots root is.export.importer is.roots) (beside_removed was.promises now.promises root is.promises) placed is.ended
  finishes_placed was now (Err reason) (why, unfit, left, kept) placed = same_placed old new was now left (ap (λ (s : Subtrees). s.roots) kept) (ap (λ (s : Subtrees). s.promises) kept) placed

  pub cancels_placed : (was now : Subtrees) (result : Result (Unit {0}) Refusal) → Cancels old new was now root result → ArePlaced old was → ArePlaced new now
  cancels_placed was now (Ok done) is placed =
      removed_placed old new was now root (beside_same was.roots now.roots root is.roots) (beside_removed was.promises now.promises root is.promises) placed is.ended
  cancels_placed was now (Err reason) (why, unfit, left, kept) placed = same_placed old new was now left (ap (λ (s : Subtrees). s.roots) kept) (ap (λ (s : Subtrees). s.promises) kept) placed
