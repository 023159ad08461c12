-- What happens elsewhere keeps each frozen region.
use Rattle.export_steps.proofs.Common.{AreFrozenRegionsKept, ArePlaced, Covers, Homes, IsFinish, IsFreeze, IsFrozen, IsInRegion, IsLive, IsMakingElsewhere, IsMergeElsewhere, IsMoveElsewhere, IsRemovalElsewhere, IsSome, IsSplitElsewhere, Leaf, NearestRoot, Ok, Roots, Some, Standing, StandingExport, StandsOver, Subtrees, ap, false, inl, inr, is_freezing, is_inside, is_some, leaf_in_dir, one_value, subst, sym, true, ◌↔◌, ◌∙◌, ◌≡◌, ◌≢◌}
use Rattle.std.specs.FinMap as map
use Rattle.export_steps.proofs.Handover.{back, beside, cut, onto, uncut}
use Rattle.export_steps.proofs.Placed.{finishes_placed, prepared_freezing}
use Rattle.export_steps.proofs.Directories as directories
use Rattle.export_steps.proofs.Merges as merges
use Rattle.export_steps.proofs.Moves as moves
use Rattle.export_steps.proofs.Splits as splits

-- the root of an export that freezes is a subtree root
freezing_root : (standing : Standing) (subtrees : Subtrees) (root : Leaf) (export : StandingExport) → ArePlaced standing subtrees → map.get standing root ≡ Some export → is_freezing export.state ≡ true → IsSome (map.get subtrees.roots root)
freezing_root standing subtrees root export placed stands freezing = ap is_some (placed.ranked root export stands freezing)

-- where the ranks of the roots stay, and the promises, what Finish changes keeps its place
keeps_place : (standing : Standing) (was now : Subtrees) → now.promises ≡ was.promises → ((root : Leaf) (export : StandingExport) → map.get standing root ≡ Some export → is_freezing export.state ≡ true → map.get now.roots root ≡ map.get was.roots root)
    → ArePlaced standing was → ArePlaced standing now
keeps_place standing was now promises same placed = record {
  ranked = λ root export stands freezing. same root export stands freezing ∙ placed.ranked root export stands freezing;
  promised = λ root export stands prepared. ap (λ (m : Roots). map.get m root) promises ∙ placed.promised root export stands prepared;
}

pub after_split : (standing : Standing) (was now : Subtrees) (homes : Homes) (covers later : Covers) → StandsOver standing was homes covers → IsSplitElsewhere standing was now homes covers later → AreFrozenRegionsKept standing was now homes homes covers later
after_split standing was now homes covers later over is = record {
  regions = λ root export stands freezing leaf.
      splits.split_elsewhere
      root was.roots now.roots is.dir is.frag is.bits is.roots homes covers later is.leaves over.table over.valid is.split is.stands is.fits is.tree is.changed
      (freezing_root standing was root export over.placed stands freezing) (thawed root export stands freezing) leaf;
  placed = keeps_place standing was now is.promises
      (λ root export stands freezing.
      splits.stays_placed
      root was.roots now.roots is.dir is.frag is.bits is.roots homes covers later is.leaves over.table over.valid is.split is.stands is.fits is.tree is.changed
      (freezing_root standing was root export over.placed stands freezing) (thawed root export stands freezing))
      over.placed;
}
  where
    thawed : (root : Leaf) (export : StandingExport) → map.get standing root ≡ Some export → is_freezing export.state ≡ true → NearestRoot was.roots homes covers (leaf_in_dir is.dir is.frag) root → ⊥
    thawed root export stands freezing near = is.thawed (record { root = root; export = export; nearest = near; stands = stands; freezing = freezing })

pub after_merge : (standing : Standing) (was now : Subtrees) (homes : Homes) (covers later : Covers) → StandsOver standing was homes covers → IsMergeElsewhere standing was now homes covers later → AreFrozenRegionsKept standing was now homes homes covers later
after_merge standing was now homes covers later over is = record {
  regions = λ root export stands freezing leaf.
      merges.merge_elsewhere
      root was.roots now.roots is.dir is.frag is.roots homes covers later is.leaves over.table over.valid is.can is.merge is.tree is.changed
      (freezing_root standing was root export over.placed stands freezing) (thawed root export stands freezing) leaf;
  placed = keeps_place standing was now is.promises
      (λ root export stands freezing.
      merges.stays_placed
      root was.roots now.roots is.dir is.frag is.roots homes covers later is.leaves over.table over.valid is.can is.merge is.tree is.changed
      (freezing_root standing was root export over.placed stands freezing) (thawed root export stands freezing))
      over.placed;
}
  where
    thawed : (root : Leaf) (export : StandingExport) → map.get standing root ≡ Some export → is_freezing export.state ≡ true
        → (leaf : Leaf) → is_inside is.dir is.frag leaf ≡ true → IsLive homes covers leaf → NearestRoot was.roots homes covers leaf root → ⊥
    thawed root export stands freezing leaf inside stood near = is.thawed leaf inside stood (record { root = root; export = export; nearest = near; stands = stands; freezing = freezing })

pub after_move : (standing : Standing) (was now : Subtrees) (homes later : Homes) (covers : Covers) → StandsOver standing was homes covers → IsMoveElsewhere standing was now homes later covers → AreFrozenRegionsKept standing was now homes later covers covers
after_move standing was now homes later covers over is = record {
  regions = λ root export stands freezing leaf.
      subst (λ (h : Homes). IsInRegion was.roots homes covers root leaf ↔ IsInRegion now.roots h covers root leaf) (sym is.changed) (moves.move_elsewhere
      root was.roots now.roots homes covers is.dir is.home is.roots is.may (freezing_root standing was root export over.placed stands freezing)
      (λ place holder at holds near. is.from_thawed place holder at holds (frozen root export stands freezing holder near))
      (λ holder holds near. is.to_thawed holder holds (frozen root export stands freezing holder near)) leaf);
  placed = keeps_place standing was now is.promises (λ root export stands freezing. is.roots.kept root (freezing_root standing was root export over.placed stands freezing)) over.placed;
}
  where
    frozen : (root : Leaf) (export : StandingExport) → map.get standing root ≡ Some export → is_freezing export.state ≡ true → (holder : Leaf) → NearestRoot was.roots homes covers holder root → IsFrozen standing was.roots homes covers holder
    frozen root export stands freezing holder near = record { root = root; export = export; nearest = near; stands = stands; freezing = freezing }

-- another export freezes: its root was in no frozen region
pub after_freeze : (old new : Standing) (was now : Subtrees) (root : Leaf) → IsFreeze old new was now root → ArePlaced old was → (homes : Homes) (covers : Covers) → (IsFrozen old was.roots homes covers root → ⊥) → AreFrozenRegionsKept old was now homes homes covers covers
after_freeze old new was now root is placed homes covers thawed = record {
  regions = λ other export stands freezing leaf.
      let apart : other ≢ root = other_root other export stands freezing in (
        λ its. record { stands = its.stands; nearest = near other export stands freezing leaf its.nearest },
        λ its. record { stands = its.stands; nearest = uncut was.roots now.roots root is.step.export.exporter is.roots homes covers leaf other apart its.nearest },
      );
  placed = record {
    ranked = λ other export stands freezing.
        beside was.roots now.roots root is.step.export.exporter is.roots homes covers other (other_root other export stands freezing) ∙ placed.ranked other export stands freezing;
    promised = λ other export stands prepared. ap (λ (m : Roots). map.get m other) is.promises ∙ placed.promised other export stands prepared;
  };
}
  where
    other_root : (other : Leaf) (export : StandingExport) → map.get old other ≡ Some export → is_freezing export.state ≡ true → other ≢ root
    other_root other export stands freezing same =
        let one : export ≡ is.step.export = one_value _ export is.step.export (ap (map.get old) (sym same) ∙ stands) is.step.stood in
        let clash : false ≡ true = ap is_freezing (sym is.step.was) ∙ ap (λ (e : StandingExport). is_freezing e.state) (sym one) ∙ freezing in
        cc

    near : (other : Leaf) (export : StandingExport) → map.get old other ≡ Some export → is_freezing export.state ≡ true → (leaf : Leaf) → NearestRoot was.roots homes covers leaf other → NearestRoot now.roots homes covers leaf other
    near other export stands freezing leaf its = elim (cut was.roots now.roots root is.step.export.exporter is.roots homes covers leaf other its) [
      | inl (passes, above) ↦ absurd (thawed (record { root = other; export = export; nearest = above; stands = stands; freezing = freezing }))
      | inr (stays, apart) ↦ stays
    ]

-- another export ends: each region keeps its leaves
pub after_finish : (old new : Standing) (was now : Subtrees) (root : Leaf) → IsFinish old new was now root → ArePlaced old was → (homes : Homes) (covers : Covers) → AreFrozenRegionsKept new was now homes homes covers covers
after_finish old new was now root is placed homes covers = record {
  regions = λ other export stands freezing leaf. (
    λ its. record { stands = its.stands; nearest = onto old new was now root is placed homes covers leaf other its.nearest },
    λ its. record { stands = its.stands; nearest = back old new was now root is placed homes covers leaf other its.nearest },
  );
  placed = finishes_placed old new root was now (Ok tt) is placed;
}

pub after_making : (standing : Standing) (subtrees : Subtrees) (homes later : Homes) (covers : Covers) → StandsOver standing subtrees homes covers → IsMakingElsewhere standing subtrees homes later covers → AreFrozenRegionsKept standing subtrees subtrees homes later covers covers
after_making standing subtrees homes later covers over is = record {
  regions = λ root export stands freezing leaf.
      subst (λ (h : Homes). IsInRegion subtrees.roots homes covers root leaf ↔ IsInRegion subtrees.roots h covers root leaf) (sym is.changed) (directories.made_elsewhere
      root subtrees.roots homes covers over.valid is.dir is.home is.may
      (λ holder holds near. is.thawed holder holds (record { root = root; export = export; nearest = near; stands = stands; freezing = freezing })) leaf);
  placed = over.placed;
}

pub after_removal : (standing : Standing) (was now : Subtrees) (homes later_homes : Homes) (covers later_covers : Covers) → StandsOver standing was homes covers → IsRemovalElsewhere standing was now homes later_homes covers later_covers
    → AreFrozenRegionsKept standing was now homes later_homes covers later_covers
after_removal standing was now homes later_homes covers later_covers over is = record {
  regions = λ root export stands freezing leaf.
      subst (λ (h : Homes). IsInRegion was.roots homes covers root leaf ↔ IsInRegion now.roots h later_covers root leaf) (sym is.home_gone) (
      subst (λ (c : Covers). IsInRegion was.roots homes covers root leaf ↔ IsInRegion now.roots (map.remove homes is.dir) c root leaf) (sym is.leaves_gone) (directories.gone_elsewhere
      root was.roots now.roots is.dir is.roots homes covers over.table over.valid is.childless (freezing_root standing was root export over.placed stands freezing) (thawed root export stands freezing) leaf));
  placed = record {
    ranked = λ root export stands freezing. is.roots.others root (apart root export stands freezing) ∙ over.placed.ranked root export stands freezing;
    promised = λ root export stands prepared. is.promises.others root (apart root export stands (prepared_freezing export.state prepared)) ∙ over.placed.promised root export stands prepared;
  };
}
  where
    thawed : (root : Leaf) (export : StandingExport) → map.get standing root ≡ Some export → is_freezing export.state ≡ true → (leaf : Leaf) → leaf.0.0 ≡ is.dir → IsLive homes covers leaf → NearestRoot was.roots homes covers leaf root → ⊥
    thawed root export stands freezing leaf at stood near = is.thawed leaf at stood (record { root = root; export = export; nearest = near; stands = stands; freezing = freezing })

    apart : (root : Leaf) (export : StandingExport) → map.get standing root ≡ Some export → is_freezing export.state ≡ true → root.0.0 ≢ is.dir
    apart root export stands freezing = directories.root_elsewhere
        root was.roots now.roots is.dir is.roots homes covers over.table over.valid is.childless (freezing_root standing was root export over.placed stands freezing) (thawed root export stands freezing)
