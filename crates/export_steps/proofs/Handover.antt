-- What each step makes of holders, authorities and frozen leaves.
use Rattle.export_steps.proofs.Common.{ArePlaced, Bool, CancelsSoundly, ComesTo, Covers, ExportState, FinishesSoundly, FreezesSoundly, Frozen, HandsOver, HasAuthority, Homes, Imported, IsCancel, IsFinish, IsFreeze, IsFrozen, IsSome, Leaf, NearestRoot, None, Option, Prepared, Rank, Roots, Sent, Some, Standing, StandingExport, Started, Subtrees, ap, come_to, cond, false, get_beside, get_left, get_put, get_removed, inherited, inl, inr, is_before_send, is_freezing, is_imported, is_itself, is_some, itself, not_none, one_root, one_value, refl, region_holder, same_or_apart, subst, sym, true, value_of, ◌↔◌, ◌∙◌, ◌≡◌, ◌≢◌, ◌⊎◌}
use Rattle.std.specs.FinMap as map

-- ---- states

unfrozen_holds : (state : ExportState) → is_freezing state ≡ false → is_imported state ≡ false
unfrozen_holds Started is = refl
unfrozen_holds Frozen is = cc
unfrozen_holds Prepared is = cc
unfrozen_holds Sent is = cc
unfrozen_holds Imported is = cc

pub early_holds : (state : ExportState) → is_before_send state ≡ true → is_imported state ≡ false
early_holds Started is = refl
early_holds Frozen is = refl
early_holds Prepared is = refl
early_holds Sent is = cc
early_holds Imported is = cc

-- where no export freezes, or none is imported, the root's rank holds the region
held_by_rank : (o : Option StandingExport) (rank : Option Rank) → ((export : StandingExport) → o ≡ Some export → is_imported export.state ≡ false) → region_holder o rank ≡ rank
held_by_rank None rank not = refl
held_by_rank (Some export) rank not = ap (λ b. cond b (Some export.importer) rank) (not export refl)

not_freezing : (o : Option StandingExport) → ((export : StandingExport) → o ≡ Some export → is_freezing export.state ≡ true → ⊥) → (export : StandingExport) → o ≡ Some export → is_imported export.state ≡ false
not_freezing o none export is = go (is_freezing export.state) refl
  where
    go : (b : Bool) → is_freezing export.state ≡ b → is_imported export.state ≡ false
    go true freezing = absurd (none export is freezing)
    go false thawed = unfrozen_holds export.state thawed

held_by_importer : (o : Option StandingExport) (export : StandingExport) (rank : Option Rank) → o ≡ Some export → export.state ≡ Imported → region_holder o rank ≡ Some export.importer
held_by_importer o export rank is imported = ap (λ p. region_holder p rank) is ∙ ap (λ s. cond (is_imported s) (Some export.importer) rank) imported

-- ---- one more root, or one of another rank

module _ (was now : Roots) (root : Leaf) (rank : Rank) (changed : now ≡ map.insert was root rank) (homes : Homes) (covers : Covers) where
  here : map.get now root ≡ Some rank
  here = ap (λ (m : Roots). map.get m root) changed ∙ get_put was root rank

  pub beside : (leaf : Leaf) → leaf ≢ root → map.get now leaf ≡ map.get was leaf
  beside leaf apart = ap (λ (m : Roots). map.get m leaf) changed ∙ get_beside was root rank leaf apart

  -- a leaf has the nearest root that it had, or the way up from it passes the new one
  abbrev Passes : Leaf → Leaf → Type 0
  Passes leaf near = (NearestRoot now homes covers leaf root × NearestRoot was homes covers root near) ⊎ (NearestRoot now homes covers leaf near × (near ≢ root))

  pub cut : (leaf near : Leaf) → NearestRoot was homes covers leaf near → Passes leaf near
  cut _ _ (itself near r has) = elim (same_or_apart near root) [
    | inl same ↦ inl (subst (λ k. NearestRoot now homes covers k root) (sym same) (itself root rank here), subst (λ k. NearestRoot was homes covers k near) same (itself near r has))
    | inr apart ↦ inr (itself near r (beside near apart ∙ has), apart)
  ]
  cut _ _ (inherited leaf holder near home none stands holds rest) = go (same_or_apart leaf root) (cut holder near rest)
    where
      go : (leaf ≡ root) ⊎ (leaf ≢ root) → Passes holder near → Passes leaf near
      go (inl same) above = inl (subst (λ k. NearestRoot now homes covers k root) (sym same) (itself root rank here), subst (λ k. NearestRoot was homes covers k near) same (inherited leaf holder near home none stands holds rest))
      go (inr apart) (inl (passes, above)) = inl (inherited leaf holder root home (beside leaf apart ∙ none) stands holds passes, above)
      go (inr apart) (inr (stays, other)) = inr (inherited leaf holder near home (beside leaf apart ∙ none) stands holds stays, other)

  -- another nearest root was that before
  pub uncut : (leaf near : Leaf) → near ≢ root → NearestRoot now homes covers leaf near → NearestRoot was homes covers leaf near
  uncut _ _ apart (itself near r has) = itself near r (sym (beside near apart) ∙ has)
  uncut _ _ apart (inherited leaf holder near home none stands holds rest) =
      let other : leaf ≢ root = λ same. not_none _ rank none (ap (map.get now) same ∙ here) in
      inherited leaf holder near home (sym (beside leaf other) ∙ none) stands holds (uncut holder near apart rest)

  -- where it was a root before, each leaf has the nearest root that it had
  same_near : IsSome (map.get was root) → (leaf near : Leaf) → NearestRoot was homes covers leaf near → NearestRoot now homes covers leaf near
  same_near is_root leaf near its = elim (cut leaf near its) [
    | inl (passes, above) ↦ let there = value_of _ is_root in subst (NearestRoot now homes covers leaf) (is_itself was homes covers root near there.0 there.1 above) passes
    | inr (stays, apart) ↦ stays
  ]

  was_near : IsSome (map.get was root) → (leaf near : Leaf) → NearestRoot now homes covers leaf near → NearestRoot was homes covers leaf near
  was_near is_root _ _ (itself near r has) = go (same_or_apart near root)
    where
      go : (near ≡ root) ⊎ (near ≢ root) → NearestRoot was homes covers near near
      go (inl same) = let there = value_of _ is_root in itself near there.0 (ap (map.get was) same ∙ there.1)
      go (inr apart) = itself near r (sym (beside near apart) ∙ has)
  was_near is_root _ _ (inherited leaf holder near home none stands holds rest) =
      let other : leaf ≢ root = λ same. not_none _ rank none (ap (map.get now) same ∙ here) in
      inherited leaf holder near home (sym (beside leaf other) ∙ none) stands holds (was_near is_root holder near rest)

  -- the way up of a leaf whose way passes the root goes on as the root's
  passed : (leaf top near : Leaf) → top ≡ root → NearestRoot now homes covers leaf top → NearestRoot was homes covers top near → NearestRoot was homes covers leaf near
  passed _ _ near same (itself top r has) above = above
  passed _ _ near same (inherited leaf holder top home none stands holds rest) above =
      let other : leaf ≢ root = λ at. not_none _ rank none (ap (map.get now) at ∙ here) in
      inherited leaf holder near home (sym (beside leaf other) ∙ none) stands holds (passed holder top near same rest above)

  -- the leaves of the region that a root will have are frozen exactly if it is
  pub frozen_with_root : (standing : Standing) (leaf : Leaf) → NearestRoot now homes covers leaf root → IsFrozen standing was homes covers leaf ↔ IsFrozen standing was homes covers root
  frozen_with_root standing leaf near = (
    λ its. elim (cut leaf its.root its.nearest) [
      | inl (passes, above) ↦ record { root = its.root; export = its.export; nearest = above; stands = its.stands; freezing = its.freezing }
      | inr (stays, apart) ↦ absurd (apart (one_root now homes covers leaf its.root root stays near))
    ],
    λ its. record { root = its.root; export = its.export; nearest = passed leaf root its.root refl near its.nearest; stands = its.stands; freezing = its.freezing },
  )

-- ---- Freeze

module _ (old new : Standing) (was now : Subtrees) (root : Leaf) (is : IsFreeze old new was now root) (homes : Homes) (covers : Covers) (thawed : IsFrozen old was.roots homes covers root → ⊥)
    (owns : HasAuthority was.roots homes covers root is.step.export.exporter) where
  export : StandingExport
  export = is.step.export

  new_here : map.get new root ≡ Some (come_to Frozen is.step.export)
  new_here = ap (λ (m : Standing). map.get m root) is.step.changed ∙ get_put old root (come_to Frozen is.step.export)

  new_beside : (leaf : Leaf) → leaf ≢ root → map.get new leaf ≡ map.get old leaf
  new_beside leaf apart = ap (λ (m : Standing). map.get m leaf) is.step.changed ∙ get_beside old root (come_to Frozen is.step.export) leaf apart

  now_here : map.get now.roots root ≡ Some is.step.export.exporter
  now_here = here was.roots now.roots root is.step.export.exporter is.roots homes covers

  now_beside : (leaf : Leaf) → leaf ≢ root → map.get now.roots leaf ≡ map.get was.roots leaf
  now_beside = beside was.roots now.roots root is.step.export.exporter is.roots homes covers

  passes : (leaf near : Leaf) → NearestRoot was.roots homes covers leaf near → (NearestRoot now.roots homes covers leaf root × NearestRoot was.roots homes covers root near) ⊎ (NearestRoot now.roots homes covers leaf near × (near ≢ root))
  passes = cut was.roots now.roots root is.step.export.exporter is.roots homes covers

  -- the nearest root above it has the exporter's rank, and its export doesn't freeze
  rank_above : (near : Leaf) → NearestRoot was.roots homes covers root near → map.get was.roots near ≡ Some is.step.export.exporter
  rank_above near above = ap (map.get was.roots) (one_root was.roots homes covers root near owns.root above owns.nearest) ∙ owns.ranked

  holder_above : (near : Leaf) → NearestRoot was.roots homes covers root near → region_holder (map.get old near) (map.get was.roots near) ≡ Some is.step.export.exporter
  holder_above near above =
      held_by_rank (map.get old near) (map.get was.roots near) (not_freezing (map.get old near) (λ e stands freezing. thawed (record { root = near; export = e; nearest = above; stands = stands; freezing = freezing })))
      ∙ rank_above near above

  pub freezes_soundly : FreezesSoundly old new was.roots now.roots homes covers root
  freezes_soundly = record {
    holders = λ leaf rank has. elim (passes leaf has.root has.nearest) [
      | inl (near, above) ↦ record {
        root = root;
        nearest = near;
        holds = ap (λ e. region_holder e (map.get now.roots root)) new_here ∙ now_here ∙ sym (holder_above has.root above) ∙ has.holds;
      }
      | inr (near, apart) ↦ record {
        root = has.root;
        nearest = near;
        holds = ap (λ e. region_holder e (map.get now.roots has.root)) (new_beside has.root apart) ∙ ap (region_holder (map.get old has.root)) (now_beside has.root apart) ∙ has.holds;
      }
    ];
    authorities = λ leaf rank has. elim (passes leaf has.root has.nearest) [
      | inl (near, above) ↦ record { root = root; nearest = near; ranked = now_here ∙ sym (rank_above has.root above) ∙ has.ranked }
      | inr (near, apart) ↦ record { root = has.root; nearest = near; ranked = now_beside has.root apart ∙ has.ranked }
    ];
    frozen = λ leaf. (
      λ its. elim (same_or_apart its.root root) [
        | inl same ↦ inl (subst (NearestRoot now.roots homes covers leaf) same its.nearest)
        | inr apart ↦ inr (record {
          root = its.root;
          export = its.export;
          nearest = uncut was.roots now.roots root is.step.export.exporter is.roots homes covers leaf its.root apart its.nearest;
          stands = sym (new_beside its.root apart) ∙ its.stands;
          freezing = its.freezing;
        })
      ],
      λ either. elim either [
        | inl near ↦ record { root = root; export = come_to Frozen is.step.export; nearest = near; stands = new_here; freezing = refl }
        | inr its ↦ elim (passes leaf its.root its.nearest) [
          | inl (near, above) ↦ absurd (thawed (record { root = its.root; export = its.export; nearest = above; stands = its.stands; freezing = its.freezing }))
          | inr (near, apart) ↦ record { root = its.root; export = its.export; nearest = near; stands = new_beside its.root apart ∙ its.stands; freezing = its.freezing }
        ]
      ],
    );
  }

-- ---- Import

module _ (old new : Standing) (root : Leaf) (is : ComesTo old new root Sent Imported) (roots : Roots) (homes : Homes) (covers : Covers) where
  import_here : map.get new root ≡ Some (come_to Imported is.export)
  import_here = ap (λ (m : Standing). map.get m root) is.changed ∙ get_put old root (come_to Imported is.export)

  import_beside : (leaf : Leaf) → leaf ≢ root → map.get new leaf ≡ map.get old leaf
  import_beside leaf apart = ap (λ (m : Standing). map.get m leaf) is.changed ∙ get_beside old root (come_to Imported is.export) leaf apart

  pub hands_over : HandsOver old new roots homes covers root is.export.importer
  hands_over = record {
    region = λ leaf near. record { root = root; nearest = near; holds = ap (λ e. region_holder e (map.get roots root)) import_here };
    others = λ leaf rank outside has.
        let apart : has.root ≢ root = λ same. outside (subst (NearestRoot roots homes covers leaf) same has.nearest) in
        record { root = has.root; nearest = has.nearest; holds = ap (λ e. region_holder e (map.get roots has.root)) (import_beside has.root apart) ∙ has.holds };
    frozen = λ leaf. (
      λ its. elim (same_or_apart its.root root) [
        | inl same ↦ record { root = root; export = is.export; nearest = subst (NearestRoot roots homes covers leaf) same its.nearest; stands = is.stood; freezing = ap is_freezing is.was }
        | inr apart ↦ record { root = its.root; export = its.export; nearest = its.nearest; stands = sym (import_beside its.root apart) ∙ its.stands; freezing = its.freezing }
      ],
      λ its. elim (same_or_apart its.root root) [
        | inl same ↦ record { root = root; export = come_to Imported is.export; nearest = subst (NearestRoot roots homes covers leaf) same its.nearest; stands = import_here; freezing = refl }
        | inr apart ↦ record { root = its.root; export = its.export; nearest = its.nearest; stands = import_beside its.root apart ∙ its.stands; freezing = its.freezing }
      ],
    );
  }

-- ---- the end of an export

module _ (old new : Standing) (root : Leaf) (ended : new ≡ map.remove old root) where
  end_here : map.get new root ≡ None
  end_here = ap (λ (m : Standing). map.get m root) ended ∙ get_removed old root

  end_beside : (leaf : Leaf) → leaf ≢ root → map.get new leaf ≡ map.get old leaf
  end_beside leaf apart = ap (λ (m : Standing). map.get m leaf) ended ∙ get_left old root leaf apart

  -- its region thaws, whatever became of its rank
  thaws : (was now : Roots) (homes : Homes) (covers : Covers) → ((leaf near : Leaf) → NearestRoot was homes covers leaf near → NearestRoot now homes covers leaf near) → ((leaf near : Leaf) → NearestRoot now homes covers leaf near → NearestRoot was homes covers leaf near)
      → (leaf : Leaf) → IsFrozen new now homes covers leaf ↔ ((NearestRoot was homes covers leaf root → ⊥) × IsFrozen old was homes covers leaf)
  thaws was now homes covers onto back leaf = (
    λ its.
        let apart : its.root ≢ root = λ same. not_none _ its.export end_here (ap (map.get new) (sym same) ∙ its.stands) in (
          λ near. apart (one_root was homes covers leaf its.root root (back leaf its.root its.nearest) near),
          record { root = its.root; export = its.export; nearest = back leaf its.root its.nearest; stands = sym (end_beside its.root apart) ∙ its.stands; freezing = its.freezing },
        ),
    λ (outside, its).
        let apart : its.root ≢ root = λ same. outside (subst (NearestRoot was homes covers leaf) same its.nearest) in
        record { root = its.root; export = its.export; nearest = onto leaf its.root its.nearest; stands = end_beside its.root apart ∙ its.stands; freezing = its.freezing },
  )

-- ---- Finish

module _ (old new : Standing) (was now : Subtrees) (root : Leaf) (is : IsFinish old new was now root) (placed : ArePlaced old was) (homes : Homes) (covers : Covers) where
  is_root : IsSome (map.get was.roots root)
  is_root = ap is_some (placed.ranked root is.export is.stood (ap is_freezing is.imported))

  pub onto : (leaf near : Leaf) → NearestRoot was.roots homes covers leaf near → NearestRoot now.roots homes covers leaf near
  onto = same_near was.roots now.roots root is.export.importer is.roots homes covers is_root

  pub back : (leaf near : Leaf) → NearestRoot now.roots homes covers leaf near → NearestRoot was.roots homes covers leaf near
  back = was_near was.roots now.roots root is.export.importer is.roots homes covers is_root

  end_rank : map.get now.roots root ≡ Some is.export.importer
  end_rank = here was.roots now.roots root is.export.importer is.roots homes covers

  rank_beside : (leaf : Leaf) → leaf ≢ root → map.get now.roots leaf ≡ map.get was.roots leaf
  rank_beside = beside was.roots now.roots root is.export.importer is.roots homes covers

  pub finishes_soundly : FinishesSoundly old new was.roots now.roots homes covers root is.export.importer
  finishes_soundly = record {
    region = λ leaf near. record { root = root; nearest = onto leaf root near; ranked = end_rank };
    others = λ leaf rank outside has.
        let apart : has.root ≢ root = λ same. outside (subst (NearestRoot was.roots homes covers leaf) same has.nearest) in
        record { root = has.root; nearest = onto leaf has.root has.nearest; ranked = rank_beside has.root apart ∙ has.ranked };
    holders = λ leaf rank has. record { root = has.root; nearest = onto leaf has.root has.nearest; holds = held has.root (same_or_apart has.root root) ∙ has.holds };
    frozen = thaws old new root is.ended was.roots now.roots homes covers onto back;
  }
    where
      held : (near : Leaf) → (near ≡ root) ⊎ (near ≢ root) → region_holder (map.get new near) (map.get now.roots near) ≡ region_holder (map.get old near) (map.get was.roots near)
      held near (inr apart) = ap (λ e. region_holder e (map.get now.roots near)) (end_beside old new root is.ended near apart) ∙ ap (region_holder (map.get old near)) (rank_beside near apart)
      held near (inl same) =
          ap (λ (k : Leaf). region_holder (map.get new k) (map.get now.roots k)) same ∙ ap (λ e. region_holder e (map.get now.roots root)) (end_here old new root is.ended) ∙ end_rank
          ∙ sym (held_by_importer (map.get old root) is.export (map.get was.roots root) is.stood is.imported) ∙ ap (λ (k : Leaf). region_holder (map.get old k) (map.get was.roots k)) (sym same)

-- ---- Cancel

module _ (old new : Standing) (was now : Subtrees) (root : Leaf) (is : IsCancel old new was now root) (homes : Homes) (covers : Covers) where
  pub cancels_soundly : CancelsSoundly old new was.roots homes covers root
  cancels_soundly = record {
    holders = λ leaf rank has. record { root = has.root; nearest = has.nearest; holds = held has.root (same_or_apart has.root root) ∙ has.holds };
    frozen = thaws old new root is.ended was.roots was.roots homes covers (λ leaf near its. its) (λ leaf near its. its);
  }
    where
      only : (e : StandingExport) → map.get old root ≡ Some e → is_imported e.state ≡ false
      only e stands = early_holds e.state (ap (λ (x : StandingExport). is_before_send x.state) (one_value _ e is.export stands is.stood) ∙ is.before_send)

      held : (near : Leaf) → (near ≡ root) ⊎ (near ≢ root) → region_holder (map.get new near) (map.get was.roots near) ≡ region_holder (map.get old near) (map.get was.roots near)
      held near (inr apart) = ap (λ e. region_holder e (map.get was.roots near)) (end_beside old new root is.ended near apart)
      held near (inl same) =
          ap (λ (k : Leaf). region_holder (map.get new k) (map.get was.roots k)) same ∙ ap (λ e. region_holder e (map.get was.roots root)) (end_here old new root is.ended)
          ∙ sym (held_by_rank (map.get old root) (map.get was.roots root) only) ∙ ap (λ (k : Leaf). region_holder (map.get old k) (map.get was.roots k)) (sym same)
