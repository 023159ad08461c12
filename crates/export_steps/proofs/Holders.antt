-- Frozen leaves and holders, by what a search for the nearest root found.
use Rattle.export_steps.proofs.Common.{Bool, Covers, HasAuthority, HasHolder, Homes, IsFrozen, IsLive, IsSubtrees, IsTable, IsTrue, Leaf, MatchOption, NearestRoot, None, Option, Rank, Roots, Some, Standing, StandingExport, ap, cond, false, get-empty, is_freezing, is_imported, is_ranked, itself, not_none, one_root, one_value, refl, region_holder, some_root, sym, true, ◌↔◌, ◌∙◌, ◌≡◌}
use Rattle.std.specs.FinMap as map

-- the region of a root is held by some rank
pub some_holder_of_root : (export : Option StandingExport) (rank : Rank) → (held : Rank) × (region_holder export (Some rank) ≡ Some held)
some_holder_of_root None rank = (rank, refl)
some_holder_of_root (Some export) rank = go (is_imported export.state)
  where
    go : (imported : Bool) → (held : Rank) × (cond imported (Some export.importer) (Some rank) ≡ Some held)
    go true = (export.importer, refl)
    go false = (rank, refl)

module _ (standing : Standing) (roots : Roots) (homes : Homes) (covers : Covers) (leaf : Leaf) where
  -- the nearest root has an export
  pub told_frozen : (root : Leaf) (export : StandingExport) (told : Bool) → NearestRoot roots homes covers leaf root → map.get standing root ≡ Some export → told ≡ is_freezing export.state → IsTrue told ↔ IsFrozen standing roots homes covers leaf
  told_frozen root export told near stands is = (
    λ yes. record { root = root; export = export; nearest = near; stands = stands; freezing = sym is ∙ yes },
    λ frozen.
        let same : frozen.root ≡ root = one_root roots homes covers leaf frozen.root root frozen.nearest near in
        let export_same : frozen.export ≡ export = one_value _ frozen.export export (ap (map.get standing) (sym same) ∙ frozen.stands) stands in
        is ∙ ap (λ (e : StandingExport). is_freezing e.state) (sym export_same) ∙ frozen.freezing,
  )

  -- the nearest root has none
  pub told_thawed : (root : Leaf) → NearestRoot roots homes covers leaf root → map.get standing root ≡ None → IsTrue false ↔ IsFrozen standing roots homes covers leaf
  told_thawed root near none = (
    λ never. let clash : false ≡ true = never in cc,
    λ frozen.
        let same : frozen.root ≡ root = one_root roots homes covers leaf frozen.root root frozen.nearest near in
        absurd (not_none _ frozen.export none (ap (map.get standing) (sym same) ∙ frozen.stands)),
  )

  -- the holder of the region of the nearest root
  pub told_holder : (root : Leaf) (told : Option Rank) → NearestRoot roots homes covers leaf root → told ≡ region_holder (map.get standing root) (map.get roots root)
      → MatchOption told ((rank : Rank) → HasHolder standing roots homes covers leaf rank → ⊥) (HasHolder standing roots homes covers leaf)
  told_holder root None near is = λ rank has.
      let ranked = is_ranked roots homes covers leaf root near in
      let held = some_holder_of_root (map.get standing root) ranked.0 in
      not_none _ held.0 (sym is) (ap (region_holder (map.get standing root)) ranked.1 ∙ held.1)
  told_holder root (Some rank) near is = record { root = root; nearest = near; holds = sym is }

  -- each leaf has one holder at most
  pub one_holder_of : (a b : Rank) → HasHolder standing roots homes covers leaf a → HasHolder standing roots homes covers leaf b → a ≡ b
  one_holder_of a b p q =
      let same : p.root ≡ q.root = one_root roots homes covers leaf p.root q.root p.nearest q.nearest in
      one_value _ a b (ap (λ (r : Leaf). region_holder (map.get standing r) (map.get roots r)) (sym same) ∙ p.holds) q.holds

  -- and where it is a leaf, it has one
  pub some_holder : IsTable homes covers → IsSubtrees roots homes covers → IsLive homes covers leaf → (rank : Rank) × HasHolder standing roots homes covers leaf rank
  some_holder table valid stands =
      let near = some_root roots homes covers table valid leaf stands in
      let ranked = is_ranked roots homes covers leaf near.0 near.1 in
      let held = some_holder_of_root (map.get standing near.0) ranked.0 in
      (held.0, record { root = near.0; nearest = near.1; holds = ap (region_holder (map.get standing near.0)) ranked.1 ∙ held.1 })

  -- the leaves of a region are frozen as its root is
  pub region_frozen : (root : Leaf) → NearestRoot roots homes covers leaf root → IsFrozen standing roots homes covers leaf ↔ IsFrozen standing roots homes covers root
  region_frozen root near =
      let ranked = is_ranked roots homes covers leaf root near in
      let own : NearestRoot roots homes covers root root = itself root ranked.0 ranked.1 in (
        λ frozen.
            let same : frozen.root ≡ root = one_root roots homes covers leaf frozen.root root frozen.nearest near in
            record { root = root; export = frozen.export; nearest = own; stands = ap (map.get standing) (sym same) ∙ frozen.stands; freezing = frozen.freezing },
        λ frozen.
            let same : frozen.root ≡ root = one_root roots homes covers root frozen.root root frozen.nearest own in
            record { root = root; export = frozen.export; nearest = near; stands = ap (map.get standing) (sym same) ∙ frozen.stands; freezing = frozen.freezing },
      )

-- no export stands: no leaf is frozen, and the authority of each is its holder
module _ (standing : Standing) (roots : Roots) (homes : Homes) (covers : Covers) (leaf : Leaf) (empty : standing ≡ map.empty) where
  none_at : (root : Leaf) → map.get standing root ≡ None
  none_at root = ap (λ (m : Standing). map.get m root) empty ∙ get-empty _ root

  pub none_frozen : IsTrue false ↔ IsFrozen standing roots homes covers leaf
  none_frozen = (
    λ never. let clash : false ≡ true = never in cc,
    λ frozen. absurd (not_none _ frozen.export (none_at frozen.root) frozen.stands),
  )

  pub own_holder : (rank : Rank) → HasAuthority roots homes covers leaf rank → HasHolder standing roots homes covers leaf rank
  own_holder rank has = record { root = has.root; nearest = has.nearest; holds = ap (λ (o : Option StandingExport). region_holder o (map.get roots has.root)) (none_at has.root) ∙ has.ranked }

  own_authority : (rank : Rank) → HasHolder standing roots homes covers leaf rank → HasAuthority roots homes covers leaf rank
  own_authority rank h = record { root = h.root; nearest = h.nearest; ranked = sym (ap (λ (o : Option StandingExport). region_holder o (map.get roots h.root)) (none_at h.root)) ∙ h.holds }

  pub told_own : (told : Option Rank) → MatchOption told ((rank : Rank) → HasAuthority roots homes covers leaf rank → ⊥) (HasAuthority roots homes covers leaf)
      → MatchOption told ((rank : Rank) → HasHolder standing roots homes covers leaf rank → ⊥) (HasHolder standing roots homes covers leaf)
  told_own None none = λ rank holds. none rank (own_authority rank holds)
  told_own (Some rank) has = own_holder rank has
