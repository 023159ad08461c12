-- A directory moves between leaves of other regions.
use Rattle.export_steps.proofs.Common.{Covers, HoldsDentry, Home, Homes, IsInRegion, KeepsRanksOf, IsSome, Leaf, MayMove, NearestRoot, Roots, Some, ap, inherited, inl, inr, is_known, is_some, itself, known_by, one_value, refl, still_known, subst, sym, true, value_of, ℕ, ◌==◌, ◌||◌, ◌↔◌, ◌∙◌, ◌≡◌, ◌≢◌, ◌⊎◌}
use Rattle.std.specs.FinMap as map
use Rattle.sorted_map.proofs.NatKeys as nat

module _ (root : Leaf) (old new : Roots) (homes : Homes) (covers : Covers) (d : ℕ) (home : Home) (is : KeepsRanksOf old new homes covers d home) (may : MayMove homes d home) (is_root : IsSome (map.get old root))
    (from_outside : (place : Home) (holder : Leaf) → map.get homes d ≡ Some place → HoldsDentry covers place holder → NearestRoot old homes covers holder root → ⊥)
    (to_outside : (holder : Leaf) → HoldsDentry covers home holder → NearestRoot old homes covers holder root → ⊥) where
  goes_on : (leaf near : Leaf) → near ≡ root → NearestRoot old homes covers leaf near → NearestRoot new (map.insert homes d home) covers leaf near
  goes_on _ _ same (itself near rank has) = itself near rank (is.kept near (ap is_some has) ∙ has)
  goes_on _ _ same (inherited leaf holder near place none stands holds rest) = go (nat.same_or_apart leaf.0.0 d) (goes_on holder near same rest)
    where
      go : (leaf.0.0 ≡ d) ⊎ (leaf.0.0 ≢ d) → NearestRoot new (map.insert homes d home) covers holder near → NearestRoot new (map.insert homes d home) covers leaf near
      go (inl at) above = absurd (from_outside place holder (ap (map.get homes) (sym at) ∙ stands) holds (subst (NearestRoot old homes covers holder) same rest))
      go (inr apart) above = inherited leaf holder near place (is.elsewhere leaf apart ∙ none) (nat.get_beside homes d home leaf.0.0 apart ∙ stands) holds above

  came : (leaf near : Leaf) → near ≡ root → NearestRoot new (map.insert homes d home) covers leaf near → NearestRoot old homes covers leaf near
  came _ _ same (itself near rank has) = let there = value_of _ is_root in itself near there.0 (ap (map.get old) same ∙ there.1)
  came _ _ same (inherited leaf holder near place none stands holds rest) = go (nat.same_or_apart leaf.0.0 d) (came holder near same rest)
    where
      go : (leaf.0.0 ≡ d) ⊎ (leaf.0.0 ≢ d) → NearestRoot old homes covers holder near → NearestRoot old homes covers leaf near
      go (inl at) above =
          let there : place ≡ home = one_value _ place home stands (ap (map.get (map.insert homes d home)) at ∙ nat.get_put homes d home) in
          absurd (to_outside holder (subst (λ h. HoldsDentry covers h holder) there holds) (subst (NearestRoot old homes covers holder) same above))
      go (inr apart) above = inherited leaf holder near place (sym (is.elsewhere leaf apart) ∙ none) (sym (nat.get_beside homes d home leaf.0.0 apart) ∙ stands) holds above

  was_known : (x : ℕ) → is_known (map.insert homes d home) x ≡ true → is_known homes x ≡ true
  was_known x known = go (nat.same_or_apart x d)
    where
      go : (x ≡ d) ⊎ (x ≢ d) → is_known homes x ≡ true
      go (inl at) = known_by homes x (map.get homes x) refl (ap (λ e. is_some (map.get homes e)) at ∙ may.there)
      go (inr apart) = ap (λ (o : _). (x == 1) || is_some o) (sym (nat.get_beside homes d home x apart)) ∙ known

  pub move_elsewhere : (leaf : Leaf) → IsInRegion old homes covers root leaf ↔ IsInRegion new (map.insert homes d home) covers root leaf
  move_elsewhere leaf = (
    λ its. record { stands = record { known = still_known homes d home leaf.0.0 its.stands.known; stands = its.stands.stands }; nearest = goes_on leaf root refl its.nearest },
    λ its. record { stands = record { known = was_known leaf.0.0 its.stands.known; stands = its.stands.stands }; nearest = came leaf root refl its.nearest },
  )
