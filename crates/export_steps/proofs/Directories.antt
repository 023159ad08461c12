-- A directory comes in, or goes, elsewhere.
use Rattle.export_steps.proofs.Common.{AreGone, Covers, HasLeaf, HoldsDentry, Home, Homes, Ino, IsChildless, IsInRegion, IsLive, IsPick, IsSome, IsSubtrees, IsTable, Leaf, MayCome, NearestRoot, Option, Roots, Some, ap, hash_of, inherited, inl, inr, is_known, is_some, itself, known_by, leaves_left, not_none, one_value, refl, still_known, subst, sym, true, value_of, ℕ, ◌==◌, ◌||◌, ◌↔◌, ◌∙◌, ◌≡◌, ◌≢◌, ◌⊎◌}
use Rattle.std.specs.FinMap as map
use Rattle.sorted_map.proofs.NatKeys as nat

-- ---- a directory comes in

module _ (root : Leaf) (roots : Roots) (homes : Homes) (covers : Covers) (valid : IsSubtrees roots homes covers) (d : ℕ) (home : Home) (may : MayCome homes d home)
    (outside : (holder : Leaf) → HoldsDentry covers home holder → NearestRoot roots homes covers holder root → ⊥) where
  not_new : (x : ℕ) (place : Home) → map.get homes x ≡ Some place → x ≢ d
  not_new x place stands same = not_none _ place may.fresh (ap (map.get homes) (sym same) ∙ stands)

  made_goes_on : (leaf near : Leaf) → NearestRoot roots homes covers leaf near → NearestRoot roots (map.insert homes d home) covers leaf near
  made_goes_on _ _ (itself near rank has) = itself near rank has
  made_goes_on _ _ (inherited leaf holder near place none stands holds rest) =
      inherited leaf holder near place none (nat.get_beside homes d home leaf.0.0 (not_new leaf.0.0 place stands) ∙ stands) holds (made_goes_on holder near rest)

  made_came : (leaf near : Leaf) → near ≡ root → NearestRoot roots (map.insert homes d home) covers leaf near → NearestRoot roots homes covers leaf near
  made_came _ _ same (itself near rank has) = itself near rank has
  made_came _ _ same (inherited leaf holder near place none stands holds rest) = go (nat.same_or_apart leaf.0.0 d) (made_came holder near same rest)
    where
      go : (leaf.0.0 ≡ d) ⊎ (leaf.0.0 ≢ d) → NearestRoot roots homes covers holder near → NearestRoot roots homes covers leaf near
      go (inl at) above =
          let there : place ≡ home = one_value _ place home stands (ap (map.get (map.insert homes d home)) at ∙ nat.get_put homes d home) in
          absurd (outside holder (subst (λ h. HoldsDentry covers h holder) there holds) (subst (NearestRoot roots homes covers holder) same above))
      go (inr apart) above = inherited leaf holder near place none (sym (nat.get_beside homes d home leaf.0.0 apart) ∙ stands) holds above

  known_on_way : (leaf near : Leaf) → NearestRoot roots homes covers leaf near → is_known homes leaf.0.0 ≡ true
  known_on_way _ _ (itself near rank has) = (valid.live near (ap is_some has)).known
  known_on_way _ _ (inherited leaf holder near place none stands holds rest) = known_by homes leaf.0.0 (Some place) stands refl

  pub made_elsewhere : (leaf : Leaf) → IsInRegion roots homes covers root leaf ↔ IsInRegion roots (map.insert homes d home) covers root leaf
  made_elsewhere leaf = (
    λ its. record { stands = record { known = still_known homes d home leaf.0.0 its.stands.known; stands = its.stands.stands }; nearest = made_goes_on leaf root its.nearest },
    λ its.
        let near = made_came leaf root refl its.nearest in
        record { stands = record { known = known_on_way leaf root near; stands = its.stands.stands }; nearest = near },
  )

-- ---- a directory goes

module _ (root : Leaf) (old new : Roots) (d : ℕ) (is : AreGone old new d) (homes : Homes) (covers : Covers) (table : IsTable homes covers) (valid : IsSubtrees old homes covers) (childless : IsChildless homes d)
    (is_root : IsSome (map.get old root)) (outside : (leaf : Leaf) → leaf.0.0 ≡ d → IsLive homes covers leaf → NearestRoot old homes covers leaf root → ⊥) where
  pub root_elsewhere : root.0.0 ≢ d
  root_elsewhere at = let there = value_of _ is_root in outside root at (valid.live root is_root) (itself root there.0 there.1)

  gone_goes_on : (leaf near : Leaf) → near ≡ root → leaf.0.0 ≢ d → NearestRoot old homes covers leaf near → NearestRoot new (map.remove homes d) (map.remove covers d) leaf near
  gone_goes_on _ _ same apart (itself near rank has) = itself near rank (is.others near apart ∙ has)
  gone_goes_on _ _ same apart (inherited leaf holder near place none stands holds rest) =
      let parent : place.parent.0 ≢ d = childless leaf.0.0 place stands in
      inherited leaf holder near place (is.others leaf apart ∙ none) (nat.get_left homes d leaf.0.0 apart ∙ stands) (record {
        parent = holds.parent;
        pick = subst (λ ls. IsPick ls (hash_of place.name) holder.1) (sym (leaves_left covers d place.parent.0 parent)) holds.pick;
      }) (gone_goes_on holder near same (λ at. parent (ap (λ (p : Ino). p.0) (sym holds.parent) ∙ at)) rest)

  gone_came : (leaf near : Leaf) → near ≡ root → NearestRoot new (map.remove homes d) (map.remove covers d) leaf near → NearestRoot old homes covers leaf near × (leaf.0.0 ≢ d)
  gone_came _ _ same (itself near rank has) =
      let apart : near.0.0 ≢ d = λ at. root_elsewhere (ap (λ (k : Leaf). k.0.0) (sym same) ∙ at) in
      (itself near rank (sym (is.others near apart) ∙ has), apart)
  gone_came _ _ same (inherited leaf holder near place none stands holds rest) =
      let apart : leaf.0.0 ≢ d = λ at. not_none _ place (ap (map.get (map.remove homes d)) at ∙ nat.get_removed homes d) stands in
      let there : map.get homes leaf.0.0 ≡ Some place = sym (nat.get_left homes d leaf.0.0 apart) ∙ stands in
      let parent : place.parent.0 ≢ d = childless leaf.0.0 place there in (
        inherited leaf holder near place (sym (is.others leaf apart) ∙ none) there (record {
          parent = holds.parent;
          pick = subst (λ ls. IsPick ls (hash_of place.name) holder.1) (leaves_left covers d place.parent.0 parent) holds.pick;
        }) (gone_came holder near same rest).0,
        apart,
      )

  pub gone_elsewhere : (leaf : Leaf) → IsInRegion old homes covers root leaf ↔ IsInRegion new (map.remove homes d) (map.remove covers d) root leaf
  gone_elsewhere leaf = (
    λ its.
        let apart : leaf.0.0 ≢ d = λ at. outside leaf at its.stands its.nearest in
        record {
          stands = record {
            known = ap (λ (o : Option Home). (leaf.0.0 == 1) || is_some o) (nat.get_left homes d leaf.0.0 apart) ∙ its.stands.known;
            stands = subst (λ ls. HasLeaf ls leaf.1) (sym (leaves_left covers d leaf.0.0 apart)) its.stands.stands;
          };
          nearest = gone_goes_on leaf root refl apart its.nearest;
        },
    λ its.
        let was = gone_came leaf root refl its.nearest in
        record {
          stands = record {
            known = ap (λ (o : Option Home). (leaf.0.0 == 1) || is_some o) (sym (nat.get_left homes d leaf.0.0 was.1)) ∙ its.stands.known;
            stands = subst (λ ls. HasLeaf ls leaf.1) (leaves_left covers d leaf.0.0 was.1) its.stands.stands;
          };
          nearest = was.0;
        },
  )
