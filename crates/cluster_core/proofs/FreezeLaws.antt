-- Whether a leaf of the region that a leaf has as a root is granted.
use Rattle.cluster_core.proofs.Common.{Bool, Contains, Covers, HasPinnedUnder, Homes, Leaf, List, NearestRoot, None, Pin, Rank, Roots, Some, [], ap, false, false_from_ne_true, first, first_or_later, get_beside, get_put, inl, inr, is_on, itself, later, leaf_itself, list_any, none_in, one_leaf, refl, subst, sym, true, ◌||◌, ◌∙◌, ◌∷◌, ◌≡◌, ◌⊎◌}
use Rattle.std.specs.FinMap as map
use Rattle.subtree_map.specs.Authority.{inherited}

module _ (roots : Roots) (homes : Homes) (covers : Covers) (root : Leaf) where
  -- whose root it is plays no part
  under : (a b : Rank) (leaf t : Leaf) → t ≡ root → NearestRoot (map.insert roots root a) homes covers leaf t → NearestRoot (map.insert roots root b) homes covers leaf t
  under a b _ t same (itself _ rank is) = itself t b (subst (λ (q : Leaf). map.get (map.insert roots root b) q ≡ Some b) (sym same) (get_put roots root b))
  under a b _ t same (inherited leaf holder _ home none stands holds rest) = inherited leaf holder t home (get_beside roots root b leaf apart ∙ sym (get_beside roots root a leaf apart) ∙ none) stands holds (under a b holder t same rest)
    where
      apart : leaf ≡ root → ⊥
      apart is = let clash : Some a ≡ None = sym (get_put roots root a) ∙ ap (λ (q : Leaf). map.get (map.insert roots root a) q) (sym is) ∙ none in cc

-- a leaf is granted by a grant on it
granted : (grants : List Pin) (leaf : Leaf) → list_any (is_on leaf.0 leaf.1) grants ≡ true → (pin : Pin) × Contains grants pin × ((pin.dir, pin.frag) ≡ leaf)
granted [] leaf is = let clash : false ≡ true = is in cc
granted (p ∷ ps) leaf is = go (is_on leaf.0 leaf.1 p) refl is (granted ps leaf)
  where
    go : (b : Bool) → is_on leaf.0 leaf.1 p ≡ b → (b || list_any (is_on leaf.0 leaf.1) ps) ≡ true → (list_any (is_on leaf.0 leaf.1) ps ≡ true → (pin : Pin) × Contains ps pin × ((pin.dir, pin.frag) ≡ leaf)) → (pin : Pin) × Contains (p ∷ ps) pin × ((pin.dir, pin.frag) ≡ leaf)
    go true on _ more = (p, first p ps, one_leaf (p.dir, p.frag) leaf on)
    go false off is more = let w = more is in (w.0, later p w.0 ps w.1, w.2)

-- and each grant is on a leaf that is granted
is_granted : (grants : List Pin) (pin : Pin) → Contains grants pin → list_any (is_on pin.dir pin.frag) grants ≡ true
is_granted [] pin has = absurd (none_in pin has)
is_granted (p ∷ ps) pin has = go (first_or_later p pin ps has) (is_granted ps pin)
  where
    yes : (b c : Bool) → c ≡ true → (b || c) ≡ true
    yes true c is = refl
    yes false c is = is

    go : (p ≡ pin) ⊎ Contains ps pin → (Contains ps pin → list_any (is_on pin.dir pin.frag) ps ≡ true) → (is_on pin.dir pin.frag p || list_any (is_on pin.dir pin.frag) ps) ≡ true
    go (inl same) more = ap (λ (b : Bool). b || list_any (is_on pin.dir pin.frag) ps) (ap (is_on pin.dir pin.frag) same ∙ leaf_itself (pin.dir, pin.frag))
    go (inr rest) more = yes (is_on pin.dir pin.frag p) _ (more rest)

module _ (roots : Roots) (homes : Homes) (covers : Covers) (grants : List Pin) (root : Leaf) (rank : Rank) where
  pub none_granted : (HasPinnedUnder roots homes covers grants root → ⊥) → (leaf : Leaf) → NearestRoot (map.insert roots root rank) homes covers leaf root → list_any (is_on leaf.0 leaf.1) grants ≡ false
  none_granted none leaf near = false_from_ne_true _ (λ on.
      let w = granted grants leaf on in
      none (w.0, w.1, λ other. under roots homes covers root rank other (w.0.dir, w.0.frag) root refl (subst (λ (l : Leaf). NearestRoot (map.insert roots root rank) homes covers l root) (sym w.2) near)))

  pub none_pinned : ((leaf : Leaf) → NearestRoot (map.insert roots root rank) homes covers leaf root → list_any (is_on leaf.0 leaf.1) grants ≡ false) → HasPinnedUnder roots homes covers grants root → ⊥
  none_pinned free (pin, has, near) = let clash : true ≡ false = sym (is_granted grants pin has) ∙ free (pin.dir, pin.frag) (near rank) in cc
