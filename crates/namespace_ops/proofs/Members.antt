-- Members of lists of leaves.
use Rattle.std.proofs.Common.{◌≡◌, ◌+◌, ◌==◌, ◌&&◌, ℕ, zero, suc, true, false, List, [], ◌∷◌, map, ◌⊎◌, inl, inr, ⊎_elim, refl, sym, ap, ◌∙◌, arith}
use Rattle.std.specs.List.{Contains}
use Rattle.std.proofs.lemmas.Bool.{eqb-true, and_parts}
use Rattle.mds_types.specs.Frag.{Fragment, span}
use Rattle.fragtree.specs.FragTree.{HasLeaf, Tiles}
use Rattle.fragtree.proofs.Ranges.{span_pos}
use Rattle.fragtree.proofs.Tilings.{between}
use Rattle.sorted_map.proofs.NatKeys.{is_same}
use Rattle.mds_types.specs.Leaf.{Leaf}
use Rattle.namespace_ops.specs.Changes.{in_directory, same_leaf}
use Rattle.namespace_ops.specs.ChangedFragments.{AreApart}

pub first_or_later : {A : Type 0} (x y : A) (xs : List A) → Contains (x ∷ xs) y → (x ≡ y) ⊎ Contains xs y
first_or_later x y xs (zero, stands, is) = inl is
first_or_later x y xs (suc k, stands, is) = inr (k, omega (arith, stands), is)

pub later : {A : Type 0} (x y : A) (xs : List A) → Contains xs y → Contains (x ∷ xs) y
later x y xs (k, stands, is) = (suc k, omega (arith, stands), is)

pub first : {A : Type 0} (x : A) (xs : List A) → Contains (x ∷ xs) x
first x xs = (zero, omega arith, refl)

pub none_in : {A : Type 0} (x : A) → Contains [] x → ⊥
none_in x (k, stands, is) = omega (arith, stands)

-- a leaf among those of a directory is one of that directory
pub in_dir : (d : ℕ) (fs : List Fragment) (leaf : Leaf) → Contains (map (in_directory d) fs) leaf → leaf.0.0 ≡ d
in_dir d [] leaf has = absurd (none_in leaf has)
in_dir d (f ∷ fs) leaf has = ⊎_elim (λ same. ap (λ (l : Leaf). l.0.0) (sym same)) (λ rest. in_dir d fs leaf rest) (first_or_later (in_directory d f) leaf (map (in_directory d) fs) has)

of_dir : (d : ℕ) (fs : List Fragment) (f : Fragment) → Contains (map (in_directory d) fs) (in_directory d f) → HasLeaf fs f
of_dir d [] f has = absurd (none_in _ has)
of_dir d (g ∷ gs) f has =
    ⊎_elim (λ same. go (ap (λ (l : Leaf). l.1) same)) (λ rest. later g f gs (of_dir d gs f rest)) (first_or_later (in_directory d g) (in_directory d f) (map (in_directory d) gs) has)
  where
    go : g ≡ f → HasLeaf (g ∷ gs) f
    go same = (zero, omega arith, same)

-- the leaves of a directory are apart
pub leaves_apart : (d low high : ℕ) (fs : List Fragment) → Tiles low high fs → AreApart (map (in_directory d) fs)
leaves_apart d low high [] tiles = tt
leaves_apart d low high (f ∷ fs) tiles = (not_again, leaves_apart d (low + span f.bits) high fs tiles.2)
  where
    not_again : Contains (map (in_directory d) fs) (in_directory d f) → ⊥
    not_again has =
        let next = between _ high fs f tiles.2 (of_dir d fs f has) in
        let begins = next.1 in
        let here = tiles.1 in
        let some = span_pos f.bits in
        omega (arith, begins, here, some)

-- the test of two leaves
pub one_leaf : (a b : Leaf) → same_leaf a b ≡ true → a ≡ b
one_leaf a b same =
    let dirs = eqb-true a.0.0 b.0.0 (and_parts _ _ same).0 in
    let values = eqb-true a.1.value b.1.value (and_parts _ _ (and_parts _ _ same).1).0 in
    let bits = eqb-true a.1.bits b.1.bits (and_parts _ _ (and_parts _ _ same).1).1 in
    λ i. (record { 0 = dirs i }, record { value = values i; bits = bits i })

pub two_leaves : (a b : Leaf) → same_leaf a b ≡ false → a ≡ b → ⊥
two_leaves a b other same = let clash : true ≡ false = sym (itself b) ∙ ap (λ (l : Leaf). same_leaf l b) (sym same) ∙ other in cc
  where
    itself : (l : Leaf) → same_leaf l l ≡ true
    itself l = ap (λ x. x && ((l.1.value == l.1.value) && (l.1.bits == l.1.bits))) (is_same l.0.0 l.0.0 refl) ∙ ap (λ x. x && (l.1.bits == l.1.bits)) (is_same l.1.value l.1.value refl) ∙ is_same l.1.bits l.1.bits refl
