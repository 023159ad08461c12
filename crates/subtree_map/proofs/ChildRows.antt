-- Children put in the place of a root, one after the other.
use Rattle.subtree_map.proofs.Common.{AreChildrenSet, FitsSplit, Fragment, IsRootSplit, IsSome, Leaf, None, Option, Rank, Roots, Some, ap, arith, cases_lt, child_of, get_beside, get_left, get_put, get_removed, if◌then◌else◌, inl, inr, is_some, leaf_in_dir, refl, same_or_apart, sym, ℕ, ◌+◌, ◌-◌, ◌^◌, ◌∙◌, ◌≡◌, ◌≢◌, ◌≤◌}
use Rattle.std.specs.FinMap as map
use Rattle.subtree_map.proofs.Options.{not_none, value_of}

module _ (d : ℕ) (f : Fragment) (nb : ℕ) (rank : Rank) where
  pub children_none : (old : Roots) → AreChildrenSet old old d f nb 0 rank
  children_none old = record {
    children = λ i below. absurd (omega (arith, below));
    others = λ leaf apart. refl;
    made = λ leaf some. inl some;
  }

  pub children_more : (old now new : Roots) (i n : ℕ) → n ≡ i + 1 → AreChildrenSet old now d f nb i rank → new ≡ map.insert now (leaf_in_dir d (child_of f i nb)) rank → AreChildrenSet old new d f nb n rank
  children_more old now new i n next so_far is = record {
    children = λ k below. elim (cases_lt k i) [
      | inl under ↦ stays (leaf_in_dir d (child_of f k nb)) (so_far.children k under)
      | inr last ↦ let same : k ≡ i = omega (arith, below, next, last) in ap (λ j. map.get new (leaf_in_dir d (child_of f j nb))) same ∙ here
    ];
    others = λ leaf apart. beside leaf (apart i (omega (arith, next))) ∙ so_far.others leaf (λ k below. apart k (omega (arith, below, next)));
    made = λ leaf some. elim (same_or_apart leaf (leaf_in_dir d (child_of f i nb))) [
      | inl same ↦ inr (i, omega (arith, next), same)
      | inr other ↦ elim (so_far.made leaf (ap is_some (sym (beside leaf other)) ∙ some)) [
        | inl before ↦ inl before
        | inr child ↦ inr (child.0, omega (arith, child.1, next), child.2)
      ]
    ];
  }
    where
      here : map.get new (leaf_in_dir d (child_of f i nb)) ≡ Some rank
      here = ap (λ m. map.get m (leaf_in_dir d (child_of f i nb))) is ∙ get_put now (leaf_in_dir d (child_of f i nb)) rank

      beside : (leaf : Leaf) → leaf ≢ leaf_in_dir d (child_of f i nb) → map.get new leaf ≡ map.get now leaf
      beside leaf apart = ap (λ m. map.get m leaf) is ∙ get_beside now (leaf_in_dir d (child_of f i nb)) rank leaf apart

      stays : (leaf : Leaf) → map.get now leaf ≡ Some rank → map.get new leaf ≡ Some rank
      stays leaf has = elim (same_or_apart leaf (leaf_in_dir d (child_of f i nb))) [
        | inl same ↦ ap (map.get new) same ∙ here
        | inr apart ↦ beside leaf apart ∙ has
      ]

  -- a root's children in its place
  pub root_split : (old mid new : Roots) → FitsSplit f nb → map.get old (leaf_in_dir d f) ≡ Some rank → mid ≡ map.remove old (leaf_in_dir d f) → AreChildrenSet mid new d f nb (2 ^ nb) rank → IsRootSplit old new d f nb
  root_split old mid new fits root is set = record {
    children = λ g child some. ap (λ h. map.get new (leaf_in_dir d h)) child.2 ∙ set.children child.0 child.1 ∙ sym root;
    gone = set.others (leaf_in_dir d f) (λ i below same. no_child i (ap (λ (k : Leaf). k.1) same)) ∙ ap (λ m. map.get m (leaf_in_dir d f)) is ∙ get_removed old (leaf_in_dir d f);
    others = λ leaf apart none. set.others leaf (λ i below. none (child_of f i nb) (i, below, refl)) ∙ left leaf apart;
    made = λ leaf some. elim (set.made leaf some) [
      | inl before ↦ inl (was_there leaf before)
      | inr child ↦ inr (ap is_some root, (child_of f child.0 nb, (child.0, child.1, refl), child.2))
    ];
  }
    where
      no_child : (i : ℕ) → f ≡ child_of f i nb → ⊥
      no_child i same = let bits : f.bits ≡ f.bits + nb = ap (λ (h : Fragment). h.bits) same in omega (arith, bits, fits.some)

      left : (leaf : Leaf) → leaf ≢ leaf_in_dir d f → map.get mid leaf ≡ map.get old leaf
      left leaf apart = ap (λ m. map.get m leaf) is ∙ get_left old (leaf_in_dir d f) leaf apart

      was_there : (leaf : Leaf) → IsSome (map.get mid leaf) → IsSome (map.get old leaf)
      was_there leaf some = elim (same_or_apart leaf (leaf_in_dir d f)) [
        | inl same ↦ ap is_some (ap (map.get old) same ∙ root)
        | inr apart ↦ ap is_some (sym (left leaf apart)) ∙ some
      ]

-- a leaf that is no root has nothing to pass on
pub no_split : (d : ℕ) (f : Fragment) (nb : ℕ) (old new : Roots) → map.get old (leaf_in_dir d f) ≡ None → new ≡ old → IsRootSplit old new d f nb
no_split d f nb old new none is = record {
  children = λ g child some. let has = value_of _ some in absurd (not_none _ has.0 none has.1);
  gone = ap (λ m. map.get m (leaf_in_dir d f)) is ∙ none;
  others = λ leaf apart other. ap (λ m. map.get m leaf) is;
  made = λ leaf some. inl (ap (λ m. is_some (map.get m leaf)) (sym is) ∙ some);
}

pub room_left : {A : Type 0} (o : Option A) (room left : ℕ) → (if is_some o then room else room - 1) ≤ left → room ≤ left + 1
room_left None room left is = omega (arith, is)
room_left (Some x) room left is = omega (arith, is)
