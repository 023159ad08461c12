-- What a leaf that is made a root takes from the root above it.
use Rattle.subtree_map.proofs.Common.{Covers, Homes, IsCutOff, IsHanded, IsLive, IsSome, IsSubtrees, Leaf, NearestRoot, None, Rank, Roots, Some, ap, get_beside, get_put, inherited, inl, inr, is_some, itself, same_or_apart, subst, sym, ◌∙◌, ◌≡◌, ◌⊎◌}
use Rattle.std.specs.FinMap as map
use Rattle.subtree_map.proofs.Options.{not_none, value_of}

pub cut_off : (old new : Roots) (root : Leaf) (rank : Rank) → new ≡ map.insert old root rank → IsCutOff old new root
cut_off old new root rank is homes covers = way
  where
    here : (leaf : Leaf) → leaf ≡ root → NearestRoot new homes covers leaf root
    here leaf same = subst (λ k. NearestRoot new homes covers k root) (sym same) (itself root rank (ap (λ m. map.get m root) is ∙ get_put old root rank))

    beside : (leaf : Leaf) → (leaf ≡ root → ⊥) → map.get new leaf ≡ map.get old leaf
    beside leaf apart = ap (λ m. map.get m leaf) is ∙ get_beside old root rank leaf apart

    way : (leaf was : Leaf) → NearestRoot old homes covers leaf was → NearestRoot new homes covers leaf root ⊎ NearestRoot new homes covers leaf was
    way _ _ (itself leaf r has) = elim (same_or_apart leaf root) [
      | inl same ↦ inl (here leaf same)
      | inr apart ↦ inr (itself leaf r (beside leaf apart ∙ has))
    ]
    way _ _ (inherited leaf holder was home none stands holds rest) = elim (same_or_apart leaf root) [
      | inl same ↦ inl (here leaf same)
      | inr apart ↦ elim (way holder was rest) [
        | inl cut ↦ inl (inherited leaf holder root home (beside leaf apart ∙ none) stands holds cut)
        | inr kept ↦ inr (inherited leaf holder was home (beside leaf apart ∙ none) stands holds kept)
      ]
    ]

-- a leaf that is made a root leaves a map of subtrees
pub cut_valid : (old new : Roots) (root : Leaf) (rank : Rank) → new ≡ map.insert old root rank → (homes : Homes) (covers : Covers) → IsSubtrees old homes covers → IsLive homes covers root → IsSubtrees new homes covers
cut_valid old new root rank is homes covers valid stands = record {
  top = λ f has. some_still (record { 0 = 1 }, f) (valid.top f has);
  live = λ leaf some. elim (same_or_apart leaf root) [
    | inl same ↦ subst (IsLive homes covers) (sym same) stands
    | inr apart ↦ valid.live leaf (ap is_some (sym (beside leaf apart)) ∙ some)
  ];
}
  where
    beside : (leaf : Leaf) → (leaf ≡ root → ⊥) → map.get new leaf ≡ map.get old leaf
    beside leaf apart = ap (λ m. map.get m leaf) is ∙ get_beside old root rank leaf apart

    some_still : (leaf : Leaf) → IsSome (map.get old leaf) → IsSome (map.get new leaf)
    some_still leaf some = elim (same_or_apart leaf root) [
      | inl same ↦ ap is_some (ap (map.get new) same ∙ ap (λ m. map.get m root) is ∙ get_put old root rank)
      | inr apart ↦ ap is_some (beside leaf apart) ∙ some
    ]

-- a root that gets another rank keeps its region
pub handed : (old new : Roots) (root : Leaf) (rank : Rank) → IsSome (map.get old root) → new ≡ map.insert old root rank → IsHanded old new root rank
handed old new root rank some is = record { here = here; others = beside; nearest = λ homes covers. way homes covers }
  where
    here : map.get new root ≡ Some rank
    here = ap (λ m. map.get m root) is ∙ get_put old root rank

    beside : (leaf : Leaf) → (leaf ≡ root → ⊥) → map.get new leaf ≡ map.get old leaf
    beside leaf apart = ap (λ m. map.get m leaf) is ∙ get_beside old root rank leaf apart

    none_still : (leaf : Leaf) → map.get old leaf ≡ None → map.get new leaf ≡ None
    none_still leaf none = elim (same_or_apart leaf root) [
      | inl same ↦ absurd (let has = value_of _ some in not_none _ has.0 (ap (map.get old) (sym same) ∙ none) has.1)
      | inr apart ↦ beside leaf apart ∙ none
    ]

    way : (homes : Homes) (covers : Covers) (leaf was : Leaf) → NearestRoot old homes covers leaf was → NearestRoot new homes covers leaf was
    way homes covers _ _ (itself leaf r has) = elim (same_or_apart leaf root) [
      | inl same ↦ itself leaf rank (ap (map.get new) same ∙ here)
      | inr apart ↦ itself leaf r (beside leaf apart ∙ has)
    ]
    way homes covers _ _ (inherited leaf holder was home none stands holds rest) = inherited leaf holder was home (none_still leaf none) stands holds (way homes covers holder was rest)
