-- A leaf of another region is split.
use Rattle.export_steps.proofs.Common.{BecomesSplit, Covers, FitsSplit, Fragment, HasLeaf, Homes, IsChild, IsInRegion, IsLive, IsRootSplit, IsSome, IsSplit, IsSubtrees, IsTable, IsTree, KeepAuthority, Leaf, List, NearestRoot, Roots, Some, ap, child_is_new, inl, inr, is_known, is_some, itself, leaf_in_dir, leaves_now, leaves_of, leaves_still, refl, splits_soundly, stands_beside, stands_here, subst, sym, tree_of_row, true, value_of, ℕ, ◌↔◌, ◌∙◌, ◌≡◌, ◌≢◌, ◌⊎◌}
use Rattle.std.specs.FinMap as map
use Rattle.sorted_map.proofs.NatKeys as nat
use Rattle.export_steps.proofs.Coloured.{coloured, came, goes_on, of_other, paint_none, paint_same, paint_some, painted_some, valid_to}

module _ (root : Leaf) (old new : Roots) (d : ℕ) (f : Fragment) (nb : ℕ) (is : IsRootSplit old new d f nb) (homes : Homes) (covers later : Covers) (to : List Fragment) (table : IsTable homes covers) (valid : IsSubtrees old homes covers)
    (split : IsSplit (leaves_of covers d) to f nb) (has : HasLeaf (leaves_of covers d) f) (fits : FitsSplit f nb) (tree : IsTree to) (changed : later ≡ map.insert covers d to)
    (is_root : IsSome (map.get old root)) (outside : NearestRoot old homes covers (leaf_in_dir d f) root → ⊥) where
  not_split : leaf_in_dir d f ≢ root
  not_split same =
      let there = value_of _ is_root in
      outside (subst (λ k. NearestRoot old homes covers k root) (sym same) (itself root there.0 there.1))

  not_child : (g : Fragment) → IsChild f nb g → leaf_in_dir d g ≢ root
  not_child g child same =
      let there : HasLeaf (leaves_of covers d) g = subst (λ (k : Leaf). HasLeaf (leaves_of covers k.0.0) k.1) (sym same) (valid.live root is_root).stands in
      child_is_new (leaves_of covers d) f g nb (tree_of_row homes covers table d) has fits child there

  -- its rank is as before
  pub stays_placed : map.get new root ≡ map.get old root
  stays_placed = is.others root (λ same. not_split (sym same)) (λ g child same. not_child g child (sym same))

  split_coloured : IsRootSplit (coloured root old) (coloured root new) d f nb
  split_coloured = record {
    children = λ g child some.
        let was : IsSome (map.get old (leaf_in_dir d f)) = painted_some root old (leaf_in_dir d f) some in
        let now : IsSome (map.get new (leaf_in_dir d g)) = ap is_some (is.children g child was) ∙ was in
        paint_some root new (leaf_in_dir d g) now ∙ ap (λ r. Some r) (of_other root (leaf_in_dir d g) (not_child g child) ∙ sym (of_other root (leaf_in_dir d f) not_split)) ∙ sym (paint_some root old (leaf_in_dir d f) was);
    gone = paint_none root new (leaf_in_dir d f) is.gone;
    others = λ leaf apart none. paint_same root new old leaf (is.others leaf apart none);
    made = λ leaf some. elim (is.made leaf (painted_some root new leaf some)) [
      | inl before ↦ inl (ap is_some (paint_some root old leaf before))
      | inr (was, child) ↦ inr (ap is_some (paint_some root old (leaf_in_dir d f) was), child)
    ];
  }

  keep : KeepAuthority (coloured root old) (coloured root new) homes homes covers later (BecomesSplit d f nb)
  keep = (splits_soundly (coloured root old) (coloured root new) d f nb split_coloured homes covers later to table (valid_to root old homes covers valid) split has fits tree changed).0

  -- a leaf that stands goes on to stand, but for the one that is split
  still : (leaf : Leaf) → IsLive homes covers leaf → leaf ≢ leaf_in_dir d f → IsLive homes later leaf
  still leaf stood apart = go (nat.same_or_apart leaf.0.0 d)
    where
      go : (leaf.0.0 ≡ d) ⊎ (leaf.0.0 ≢ d) → IsLive homes later leaf
      go (inr elsewhere) = stands_beside homes covers later d to changed leaf elsewhere stood
      go (inl at) =
          let other : leaf.1 ≢ f = λ same. apart (λ i. (record { 0 = at i }, same i)) in
          let before : HasLeaf (leaves_of covers d) leaf.1 = subst (λ e. HasLeaf (leaves_of covers e) leaf.1) at stood.stands in
          stands_here homes covers later d to changed leaf at (subst (λ e. is_known homes e ≡ true) at stood.known) ((split.leaves leaf.1).1 (inl (before, other)))

  -- what stands afterwards stood before, or is a child of the one that is split
  origin : (leaf : Leaf) → IsLive homes later leaf → (was : Leaf) × IsLive homes covers was × BecomesSplit d f nb was leaf
  origin leaf stands = go (nat.same_or_apart leaf.0.0 d)
    where
      go : (leaf.0.0 ≡ d) ⊎ (leaf.0.0 ≢ d) → (was : Leaf) × IsLive homes covers was × BecomesSplit d f nb was leaf
      go (inr elsewhere) = (
        leaf,
        record { known = stands.known; stands = subst (λ ls. HasLeaf ls leaf.1) (leaves_still covers later d to changed leaf.0.0 elsewhere) stands.stands },
        inl (λ same. elsewhere (ap (λ (k : Leaf). k.0.0) same), refl),
      )
      go (inl at) = elim ((split.leaves leaf.1).0 (subst (λ ls. HasLeaf ls leaf.1) (ap (leaves_of later) at ∙ leaves_now covers later d to changed) stands.stands)) [
        | inl (before, other) ↦ (
          leaf,
          record { known = stands.known; stands = subst (λ e. HasLeaf (leaves_of covers e) leaf.1) (sym at) before },
          inl (λ same. other (ap (λ (k : Leaf). k.1) same), refl),
        )
        | inr child ↦ (
          leaf_in_dir d f,
          record { known = subst (λ e. is_known homes e ≡ true) at stands.known; stands = has },
          inr (refl, (leaf.1, child, λ i. (record { 0 = at i }, leaf.1))),
        )
      ]

  pub split_elsewhere : (leaf : Leaf) → IsInRegion old homes covers root leaf ↔ IsInRegion new homes later root leaf
  split_elsewhere leaf = (
    λ its.
        let apart : leaf ≢ leaf_in_dir d f = λ same. outside (subst (λ k. NearestRoot old homes covers k root) same its.nearest) in
        record {
          stands = still leaf its.stands apart;
          nearest = goes_on root old new homes homes covers later (BecomesSplit d f nb) keep leaf leaf its.stands (inl (apart, refl)) its.nearest;
        },
    λ its.
        let from = origin leaf its.stands in
        let near = came root old new homes homes covers later (BecomesSplit d f nb) keep from.0 leaf table valid from.1 from.2 its.nearest in
        elim from.2 [
          | inl (apart, same) ↦ record { stands = subst (IsLive homes covers) (sym same) from.1; nearest = subst (λ k. NearestRoot old homes covers k root) (sym same) near }
          | inr (itself_split, child) ↦ absurd (outside (subst (λ k. NearestRoot old homes covers k root) itself_split near))
        ],
  )
