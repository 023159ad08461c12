-- Leaves of other regions are merged.
use Rattle.export_steps.proofs.Common.{BecomesMerged, Bool, CanMerge, Covers, Fragment, HasAuthority, HasLeaf, HaveOneAuthority, Homes, IsInRegion, IsLive, IsMerge, IsRootMerge, IsSome, IsSubtrees, IsTable, IsTree, KeepAuthority, Leaf, List, NearestRoot, Rank, Roots, Some, ap, elsewhere_out, false, here_out, inl, inr, is_inside, is_known, is_some, is_within, itself, leaf_in_dir, leaves_now, leaves_of, leaves_still, merged_is_new, merges_soundly, one_value, outside_of, refl, some_inside, stands_beside, stands_here, subst, sym, tree_of_row, true, value_of, ℕ, ◌↔◌, ◌∙◌, ◌≡◌, ◌≢◌, ◌⊎◌}
use Rattle.std.specs.FinMap as map
use Rattle.sorted_map.proofs.NatKeys as nat
use Rattle.export_steps.proofs.Coloured.{colour, coloured, came, goes_on, nearest_of, of_other, paint_none, paint_same, paint_some, painted_some, valid_to}

module _ (root : Leaf) (old new : Roots) (d : ℕ) (f : Fragment) (is : IsRootMerge old new d f) (homes : Homes) (covers later : Covers) (to : List Fragment) (table : IsTable homes covers) (valid : IsSubtrees old homes covers)
    (can : CanMerge (leaves_of covers d) f) (merge : IsMerge (leaves_of covers d) to f) (tree : IsTree to) (changed : later ≡ map.insert covers d to)
    (is_root : IsSome (map.get old root)) (outside : (leaf : Leaf) → is_inside d f leaf ≡ true → IsLive homes covers leaf → NearestRoot old homes covers leaf root → ⊥) where
  root_stands : IsLive homes covers root
  root_stands = valid.live root is_root

  own : NearestRoot old homes covers root root
  own = let there = value_of _ is_root in itself root there.0 there.1

  -- the root is none of the leaves that are merged, nor what they become
  not_inside : (leaf : Leaf) → is_inside d f leaf ≡ true → leaf ≢ root
  not_inside leaf inside same = outside root (subst (λ k. is_inside d f k ≡ true) same inside) root_stands own

  not_merged : leaf_in_dir d f ≢ root
  not_merged same = merged_is_new (leaves_of covers d) f (tree_of_row homes covers table d) can (subst (λ (k : Leaf). HasLeaf (leaves_of covers k.0.0) k.1) (sym same) root_stands.stands)

  root_outside : is_inside d f root ≡ false
  root_outside = go (is_inside d f root) refl
    where
      go : (b : Bool) → is_inside d f root ≡ b → b ≡ false
      go false at = refl
      go true inside = absurd (not_inside root inside refl)

  -- its rank is as before
  pub stays_placed : map.get new root ≡ map.get old root
  stays_placed = is.others root root_outside (λ same. not_merged (sym same))

  -- where a merged leaf gets its colour from
  painted_from : (rank : Rank) → map.get (coloured root new) (leaf_in_dir d f) ≡ Some rank → (leaf : Leaf) × ((leaf ≡ leaf_in_dir d f) ⊎ (is_inside d f leaf ≡ true)) × (map.get (coloured root old) leaf ≡ Some rank)
  painted_from rank gets =
      let there = painted_some root new (leaf_in_dir d f) (ap is_some gets) in
      let now = value_of _ there in
      let from = is.rank now.0 now.1 in
      let apart : from.0 ≢ root = elim from.1 [
        | inl same ↦ λ it. not_merged (sym same ∙ it)
        | inr inside ↦ not_inside from.0 inside
      ] in
      let is_rank : colour root (leaf_in_dir d f) ≡ rank = one_value _ (colour root (leaf_in_dir d f)) rank (paint_some root new (leaf_in_dir d f) there) gets in
      let same : colour root from.0 ≡ rank = of_other root from.0 apart ∙ sym (of_other root (leaf_in_dir d f) not_merged) ∙ is_rank in
      (from.0, from.1, paint_some root old from.0 (ap is_some from.2) ∙ ap (λ r. Some r) same)

  merge_coloured : IsRootMerge (coloured root old) (coloured root new) d f
  merge_coloured = record {
    gone = λ leaf inside. paint_none root new leaf (is.gone leaf inside);
    others = λ leaf out apart. paint_same root new old leaf (is.others leaf out apart);
    some = λ leaf inside had. ap is_some (paint_some root new (leaf_in_dir d f) (is.some leaf inside (painted_some root old leaf had)));
    rank = painted_from;
  }

  -- the merged leaves are of other colours alike
  outside_colour : (leaf : Leaf) (rank : Rank) → is_inside d f leaf ≡ true → IsLive homes covers leaf → HasAuthority (coloured root old) homes covers leaf rank → rank ≡ record { 0 = 0 }
  outside_colour leaf rank inside stood has =
      let near = nearest_of root old homes covers leaf rank has in
      near.2 ∙ of_other root near.0 (λ same. outside leaf inside stood (subst (NearestRoot old homes covers leaf) same near.1))

  one_colour : HaveOneAuthority (coloured root old) homes covers d f
  one_colour one other a b inside also stood stands has its = outside_colour one a inside stood has ∙ sym (outside_colour other b also stands its)

  keep : KeepAuthority (coloured root old) (coloured root new) homes homes covers later (BecomesMerged d f)
  keep = (merges_soundly (coloured root old) (coloured root new) d f merge_coloured homes covers later to table (valid_to root old homes covers valid) one_colour can merge tree changed).0

  -- a leaf that stands goes on to stand, but for those that are merged
  still : (leaf : Leaf) → IsLive homes covers leaf → is_inside d f leaf ≡ false → IsLive homes later leaf
  still leaf stood out = go (nat.same_or_apart leaf.0.0 d)
    where
      go : (leaf.0.0 ≡ d) ⊎ (leaf.0.0 ≢ d) → IsLive homes later leaf
      go (inr elsewhere) = stands_beside homes covers later d to changed leaf elsewhere stood
      go (inl at) =
          stands_here homes covers later d to changed leaf at (subst (λ e. is_known homes e ≡ true) at stood.known)
          ((merge.leaves leaf.1).1 (inl (subst (λ e. HasLeaf (leaves_of covers e) leaf.1) at stood.stands, outside_of d f leaf at out)))

  -- what stands afterwards stood before, or came of those that are merged
  origin : (leaf : Leaf) → IsLive homes later leaf → (was : Leaf) × IsLive homes covers was × BecomesMerged d f was leaf
  origin leaf stands = go (nat.same_or_apart leaf.0.0 d)
    where
      go : (leaf.0.0 ≡ d) ⊎ (leaf.0.0 ≢ d) → (was : Leaf) × IsLive homes covers was × BecomesMerged d f was leaf
      go (inr elsewhere) = (
        leaf,
        record { known = stands.known; stands = subst (λ ls. HasLeaf ls leaf.1) (leaves_still covers later d to changed leaf.0.0 elsewhere) stands.stands },
        inl (elsewhere_out d f leaf elsewhere, refl),
      )
      go (inl at) = elim ((merge.leaves leaf.1).0 (subst (λ ls. HasLeaf ls leaf.1) (ap (leaves_of later) at ∙ leaves_now covers later d to changed) stands.stands)) [
        | inl (before, out) ↦ (
          leaf,
          record { known = stands.known; stands = subst (λ e. HasLeaf (leaves_of covers e) leaf.1) (sym at) before },
          inl (here_out d f leaf out, refl),
        )
        | inr merged ↦
            let inside = some_inside (leaves_of covers d) f can.some in (
              leaf_in_dir d inside.0,
              record { known = subst (λ e. is_known homes e ≡ true) at stands.known; stands = inside.1 },
              inr (is_within d f (leaf_in_dir d inside.0) refl inside.2, λ i. (record { 0 = at i }, merged i)),
            )
      ]

  pub merge_elsewhere : (leaf : Leaf) → IsInRegion old homes covers root leaf ↔ IsInRegion new homes later root leaf
  merge_elsewhere leaf = (
    λ its.
        let out : is_inside d f leaf ≡ false = not_in leaf its (is_inside d f leaf) refl in
        record {
          stands = still leaf its.stands out;
          nearest = goes_on root old new homes homes covers later (BecomesMerged d f) keep leaf leaf its.stands (inl (out, refl)) its.nearest;
        },
    λ its.
        let from = origin leaf its.stands in
        let near = came root old new homes homes covers later (BecomesMerged d f) keep from.0 leaf table valid from.1 from.2 its.nearest in
        elim from.2 [
          | inl (out, same) ↦ record { stands = subst (IsLive homes covers) (sym same) from.1; nearest = subst (λ k. NearestRoot old homes covers k root) (sym same) near }
          | inr (inside, merged) ↦ absurd (outside from.0 inside from.1 near)
        ],
  )
    where
      not_in : (k : Leaf) → IsInRegion old homes covers root k → (b : Bool) → is_inside d f k ≡ b → b ≡ false
      not_in k its false at = refl
      not_in k its true inside = absurd (outside k inside its.stands its.nearest)
