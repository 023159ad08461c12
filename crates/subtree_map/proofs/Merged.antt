-- Leaves of one authority are merged: all leaves keep their authority, and the merged leaf has theirs.
use Rattle.subtree_map.proofs.Common.{BecomesMerged, Bool, CanMerge, Covers, Fragment, HasAuthority, HasLeaf, HaveOneAuthority, HoldsDentry, Home, Homes, Ino, IsLive, IsMerge, IsPick, IsRootMerge, IsSome, IsSubtrees, IsTable, IsTree, KeepAuthority, Leaf, List, MergesSoundly, None, Rank, Roots, Some, and_from, and_left, and_parts, and_right, ap, eqb-true, false, hash_of, inl, inr, is_inside, is_known, is_some, itself, leaf_in_dir, leaves_of, lies_inside, merged_after_merge, pick_after_merge, refl, same_or_apart, subst, sym, tree_of_row, true, ℕ, ◌&&◌, ◌==◌, ◌∙◌, ◌≡◌, ◌≢◌, ◌⊎◌}
use Rattle.std.specs.FinMap as map
use Rattle.sorted_map.proofs.NatKeys as nat
use Rattle.subtree_map.proofs.Options.{not_none, value_of}
use Rattle.subtree_map.proofs.Covers.{merged_is_new, some_inside, leaves_now, leaves_still}
use Rattle.subtree_map.proofs.Split.{stands_beside, stands_here}
use Rattle.subtree_map.proofs.Carried.{kept}

pub inside_at : (d : ℕ) (f : Fragment) (leaf : Leaf) → is_inside d f leaf ≡ true → leaf.0.0 ≡ d
inside_at d f leaf inside = eqb-true leaf.0.0 d (and_parts _ _ inside).0

pub inside_of : (d : ℕ) (f : Fragment) (leaf : Leaf) → is_inside d f leaf ≡ true → lies_inside f leaf.1 ≡ true
inside_of d f leaf inside = (and_parts (leaf.0.0 == d) _ inside).1

pub is_within : (d : ℕ) (f : Fragment) (leaf : Leaf) → leaf.0.0 ≡ d → lies_inside f leaf.1 ≡ true → is_inside d f leaf ≡ true
is_within d f leaf at inside = and_from _ _ (nat.is_same leaf.0.0 d at) inside

pub outside_of : (d : ℕ) (f : Fragment) (leaf : Leaf) → leaf.0.0 ≡ d → is_inside d f leaf ≡ false → lies_inside f leaf.1 ≡ false
outside_of d f leaf at outside = sym (ap (λ b. b && lies_inside f leaf.1) (nat.is_same leaf.0.0 d at)) ∙ outside

-- outside of the directory nothing is inside the fragment
pub elsewhere_out : (d : ℕ) (f : Fragment) (leaf : Leaf) → leaf.0.0 ≢ d → is_inside d f leaf ≡ false
elsewhere_out d f leaf apart = and_left _ (lies_inside f leaf.1) (nat.is_apart leaf.0.0 d apart)

pub here_out : (d : ℕ) (f : Fragment) (leaf : Leaf) → lies_inside f leaf.1 ≡ false → is_inside d f leaf ≡ false
here_out d f leaf outside = and_right (leaf.0.0 == d) _ outside

module _ (old new : Roots) (d : ℕ) (f : Fragment) (is : IsRootMerge old new d f) (homes : Homes) (covers later : Covers) (to : List Fragment) (table : IsTable homes covers) (valid : IsSubtrees old homes covers)
    (one : HaveOneAuthority old homes covers d f) (can : CanMerge (leaves_of covers d) f) (merge : IsMerge (leaves_of covers d) to f) (tree : IsTree to) (changed : later ≡ map.insert covers d to) where
  was : IsTree (leaves_of covers d)
  was = tree_of_row homes covers table d

  -- a leaf that stood isn't the merged one
  not_merged : (leaf : Leaf) → IsLive homes covers leaf → leaf ≢ leaf_in_dir d f
  not_merged leaf stood same = merged_is_new (leaves_of covers d) f was can (subst (λ (k : Leaf). HasLeaf (leaves_of covers k.0.0) k.1) same stood.stands)

  unchanged : (leaf : Leaf) → IsLive homes covers leaf → is_inside d f leaf ≡ false → map.get new leaf ≡ map.get old leaf
  unchanged leaf stood outside = is.others leaf outside (not_merged leaf stood)

  -- the rank of the merged leaf is the authority of those that it came from
  rank_is : (leaf : Leaf) (rank now : Rank) → IsLive homes covers leaf → is_inside d f leaf ≡ true → HasAuthority old homes covers leaf rank → map.get new (leaf_in_dir d f) ≡ Some now → now ≡ rank
  rank_is leaf rank now stood inside has gets =
      let from = is.rank now gets in
      let live = valid.live from.0 (ap is_some from.2) in
      let own : HasAuthority old homes covers from.0 now = record { root = from.0; nearest = itself from.0 now from.2; ranked = from.2 } in
      elim from.1 [
        | inl same ↦ absurd (not_merged from.0 live same)
        | inr its ↦ one from.0 leaf now rank its inside live stood own has
      ]

  place : (leaf after : Leaf) → BecomesMerged d f leaf after → after.0 ≡ leaf.0
  place leaf after (inl (outside, same)) = ap (λ (k : Leaf). k.0) same
  place leaf after (inr (inside, same)) = let at = inside_at d f leaf inside in ap (λ (k : Leaf). k.0) same ∙ (λ i. record { 0 = sym at i })

  ranked : (leaf after : Leaf) (rank : Rank) → IsLive homes covers leaf → BecomesMerged d f leaf after → map.get old leaf ≡ Some rank → map.get new after ≡ Some rank
  ranked leaf after rank stood (inl (outside, same)) ranks = ap (map.get new) same ∙ unchanged leaf stood outside ∙ ranks
  ranked leaf after rank stood (inr (inside, same)) ranks =
      let now = value_of _ (is.some leaf inside (ap is_some ranks)) in
      let equal = rank_is leaf rank now.0 stood inside (record { root = leaf; nearest = itself leaf rank ranks; ranked = ranks }) now.1 in
      ap (map.get new) same ∙ now.1 ∙ ap (λ r. Some r) equal

  gained : (leaf after : Leaf) (rank now : Rank) → IsLive homes covers leaf → BecomesMerged d f leaf after → map.get old leaf ≡ None → HasAuthority old homes covers leaf rank → map.get new after ≡ Some now → now ≡ rank
  gained leaf after rank now stood (inl (outside, same)) none its gets = absurd (not_none _ now (ap (map.get new) same ∙ unchanged leaf stood outside ∙ none) gets)
  gained leaf after rank now stood (inr (inside, same)) none its gets = rank_is leaf rank now stood inside its (ap (map.get new) (sym same) ∙ gets)

  holders : (home : Home) (holder : Leaf) → IsLive homes covers holder → HoldsDentry covers home holder → (after : Leaf) × BecomesMerged d f holder after × HoldsDentry later home after
  holders home holder stood holds = go (is_inside d f holder) refl (nat.same_or_apart home.parent.0 d)
    where
      now_at : home.parent.0 ≡ d → leaves_of later home.parent.0 ≡ to
      now_at at = ap (leaves_of later) at ∙ leaves_now covers later d to changed

      pick_at : home.parent.0 ≡ d → IsPick (leaves_of covers d) (hash_of home.name) holder.1
      pick_at at = subst (λ e. IsPick (leaves_of covers e) (hash_of home.name) holder.1) at holds.pick

      go : (b : Bool) → is_inside d f holder ≡ b → (home.parent.0 ≡ d) ⊎ (home.parent.0 ≢ d) → (after : Leaf) × BecomesMerged d f holder after × HoldsDentry later home after
      go true inside _ =
          let at : home.parent.0 ≡ d = ap (λ (p : Ino). p.0) (sym holds.parent) ∙ inside_at d f holder inside in (
            leaf_in_dir d f,
            inr (inside, refl),
            record {
              parent = λ i. record { 0 = sym at i };
              pick = subst (λ ls. IsPick ls (hash_of home.name) f) (sym (now_at at)) (merged_after_merge (leaves_of covers d) to f tree (hash_of home.name) holder.1 (pick_at at) was merge (inside_of d f holder inside));
            },
          )
      go false outside (inl at) =
          let dir : holder.0.0 ≡ d = ap (λ (p : Ino). p.0) holds.parent ∙ at in (
            holder,
            inl (outside, refl),
            record {
              parent = holds.parent;
              pick = subst (λ ls. IsPick ls (hash_of home.name) holder.1) (sym (now_at at)) (pick_after_merge (leaves_of covers d) to f tree (hash_of home.name) holder.1 (pick_at at) merge (outside_of d f holder dir outside));
            },
          )
      go false outside (inr elsewhere) = (
        holder,
        inl (outside, refl),
        record {
          parent = holds.parent;
          pick = subst (λ ls. IsPick ls (hash_of home.name) holder.1) (sym (leaves_still covers later d to changed home.parent.0 elsewhere)) holds.pick;
        },
      )

  still_top : (g : Fragment) → HasLeaf (leaves_of later 1) g → IsSome (map.get new (leaf_in_dir 1 g))
  still_top g there = go (nat.same_or_apart 1 d)
    where
      go : (1 ≡ d) ⊎ (1 ≢ d) → IsSome (map.get new (leaf_in_dir 1 g))
      go (inr apart) =
          let root = valid.top g (subst (λ ls. HasLeaf ls g) (leaves_still covers later d to changed 1 apart) there) in
          ap is_some (unchanged (leaf_in_dir 1 g) (valid.live (leaf_in_dir 1 g) root) (elsewhere_out d f (leaf_in_dir 1 g) apart)) ∙ root
      go (inl at) = elim ((merge.leaves g).0 (subst (λ ls. HasLeaf ls g) (ap (leaves_of later) at ∙ leaves_now covers later d to changed) there)) [
        | inl (before, outside) ↦
            let root = valid.top g (subst (λ e. HasLeaf (leaves_of covers e) g) (sym at) before) in
            let out : is_inside d f (leaf_in_dir 1 g) ≡ false = subst (λ e. is_inside d f (leaf_in_dir e g) ≡ false) (sym at) (here_out d f (leaf_in_dir d g) outside) in
            ap is_some (unchanged (leaf_in_dir 1 g) (valid.live (leaf_in_dir 1 g) root) out) ∙ root
        | inr merged ↦
            let inside = some_inside (leaves_of covers d) f can.some in
            let root = valid.top inside.0 (subst (λ e. HasLeaf (leaves_of covers e) inside.0) (sym at) inside.1) in
            subst (λ h. IsSome (map.get new (leaf_in_dir 1 h))) (sym merged) (subst (λ e. IsSome (map.get new (leaf_in_dir e f))) (sym at) (is.some (leaf_in_dir 1 inside.0) (is_within d f (leaf_in_dir 1 inside.0) at inside.2) root))
      ]

  still_live : (root : Leaf) → IsSome (map.get new root) → IsLive homes later root
  still_live root there = go (same_or_apart root (leaf_in_dir d f)) (is_inside d f root) refl
    where
      known_d : IsSome (map.get new (leaf_in_dir d f)) → is_known homes d ≡ true
      known_d some =
          let now = value_of _ some in
          let from = is.rank now.0 now.1 in
          let live = valid.live from.0 (ap is_some from.2) in
          elim from.1 [
            | inl same ↦ subst (λ e. is_known homes e ≡ true) (ap (λ (k : Leaf). k.0.0) same) live.known
            | inr inside ↦ subst (λ e. is_known homes e ≡ true) (inside_at d f from.0 inside) live.known
          ]

      stood : is_inside d f root ≡ false → IsLive homes covers root → (root.0.0 ≡ d) ⊎ (root.0.0 ≢ d) → IsLive homes later root
      stood outside live (inr apart) = stands_beside homes covers later d to changed root apart live
      stood outside live (inl at) =
          stands_here homes covers later d to changed root at (subst (λ e. is_known homes e ≡ true) at live.known)
          ((merge.leaves root.1).1 (inl (subst (λ e. HasLeaf (leaves_of covers e) root.1) at live.stands, outside_of d f root at outside)))

      go : (root ≡ leaf_in_dir d f) ⊎ (root ≢ leaf_in_dir d f) → (b : Bool) → is_inside d f root ≡ b → IsLive homes later root
      go (inl same) _ _ =
          subst (IsLive homes later) (sym same)
          (stands_here homes covers later d to changed (leaf_in_dir d f) refl (known_d (subst (λ k. IsSome (map.get new k)) same there)) ((merge.leaves f).1 (inr refl)))
      go (inr apart) true inside = let gone = value_of _ there in absurd (not_none _ gone.0 (is.gone root inside) gone.1)
      go (inr apart) false outside = stood outside (valid.live root (ap is_some (sym (is.others root outside apart)) ∙ there)) (nat.same_or_apart root.0.0 d)

  pub sound : KeepAuthority old new homes homes covers later (BecomesMerged d f) × IsSubtrees new homes later
  sound = (kept old new homes covers later table (BecomesMerged d f) place ranked gained holders, record { top = still_top; live = still_live })

pub merges_soundly : (old new : Roots) (d : ℕ) (f : Fragment) → IsRootMerge old new d f → MergesSoundly old new d f
merges_soundly old new d f is homes covers later to table valid one can merge tree changed = sound old new d f is homes covers later to table valid one can merge tree changed
