-- A leaf is split: all leaves keep their authority, and its children have that of the leaf.
use Rattle.subtree_map.proofs.Common.{BecomesSplit, Covers, FitsSplit, Fragment, HasAuthority, HasLeaf, HoldsDentry, Home, Homes, Ino, IsChild, IsLive, IsPick, IsRootSplit, IsSome, IsSplit, IsSubtrees, IsTable, IsTree, KeepAuthority, Leaf, List, None, Rank, Roots, Some, SplitsSoundly, ap, child_after_split, hash_of, inl, inr, is_known, is_some, leaf_in_dir, leaves_of, pick_after_split, refl, same_or_apart, some_pick, subst, sym, tree_of_row, true, ℕ, ◌∙◌, ◌≡◌, ◌≢◌, ◌⊎◌}
use Rattle.std.specs.FinMap as map
use Rattle.sorted_map.proofs.NatKeys as nat
use Rattle.subtree_map.proofs.Options.{not_none, value_of}
use Rattle.subtree_map.proofs.Covers.{leaves_here, leaves_beside, child_is_new, leaves_now, leaves_still}
use Rattle.subtree_map.proofs.Carried.{kept}

-- where the leaf of another directory stands, it stands when one gets other leaves
pub stands_beside : (homes : Homes) (covers later : Covers) (d : ℕ) (to : List Fragment) → later ≡ map.insert covers d to → (leaf : Leaf) → leaf.0.0 ≢ d → IsLive homes covers leaf → IsLive homes later leaf
stands_beside homes covers later d to changed leaf apart is = record {
  known = is.known;
  stands = subst (λ ls. HasLeaf ls leaf.1) (sym (ap (λ c. leaves_of c leaf.0.0) changed ∙ leaves_beside covers d to leaf.0.0 apart)) is.stands;
}

-- and one of those leaves stands
pub stands_here : (homes : Homes) (covers later : Covers) (d : ℕ) (to : List Fragment) → later ≡ map.insert covers d to → (leaf : Leaf) → leaf.0.0 ≡ d → is_known homes d ≡ true → HasLeaf to leaf.1 → IsLive homes later leaf
stands_here homes covers later d to changed leaf here known has = record {
  known = subst (λ e. is_known homes e ≡ true) (sym here) known;
  stands = subst (λ ls. HasLeaf ls leaf.1) (sym (ap (λ e. leaves_of later e) here ∙ ap (λ c. leaves_of c d) changed ∙ leaves_here covers d to)) has;
}

module _ (old new : Roots) (d : ℕ) (f : Fragment) (nb : ℕ) (is : IsRootSplit old new d f nb) (homes : Homes) (covers later : Covers) (to : List Fragment) (table : IsTable homes covers) (valid : IsSubtrees old homes covers)
    (split : IsSplit (leaves_of covers d) to f nb) (has : HasLeaf (leaves_of covers d) f) (fits : FitsSplit f nb) (tree : IsTree to) (changed : later ≡ map.insert covers d to) where
  was : IsTree (leaves_of covers d)
  was = tree_of_row homes covers table d

  -- a leaf that stood is no child of the one that is split
  no_child : (leaf : Leaf) → IsLive homes covers leaf → (g : Fragment) → IsChild f nb g → leaf ≢ leaf_in_dir d g
  no_child leaf stood g child same =
      let there : HasLeaf (leaves_of covers d) g = subst (λ (k : Leaf). HasLeaf (leaves_of covers k.0.0) k.1) same stood.stands in
      child_is_new (leaves_of covers d) f g nb was has fits child there

  unchanged : (leaf : Leaf) → IsLive homes covers leaf → leaf ≢ leaf_in_dir d f → map.get new leaf ≡ map.get old leaf
  unchanged leaf stood apart = is.others leaf apart (no_child leaf stood)

  place : (leaf after : Leaf) → BecomesSplit d f nb leaf after → after.0 ≡ leaf.0
  place leaf after (inl (apart, same)) = ap (λ (k : Leaf). k.0) same
  place leaf after (inr (itself, (g, child, same))) = ap (λ (k : Leaf). k.0) same ∙ sym (ap (λ (k : Leaf). k.0) itself)

  ranked : (leaf after : Leaf) (rank : Rank) → IsLive homes covers leaf → BecomesSplit d f nb leaf after → map.get old leaf ≡ Some rank → map.get new after ≡ Some rank
  ranked leaf after rank stood (inl (apart, same)) ranks = ap (map.get new) same ∙ unchanged leaf stood apart ∙ ranks
  ranked leaf after rank stood (inr (itself, (g, child, same))) ranks =
      let root : map.get old (leaf_in_dir d f) ≡ Some rank = ap (map.get old) (sym itself) ∙ ranks in
      ap (map.get new) same ∙ is.children g child (ap is_some root) ∙ root

  -- a child isn't a root before
  child_is_none : (g : Fragment) → IsChild f nb g → IsSome (map.get old (leaf_in_dir d g)) → ⊥
  child_is_none g child root = no_child (leaf_in_dir d g) (valid.live (leaf_in_dir d g) root) g child refl

  gained : (leaf after : Leaf) (rank now : Rank) → IsLive homes covers leaf → BecomesSplit d f nb leaf after → map.get old leaf ≡ None → HasAuthority old homes covers leaf rank → map.get new after ≡ Some now → now ≡ rank
  gained leaf after rank now stood (inl (apart, same)) none its gets = absurd (not_none _ now (ap (map.get new) same ∙ unchanged leaf stood apart ∙ none) gets)
  gained leaf after rank now stood (inr (itself, (g, child, same))) none its gets =
      let root : IsSome (map.get new (leaf_in_dir d g)) = ap is_some (ap (map.get new) (sym same) ∙ gets) in
      elim (is.made (leaf_in_dir d g) root) [
        | inl before ↦ absurd (child_is_none g child before)
        | inr (split_root, _) ↦ let there = value_of _ split_root in absurd (not_none _ there.0 (ap (map.get old) (sym itself) ∙ none) there.1)
      ]

  holders : (home : Home) (holder : Leaf) → IsLive homes covers holder → HoldsDentry covers home holder → (after : Leaf) × BecomesSplit d f nb holder after × HoldsDentry later home after
  holders home holder stood holds = go (same_or_apart holder (leaf_in_dir d f)) (nat.same_or_apart home.parent.0 d)
    where
      now_at : home.parent.0 ≡ d → leaves_of later home.parent.0 ≡ to
      now_at at = ap (leaves_of later) at ∙ leaves_now covers later d to changed

      old_at : home.parent.0 ≡ d → leaves_of covers home.parent.0 ≡ leaves_of covers d
      old_at at = ap (leaves_of covers) at

      pick_at : home.parent.0 ≡ d → IsPick (leaves_of covers d) (hash_of home.name) holder.1
      pick_at at = subst (λ ls. IsPick ls (hash_of home.name) holder.1) (old_at at) holds.pick

      go : (holder ≡ leaf_in_dir d f) ⊎ (holder ≢ leaf_in_dir d f) → (home.parent.0 ≡ d) ⊎ (home.parent.0 ≢ d) → (after : Leaf) × BecomesSplit d f nb holder after × HoldsDentry later home after
      go (inl itself) _ =
          let at : home.parent.0 ≡ d = ap (λ (p : Ino). p.0) (sym holds.parent) ∙ ap (λ (k : Leaf). k.0.0) itself in
          let pick = some_pick to (hash_of home.name) tree in
          let child = child_after_split (leaves_of covers d) to f tree (hash_of home.name) holder.1 (pick_at at) nb split (ap (λ (k : Leaf). k.1) itself) pick.0 pick.1 in (
            leaf_in_dir d pick.0,
            inr (itself, (pick.0, child, refl)),
            record {
              parent = λ i. record { 0 = sym at i };
              pick = subst (λ ls. IsPick ls (hash_of home.name) pick.0) (sym (now_at at)) pick.1;
            },
          )
      go (inr apart) (inl at) =
          let dir : holder.0.0 ≡ d = ap (λ (p : Ino). p.0) holds.parent ∙ at in
          let other : holder.1 ≢ f = λ same. apart (λ i. (record { 0 = dir i }, same i)) in (
            holder,
            inl (apart, refl),
            record {
              parent = holds.parent;
              pick = subst (λ ls. IsPick ls (hash_of home.name) holder.1) (sym (now_at at)) (pick_after_split (leaves_of covers d) to f tree (hash_of home.name) holder.1 (pick_at at) nb split other);
            },
          )
      go (inr apart) (inr elsewhere) = (
        holder,
        inl (apart, refl),
        record {
          parent = holds.parent;
          pick = subst (λ ls. IsPick ls (hash_of home.name) holder.1) (sym (leaves_still covers later d to changed home.parent.0 elsewhere)) holds.pick;
        },
      )

  still_top : (g : Fragment) → HasLeaf (leaves_of later 1) g → IsSome (map.get new (leaf_in_dir 1 g))
  still_top g there = go (nat.same_or_apart 1 d)
    where
      go : (1 ≡ d) ⊎ (1 ≢ d) → IsSome (map.get new (leaf_in_dir 1 g))
      go (inr apart) =
          let before : HasLeaf (leaves_of covers 1) g = subst (λ ls. HasLeaf ls g) (leaves_still covers later d to changed 1 apart) there in
          let root = valid.top g before in
          ap is_some (unchanged (leaf_in_dir 1 g) (valid.live (leaf_in_dir 1 g) root) (λ same. apart (ap (λ (k : Leaf). k.0.0) same))) ∙ root
      go (inl at) = elim ((split.leaves g).0 (subst (λ ls. HasLeaf ls g) (ap (leaves_of later) at ∙ leaves_now covers later d to changed) there)) [
        | inl (before, other) ↦
            let root = valid.top g (subst (λ e. HasLeaf (leaves_of covers e) g) (sym at) before) in
            ap is_some (unchanged (leaf_in_dir 1 g) (valid.live (leaf_in_dir 1 g) root) (λ same. other (ap (λ (k : Leaf). k.1) same))) ∙ root
        | inr child ↦
            let root : IsSome (map.get old (leaf_in_dir d f)) = subst (λ e. IsSome (map.get old (leaf_in_dir e f))) at (valid.top f (subst (λ e. HasLeaf (leaves_of covers e) f) (sym at) has)) in
            subst (λ e. IsSome (map.get new (leaf_in_dir e g))) (sym at) (ap is_some (is.children g child root) ∙ root)
      ]

  still_live : (root : Leaf) → IsSome (map.get new root) → IsLive homes later root
  still_live root there = elim (is.made root there) [
    | inl before ↦ stood (valid.live root before) (nat.same_or_apart root.0.0 d) (same_or_apart root (leaf_in_dir d f))
    | inr (split_root, (g, child, same)) ↦ subst (IsLive homes later) (sym same) (stands_here homes covers later d to changed (leaf_in_dir d g) refl (valid.live (leaf_in_dir d f) split_root).known ((split.leaves g).1 (inr child)))
  ]
    where
      stood : IsLive homes covers root → (root.0.0 ≡ d) ⊎ (root.0.0 ≢ d) → (root ≡ leaf_in_dir d f) ⊎ (root ≢ leaf_in_dir d f) → IsLive homes later root
      stood live _ (inl itself) = let gone = value_of _ there in absurd (not_none _ gone.0 (ap (map.get new) itself ∙ is.gone) gone.1)
      stood live (inr apart) _ = stands_beside homes covers later d to changed root apart live
      stood live (inl at) (inr apart) =
          let other : root.1 ≢ f = λ same. apart (λ i. (record { 0 = at i }, same i)) in
          let before : HasLeaf (leaves_of covers d) root.1 = subst (λ e. HasLeaf (leaves_of covers e) root.1) at live.stands in
          stands_here homes covers later d to changed root at (subst (λ e. is_known homes e ≡ true) at live.known) ((split.leaves root.1).1 (inl (before, other)))

  pub sound : KeepAuthority old new homes homes covers later (BecomesSplit d f nb) × IsSubtrees new homes later
  sound = (kept old new homes covers later table (BecomesSplit d f nb) place ranked gained holders, record { top = still_top; live = still_live })

pub splits_soundly : (old new : Roots) (d : ℕ) (f : Fragment) (nb : ℕ) → IsRootSplit old new d f nb → SplitsSoundly old new d f nb
splits_soundly old new d f nb is homes covers later to table valid split has fits tree changed = sound old new d f nb is homes covers later to table valid split has fits tree changed
