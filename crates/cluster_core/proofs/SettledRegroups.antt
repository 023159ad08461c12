-- What is pinned away once a leaf was split, or leaves were merged, was pinned away before, it or one of the leaves that it came of.
use Rattle.cluster_core.proofs.Common.{Core, Covers, DirPins, Entry, Fragment, HasAuthority, HasLeaf, HasPin, HaveOneAuthority, Homes, Ino, IsAway, IsChild, IsLive, IsMergedInto, IsRootMerge, IsRootSplit, IsSome, IsSound, IsSplitInto, KeepsAuthorities, Leaf, List, None, Opening, Option, Rank, Rules, Some, ap, children_have, elsewhere_out, false, here_out, inl, inr, inside_at, is_inside, is_some, leaves_of, length, lies_inside, one_authority, or_whole, refl, same_or_apart, some_authority, some_inside, subst, sym, takes_over, true, ℕ, ◌<◌, ◌∙◌, ◌≡◌, ◌⊎◌}
use Rattle.std.specs.FinMap as map
use Rattle.sorted_map.proofs.NatKeys.{get_beside, get_put}
use Rattle.mds_types.proofs.LeafLaws.{same_or_apart as same_leaf_or_apart}
use Rattle.subtree_map.proofs.Merged.{is_within}
use Rattle.mdcache.specs.State.{State as TreeState}

module _ (opening : Opening) (past : List Entry) (old new : Core) (sound : IsSound opening past old) (ranks : length new.state.numbers ≡ length old.state.numbers)
    (authorities : KeepsAuthorities old.state.tree new.state.tree old.state.roots new.state.roots)
    (rank : Rank) (leaf : Leaf) (to : Rank) (away : IsAway new.state rank leaf to) where
  abbrev Place : Leaf → Type 0
  Place at = IsSome (map.get old.state.roots at) ⊎ IsSome (map.get old.state.tree.pins at.0.0)

  module _ (homes : new.state.tree.homes ≡ old.state.tree.homes) (pins : new.state.tree.pins ≡ old.state.tree.pins) where
    -- so is a leaf of this directory that was, if its authority is this rank
    was : (at : Leaf) → at.0.0 ≡ leaf.0.0 → IsLive old.state.tree.homes old.state.tree.covers at → Place at → ((r : Rank) → Rules old.state.tree old.state.roots at r → r ≡ rank) → IsAway old.state rank at to
    was at same live place one = record {
      live = live;
      mine = subst (λ (r : Rank). HasAuthority old.state.roots old.state.tree.homes old.state.tree.covers at r) (one some.0 some.1) some.1;
      place = place;
      pin = subst (λ d. HasPin old.state.tree.pins old.state.tree.homes d to) (sym same)
          (subst (λ (p : DirPins). HasPin p old.state.tree.homes leaf.0.0 to) pins (subst (λ (h : Homes). HasPin new.state.tree.pins h leaf.0.0 to) homes away.pin));
      other = away.other;
      there = subst (λ n. to.0 < n) ranks away.there;
    }
      where
        some : (r : Rank) × HasAuthority old.state.roots old.state.tree.homes old.state.tree.covers at r
        some = some_authority old.state.roots old.state.tree.homes old.state.tree.covers sound.tree.sound.table sound.subtrees at live

    -- so is this leaf, if it stood
    itself : IsLive old.state.tree.homes old.state.tree.covers leaf → Place leaf → IsAway old.state rank leaf to
    itself live place = was leaf refl live place (λ r has. one_authority new.state.roots new.state.tree.homes new.state.tree.covers leaf r rank (authorities leaf r live away.live has) away.mine)

    -- so is one whose authority the leaf has
    came_of : (at now : Leaf) → leaf ≡ now → at.0.0 ≡ now.0.0 → IsLive old.state.tree.homes old.state.tree.covers at → Place at → ((r : Rank) → Rules old.state.tree old.state.roots at r → Rules new.state.tree new.state.roots now r) → IsAway old.state rank at to
    came_of at now is same live place gives =
        was at (same ∙ sym (ap (λ (l : Leaf). l.0.0) is)) live place
        (λ r has. one_authority new.state.roots new.state.tree.homes new.state.tree.covers now r rank (gives r has) (subst (λ (l : Leaf). HasAuthority new.state.roots new.state.tree.homes new.state.tree.covers l rank) is away.mine))

    -- the pin of its own that its directory has it had
    pinned : IsSome (map.get new.state.tree.pins leaf.0.0) → IsSome (map.get old.state.tree.pins leaf.0.0)
    pinned some = subst (λ (p : DirPins). IsSome (map.get p leaf.0.0)) pins some

    known : IsLive old.state.tree.homes new.state.tree.covers leaf
    known = subst (λ (h : Homes). IsLive h new.state.tree.covers leaf) homes away.live

    module _ (dir : Ino) (cover : List Fragment) (covers : new.state.tree.covers ≡ map.insert old.state.tree.covers dir.0 cover) where
      -- a leaf of another directory stood
      elsewhere : (leaf.0.0 ≡ dir.0 → ⊥) → IsLive old.state.tree.homes old.state.tree.covers leaf
      elsewhere apart = record {
        known = known.known;
        stands = subst (λ (o : Option (List Fragment)). HasLeaf (or_whole o) leaf.1) (ap (λ (c : Covers). map.get c leaf.0.0) covers ∙ get_beside old.state.tree.covers dir.0 cover leaf.0.0 apart) known.stands;
      }

      here : leaf.0.0 ≡ dir.0 → HasLeaf cover leaf.1
      here same = subst (λ (o : Option (List Fragment)). HasLeaf (or_whole o) leaf.1) (ap (λ (c : Covers). map.get c leaf.0.0) covers ∙ ap (map.get (map.insert old.state.tree.covers dir.0 cover)) same ∙ get_put old.state.tree.covers dir.0 cover) known.stands

      stood : leaf.0.0 ≡ dir.0 → HasLeaf (leaves_of old.state.tree.covers dir.0) leaf.1 → IsLive old.state.tree.homes old.state.tree.covers leaf
      stood same has = record { known = known.known; stands = subst (λ d. HasLeaf (leaves_of old.state.tree.covers d) leaf.1) (sym same) has }

      this : leaf.0.0 ≡ dir.0 → leaf ≡ (dir, leaf.1)
      this same = let it : leaf.0 ≡ dir = ap (λ (d : ℕ). record { 0 = d }) same in ap (λ (d : Ino). (d, leaf.1)) it

  module _ (dir : Ino) (f : Fragment) where
    abbrev Some-away : Type 0
    Some-away = (at : Leaf) × IsAway old.state rank at to

    module _ (nb : ℕ) (split : IsSplitInto old.state.tree new.state.tree dir f nb) (roots : IsRootSplit old.state.roots new.state.roots dir.0 f nb) where
      pub split_away : Some-away
      split_away = go away.place
        where
          homes : new.state.tree.homes ≡ old.state.tree.homes
          homes = ap (λ (t : TreeState). t.homes) split.regrouped.left

          pins : new.state.tree.pins ≡ old.state.tree.pins
          pins = ap (λ (t : TreeState). t.pins) split.regrouped.left

          covers : new.state.tree.covers ≡ map.insert old.state.tree.covers dir.0 split.cover
          covers = ap (λ (t : TreeState). t.covers) split.regrouped.left

          whole : IsLive old.state.tree.homes old.state.tree.covers (dir, f)
          whole = record { known = split.regrouped.known; stands = split.can.stands }

          child : (g : Fragment) → IsChild f nb g → leaf ≡ (dir, g) → Place (dir, f) → Some-away
          child g is same place =
              ((dir, f), came_of homes pins (dir, f) (dir, g) same refl whole place (λ r has. children_have old.state.tree new.state.tree old.state.roots new.state.roots sound.tree.sound sound.subtrees dir f nb split roots g r is has))

          go : IsSome (map.get new.state.roots leaf) ⊎ IsSome (map.get new.state.tree.pins leaf.0.0) → Some-away
          go (inl some) = by (roots.made leaf some)
            where
              by : IsSome (map.get old.state.roots leaf) ⊎ (IsSome (map.get old.state.roots (dir, f)) × ((g : Fragment) × IsChild f nb g × (leaf ≡ (dir, g)))) → Some-away
              by (inl root) = (leaf, itself homes pins (sound.subtrees.live leaf root) (inl root))
              by (inr (some, (g, is, same))) = child g is same (inl some)
          go (inr pin) = at (same_or_apart leaf.0.0 dir.0)
            where
              has : IsSome (map.get old.state.tree.pins leaf.0.0)
              has = pinned homes pins pin

              at : (leaf.0.0 ≡ dir.0) ⊎ (leaf.0.0 ≡ dir.0 → ⊥) → Some-away
              at (inr apart) = (leaf, itself homes pins (elsewhere homes pins dir split.cover covers apart) (inr has))
              at (inl same) = by ((split.divided.leaves leaf.1).0 (here homes pins dir split.cover covers same))
                where
                  by : (HasLeaf (leaves_of old.state.tree.covers dir.0) leaf.1 × (leaf.1 ≡ f → ⊥)) ⊎ IsChild f nb leaf.1 → Some-away
                  by (inl (stands, apart)) = (leaf, itself homes pins (stood homes pins dir split.cover covers same stands) (inr has))
                  by (inr is) = child leaf.1 is (this homes pins dir split.cover covers same) (inr (subst (λ d. IsSome (map.get old.state.tree.pins d)) same has))

    module _ (merge : IsMergedInto old.state.tree new.state.tree dir f) (roots : IsRootMerge old.state.roots new.state.roots dir.0 f) (one : HaveOneAuthority old.state.roots old.state.tree.homes old.state.tree.covers dir.0 f) where
      pub merge_away : Some-away
      merge_away = at (same_or_apart leaf.0.0 dir.0)
        where
          homes : new.state.tree.homes ≡ old.state.tree.homes
          homes = ap (λ (t : TreeState). t.homes) merge.regrouped.left

          pins : new.state.tree.pins ≡ old.state.tree.pins
          pins = ap (λ (t : TreeState). t.pins) merge.regrouped.left

          covers : new.state.tree.covers ≡ map.insert old.state.tree.covers dir.0 merge.cover
          covers = ap (λ (t : TreeState). t.covers) merge.regrouped.left

          -- one of those that were merged
          part : (g : Leaf) → is_inside dir.0 f g ≡ true → IsLive old.state.tree.homes old.state.tree.covers g → Place g → leaf ≡ (dir, f) → Some-away
          part g inside live place same =
              (g, came_of homes pins g (dir, f) same (inside_at dir.0 f g inside) live place (λ r has. takes_over old.state.tree new.state.tree old.state.roots new.state.roots sound.tree.sound sound.subtrees dir f merge roots one g r inside live has))

          -- a root that isn't the merged leaf was one
          root_was : (leaf ≡ (dir, f) → ⊥) → is_inside dir.0 f leaf ≡ false → IsSome (map.get new.state.roots leaf) → IsSome (map.get old.state.roots leaf)
          root_was apart out some = ap is_some (sym (roots.others leaf out apart)) ∙ some

          place_was : (leaf ≡ (dir, f) → ⊥) → is_inside dir.0 f leaf ≡ false → Place leaf
          place_was apart out = go away.place
            where
              go : IsSome (map.get new.state.roots leaf) ⊎ IsSome (map.get new.state.tree.pins leaf.0.0) → Place leaf
              go (inl root) = inl (root_was apart out root)
              go (inr pin) = inr (pinned homes pins pin)

          -- the merged leaf
          merged : leaf ≡ (dir, f) → Some-away
          merged same = go away.place
            where
              go : IsSome (map.get new.state.roots leaf) ⊎ IsSome (map.get new.state.tree.pins leaf.0.0) → Some-away
              go (inr pin) =
                  let inner = some_inside (leaves_of old.state.tree.covers dir.0) f merge.can.some in
                  part (dir, inner.0) (is_within dir.0 f (dir, inner.0) refl inner.2) (record { known = merge.regrouped.known; stands = inner.1 })
                  (inr (subst (λ d. IsSome (map.get old.state.tree.pins d)) (ap (λ (l : Leaf). l.0.0) same) (pinned homes pins pin))) same
              go (inl root) = by (map.get new.state.roots (dir, f)) refl (subst (λ (l : Leaf). IsSome (map.get new.state.roots l)) same root)
                where
                  by : (o : Option Rank) → map.get new.state.roots (dir, f) ≡ o → IsSome o → Some-away
                  by None is some = let clash : false ≡ true = some in cc
                  by (Some r) is some = of (roots.rank r is)
                    where
                      of : (g : Leaf) × ((g ≡ (dir, f)) ⊎ (is_inside dir.0 f g ≡ true)) × (map.get old.state.roots g ≡ Some r) → Some-away
                      of (g, inl its, stands) =
                          let had : IsSome (map.get old.state.roots leaf) = ap (λ (l : Leaf). is_some (map.get old.state.roots l)) (same ∙ sym its) ∙ ap is_some stands in
                          (leaf, itself homes pins (sound.subtrees.live leaf had) (inl had))
                      of (g, inr inside, stands) = part g inside (sound.subtrees.live g (ap is_some stands)) (inl (ap is_some stands)) same

          at : (leaf.0.0 ≡ dir.0) ⊎ (leaf.0.0 ≡ dir.0 → ⊥) → Some-away
          at (inr apart) =
              let not : leaf ≡ (dir, f) → ⊥ = λ same. apart (ap (λ (l : Leaf). l.0.0) same) in
              (leaf, itself homes pins (elsewhere homes pins dir merge.cover covers apart) (place_was not (elsewhere_out dir.0 f leaf apart)))
          at (inl same) = by ((merge.merged.leaves leaf.1).0 (here homes pins dir merge.cover covers same))
            where
              by : (HasLeaf (leaves_of old.state.tree.covers dir.0) leaf.1 × (lies_inside f leaf.1 ≡ false)) ⊎ (leaf.1 ≡ f) → Some-away
              by (inr is) = merged (this homes pins dir merge.cover covers same ∙ ap (λ (g : Fragment). (dir, g)) is)
              by (inl (stands, out)) = of (same_leaf_or_apart leaf (dir, f))
                where
                  of : (leaf ≡ (dir, f)) ⊎ (leaf ≡ (dir, f) → ⊥) → Some-away
                  of (inl is) = merged is
                  of (inr apart) = (leaf, itself homes pins (stood homes pins dir merge.cover covers same stands) (place_was apart (here_out dir.0 f leaf out)))
