-- The roots of a tree that was mounted are its own, and each rank caches what it holds: rank 0 the one leaf of a new tree, and no rank anything else.
use Rattle.ranked_tree.proofs.Common.{AreFilled, AreTopRoots, At, CacheMap, Core, Covers, HasLeaf, IsOwned, IsSoundCore, Mounts, None, Objects, Rank, Roots, Rules, Some, State, Tree, [], ap, arith, get-empty, get_beside, is_known, is_some, leaf-exact, leaf-total, leaf_cmp, leaves_of, length, length-replicate, live_root, new_roots, no_covers, no_homes, one_value, root_fragment, root_leaf, root_live, same_map, same_or_apart, state_of, subst, sym, ℕ, ⊎_elim, ◌<◌, ◌∙◌, ◌≡◌, Leaf, none_unless}
use Rattle.std.specs.FinMap as map
use Rattle.subtree_map.specs.Changes.{leaf_in_dir}
use Rattle.ranked_tree.proofs.HeldLaws.{placed_at}
use Rattle.ranked_tree.proofs.NewLaws.{new_are_held, root_is}

-- the leaves of the root directory where there was no root
pub are_top : (covers : Covers) (none roots : Roots) → none ≡ map.empty → AreFilled none roots 1 (leaves_of covers 1) (record { 0 = 0 }) → AreTopRoots covers roots
are_top covers none roots is filled = record {
  ranked = λ f has. filled.absent f has (nowhere (leaf_in_dir 1 f));
  alone = λ leaf some. filled.made leaf (nowhere leaf) some;
}
  where
    nowhere : (leaf : Leaf) → map.get none leaf ≡ None
    nowhere leaf = ap (λ (m : Roots). map.get m leaf) is ∙ get-empty leaf_cmp leaf

-- those of a new tree
pub top_of_none : (roots : Roots) → AreTopRoots no_covers roots → roots ≡ new_roots
top_of_none roots top = same_map leaf-total leaf-exact roots new_roots (λ leaf.
    ⊎_elim (λ same. ap (map.get roots) same ∙ top.ranked root_fragment root_live.stands ∙ sym root_is ∙ ap (map.get new_roots) (sym same))
    (λ apart.
    none_unless (map.get roots leaf) (λ rank is.
    let at = top.alone leaf (ap is_some is) in
    apart (live_root leaf (record { known = ap (is_known no_homes) at.0; stands = subst (λ d. HasLeaf (leaves_of no_covers d) leaf.1) (sym at.0) at.1 })))
    ∙ sym (get_beside map.empty root_leaf (record { 0 = 0 }) leaf apart ∙ get-empty leaf_cmp leaf)) (same_or_apart leaf root_leaf))

module _ (limit : ℕ) (objects : Objects) (ranks places : ℕ) (some : 0 < ranks) (tree : Tree) (c : Core) (roots : Roots) (sound : IsSoundCore c) (top : AreTopRoots c.covers roots) where
  -- a mounted tree with its roots
  pub mounted_owned : Mounts limit objects ranks places tree c → IsOwned c roots
  mounted_owned m = record {
    sound = sound;
    valid = record {
      top = λ f has. ap is_some (top.ranked f has);
      live = λ leaf some.
          let at = top.alone leaf some in
          record { known = ap (is_known c.homes) at.0; stands = subst (λ d. HasLeaf (leaves_of c.covers d) leaf.1) (sym at.0) at.1 };
    };
    held = ⊎_elim (λ new. new_are_held c roots limit ranks places some new.1.state new.1.caches (top_of_none roots (subst (λ (cs : Covers). AreTopRoots cs roots) (ap (λ (s : State). s.covers) new.1.state) top)))
        (λ walked.
        let none : (leaf : Leaf) (a : At) → map.get c.caches.held leaf ≡ Some a → Rules (state_of c) roots leaf (record { 0 = a.rank })
        = λ leaf a is. let clash : None ≡ Some a = sym (ap (λ (cs : CacheMap). map.get cs.held leaf) walked.1.caches ∙ get-empty leaf_cmp leaf) ∙ is in absurd cc in
        record {
          cached = none;
          placed = placed_at (state_of c) c.caches roots sound.none none;
          ranks = λ leaf rank has.
              let at = top.alone leaf (ap is_some has) in
              let here : leaf ≡ leaf_in_dir 1 leaf.1 = λ i. (record { 0 = at.0 i }, leaf.1) in
              let zeroth : rank.0 ≡ 0 = ap (λ (r : Rank). r.0) (one_value (map.get roots leaf) rank (record { 0 = 0 }) has (ap (map.get roots) here ∙ top.ranked leaf.1 at.1)) in
              let many : length c.caches.used ≡ ranks = ap (λ (cs : CacheMap). length cs.used) walked.1.caches ∙ length-replicate ranks [] in
              omega (arith, zeroth, many, some);
        }) m;
  }
