-- The one root of a new tree is its one leaf, and rank 0 holds it.
use Rattle.ranked_tree.proofs.Common.{AreHeld, AreRoots, At, CacheMap, Core, IsLive, IsSome, Leaf, Rank, Roots, Rules, Some, State, [], ap, lies_by, cached_root, cond_both, get-empty, get_beside, get_put, get_with_frag, is_some, itself, leaf_is, length, length-replicate, live_root, new_caches, new_none, new_roots, new_tree_state, no_caches, no_covers, no_homes, none-some, one_leaf, one_value, ranks_with_frag, refl, root_leaf, root_live, same_Some, same_or_apart, state_of, subst, sym, ℕ, ◌<◌, ◌∙◌, ◌≡◌, ⊎_elim}
use Rattle.std.specs.FinMap as map
use Rattle.ranked_tree.proofs.HeldLaws.{placed_at}

pub root_is : map.get new_roots root_leaf ≡ Some (record { 0 = 0 })
root_is = get_put map.empty root_leaf (record { 0 = 0 })

pub one_root : (leaf : Leaf) → IsSome (map.get new_roots leaf) → leaf ≡ root_leaf
one_root leaf some =
    ⊎_elim (λ same. same) (λ apart. let none = get_beside map.empty root_leaf (record { 0 = 0 }) leaf apart ∙ get-empty _ leaf in let clash = sym (ap is_some none) ∙ some in absurd cc) (same_or_apart leaf root_leaf)

pub new_are_roots : (limit : ℕ) → AreRoots (new_tree_state limit) new_roots
new_are_roots limit = record {
  top = λ f has. ap is_some (ap (map.get new_roots) (live_root (record { 0 = 1 }, f) (record { known = refl; stands = has })) ∙ root_is);
  live = λ leaf some. subst (λ (l : Leaf). IsLive no_homes no_covers l) (sym (one_root leaf some)) root_live;
}

-- ---- whose its one place is

abbrev first_rank : Rank
first_rank = record { 0 = 0 }

pub new_are_held : (core : Core) (roots : Roots) (limit ranks places : ℕ) → 0 < ranks → state_of core ≡ new_tree_state limit → core.caches ≡ new_caches ranks places → roots ≡ new_roots → AreHeld (state_of core) core.caches roots
new_are_held core roots limit ranks places some state caches is =
    subst (λ (s : State). AreHeld s core.caches roots) (sym state) (subst (λ (cs : CacheMap). AreHeld (new_tree_state limit) cs roots) (sym caches) (subst (λ (r : Roots). AreHeld (new_tree_state limit) (new_caches ranks places) r) (sym is) here))
  where
    many : length (new_caches ranks places).used ≡ ranks
    many = ranks_with_frag (no_caches ranks places) 0 root_leaf cached_root ∙ length-replicate ranks []

    its : (leaf : Leaf) (a : At) → map.get (new_caches ranks places).held leaf ≡ Some a → Rules (new_tree_state limit) new_roots leaf (record { 0 = a.rank })
    its leaf a has =
        -- nothing but the root's leaf is cached
        let w : (leaf ≡ root_leaf) × (a.rank ≡ 0) =
        cond_both (leaf_is leaf root_leaf) (Some (lies_by 0 cached_root)) (map.get (no_caches ranks places).held leaf) (λ o. o ≡ Some a → (leaf ≡ root_leaf) × (a.rank ≡ 0))
        (λ one stands. (one_leaf leaf root_leaf one, sym (ap (λ (k : At). k.rank) (same_Some (lies_by 0 cached_root) a stands)))) (λ apart stands. absurd (none-some a (sym (get-empty _ leaf) ∙ stands)))
        (sym (get_with_frag (no_caches ranks places) 0 root_leaf cached_root leaf) ∙ has) in
        subst (λ (n : ℕ). Rules (new_tree_state limit) new_roots leaf (record { 0 = n })) (sym w.1) (subst (λ (l : Leaf). Rules (new_tree_state limit) new_roots l first_rank) (sym w.0) (record { root = root_leaf; nearest = itself root_leaf first_rank root_is; ranked = root_is }))

    here : AreHeld (new_tree_state limit) (new_caches ranks places) new_roots
    here = record {
      cached = its;
      placed = placed_at (new_tree_state limit) (new_caches ranks places) new_roots (new_none ranks places) its;
      ranks = λ leaf rank has. subst (λ (r : Rank). r.0 < length (new_caches ranks places).used) (sym (one_value (map.get new_roots root_leaf) rank first_rank (ap (map.get new_roots) (sym (one_root leaf (ap is_some has))) ∙ has) root_is)) (subst (λ (n : ℕ). 0 < n) (sym many) some);
    }
