-- A directory moves: every leaf has the authority that it had.
use Rattle.subtree_map.proofs.Common.{Covers, HasAuthority, HasLeaf, HoldsDentry, Home, Homes, Ino, IsAncestor, IsInheritedAt, IsLive, KeepsRanksOf, IsSubtrees, IsTable, Leaf, MayMove, MovesSoundly, NearestRoot, None, Rank, Roots, Some, ap, further, inherited, inl, inr, is_known, is_some, itself, leaf_in_dir, leaves_of, parent, still_known, subst, sym, true, ℕ, ◌∙◌, ◌≡◌, ◌≢◌, ◌⊎◌}
use Rattle.std.specs.FinMap as map
use Rattle.sorted_map.proofs.NatKeys as nat
use Rattle.subtree_map.proofs.Nearest.{holder_is_leaf, some_holder, some_authority}

-- two ranks are one, or they differ
pub same_rank : (a b : Rank) → (a ≡ b) ⊎ (a ≢ b)
same_rank a b = elim (nat.same_or_apart a.0 b.0) [
  | inl same ↦ inl (λ i. record { 0 = same i })
  | inr apart ↦ inr (λ same. apart (ap (λ (r : Rank). r.0) same))
]

module _ (old new : Roots) (homes : Homes) (covers : Covers) (d : ℕ) (home : Home) (is : KeepsRanksOf old new homes covers d home) (table : IsTable homes covers) (valid : IsSubtrees old homes covers) (may : MayMove homes d home) where
  -- the way up from what is neither the directory nor below it stays
  way : (leaf root : Leaf) → leaf.0.0 ≢ d → (IsAncestor homes d leaf.0.0 → ⊥) → NearestRoot old homes covers leaf root → NearestRoot new (map.insert homes d home) covers leaf root × (map.get new root ≡ map.get old root)
  way _ _ apart free (itself root rank has) = let stays = is.elsewhere root apart in (itself root rank (stays ∙ has), stays)
  way _ _ apart free (inherited leaf holder root place none stands holds rest) =
      let at : place.parent.0 ≡ holder.0.0 = ap (λ (p : Ino). p.0) (sym holds.parent) in
      let other : holder.0.0 ≢ d = λ same. free (parent leaf.0.0 place stands (at ∙ same)) in
      let above : IsAncestor homes d holder.0.0 → ⊥ = λ over. free (further leaf.0.0 place stands (subst (IsAncestor homes d) (sym at) over)) in
      let up = way holder root other above rest in
      (inherited leaf holder root place (is.elsewhere leaf apart ∙ none) (nat.get_beside homes d home leaf.0.0 apart ∙ stands) holds up.0, up.1)

  -- the leaf that will hold the directory's dentry
  up_there : (holder : Leaf) × HoldsDentry covers home holder
  up_there = some_holder homes covers table home

  up_is_leaf : IsLive homes covers up_there.0
  up_is_leaf = record {
    known = subst (λ (p : Ino). is_known homes p.0 ≡ true) (sym up_there.1.parent) may.parent_known;
    stands = subst (λ (p : Ino). HasLeaf (leaves_of covers p.0) up_there.0.1) (sym up_there.1.parent) up_there.1.pick.stands;
  }

  -- its authority, then as now
  there : (rank : Rank) × HasAuthority old homes covers up_there.0 rank × HasAuthority new (map.insert homes d home) covers up_there.0 rank
  there =
      let now = some_authority old homes covers table valid up_there.0 up_is_leaf in
      let at : home.parent.0 ≡ up_there.0.0.0 = ap (λ (p : Ino). p.0) (sym up_there.1.parent) in
      let up = way up_there.0 now.1.root (λ same. may.other (at ∙ same)) (λ over. may.not_below (subst (IsAncestor homes d) (sym at) over)) now.1.nearest in
      (now.0, now.1, record { root = now.1.root; nearest = up.0; ranked = up.1 ∙ now.1.ranked })

  -- a leaf of the directory that inherits
  of_moved : (leaf : Leaf) (rank : Rank) → IsLive homes covers leaf → leaf.0.0 ≡ d → map.get old leaf ≡ None → HasAuthority old homes covers leaf rank → HasAuthority new (map.insert homes d home) covers leaf rank
  of_moved leaf rank stood at none has = go (same_rank rank there.0)
    where
      other_place : IsInheritedAt old homes covers home there.0
      other_place = record { holder = up_there.0; holds = up_there.1; has = there.1 }

      go : (rank ≡ there.0) ⊎ (rank ≢ there.0) → HasAuthority new (map.insert homes d home) covers leaf rank
      go (inl same) =
          let gone = is.same leaf rank stood at none has (subst (IsInheritedAt old homes covers home) (sym same) other_place) in
          let stands : map.get (map.insert homes d home) leaf.0.0 ≡ Some home = ap (λ x. map.get (map.insert homes d home) x) at ∙ nat.get_put homes d home in
          record {
            root = there.2.root;
            nearest = inherited leaf up_there.0 there.2.root home gone stands up_there.1 there.2.nearest;
            ranked = there.2.ranked ∙ ap (λ r. Some r) (sym same);
          }
      go (inr apart) =
          let gets = is.lost leaf rank there.0 stood at none has other_place apart in
          record { root = leaf; nearest = itself leaf rank gets; ranked = gets }

  moved_by : (leaf root : Leaf) → IsLive homes covers leaf → NearestRoot old homes covers leaf root → (rank : Rank) → map.get old root ≡ Some rank → HasAuthority new (map.insert homes d home) covers leaf rank
  moved_by _ _ stood (itself root r has) rank ranks =
      let stays = is.kept root (ap is_some ranks) ∙ ranks in
      record { root = root; nearest = itself root rank stays; ranked = stays }
  moved_by _ _ stood (inherited leaf holder root place none stands holds rest) rank ranks =
      go (nat.same_or_apart leaf.0.0 d) (moved_by holder root (holder_is_leaf homes covers table leaf.0.0 place holder stands holds) rest rank ranks)
    where
      go : (leaf.0.0 ≡ d) ⊎ (leaf.0.0 ≢ d) → HasAuthority new (map.insert homes d home) covers holder rank → HasAuthority new (map.insert homes d home) covers leaf rank
      go (inl at) above = of_moved leaf rank stood at none (record { root = root; nearest = inherited leaf holder root place none stands holds rest; ranked = ranks })
      go (inr apart) above = record {
        root = above.root;
        nearest = inherited leaf holder above.root place (is.elsewhere leaf apart ∙ none) (nat.get_beside homes d home leaf.0.0 apart ∙ stands) holds above.nearest;
        ranked = above.ranked;
      }

  pub moves_soundly : MovesSoundly old new homes covers d home
  moves_soundly = (
    λ leaf after rank stood same has. subst (λ k. HasAuthority new (map.insert homes d home) covers k rank) (sym same) (moved_by leaf has.root stood has.nearest rank has.ranked),
    record {
      top = λ f has. let root = valid.top f has in ap is_some (is.kept (leaf_in_dir 1 f) root) ∙ root;
      live = λ root some. elim (is.made root some) [
        | inl before ↦ still (valid.live root before)
        | inr live ↦ still live
      ];
    },
  )
    where
      still : {leaf : Leaf} → IsLive homes covers leaf → IsLive (map.insert homes d home) covers leaf
      still {leaf} live = record { known = still_known homes d home leaf.0.0 live.known; stands = live.stands }
