-- What becomes of the roots and of every leaf's authority where directories come, move and go: from the table of directories alone.
use Rattle.ranked_tree.proofs.Common.{AreGone, BecomesMerged, BecomesSplit, CanMerge, Covers, FitsSplit, Fragment, HasAuthority, HasLeaf, HaveOneAuthority, Home, Homes, Ino, IsInheritedAt, IsLive, IsMerge, IsRootMerge, IsRootSplit, KeepsRanksOf, IsSplit, IsSubtrees, IsTable, IsTree, KeepAuthority, Leaf, List, MayCome, MayGo, MayMove, NoNewRank, None, Option, Rank, Roots, Some, adopted_authority, adopted_valid, and_right, ap, arith, child_is_new, drops_soundly, cases_Bool, false, inl, is_inside, is_known, is_some, leaves_now, leaves_of, lies_inside, merges_soundly, moves_soundly, nat_lt, nat_tests, not_none, one_value, refl, some_authority, some_holder, span, splits_soundly, subst, sym, tree_of_row, true, value_of, ℕ, ⊎_elim, ◌&&◌, ◌+◌, ◌/◌, ◌==◌, ◌||◌, ◌∙◌, ◌≡◌, ◌≢◌, same_or_apart}
use Rattle.std.specs.FinMap as map
use Rattle.sorted_map.proofs.NatKeys as nat
use Rattle.subtree_map.specs.Changes.{leaf_in_dir}

-- what every change leaves: each leaf that stood and still stands has its authority, only leaves are roots, and no root has a rank that none had
pub record IsSoundChange (before after : Roots) (homes now : Homes) (covers later : Covers) : Type 0 where
  pub keeps : (leaf : Leaf) (rank : Rank) → IsLive homes covers leaf → IsLive now later leaf → HasAuthority before homes covers leaf rank → HasAuthority after now later leaf rank
  pub valid : IsSubtrees after now later
  pub ranks : NoNewRank before after

-- one change after another, where each leaf that stands at both ends also stands between them
pub sound_on : (a b c : Roots) (homes between now : Homes) (covers middle later : Covers) → IsSoundChange a b homes between covers middle → IsSoundChange b c between now middle later
    → ((leaf : Leaf) → IsLive homes covers leaf → IsLive now later leaf → IsLive between middle leaf) → IsSoundChange a c homes now covers later
sound_on a b c homes between now covers middle later first second stands = record {
  keeps = λ leaf rank was is has. let there = stands leaf was is in second.keeps leaf rank there is (first.keeps leaf rank was there has);
  valid = second.valid;
  ranks = λ leaf rank has. let found = second.ranks leaf rank has in first.ranks found.0 rank found.1;
}

-- a leaf of a directory that went stands no more
pub is_elsewhere : (homes : Homes) (covers : Covers) (d : ℕ) (leaf : Leaf) → (d ≡ 1 → ⊥) → IsLive (map.remove homes d) covers leaf → leaf.0.0 ≢ d
is_elsewhere homes covers d leaf other live same =
    let known : (d == 1) || is_some (map.get (map.remove homes d) d) ≡ true = subst (λ (n : ℕ). is_known (map.remove homes d) n ≡ true) same live.known in
    let none : (d == 1) || is_some (map.get (map.remove homes d) d) ≡ false = λ i. nat.is_apart d 1 other i || is_some (nat.get_removed homes d i) in
    let clash : true ≡ false = sym known ∙ none in
    cc

module _ (before after : Roots) (homes : Homes) (covers : Covers) (table : IsTable homes covers) (valid : IsSubtrees before homes covers) where
  -- the roots stay, and so do the directories
  pub unchanged : after ≡ before → IsSoundChange before after homes homes covers covers
  unchanged same = subst (λ (r : Roots). IsSoundChange before r homes homes covers covers) (sym same) (record { keeps = λ leaf rank was is has. has; valid = valid; ranks = λ leaf rank has. (leaf, has) })

  -- a new directory comes
  pub grown : (d : ℕ) (home : Home) → MayCome homes d home → after ≡ before → IsSoundChange before after homes (map.insert homes d home) covers covers
  grown d home may same = subst (λ (r : Roots). IsSoundChange before r homes (map.insert homes d home) covers covers) (sym same) (record {
    keeps = λ leaf rank was is has. adopted_authority before homes covers d home leaf rank table may was has;
    valid = adopted_valid before homes covers d home table may valid;
    ranks = λ leaf rank has. (leaf, has);
  })

  -- a directory goes, and its roots with it
  pub lost : (d : ℕ) → AreGone before after d → MayGo homes d → IsSoundChange before after homes (map.remove homes d) covers (map.remove covers d)
  lost d gone may =
      let sound = drops_soundly before after d gone homes covers table valid may.childless may.other in
      record {
        keeps = λ leaf rank was is has. sound.0 leaf leaf rank was (is_elsewhere homes (map.remove covers d) d leaf may.other is, refl) has;
        valid = sound.1;
        ranks = λ leaf rank has. ⊎_elim (λ same. absurd (not_none _ rank (gone.gone leaf same) has)) (λ apart. (leaf, sym (gone.others leaf apart) ∙ has)) (nat.same_or_apart leaf.0.0 d);
      }

  -- a root that was made before a move has the rank of the leaf's authority, which is that of a root
  settled_ranks : (d : ℕ) (home : Home) → KeepsRanksOf before after homes covers d home → is_known homes home.parent.0 ≡ true → NoNewRank before after
  settled_ranks d home settled parent leaf rank has = go (map.get before leaf) refl
    where
      go : (o : Option Rank) → map.get before leaf ≡ o → (other : Leaf) × (map.get before other ≡ Some rank)
      go (Some r) was = (leaf, sym (settled.kept leaf (ap is_some was)) ∙ has)
      go None none =
          ⊎_elim (λ own. ⊎_elim (λ some. let there = value_of _ some in absurd (not_none _ there.0 none there.1))
          (λ live.
          let its = some_authority before homes covers table valid leaf live in
          let holder = some_holder homes covers table home in
          let stands : IsLive homes covers holder.0 = record { known = subst (λ (i : Ino). is_known homes i.0 ≡ true) (sym holder.1.parent) parent; stands = subst (λ (i : Ino). HasLeaf (leaves_of covers i.0) holder.0.1) (sym holder.1.parent) holder.1.pick.stands } in
          let there = some_authority before homes covers table valid holder.0 stands in
          let inherits : IsInheritedAt before homes covers home there.0 = record { holder = holder.0; holds = holder.1; has = there.1 } in
          ⊎_elim (λ same. absurd (not_none _ rank (settled.same leaf its.0 live own none its.1 (subst (IsInheritedAt before homes covers home) (λ i. record { 0 = sym same i }) inherits)) has))
          (λ apart.
          let rank_is = one_value _ its.0 rank (settled.lost leaf its.0 there.0 live own none its.1 inherits (λ same. apart (ap (λ (r : Rank). r.0) same))) has in
          (its.1.root, subst (λ (r : Rank). map.get before its.1.root ≡ Some r) rank_is its.1.ranked)) (nat.same_or_apart its.0.0 there.0.0)) (settled.made leaf (ap is_some has)))
          (λ apart. absurd (not_none _ rank (settled.elsewhere leaf apart ∙ none) has)) (nat.same_or_apart leaf.0.0 d)

  -- a directory moves, and its roots were settled first
  pub rehomed : (d : ℕ) (home : Home) → KeepsRanksOf before after homes covers d home → MayMove homes d home → IsSoundChange before after homes (map.insert homes d home) covers covers
  rehomed d home settled may =
      let sound = moves_soundly before after homes covers d home settled table valid may in
      record {
        keeps = λ leaf rank was is has. sound.0 leaf leaf rank was refl has;
        valid = sound.1;
        ranks = settled_ranks d home settled may.parent_known;
      }

  -- a leaf is split, and so is its root, if it is one
  module _ (d : ℕ) (f : Fragment) (nb : ℕ) (to : List Fragment) (later : Covers) (split : IsRootSplit before after d f nb) (divided : IsSplit (leaves_of covers d) to f nb) (has : HasLeaf (leaves_of covers d) f) (fits : FitsSplit f nb) (whole : IsTree to)
      (becomes : later ≡ map.insert covers d to) where
    abbrev at_f : Leaf
    at_f = leaf_in_dir d f

    pub split_keeps : KeepAuthority before after homes homes covers later (BecomesSplit d f nb) × IsSubtrees after homes later
    split_keeps = splits_soundly before after d f nb split homes covers later to table valid divided has fits whole becomes

    pub divided_soundly : IsSoundChange before after homes homes covers later
    divided_soundly = record {
      keeps = λ leaf rank was is has. split_keeps.0 leaf leaf rank was (inl (
        λ same.
            ⊎_elim (λ its. its.1 refl) (λ child. let more : f.bits ≡ f.bits + nb = ap (λ (g : Fragment). g.bits) child.2 in omega (arith, more, fits.some))
            ((divided.leaves f).0 (subst (λ (fs : List Fragment). HasLeaf fs f) (leaves_now covers later d to becomes) (subst (λ (l : Leaf). HasLeaf (leaves_of later l.0.0) l.1) same is.stands))),
        refl,
      )) has;
      valid = split_keeps.1;
      ranks = λ leaf rank is.
          ⊎_elim (λ some. (
            leaf,
            sym (split.others leaf (λ same. not_none _ rank (ap (map.get after) same ∙ split.gone) is)
                (λ g child same. child_is_new (leaves_of covers d) f g nb (tree_of_row homes covers table d) has fits child (subst (λ (l : Leaf). HasLeaf (leaves_of covers l.0.0) l.1) same (valid.live leaf some).stands))) ∙ is,
          ))
          (λ made. (at_f, sym (split.children made.1.0 made.1.1 made.0) ∙ ap (map.get after) (sym made.1.2) ∙ is)) (split.made leaf (ap is_some is));
    }

  -- leaves are merged that have one authority
  module _ (d : ℕ) (f : Fragment) (to : List Fragment) (later : Covers) (merge : IsRootMerge before after d f) (one : HaveOneAuthority before homes covers d f) (can : CanMerge (leaves_of covers d) f) (merged : IsMerge (leaves_of covers d) to f) (whole : IsTree to)
      (becomes : later ≡ map.insert covers d to) where
    pub merge_keeps : KeepAuthority before after homes homes covers later (BecomesMerged d f) × IsSubtrees after homes later
    merge_keeps = merges_soundly before after d f merge homes covers later to table valid one can merged whole becomes

    pub merged_soundly : IsSoundChange before after homes homes covers later
    merged_soundly =
        let none_inside : (g : Fragment) → HasLeaf to g → lies_inside f g ≡ false = λ g has.
        let equal : nat_lt f.bits f.bits ≡ false = grind (arith, nat_tests) in
        ⊎_elim (λ its. its.1) (λ same. ap (lies_inside f) same ∙ (λ i. equal i && (f.value / span f.bits == f.value / span f.bits))) ((merged.leaves g).0 has) in
        record {
          keeps = λ leaf rank was is has. merge_keeps.0 leaf leaf rank was (inl (
            ⊎_elim (λ same. and_right (leaf.0.0 == d) _ (none_inside leaf.1 (subst (λ (fs : List Fragment). HasLeaf fs leaf.1) (leaves_now covers later d to becomes) (subst (λ (e : ℕ). HasLeaf (leaves_of later e) leaf.1) same is.stands))))
                (λ apart. λ i. nat.is_apart leaf.0.0 d apart i && lies_inside f leaf.1) (nat.same_or_apart leaf.0.0 d),
            refl,
          )) has;
          valid = merge_keeps.1;
          ranks = λ leaf rank is.
              ⊎_elim (λ same. let found = merge.rank rank (ap (map.get after) (sym same) ∙ is) in (found.0, found.2))
              (λ apart.
              ⊎_elim (λ inside. absurd (not_none _ rank (merge.gone leaf inside) is)) (λ outside. (leaf, sym (merge.others leaf outside apart) ∙ is)) (cases_Bool (is_inside d f leaf)))
              (same_or_apart leaf (leaf_in_dir d f));
        }
