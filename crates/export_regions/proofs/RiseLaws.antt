-- Fragments in the order of their leaves rise by inode and then by value, where no two leaves of a directory begin at one value.
use Rattle.export_regions.proofs.Common.{AllByRecursion, Bool, Contains, Covers, Equal, Fragment, Greater, HasLeaf, Homes, IsLive, IsTable, IsTree, Leaf, Less, List, None, Ordering, SentFrag, Some, T, [], and_from, ap, arith, between, cond, contains_start, eqb-true, false, frag_cmp, is_frag_before, is_lt, is_same, is_sorted, leaf_cmp, leaves_of, left_of, nat_cmp, nat_lt, nat_tests, ordering_then, pick_from_leaf, refl, right_of, rise, subst, sym, tree_of_row, true, ℕ, ◌&&◌, ◌==◌, ◌^◌, ◌||◌, ◌∙◌, ◌∷◌, ◌≡◌}
use Rattle.std.proofs.Common.{map as list_map}

-- ---- leaves of one directory begin at different values

module _ (homes : Homes) (covers : Covers) (table : IsTable homes covers) where
  pub one_start : (a b : Leaf) → IsLive homes covers a → IsLive homes covers b → a.0.0 ≡ b.0.0 → a.1.value ≡ b.1.value → a.1 ≡ b.1
  one_start a b live_a live_b dir value =
      let tree : IsTree (leaves_of covers a.0.0) = tree_of_row homes covers table a.0.0 in
      let there : HasLeaf (leaves_of covers a.0.0) b.1 = subst (λ (d : ℕ). HasLeaf (leaves_of covers d) b.1) (sym dir) live_b.stands in
      let pick = pick_from_leaf (leaves_of covers a.0.0) a.1.value a.1 tree live_a.stands (contains_start a.1 (between 0 (2 ^ 24) (leaves_of covers a.0.0) a.1 tree.tiles live_a.stands).0) in
      sym (pick.alone b.1 there (subst (Contains b.1) (sym value) (contains_start b.1 (between 0 (2 ^ 24) (leaves_of covers a.0.0) b.1 tree.tiles there).0)))

  -- numbers in order
  below : (x y : ℕ) → nat_cmp x y ≡ Less → nat_lt x y ≡ true
  below x y is = go (nat_lt x y) (x == y) is
    where
      go : (b e : Bool) → cond b Less (cond e Equal Greater) ≡ Less → b ≡ true
      go true e is = refl
      go false true is = cc
      go false false is = cc

  tied : (x y : ℕ) → nat_cmp x y ≡ Equal → x ≡ y
  tied x y is = eqb-true x y (go (nat_lt x y) (x == y) is)
    where
      go : (b e : Bool) → cond b Less (cond e Equal Greater) ≡ Equal → e ≡ true
      go true e is = let clash : Less ≡ Equal = is in absurd cc
      go false true is = refl
      go false false is = let clash : Greater ≡ Equal = is in absurd cc

  or_right : (a b : Bool) → b ≡ true → (a || b) ≡ true
  or_right true b is = refl
  or_right false b is = is

  or_left : (a b : Bool) → a ≡ true → (a || b) ≡ true
  or_left true b is = refl
  or_left false b is = let clash : false ≡ true = is in absurd cc

  pub before : (a b : Leaf) → IsLive homes covers a → IsLive homes covers b → leaf_cmp a b ≡ Less → (nat_lt a.0.0 b.0.0 || ((a.0.0 == b.0.0) && nat_lt a.1.value b.1.value)) ≡ true
  before a b live_a live_b less = go (nat_cmp a.0.0 b.0.0) refl less
    where
      none_less : nat_cmp a.1.bits b.1.bits ≡ Less → a.1.bits ≡ b.1.bits → ⊥
      none_less is same = let lt : nat_lt a.1.bits b.1.bits ≡ true = below a.1.bits b.1.bits is in no (sym (ap (λ (n : ℕ). nat_lt a.1.bits n) (sym same)) ∙ lt)
        where
          itself : (n : ℕ) → nat_lt n n ≡ false
          itself n = grind (arith, nat_tests)

          no : nat_lt a.1.bits a.1.bits ≡ true → ⊥
          no is = let clash : false ≡ true = sym (itself a.1.bits) ∙ is in cc

      within : a.0.0 ≡ b.0.0 → (r : Ordering) → nat_cmp a.1.value b.1.value ≡ r → ordering_then r (nat_cmp a.1.bits b.1.bits) ≡ Less → nat_lt a.1.value b.1.value ≡ true
      within dir Less is less = below a.1.value b.1.value is
      within dir Equal is less = absurd (none_less less (ap (λ (f : Fragment). f.bits) (one_start a b live_a live_b dir (tied a.1.value b.1.value is))))
      within dir Greater is less = let clash : Greater ≡ Less = less in absurd cc

      go : (r : Ordering) → nat_cmp a.0.0 b.0.0 ≡ r → ordering_then r (frag_cmp a.1 b.1) ≡ Less → (nat_lt a.0.0 b.0.0 || ((a.0.0 == b.0.0) && nat_lt a.1.value b.1.value)) ≡ true
      go Less is less = or_left _ _ (below a.0.0 b.0.0 is)
      go Equal is less = let dir : a.0.0 ≡ b.0.0 = tied a.0.0 b.0.0 is in or_right (nat_lt a.0.0 b.0.0) _ (and_from _ _ (is_same a.0.0 b.0.0 dir) (within dir (nat_cmp a.1.value b.1.value) refl less))
      go Greater is less = let clash : Greater ≡ Less = less in absurd cc

  -- ---- fragments beside their leaves

  pub record IsOfLeaf (e : Leaf × SentFrag) : Type 0 where
    pub ino : e.1.ino ≡ e.0.0
    pub frag : e.1.frag ≡ e.0.1
    pub live : IsLive homes covers e.0

  next_rises : (e d : Leaf × SentFrag) → IsOfLeaf e → IsOfLeaf d → T (is_lt (leaf_cmp e.0 d.0)) → is_frag_before e.1 d.1 ≡ true
  next_rises e d of_e of_d lt =
      ap (λ (l : Leaf). nat_lt l.0.0 d.1.ino.0 || ((l.0.0 == d.1.ino.0) && nat_lt l.1.value d.1.frag.value)) (λ i. (of_e.ino i, of_e.frag i))
      ∙ ap (λ (l : Leaf). nat_lt e.0.0.0 l.0.0 || ((e.0.0.0 == l.0.0) && nat_lt e.0.1.value l.1.value)) (λ i. (of_d.ino i, of_d.frag i))
      ∙ before e.0 d.0 of_e.live of_d.live (less (leaf_cmp e.0 d.0) lt)
    where
      less : (o : Ordering) → T (is_lt o) → o ≡ Less
      less Less p = refl
      less Equal p = absurd p
      less Greater p = absurd p

  rise_behind : (e : Leaf × SentFrag) (es : List (Leaf × SentFrag)) → T (is_sorted leaf_cmp (e ∷ es)) → AllByRecursion IsOfLeaf (e ∷ es) → rise is_frag_before (Some e.1) (list_map (λ e. e.1) es) ≡ true
  rise_behind e [] sorted all = refl
  rise_behind e (d ∷ es) sorted all =
      and_from (is_frag_before e.1 d.1) (rise is_frag_before (Some d.1) (list_map (λ e. e.1) es)) (next_rises e d all.0 all.1.0 (left_of _ _ (left_of _ _ sorted))) (rise_behind d es (right_of _ _ sorted) all.1)

  pub all_rise : (es : List (Leaf × SentFrag)) → T (is_sorted leaf_cmp es) → AllByRecursion IsOfLeaf es → rise is_frag_before None (list_map (λ e. e.1) es) ≡ true
  all_rise [] sorted all = refl
  all_rise (e ∷ es) sorted all = rise_behind e es sorted all
