-- Leaves picked from places in their order.
use Rattle.export_regions.proofs.Common.{AllByRecursion, Bool, CacheMap, Cached, IsDistinct, IsDistinct-cons, IsDistinct-head, IsDistinct-tail, Leaf, List, None, Option, Picks, PlaceOf, RegionLeaves, Some, [], ap, append-nil, append_assoc, arith, clean_in, false, here, inl, inr, is_clean, leaf_is, length, list_any, map, not, one_leaf, refl, subst, suc, sym, true, unclean_in, with_leaf, ℕ, ◌++◌, ◌||◌, ◌∙◌, ◌∷◌, ◌≡◌, ◌≤◌}

-- ---- one after the other

module _ (In : Leaf → Type 0) where
  module _ (test : Option Cached → Bool) (leaf : Leaf) (o : Option Cached) (places all : List PlaceOf) (have : List Leaf) (so_far : (tail : List Leaf) → Picks In test ((leaf, o) ∷ places) tail → Picks In test all (have ++ tail)) where
    one_more : test o ≡ true → In leaf → (tail : List Leaf) → Picks In test places tail → Picks In test all ((have ++ leaf ∷ []) ++ tail)
    one_more passes within tail rest = subst (Picks In test all) (sym (append_assoc have (leaf ∷ []) tail)) (so_far (leaf ∷ tail) (inl (passes, within, tail, refl, rest)))

    passed_by : ((test o ≡ true) × In leaf → ⊥) → (tail : List Leaf) → Picks In test places tail → Picks In test all (have ++ tail)
    passed_by other tail rest = so_far tail (inr (other, rest))

  -- these leaves were picked, and what is picked of the places to come stands behind them
  pub record IsPicking (places all : List PlaceOf) (leaves : RegionLeaves) : Type 0 where
    pub unclean : (tail : List Leaf) → Picks In unclean_in places tail → Picks In unclean_in all (leaves.unclean ++ tail)
    pub clean : (tail : List Leaf) → Picks In clean_in places tail → Picks In clean_in all (leaves.clean ++ tail)

  module _ (was places all : List PlaceOf) (leaf : Leaf) (o : Option Cached) (leaves : RegionLeaves) (step : was ≡ (leaf, o) ∷ places) (p : IsPicking was all leaves) where
    then : IsPicking ((leaf, o) ∷ places) all leaves
    then = subst (λ (ps : List PlaceOf). IsPicking ps all leaves) step p

    -- a place in which there is no fragment
    pub none_there : o ≡ None → IsPicking places all leaves
    none_there none = record {
      unclean = passed_by unclean_in leaf o places all leaves.unclean then.unclean (λ both. no (ap unclean_in (sym none) ∙ both.0));
      clean = passed_by clean_in leaf o places all leaves.clean then.clean (λ both. no (ap clean_in (sym none) ∙ both.0));
    }
      where
        no : false ≡ true → ⊥
        no clash = cc

    -- one whose leaf is in another region
    pub not_there : (In leaf → ⊥) → IsPicking places all leaves
    not_there other = record {
      unclean = passed_by unclean_in leaf o places all leaves.unclean then.unclean (λ both. other both.1);
      clean = passed_by clean_in leaf o places all leaves.clean then.clean (λ both. other both.1);
    }

    pub one_there : (f : Cached) (b : Bool) → o ≡ Some f → b ≡ is_clean f → In leaf → IsPicking places all (with_leaf leaves leaf b)
    one_there f b some told within = go b told
      where
        no : false ≡ true → ⊥
        no clash = cc

        go : (b : Bool) → b ≡ is_clean f → IsPicking places all (with_leaf leaves leaf b)
        go true told = record {
          unclean = passed_by unclean_in leaf o places all leaves.unclean then.unclean (λ both. no (ap not told ∙ ap unclean_in (sym some) ∙ both.0));
          clean = one_more clean_in leaf o places all leaves.clean then.clean (ap clean_in some ∙ sym told) within;
        }
        go false told = record {
          unclean = one_more unclean_in leaf o places all leaves.unclean then.unclean (ap unclean_in some ∙ ap not (sym told)) within;
          clean = passed_by clean_in leaf o places all leaves.clean then.clean (λ both. no (told ∙ ap clean_in (sym some) ∙ both.0));
        }

  -- at first nothing is picked, and all places are to come
  pub none_picked : (places all : List PlaceOf) (leaves : RegionLeaves) → places ≡ all → leaves ≡ record { unclean = []; clean = [] } → IsPicking places all leaves
  none_picked places all leaves same none = record {
    unclean = λ tail picks. subst (λ (l : RegionLeaves). Picks In unclean_in all (l.unclean ++ tail)) (sym none) (subst (λ (ps : List PlaceOf). Picks In unclean_in ps tail) same picks);
    clean = λ tail picks. subst (λ (l : RegionLeaves). Picks In clean_in all (l.clean ++ tail)) (sym none) (subst (λ (ps : List PlaceOf). Picks In clean_in ps tail) same picks);
  }

  pub all_picked : (test : Option Cached → Bool) (places all : List PlaceOf) (have : List Leaf) → places ≡ [] → ((tail : List Leaf) → Picks In test places tail → Picks In test all (have ++ tail)) → Picks In test all have
  all_picked test places all have none so_far = subst (Picks In test all) (append-nil have) (so_far [] (subst (λ (ps : List PlaceOf). Picks In test ps []) (sym none) refl))

-- ---- what was picked of the places of these leaves

module _ (In : Leaf → Type 0) (test : Option Cached → Bool) (c : CacheMap) (r : ℕ) where
  abbrev places_for : List Leaf → List PlaceOf
  places_for xs = map (λ (leaf : Leaf). (leaf, here c r leaf)) xs

  -- each of them passes
  pub each_passes : (xs leaves : List Leaf) → Picks In test (places_for xs) leaves → AllByRecursion (λ (leaf : Leaf). (test (here c r leaf) ≡ true) × In leaf) leaves
  each_passes [] leaves none = subst (AllByRecursion (λ (leaf : Leaf). (test (here c r leaf) ≡ true) × In leaf)) (sym none) tt
  each_passes (x ∷ xs) leaves (inl (passes, within, rest, is, more)) = subst (AllByRecursion (λ (leaf : Leaf). (test (here c r leaf) ≡ true) × In leaf)) (sym is) ((passes, within), each_passes xs rest more)
  each_passes (x ∷ xs) leaves (inr (other, more)) = each_passes xs leaves more

  of_all : (P : Leaf → Type 0) (q : Leaf) (xs : List Leaf) → AllByRecursion P xs → list_any (leaf_is q) xs ≡ true → P q
  of_all P q [] all is = let clash : false ≡ true = is in absurd cc
  of_all P q (x ∷ xs) all is = go (λ among. of_all P q xs all.1 among) (leaf_is q x) refl is
    where
      go : (list_any (leaf_is q) xs ≡ true → P q) → (b : Bool) → leaf_is q x ≡ b → (b || list_any (leaf_is q) xs) ≡ true → P q
      go behind true one is = subst P (sym (one_leaf q x one)) all.0
      go behind false one is = behind is

  pub picked_passes : (xs leaves : List Leaf) → Picks In test (places_for xs) leaves → (q : Leaf) → list_any (leaf_is q) leaves ≡ true → (test (here c r q) ≡ true) × In q
  picked_passes xs leaves picks q is = of_all (λ (leaf : Leaf). (test (here c r leaf) ≡ true) × In leaf) q leaves (each_passes xs leaves picks) is

  -- each that passes is one of them
  pub passing_picked : (xs leaves : List Leaf) → Picks In test (places_for xs) leaves → (q : Leaf) → list_any (leaf_is q) xs ≡ true → test (here c r q) ≡ true → In q → list_any (leaf_is q) leaves ≡ true
  passing_picked [] leaves none q among passes within = let clash : false ≡ true = among in absurd cc
  passing_picked (x ∷ xs) leaves picks q among passes within = go (λ rest more is. passing_picked xs rest more q is passes within) (leaf_is q x) refl among picks
    where
      go : ((rest : List Leaf) → Picks In test (places_for xs) rest → list_any (leaf_is q) xs ≡ true → list_any (leaf_is q) rest ≡ true) → (b : Bool) → leaf_is q x ≡ b → (b || list_any (leaf_is q) xs) ≡ true
          → Picks In test (places_for (x ∷ xs)) leaves → list_any (leaf_is q) leaves ≡ true
      go behind true one is (inl (here_passes, here_within, rest, same, more)) = ap (list_any (leaf_is q)) same ∙ ap (λ (b : Bool). b || list_any (leaf_is q) rest) one
      go behind true one is (inr (other, more)) = absurd (other (ap (λ (l : Leaf). test (here c r l)) (sym (one_leaf q x one)) ∙ passes, subst In (one_leaf q x one) within))
      go behind false one is (inl (here_passes, here_within, rest, same, more)) = ap (list_any (leaf_is q)) same ∙ ap (λ (b : Bool). b || list_any (leaf_is q) rest) one ∙ behind rest more is
      go behind false one is (inr (other, more)) = behind leaves more is

  -- no more of them, and none twice
  pub few_picked : (xs leaves : List Leaf) → Picks In test (places_for xs) leaves → length leaves ≤ length xs
  few_picked [] leaves none = let same : length leaves ≡ 0 = ap (λ (l : List Leaf). length l) none in omega (arith, same)
  few_picked (x ∷ xs) leaves (inl (passes, within, rest, is, more)) = let same : length leaves ≡ suc (length rest) = ap (λ (l : List Leaf). length l) is in let less = few_picked xs rest more in omega (arith, same, less)
  few_picked (x ∷ xs) leaves (inr (other, more)) = let less = few_picked xs leaves more in omega (arith, less)

  all_picked_of : (P : Leaf → Type 0) (xs leaves : List Leaf) → Picks In test (places_for xs) leaves → AllByRecursion P xs → AllByRecursion P leaves
  all_picked_of P [] leaves none all = subst (AllByRecursion P) (sym none) tt
  all_picked_of P (x ∷ xs) leaves (inl (passes, within, rest, is, more)) all = subst (AllByRecursion P) (sym is) (all.0, all_picked_of P xs rest more all.1)
  all_picked_of P (x ∷ xs) leaves (inr (other, more)) all = all_picked_of P xs leaves more all.1

  pub picked_distinct : (xs leaves : List Leaf) → Picks In test (places_for xs) leaves → IsDistinct leaf_is xs → IsDistinct leaf_is leaves
  picked_distinct [] leaves none distinct = subst (IsDistinct leaf_is) (sym none) distinct
  picked_distinct (x ∷ xs) leaves (inl (passes, within, rest, is, more)) distinct =
      subst (IsDistinct leaf_is) (sym is) (IsDistinct-cons leaf_is x rest (all_picked_of (λ (y : Leaf). leaf_is x y ≡ false) xs rest more (IsDistinct-head leaf_is x xs distinct)) (picked_distinct xs rest more (IsDistinct-tail leaf_is x xs distinct)))
  picked_distinct (x ∷ xs) leaves (inr (other, more)) distinct = picked_distinct xs leaves more (IsDistinct-tail leaf_is x xs distinct)
