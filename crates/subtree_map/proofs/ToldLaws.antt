-- What the lists say, as one map: after a change of one leaf's rows, and of those of a directory.
use Rattle.subtree_map.proofs.Common.{AreGone, AreOnce, Bool, Entry, Leaf, List, None, Option, Rank, Roots, ListRows, Some, [], ap, arith, cond, contains_key-keys, contents, entry_at, eq_by_cmp, eqb-true, false, first_told, get-empty, get-from_sorted, get-insert, get_beside, get_left, get_put, get_removed, home_of, inl, inr, is_apart, is_same, is_some, leaf-exact, leaf-total, leaf_cmp, leaves_of_lists, length, list_any, list_any-append, no_rows, option_or, refl, said, same_map, same_or_apart, says_at, suc, sym, ranks_of_leaves, tie, true, with_rank_of, zero, ℕ, ◌<◌, ◌==◌, ◌||◌, ◌∙◌, ◌∷◌, ◌≡◌, ◌≢◌}
use Rattle.std.specs.FinMap as map
use Rattle.subtree_map.specs.Lists.{told}

-- ---- the map of a function

module _ (f : Leaf → Option Rank) where
  same_as : (q leaf : Leaf) → eq_by_cmp leaf_cmp q leaf ≡ true → f leaf ≡ f q
  same_as q leaf tied = ap f (sym (leaf-exact q leaf (tie _ tied)))

  put_some : (m : Roots) (leaf q : Leaf) (o : Option Rank) → map.get (with_rank_of m leaf o) q ≡ cond (eq_by_cmp leaf_cmp q leaf) (option_or o (map.get m q)) (map.get m q)
  put_some m leaf q (Some rank) = get-insert leaf-total m leaf rank q
  put_some m leaf q None = go (eq_by_cmp leaf_cmp q leaf)
    where
      go : (b : Bool) → map.get m q ≡ cond b (map.get m q) (map.get m q)
      go true = refl
      go false = refl

  get_tabulate : (leaves : List Leaf) (q : Leaf) → map.get (ranks_of_leaves f leaves) q ≡ cond (list_any (eq_by_cmp leaf_cmp q) leaves) (f q) None
  get_tabulate [] q = get-empty leaf_cmp q
  get_tabulate (leaf ∷ leaves) q =
      put_some (ranks_of_leaves f leaves) leaf q (f leaf)
      ∙ ap (λ o. cond (eq_by_cmp leaf_cmp q leaf) (option_or (f leaf) o) o) (get_tabulate leaves q)
      ∙ go (eq_by_cmp leaf_cmp q leaf) refl (list_any (eq_by_cmp leaf_cmp q) leaves) (f leaf) refl
    where
      go : (b : Bool) → eq_by_cmp leaf_cmp q leaf ≡ b → (more : Bool) (o : Option Rank) → f leaf ≡ o → cond b (option_or o (cond more (f q) None)) (cond more (f q) None) ≡ cond (b || more) (f q) None
      go false tied more o is = refl
      go true tied more (Some rank) is = sym is ∙ same_as q leaf tied
      go true tied true None is = refl
      go true tied false None is = sym is ∙ same_as q leaf tied

module _ (says : Entry → Option Rank) where
  pub none_there : (leaf : Leaf) → entry_at no_rows leaf ≡ None
  none_there leaf = get-from_sorted leaf_cmp [] leaf tt

  -- ---- what is found

  unlisted : (lists : List ListRows) (q : Leaf) → list_any (eq_by_cmp leaf_cmp q) (leaves_of_lists lists) ≡ false → first_told says lists q ≡ None
  unlisted [] q none = refl
  unlisted (rows ∷ more) q none =
      let parts = split_or _ _ (sym (list_any-append (eq_by_cmp leaf_cmp q) (map.keys (contents leaf_cmp rows)) (leaves_of_lists more)) ∙ none) in
      ap (λ (o : Option Rank). option_or o (first_told says more q)) (ap (said says) (no_key (entry_at rows q) (contains_key-keys (contents leaf_cmp rows) q ∙ parts.0))) ∙ unlisted more q parts.1
    where
      split_or : (a b : Bool) → (a || b) ≡ false → (a ≡ false) × (b ≡ false)
      split_or true b is = let clash : true ≡ false = is in absurd cc
      split_or false b is = (refl, is)

      no_key : (o : Option Entry) → is_some o ≡ false → o ≡ None
      no_key None is = refl
      no_key (Some e) is = let clash : true ≡ false = is in absurd cc

  -- what the one map has of a leaf is what is found of it
  pub get_told : (lists : List ListRows) (q : Leaf) → map.get (told says lists) q ≡ first_told says lists q
  unfolding told
  get_told lists q = get_tabulate (first_told says lists) (leaves_of_lists lists) q ∙ go (list_any (eq_by_cmp leaf_cmp q) (leaves_of_lists lists)) refl
    where
      go : (b : Bool) → list_any (eq_by_cmp leaf_cmp q) (leaves_of_lists lists) ≡ b → cond b (first_told says lists q) None ≡ first_told says lists q
      go true is = refl
      go false is = sym (unlisted lists q is)

  said_beyond : (i : ℕ) (q : Leaf) → says_at says [] i q ≡ None
  said_beyond i q = ap (said says) (none_there q)

  pub nowhere : (lists : List ListRows) (q : Leaf) → ((i : ℕ) → says_at says lists i q ≡ None) → first_told says lists q ≡ None
  nowhere [] q none = refl
  nowhere (rows ∷ more) q none = ap (λ (o : Option Rank). option_or o (first_told says more q)) (none zero) ∙ nowhere more q (λ i. none (suc i))

  pub found_same : (now old : List ListRows) (q : Leaf) → ((i : ℕ) → says_at says now i q ≡ says_at says old i q) → first_told says now q ≡ first_told says old q
  found_same [] old q same = sym (nowhere old q (λ i. sym (same i) ∙ said_beyond i q))
  found_same (rows ∷ more) [] q same = nowhere (rows ∷ more) q (λ i. same i ∙ said_beyond i q)
  found_same (rows ∷ more) (was ∷ before) q same =
      ap (λ (o : Option Rank). option_or o (first_told says more q)) (same zero) ∙ ap (option_or (said says (entry_at was q))) (found_same more before q (λ i. same (suc i)))

  pub only_at : (lists : List ListRows) (at : ℕ) (q : Leaf) (rank : Rank) → says_at says lists at q ≡ Some rank → ((i : ℕ) → i ≢ at → says_at says lists i q ≡ None) → first_told says lists q ≡ Some rank
  only_at [] at q rank is none = let clash : None ≡ Some rank = sym (said_beyond at q) ∙ is in absurd cc
  only_at (rows ∷ more) zero q rank is none = ap (λ (o : Option Rank). option_or o (first_told says more q)) is
  only_at (rows ∷ more) (suc at) q rank is none =
      ap (λ (o : Option Rank). option_or o (first_told says more q)) (none zero (λ (e : zero ≡ suc at). omega (arith, e)))
      ∙ only_at more at q rank is (λ i apart. none (suc i) (λ (e : suc i ≡ suc at). apart (omega (arith, e))))

  -- what one list says is found, where no two say different things
  pub found_at : (lists : List ListRows) (i : ℕ) (q : Leaf) (rank : Rank) → ((j : ℕ) (other : Rank) → says_at says lists j q ≡ Some other → other ≡ rank) → says_at says lists i q ≡ Some rank → first_told says lists q ≡ Some rank
  found_at [] i q rank one is = let clash : None ≡ Some rank = sym (said_beyond i q) ∙ is in absurd cc
  found_at (rows ∷ more) zero q rank one is = ap (λ (o : Option Rank). option_or o (first_told says more q)) is
  found_at (rows ∷ more) (suc i) q rank one is = go (found_at more i q rank (λ j other its. one (suc j) other its) is) (said says (entry_at rows q)) refl
    where
      go : first_told says more q ≡ Some rank → (o : Option Rank) → said says (entry_at rows q) ≡ o → option_or (said says (entry_at rows q)) (first_told says more q) ≡ Some rank
      go rest None none = ap (λ (o : Option Rank). option_or o (first_told says more q)) none ∙ rest
      go rest (Some other) its = ap (λ (o : Option Rank). option_or o (first_told says more q)) its ∙ ap Some (one zero other its)

  pub some_at : (lists : List ListRows) (q : Leaf) (rank : Rank) → first_told says lists q ≡ Some rank → (i : ℕ) × (i < length lists) × (says_at says lists i q ≡ Some rank)
  some_at [] q rank is = let clash : None ≡ Some rank = is in absurd cc
  some_at (rows ∷ more) q rank is = go (some_at more q rank) (said says (entry_at rows q)) refl
    where
      go : (first_told says more q ≡ Some rank → (i : ℕ) × (i < length more) × (says_at says more i q ≡ Some rank)) → (o : Option Rank) → said says (entry_at rows q) ≡ o
          → (i : ℕ) × (i < length (rows ∷ more)) × (says_at says (rows ∷ more) i q ≡ Some rank)
      go rest None none =
          let later = rest (sym (ap (λ (o : Option Rank). option_or o (first_told says more q)) none) ∙ is) in
          (suc later.0, omega (arith, later.1), later.2)
      go rest (Some other) its = (zero, omega arith, its ∙ sym (ap (λ (o : Option Rank). option_or o (first_told says more q)) its) ∙ is)

  -- ---- changes

  module _ (now old : List ListRows) where
    pub told_same : ((i : ℕ) (q : Leaf) → says_at says now i q ≡ says_at says old i q) → told says now ≡ told says old
    told_same same = same_map leaf-total leaf-exact _ _ (λ q. get_told now q ∙ found_same now old q (λ i. same i q) ∙ sym (get_told old q))

    module _ (leaf : Leaf) (beside : (i : ℕ) (q : Leaf) → q ≢ leaf → says_at says now i q ≡ says_at says old i q) where
      others : (q : Leaf) → q ≢ leaf → map.get (told says now) q ≡ map.get (told says old) q
      others q apart = get_told now q ∙ found_same now old q (λ i. beside i q apart) ∙ sym (get_told old q)

      pub told_set : (home : ℕ) (rank : Rank) → ((i : ℕ) → says_at says now i leaf ≡ cond (i == home) (Some rank) None) → told says now ≡ map.insert (told says old) leaf rank
      told_set home rank here = same_map leaf-total leaf-exact _ _ each
        where
          is : first_told says now leaf ≡ Some rank
          is =
              only_at now home leaf rank (here home ∙ ap (λ b. cond b (Some rank) None) (is_same home home refl))
              (λ i apart. here i ∙ ap (λ b. cond b (Some rank) None) (is_apart i home apart))

          each : (q : Leaf) → map.get (told says now) q ≡ map.get (map.insert (told says old) leaf rank) q
          each q = elim (same_or_apart q leaf) [
            | inl same ↦ ap (map.get (told says now)) same ∙ get_told now leaf ∙ is ∙ sym (get_put (told says old) leaf rank) ∙ ap (map.get (map.insert (told says old) leaf rank)) (sym same)
            | inr apart ↦ others q apart ∙ sym (get_beside (told says old) leaf rank q apart)
          ]

      pub told_cleared : ((i : ℕ) → says_at says now i leaf ≡ None) → told says now ≡ map.remove (told says old) leaf
      told_cleared none = same_map leaf-total leaf-exact _ _ each
        where
          each : (q : Leaf) → map.get (told says now) q ≡ map.get (map.remove (told says old) leaf) q
          each q = elim (same_or_apart q leaf) [
            | inl same ↦ ap (map.get (told says now)) same ∙ get_told now leaf ∙ nowhere now leaf none ∙ sym (get_removed (told says old) leaf) ∙ ap (map.get (map.remove (told says old) leaf)) (sym same)
            | inr apart ↦ others q apart ∙ sym (get_left (told says old) leaf q apart)
          ]

      pub once_set : (home : ℕ) (rank : Rank) → length now ≡ length old → home ≡ home_of (length old) rank.0 → ((i : ℕ) → says_at says now i leaf ≡ cond (i == home) (Some rank) None) → AreOnce says old → AreOnce says now
      once_set home rank many at here once = record { home = homes; one = ones }
        where
          own : (i : ℕ) (b : Bool) (other : Rank) → (i == home) ≡ b → cond b (Some rank) None ≡ Some other → (i ≡ home) × (rank ≡ other)
          own i true other is has = let same : rank ≡ other = (let e : Some rank ≡ Some other = has in cc) in (eqb-true i home is, same)
          own i false other is has = let clash : None ≡ Some other = has in absurd cc

          mine : (i : ℕ) (other : Rank) → says_at says now i leaf ≡ Some other → (i ≡ home) × (rank ≡ other)
          mine i other has = own i (i == home) other refl (sym (here i) ∙ has)

          homes : (i : ℕ) (q : Leaf) (other : Rank) → says_at says now i q ≡ Some other → i ≡ home_of (length now) other.0
          homes i q other has = elim (same_or_apart q leaf) [
            | inl same ↦
                let its = mine i other (ap (says_at says now i) (sym same) ∙ has) in
                its.0 ∙ at ∙ ap (λ (r : Rank). home_of (length old) r.0) its.1 ∙ ap (λ n. home_of n other.0) (sym many)
            | inr apart ↦ once.home i q other (sym (beside i q apart) ∙ has) ∙ ap (λ n. home_of n other.0) (sym many)
          ]

          ones : (i j : ℕ) (q : Leaf) (a b : Rank) → says_at says now i q ≡ Some a → says_at says now j q ≡ Some b → a ≡ b
          ones i j q a b has also = elim (same_or_apart q leaf) [
            | inl same ↦ sym (mine i a (ap (says_at says now i) (sym same) ∙ has)).1 ∙ (mine j b (ap (says_at says now j) (sym same) ∙ also)).1
            | inr apart ↦ once.one i j q a b (sym (beside i q apart) ∙ has) (sym (beside j q apart) ∙ also)
          ]

    -- what says no more than before says it once
    pub once_fewer : length now ≡ length old → ((i : ℕ) (q : Leaf) (rank : Rank) → says_at says now i q ≡ Some rank → says_at says old i q ≡ Some rank) → AreOnce says old → AreOnce says now
    once_fewer many fewer once = record {
      home = λ i q rank has. once.home i q rank (fewer i q rank has) ∙ ap (λ n. home_of n rank.0) (sym many);
      one = λ i j q a b has also. once.one i j q a b (fewer i q a has) (fewer j q b also);
    }

    pub told_gone : (d : ℕ) → ((i : ℕ) (q : Leaf) → q.0.0 ≡ d → says_at says now i q ≡ None) → ((i : ℕ) (q : Leaf) → q.0.0 ≢ d → says_at says now i q ≡ says_at says old i q) → AreGone (told says old) (told says now) d
    told_gone d none beside = record {
      gone = λ q here. get_told now q ∙ nowhere now q (λ i. none i q here);
      others = λ q apart. get_told now q ∙ found_same now old q (λ i. beside i q apart) ∙ sym (get_told old q);
    }
