-- The first claim of rows in order, of a list, and of several lists.
use Rattle.subtree_map.proofs.Common.{Bool, Entry, Equal, Greater, IsFirstBy, IsSome, Leaf, Less, List, None, Option, Ordering, Rank, ListRows, Some, T, [], ap, arith, claimed, cond, contents, entries_sorted, entry_at, eq_by_cmp, false, find, find-where_key, first_told, get-entries, inl, inr, is_eq, is_lt, is_some, is_sorted, is_sorted-where_key, leaf-exact, leaf-total, leaf_cmp, left_of, length, lesser_of, option_or, ordering_reverse, refl, right_of, rows_at, said, subst, suc, sym, take, tie, tied_itself, true, where_key, zero, ℕ, ◌+◌, ◌<◌, ◌∙◌, ◌∷◌, ◌≡◌, ◌⊎◌}
use Rattle.std.specs.FinMap as map
use Rattle.subtree_map.proofs.Firsts.{behind}

-- the same question in other words
pub first_as : (f g : Leaf → Option Rank) (passes : Leaf → Bool) (o : Option Leaf) → ((leaf : Leaf) → g leaf ≡ f leaf) → IsFirstBy f passes o → IsFirstBy g passes o
first_as f g passes None same is = λ leaf on. same leaf ∙ is leaf on
first_as f g passes (Some first) same is = (is.0, ap is_some (same first) ∙ is.1, λ leaf on some. is.2 leaf on (ap is_some (sym (same leaf)) ∙ some))

module _ (row : Leaf × Entry) (rest : List (Leaf × Entry)) (sorted : T (is_sorted leaf_cmp (row ∷ rest))) where
  itself : find leaf_cmp row.0 (row ∷ rest) ≡ Some row.1
  itself = ap (λ r. cond (is_eq r) (Some row.1) (find leaf_cmp row.0 rest)) (tied_itself leaf-total row.0)

  -- the first row, if it claims
  first_row_claims : is_some (claimed row.1) ≡ true → IsFirstBy (λ leaf. said claimed (find leaf_cmp leaf (row ∷ rest))) (λ leaf. true) (Some row.0)
  first_row_claims some = (refl, ap (λ o. is_some (said claimed o)) itself ∙ some, λ leaf on its. later leaf (eq_by_cmp leaf_cmp leaf row.0) refl its)
    where
      there : (o : Option Entry) → IsSome (said claimed o) → IsSome o
      there None none = none
      there (Some e) its = refl

      later : (leaf : Leaf) (b : Bool) → eq_by_cmp leaf_cmp leaf row.0 ≡ b → IsSome (said claimed (cond b (Some row.1) (find leaf_cmp leaf rest))) → (leaf ≡ row.0) ⊎ (leaf_cmp row.0 leaf ≡ Less)
      later leaf true tied its = inl (leaf-exact leaf row.0 (tie _ tied))
      later leaf false apart its = inr (behind row.0 rest leaf (left_of _ _ sorted) (there (find leaf_cmp leaf rest) its))

  -- the first row, if it claims nothing, can be passed
  pub passed : is_some (claimed row.1) ≡ false → (leaf : Leaf) → said claimed (find leaf_cmp leaf rest) ≡ said claimed (find leaf_cmp leaf (row ∷ rest))
  passed none leaf = go (eq_by_cmp leaf_cmp leaf row.0) refl
    where
      no_claim : (o : Option Rank) → is_some o ≡ false → o ≡ None
      no_claim None is = refl
      no_claim (Some r) is = let clash : true ≡ false = is in absurd cc

      absent : (o : Option Entry) → find leaf_cmp leaf rest ≡ o → eq_by_cmp leaf_cmp leaf row.0 ≡ true → said claimed o ≡ claimed row.1
      absent None is tied = sym (no_claim (claimed row.1) none)
      absent (Some e) is tied =
          let less : leaf_cmp row.0 leaf ≡ Less = behind row.0 rest leaf (left_of _ _ sorted) (ap is_some is) in
          let clash : Equal ≡ Less = sym (tied_itself leaf-total row.0) ∙ ap (leaf_cmp row.0) (sym (leaf-exact leaf row.0 (tie _ tied))) ∙ less in
          absurd cc

      go : (b : Bool) → eq_by_cmp leaf_cmp leaf row.0 ≡ b → said claimed (find leaf_cmp leaf rest) ≡ said claimed (cond b (Some row.1) (find leaf_cmp leaf rest))
      go true tied = ap (said claimed) refl ∙ absent (find leaf_cmp leaf rest) refl tied
      go false apart = refl

pub first_here : (all left rest : List (Leaf × Entry)) (row : Leaf × Entry) → left ≡ row ∷ rest → T (is_sorted leaf_cmp left) → ((leaf : Leaf) → said claimed (find leaf_cmp leaf left) ≡ said claimed (find leaf_cmp leaf all)) → is_some (claimed row.1) ≡ true
    → IsFirstBy (λ leaf. said claimed (find leaf_cmp leaf all)) (λ leaf. true) (Some row.0)
first_here all left rest row is sorted each some =
    first_as (λ leaf. said claimed (find leaf_cmp leaf (row ∷ rest))) (λ leaf. said claimed (find leaf_cmp leaf all)) (λ leaf. true) (Some row.0)
    (λ leaf. sym (each leaf) ∙ ap (λ es. said claimed (find leaf_cmp leaf es)) is) (first_row_claims row rest (subst (λ es. T (is_sorted leaf_cmp es)) is sorted) some)

pub rest_sorted : (left rest : List (Leaf × Entry)) (row : Leaf × Entry) → left ≡ row ∷ rest → T (is_sorted leaf_cmp left) → T (is_sorted leaf_cmp rest)
rest_sorted left rest row is sorted = right_of _ _ (subst (λ es. T (is_sorted leaf_cmp es)) is sorted)

pub rest_claims : (all left rest : List (Leaf × Entry)) (row : Leaf × Entry) → left ≡ row ∷ rest → T (is_sorted leaf_cmp left) → ((leaf : Leaf) → said claimed (find leaf_cmp leaf left) ≡ said claimed (find leaf_cmp leaf all)) → is_some (claimed row.1) ≡ false
    → (leaf : Leaf) → said claimed (find leaf_cmp leaf rest) ≡ said claimed (find leaf_cmp leaf all)
rest_claims all left rest row is sorted each none leaf =
    passed row rest (subst (λ es. T (is_sorted leaf_cmp es)) is sorted) none leaf ∙ ap (λ es. said claimed (find leaf_cmp leaf es)) (sym is) ∙ each leaf

-- ---- the rows of a list that pass a test

pub all_pass : {X : Type 0} (es : List (Leaf × X)) → es ≡ where_key leaf_cmp (λ leaf. true) es
all_pass [] = refl
all_pass (e ∷ es) = ap (λ t. e ∷ t) (all_pass es)

module _ (rows : ListRows) (passes : Leaf → Bool) (left : List (Leaf × Entry)) (is : left ≡ where_key leaf_cmp passes (map.entries (contents leaf_cmp rows))) where
  pub left_sorted : T (is_sorted leaf_cmp left)
  left_sorted = subst (λ es. T (is_sorted leaf_cmp es)) (sym is) (is_sorted-where_key leaf_cmp passes (map.entries (contents leaf_cmp rows)) (entries_sorted (contents leaf_cmp rows)))

  found_left : (leaf : Leaf) → find leaf_cmp leaf left ≡ cond (passes leaf) (entry_at rows leaf) None
  found_left leaf =
      ap (find leaf_cmp leaf) is
      ∙ find-where_key leaf_cmp passes leaf (λ x tied. ap passes (sym (leaf-exact leaf x tied))) (map.entries (contents leaf_cmp rows))
      ∙ ap (λ o. cond (passes leaf) o None) (sym (get-entries (contents leaf_cmp rows) leaf))

  on_left : (leaf : Leaf) → passes leaf ≡ true → said claimed (entry_at rows leaf) ≡ said claimed (find leaf_cmp leaf left)
  on_left leaf on = ap (said claimed) (sym (found_left leaf ∙ ap (λ b. cond b (entry_at rows leaf) None) on))

  pub first_of_list : (o : Option Leaf) → IsFirstBy (λ leaf. said claimed (find leaf_cmp leaf left)) (λ leaf. true) o → IsFirstBy (λ leaf. said claimed (entry_at rows leaf)) passes o
  first_of_list None none = λ leaf on. on_left leaf on ∙ none leaf refl
  first_of_list (Some first) (on, some, later) =
      let its = there (passes first) refl (ap (λ o. is_some (said claimed o)) (sym (found_left first)) ∙ some) in
      (its, ap is_some (on_left first its) ∙ some, λ leaf on its. later leaf refl (ap is_some (sym (on_left leaf on)) ∙ its))
    where
      there : (b : Bool) → passes first ≡ b → IsSome (said claimed (cond b (entry_at rows first) None)) → passes first ≡ true
      there true is some = is
      there false is some = let clash : false ≡ true = some in absurd cc

-- ---- the lesser of two

either : (o p : Option Rank) → IsSome (option_or o p) → IsSome o ⊎ IsSome p
either None p some = inr some
either (Some r) p some = inl refl

some_left : (o p : Option Rank) → IsSome o → IsSome (option_or o p)
some_left None p some = let clash : false ≡ true = some in absurd cc
some_left (Some r) p some = refl

some_right : (o p : Option Rank) → IsSome p → IsSome (option_or o p)
some_right None p some = some
some_right (Some r) p some = refl

lt_less : (r : Ordering) → is_lt r ≡ true → r ≡ Less
lt_less Less is = refl
lt_less Equal is = let clash : false ≡ true = is in absurd cc
lt_less Greater is = let clash : false ≡ true = is in absurd cc

-- a leaf that is not less than another is it, or behind it
not_less : (a b : Leaf) → is_lt (leaf_cmp b a) ≡ false → (b ≡ a) ⊎ (leaf_cmp a b ≡ Less)
not_less a b is = go (leaf_cmp b a) refl is
  where
    go : (r : Ordering) → leaf_cmp b a ≡ r → is_lt r ≡ false → (b ≡ a) ⊎ (leaf_cmp a b ≡ Less)
    go Less at not = let clash : true ≡ false = not in absurd cc
    go Equal at not = inl (leaf-exact b a at)
    go Greater at not = inr (leaf-total.antisymm a b ∙ ap ordering_reverse at)

module _ (f g : Leaf → Option Rank) (passes : Leaf → Bool) where
  pub first_of_both : (a : Leaf) (other : Option Leaf) → IsFirstBy f passes (Some a) → IsFirstBy g passes other → IsFirstBy (λ leaf. option_or (f leaf) (g leaf)) passes (Some (lesser_of a other))
  first_of_both a None (on, some, later) none = (on, some_left (f a) (g a) some, λ leaf its there. go leaf its (either (f leaf) (g leaf) there))
    where
      go : (leaf : Leaf) → passes leaf ≡ true → IsSome (f leaf) ⊎ IsSome (g leaf) → (leaf ≡ a) ⊎ (leaf_cmp a leaf ≡ Less)
      go leaf its (inl there) = later leaf its there
      go leaf its (inr there) = let clash : false ≡ true = ap is_some (sym (none leaf its)) ∙ there in absurd cc
  first_of_both a (Some b) (on, some, later) (also, there, behind_it) = go (is_lt (leaf_cmp b a)) refl
    where
      from : (x y leaf : Leaf) → leaf_cmp x y ≡ Less → (leaf ≡ y) ⊎ (leaf_cmp y leaf ≡ Less) → (leaf ≡ x) ⊎ (leaf_cmp x leaf ≡ Less)
      from x y leaf less (inl same) = inr (ap (leaf_cmp x) same ∙ less)
      from x y leaf less (inr more) = inr (leaf-total.trans x y leaf less more)

      low : is_lt (leaf_cmp b a) ≡ true → (leaf : Leaf) → passes leaf ≡ true → IsSome (f leaf) ⊎ IsSome (g leaf) → (leaf ≡ b) ⊎ (leaf_cmp b leaf ≡ Less)
      low less leaf its (inl one) = from b a leaf (lt_less _ less) (later leaf its one)
      low less leaf its (inr two) = behind_it leaf its two

      after : (b ≡ a) ⊎ (leaf_cmp a b ≡ Less) → (leaf : Leaf) → (leaf ≡ b) ⊎ (leaf_cmp b leaf ≡ Less) → (leaf ≡ a) ⊎ (leaf_cmp a leaf ≡ Less)
      after (inl same) leaf = subst (λ (x : Leaf). (leaf ≡ b) ⊎ (leaf_cmp b leaf ≡ Less) → (leaf ≡ x) ⊎ (leaf_cmp x leaf ≡ Less)) same (λ is. is)
      after (inr less) leaf = from a b leaf less

      high : is_lt (leaf_cmp b a) ≡ false → (leaf : Leaf) → passes leaf ≡ true → IsSome (f leaf) ⊎ IsSome (g leaf) → (leaf ≡ a) ⊎ (leaf_cmp a leaf ≡ Less)
      high not leaf its (inl one) = later leaf its one
      high not leaf its (inr two) = after (not_less a b not) leaf (behind_it leaf its two)

      go : (t : Bool) → is_lt (leaf_cmp b a) ≡ t → IsFirstBy (λ leaf. option_or (f leaf) (g leaf)) passes (Some (cond t b a))
      go true is = (also, some_right (f b) (g b) there, λ leaf its one. low is leaf its (either (f leaf) (g leaf) one))
      go false is = (on, some_left (f a) (g a) some, λ leaf its one. high is leaf its (either (f leaf) (g leaf) one))

-- ---- one list more

found_next : (says : Entry → Option Rank) (lists : List ListRows) (i : ℕ) (leaf : Leaf) → i < length lists → first_told says (take (suc i) lists) leaf ≡ option_or (first_told says (take i lists) leaf) (said says (entry_at (rows_at lists i) leaf))
found_next says [] i leaf low = absurd (omega (arith, low))
found_next says (rows ∷ more) zero leaf low = none_right (said says (entry_at rows leaf))
  where
    none_right : (o : Option Rank) → option_or o None ≡ o
    none_right None = refl
    none_right (Some r) = refl
found_next says (rows ∷ more) (suc i) leaf low =
    ap (option_or (said says (entry_at rows leaf))) (found_next says more i leaf (omega (arith, low))) ∙ shift (said says (entry_at rows leaf)) (first_told says (take i more) leaf) (said says (entry_at (rows_at more i) leaf))
  where
    shift : (o p q : Option Rank) → option_or o (option_or p q) ≡ option_or (option_or o p) q
    shift None p q = refl
    shift (Some r) p q = refl

pub found_more : (says : Entry → Option Rank) (lists : List ListRows) (i : ℕ) (leaf : Leaf) → i < length lists → first_told says (take (i + 1) lists) leaf ≡ option_or (first_told says (take i lists) leaf) (said says (entry_at (rows_at lists i) leaf))
found_more says lists i leaf low = let one : i + 1 ≡ suc i = omega arith in ap (λ n. first_told says (take n lists) leaf) one ∙ found_next says lists i leaf low
