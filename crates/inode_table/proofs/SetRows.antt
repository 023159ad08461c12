-- The rows whose leaves were set, and the directories in order that these are.
use Rattle.std.proofs.Common.{◌≡◌, ℕ, ◌==◌, Bool, true, false, cond, T, is_some, List, [], ◌∷◌, map as list_map, Option, Some, None, refl, sym, ap, ◌∙◌}
use Rattle.std.specs.Prelude.{filter, slice_get}
use Rattle.std.specs.Ordering.{nat_cmp, is_lt, is_eq, eq_by_cmp}
use Rattle.std.specs.Cmp.{nat_cmp_total, tied_itself}
use Rattle.std.specs.FinMap as map
use Rattle.std.specs.FinMap.{entries_sorted, find, get-entries, is_sorted}
use Rattle.sorted_map.proofs.Bools.{left_of, right_of}
use Rattle.sorted_map.specs.SortedMap.{after}
use Rattle.mds_types.proofs.EntrySearch.{not_found_below}
use Rattle.mds_types.specs.Frag.{Fragment}
use Rattle.mds_types.specs.declared.ids.Ino.{Ino}
use Rattle.inode_table.specs.declared.dirs.Directory.{Directory}
use Rattle.inode_table.specs.Order.{trees_after}
use Rattle.inode_table.specs.Rows.{DirRows, covers_of, homes_of, leaves_of_row, set_in}
use Rattle.inode_table.proofs.OrderLaws.{behind}
use Rattle.inode_table.proofs.RowLaws.{get_home, get_leaves, get_root, home_in, row_numbers}
use Rattle.inode_table.proofs.Common.{nat_cmp-IsAntisymmetric, tie}

-- ---- one row after the other

module _ (left rest : List (ℕ × Directory)) (row : ℕ × Directory) (is : left ≡ row ∷ rest) where
  pub set_here : is_some row.1.settings.leaves ≡ true → slice_get (set_in left) 0 ≡ Some row.0
  set_here some = ap (λ es. slice_get (set_in es) 0) is ∙ ap (λ b. slice_get (cond b (row.0 ∷ set_in rest) (set_in rest)) 0) some

  pub set_behind : is_some row.1.settings.leaves ≡ false → slice_get (set_in rest) 0 ≡ slice_get (set_in left) 0
  set_behind none = sym (ap (λ es. slice_get (set_in es) 0) is ∙ ap (λ b. slice_get (cond b (row.0 ∷ set_in rest) (set_in rest)) 0) none)

-- ---- those behind a number

two_tests : (p q : Bool) (x : ℕ) (r s : List ℕ) (k : ℕ) → (p ≡ is_lt (nat_cmp k x)) → s ≡ behind k r
    → cond p (cond q (x ∷ s) s) s ≡ behind k (cond q (x ∷ r) r)
two_tests true true x r s k is same = ap (λ l. x ∷ l) same ∙ ap (λ b. cond b (x ∷ behind k r) (behind k r)) is
two_tests true false x r s k is same = same
two_tests false true x r s k is same = same ∙ ap (λ b. cond b (x ∷ behind k r) (behind k r)) is
two_tests false false x r s k is same = same

set_after : (k : ℕ) (es : List (ℕ × Directory)) → set_in (after nat_cmp k es) ≡ behind k (set_in es)
set_after k [] = refl
set_after k (e ∷ es) = go (set_after k es) (is_lt (nat_cmp k e.0)) refl
  where
    go : set_in (after nat_cmp k es) ≡ behind k (set_in es) → (p : Bool) → p ≡ is_lt (nat_cmp k e.0)
        → set_in (cond p (e ∷ after nat_cmp k es) (after nat_cmp k es)) ≡ behind k (cond (is_some e.1.settings.leaves) (e.0 ∷ set_in es) (set_in es))
    go same true is = two_tests true (is_some e.1.settings.leaves) e.0 (set_in es) (set_in (after nat_cmp k es)) k is same
    go same false is = two_tests false (is_some e.1.settings.leaves) e.0 (set_in es) (set_in (after nat_cmp k es)) k is same

module _ (P : ℕ → Bool) (k : ℕ) where
  commute : (ds : List ℕ) → behind k (filter P ds) ≡ filter P (behind k ds)
  commute [] = refl
  commute (d ∷ ds) = go (commute ds) (P d) (is_lt (nat_cmp k d)) refl refl
    where
      go : behind k (filter P ds) ≡ filter P (behind k ds) → (p q : Bool) → P d ≡ p → is_lt (nat_cmp k d) ≡ q
          → behind k (cond p (d ∷ filter P ds) (filter P ds)) ≡ filter P (cond q (d ∷ behind k ds) (behind k ds))
      go same true true has less =
          ap (λ b. cond b (d ∷ behind k (filter P ds)) (behind k (filter P ds))) less ∙ ap (λ l. d ∷ l) same
          ∙ sym (ap (λ b. cond b (d ∷ filter P (behind k ds)) (filter P (behind k ds))) has)
      go same true false has less = ap (λ b. cond b (d ∷ behind k (filter P ds)) (behind k (filter P ds))) less ∙ same
      go same false true has less = same ∙ sym (ap (λ b. cond b (d ∷ filter P (behind k ds)) (filter P (behind k ds))) has)
      go same false false has less = same

-- ---- all of them

-- rows whose numbers pass a test exactly where their leaves were set
numbers_set : (P : ℕ → Bool) (es : List (ℕ × Directory)) → T (is_sorted nat_cmp es)
    → ((d : ℕ) (row : Directory) → find nat_cmp d es ≡ Some row → P d ≡ is_some row.settings.leaves)
    → set_in es ≡ filter P (list_map (λ e. e.0) es)
numbers_set P [] sorted agree = refl
numbers_set P (e ∷ es) sorted agree =
    let here : P e.0 ≡ is_some e.1.settings.leaves = agree e.0 e.1 (ap (λ r. cond (is_eq r) (Some e.1) (find nat_cmp e.0 es)) (tied_itself nat_cmp_total e.0)) in
    let rest : set_in es ≡ filter P (list_map (λ x. x.0) es) = numbers_set P es (right_of _ _ sorted) (λ d row is. agree d row (deeper d row is (eq_by_cmp nat_cmp d e.0) refl)) in
    ap (λ l. cond (is_some e.1.settings.leaves) (e.0 ∷ l) l) rest
    ∙ ap (λ b. cond b (e.0 ∷ filter P (list_map (λ x. x.0) es)) (filter P (list_map (λ x. x.0) es))) (sym here)
  where
    deeper : (d : ℕ) (row : Directory) → find nat_cmp d es ≡ Some row → (b : Bool) → eq_by_cmp nat_cmp d e.0 ≡ b
        → cond b (Some e.1) (find nat_cmp d es) ≡ Some row
    deeper d row is true tied =
        let clash : None ≡ Some row = sym (ap (λ k. find nat_cmp k es) (nat_cmp-IsAntisymmetric d e.0 (tie _ tied)) ∙ not_found_below nat_cmp_total e.0 es (left_of _ _ sorted)) ∙ is in absurd cc
    deeper d row is false apart = is

module _ (root : Option (List Fragment)) (rows : DirRows) (rootless : map.get (homes_of rows) 1 ≡ None) where
  abbrev has_tree : ℕ → Bool
  has_tree d = is_some (map.get (covers_of root rows) d)

  below_root : (d : ℕ) (row : Directory) → map.get rows d ≡ Some row → d ≡ 1 → ⊥
  below_root d row is top = let clash : None ≡ Some row.home = sym rootless ∙ get_home rows 1 ∙ ap home_in (ap (map.get rows) (sym top) ∙ is) in cc

  told : (d : ℕ) (row : Directory) → find nat_cmp d (map.entries rows) ≡ Some row → has_tree d ≡ is_some row.settings.leaves
  told d row is =
      let at : map.get rows d ≡ Some row = get-entries rows d ∙ is in
      ap is_some (get_leaves root rows d (below_root d row at) ∙ ap leaves_of_row at)

  all_set : set_in (map.entries rows) ≡ filter has_tree (map.keys (homes_of rows))
  all_set = numbers_set has_tree (map.entries rows) (entries_sorted rows) told ∙ ap (filter has_tree) (sym (row_numbers rows))

  -- the root first
  pub root_first : is_some root ≡ true → slice_get (trees_after (homes_of rows) (covers_of root rows) None) 0 ≡ Some 1
  root_first some =
      ap (λ b. slice_get (cond b (1 ∷ filter has_tree (map.keys (homes_of rows))) (filter has_tree (map.keys (homes_of rows)))) 0)
      (ap is_some (get_root root rows rootless) ∙ some)

  -- then the first of all rows
  pub rows_first : is_some root ≡ false → slice_get (set_in (map.entries rows)) 0 ≡ slice_get (trees_after (homes_of rows) (covers_of root rows) None) 0
  rows_first none =
      ap (λ l. slice_get l 0) all_set
      ∙ sym (ap (λ b. slice_get (cond b (1 ∷ filter has_tree (map.keys (homes_of rows))) (filter has_tree (map.keys (homes_of rows)))) 0)
      (ap is_some (get_root root rows rootless) ∙ none))

  -- behind the root all rows, behind another those with greater numbers
  pub rows_behind : (last : Ino) (b : Bool) → (last.0 == 1) ≡ b
      → slice_get (set_in (cond b (map.entries rows) (after nat_cmp last.0 (map.entries rows)))) 0
      ≡ slice_get (trees_after (homes_of rows) (covers_of root rows) (Some last)) 0
  rows_behind last true top =
      ap (λ l. slice_get l 0) all_set
      ∙ sym (ap (λ b. slice_get (filter has_tree (cond b (map.keys (homes_of rows)) (behind last.0 (map.keys (homes_of rows))))) 0) top)
  rows_behind last false other =
      ap (λ l. slice_get l 0) (set_after last.0 (map.entries rows) ∙ ap (behind last.0) all_set ∙ commute has_tree last.0 (map.keys (homes_of rows)))
      ∙ sym (ap (λ b. slice_get (filter has_tree (cond b (map.keys (homes_of rows)) (behind last.0 (map.keys (homes_of rows))))) 0) other)
