-- The directories in order, one after the other.
use Rattle.std.proofs.Common.{◌≡◌, ⊎_elim, ℕ, ◌==◌, Bool, true, false, cond, ◌||◌, T, is_some, subst, List, [], ◌∷◌, map as list_map, Option, Some, None, option_map, refl, sym, ap, ◌∙◌}
use Rattle.std.specs.Prelude.{filter, slice_get}
use Rattle.std.specs.Ordering.{nat_cmp, is_lt, eq_by_cmp}
use Rattle.std.specs.Cmp.{nat_cmp_total, tied_itself, unsigned_tied}
use Rattle.std.proofs.lemmas.Option.{same_Some, slice_get-map}
use Rattle.std.specs.FinMap as map
use Rattle.std.specs.FinMap.{contains_key-keys, entries_sorted, is_sorted}
use Rattle.std.specs.FinMap.Entries.{below_all}
use Rattle.std.specs.List.{list_any}
use Rattle.std.proofs.lemmas.Bool.{eq-eqb, false_from_ne_true, ne_eqb, or_cases, or_left, or_right}
use Rattle.mds_types.specs.declared.ids.Ino.{Ino}
use Rattle.sorted_map.proofs.Bools.{left_of, right_of, true_of}
use Rattle.sorted_map.proofs.Filters.{all_kept}
use Rattle.sorted_map.proofs.PlaceLaws.{less as less_of}
use Rattle.sorted_map.specs.SortedMap.{after, first_pair}
use Rattle.inode_table.specs.declared.dirs.Directory.{Directory}
use Rattle.inode_table.specs.declared.dirs.Home.{Home}
use Rattle.inode_table.specs.Dirs.{Homes, is_known}
use Rattle.inode_table.specs.Order.{dirs_after}
use Rattle.inode_table.specs.Rows.{DirRows, homes_of}
use Rattle.inode_table.proofs.RowLaws.{row_numbers}

abbrev number_in : Option (ℕ × Directory) → Option ℕ
number_in row = option_map (λ e. e.0) row

-- the numbers of a list that come after one
abbrev pub behind : ℕ → List ℕ → List ℕ
behind d ks = filter (λ k. is_lt (nat_cmp d k)) ks

pub numbers_after : (d : ℕ) (es : List (ℕ × Directory)) → behind d (list_map (λ e. e.0) es) ≡ list_map (λ e. e.0) (after nat_cmp d es)
numbers_after d [] = refl
numbers_after d (e ∷ es) =
    elim (is_lt (nat_cmp d e.0)) as (λ b. cond b (e.0 ∷ behind d (list_map (λ e. e.0) es)) (behind d (list_map (λ e. e.0) es)) ≡ list_map (λ e. e.0) (cond b (e ∷ after nat_cmp d es) (after nat_cmp d es))) [
      | true ↦ ap (λ ks. e.0 ∷ ks) (numbers_after d es)
      | false ↦ numbers_after d es
    ]

module _ (rows : DirRows) (d : Ino) where
  -- the first number of all rows comes after the root's
  pub after_root : (row : Option (ℕ × Directory)) → true ≡ (d.0 == 1) → row ≡ first_pair rows → number_in row ≡ slice_get (dirs_after (homes_of rows) (Some d)) 0
  after_root row root is =
      ap number_in is ∙ sym (ap (λ ks. slice_get ks 0) (row_numbers rows) ∙ slice_get-map (λ e. e.0) (map.entries rows) 0)
      ∙ ap (λ b. slice_get (cond b (map.keys (homes_of rows)) (behind d.0 (map.keys (homes_of rows)))) 0) root

  -- the first number of the rows behind another comes after that
  pub after_other : (es : List (ℕ × Directory)) → false ≡ (d.0 == 1) → es ≡ after nat_cmp d.0 (map.entries rows) → number_in (slice_get es 0) ≡ slice_get (dirs_after (homes_of rows) (Some d)) 0
  after_other es other is =
      ap (λ l. number_in (slice_get l 0)) is
      ∙ sym (ap (λ ks. slice_get ks 0) (ap (behind d.0) (row_numbers rows) ∙ numbers_after d.0 (map.entries rows)) ∙ slice_get-map (λ e. e.0) (after nat_cmp d.0 (map.entries rows)) 0)
      ∙ ap (λ b. slice_get (cond b (map.keys (homes_of rows)) (behind d.0 (map.keys (homes_of rows)))) 0) other

-- ---- one step further

-- the first that passes a test does, and is one of the list
pub first_passes : (P : ℕ → Bool) (x : ℕ) (ks : List ℕ) → slice_get (filter P ks) 0 ≡ Some x → (P x ≡ true) × (list_any (eq_by_cmp nat_cmp x) ks ≡ true)
first_passes P x [] first = let clash : None ≡ Some x = first in absurd cc
first_passes P x (k ∷ ks) first =
    elim (P k) as (λ b. P k ≡ b → slice_get (cond b (k ∷ filter P ks) (filter P ks)) 0 ≡ Some x → (P x ≡ true) × ((eq_by_cmp nat_cmp x k || list_any (eq_by_cmp nat_cmp x) ks) ≡ true)) [
      | true ↦ λ is f. let same = same_Some k x f in (subst (λ j. P j ≡ true) same is, or_left _ _ (unsigned_tied x k ∙ eq-eqb x k (sym same)))
      | false ↦ λ is f. let w = first_passes P x ks f in (w.0, or_right _ _ w.1)
    ] refl first

-- all of a list come after a number
abbrev AreBehind : ℕ → List ℕ → Type 0
AreBehind x [] = Unit {0}
AreBehind x (k ∷ ks) = (is_lt (nat_cmp x k) ≡ true) × AreBehind x ks

abbrev AreRising : List ℕ → Type 0
AreRising [] = Unit {0}
AreRising (k ∷ ks) = AreBehind k ks × AreRising ks

all_pass : (P : ℕ → Bool) (x : ℕ) (ks : List ℕ) → ((k : ℕ) → is_lt (nat_cmp x k) ≡ true → P k ≡ true) → AreBehind x ks → filter P ks ≡ ks
all_pass P x [] pass above = refl
all_pass P x (k ∷ ks) pass (less, above) = ap (λ b. cond b (k ∷ filter P ks) (filter P ks)) (pass k less) ∙ ap (λ l. k ∷ l) (all_pass P x ks pass above)

-- of numbers that rise, those from the first on that passes a test are that and what comes after it, where all that comes after passes too
module _ (P : ℕ → Bool) (up : (j k : ℕ) → P j ≡ true → is_lt (nat_cmp j k) ≡ true → P k ≡ true) (x : ℕ) where
  from_first : (ks : List ℕ) → AreRising ks → slice_get (filter P ks) 0 ≡ Some x → filter P ks ≡ x ∷ behind x ks
  from_first [] rise first = let clash : None ≡ Some x = first in absurd cc
  from_first (k ∷ ks) (above, rise) first =
      elim (P k) as (λ b. P k ≡ b → slice_get (cond b (k ∷ filter P ks) (filter P ks)) 0 ≡ Some x → cond b (k ∷ filter P ks) (filter P ks) ≡ x ∷ behind x (k ∷ ks)) [
        | true ↦ λ is f.
            subst (λ y. k ∷ filter P ks ≡ y ∷ behind y (k ∷ ks)) (same_Some k x f)
            (ap (λ l. k ∷ l) (all_pass P k ks (λ j. up k j is) above ∙ sym (ap (λ r. cond (is_lt r) (k ∷ behind k ks) (behind k ks)) (tied_itself nat_cmp_total k) ∙ all_pass _ k ks (λ j less. less) above)))
        | false ↦ λ is f.
            let before : is_lt (nat_cmp x k) ≡ false = false_from_ne_true _ (λ less. let clash : true ≡ false = sym (up x k (first_passes P x ks f).0 less) ∙ is in cc) in
            from_first ks rise f ∙ ap (λ l. x ∷ l) (sym (ap (λ b. cond b (k ∷ behind x ks) (behind x ks)) before))
      ] refl first

module _ (homes : Homes) (rootless : map.get homes 1 ≡ None) where
  above_first : (x : ℕ) (es : List (ℕ × Home)) → T (below_all nat_cmp x es) → AreBehind x (list_map (λ e. e.0) es)
  above_first x [] below = tt
  above_first x (e ∷ es) below = (true_of _ (left_of _ _ below), above_first x es (right_of _ _ below))

  rising : (es : List (ℕ × Home)) → T (is_sorted nat_cmp es) → AreRising (list_map (λ e. e.0) es)
  rising [] sorted = tt
  rising (e ∷ es) sorted = (above_first e.0 es (left_of _ _ sorted), rising es (right_of _ _ sorted))

  -- those after one are the numbers that pass a test
  abbrev comes_after : Ino → ℕ → Bool
  comes_after d k = (d.0 == 1) || is_lt (nat_cmp d.0 k)

  passing : (d : Ino) → dirs_after homes (Some d) ≡ filter (comes_after d) (map.keys homes)
  passing d = go (d.0 == 1)
    where
      go : (b : Bool) → cond b (map.keys homes) (behind d.0 (map.keys homes)) ≡ filter (λ k. b || is_lt (nat_cmp d.0 k)) (map.keys homes)
      go true = sym (all_kept (map.keys homes))
      go false = refl

  more_after : (d : Ino) (j k : ℕ) → comes_after d j ≡ true → is_lt (nat_cmp j k) ≡ true → comes_after d k ≡ true
  more_after d j k here less =
      ⊎_elim (λ root. or_left _ _ root) (λ before. or_right (d.0 == 1) _ (ap is_lt (nat_cmp_total.trans d.0 j k (less_of _ (subst T (sym before) tt)) (less_of _ (subst T (sym less) tt))))) (or_cases (d.0 == 1) (is_lt (nat_cmp d.0 j)) here)

  module _ (d : Ino) (x : ℕ) (first : slice_get (dirs_after homes (Some d)) 0 ≡ Some x) where
    first_passing : slice_get (filter (comes_after d) (map.keys homes)) 0 ≡ Some x
    first_passing = ap (λ ks. slice_get ks 0) (sym (passing d)) ∙ first

    -- it has a home, so it isn't the root
    first_has_home : is_some (map.get homes x) ≡ true
    first_has_home = contains_key-keys homes x ∙ (first_passes (comes_after d) x (map.keys homes) first_passing).1

    first_other : x ≡ 1 → ⊥
    first_other root = let clash : false ≡ true = sym (ap is_some rootless) ∙ sym (ap (λ k. is_some (map.get homes k)) root) ∙ first_has_home in cc

  -- the first of those after one is a directory
  pub first_known : (after : Option Ino) (x : ℕ) → slice_get (dirs_after homes after) 0 ≡ Some x → is_known homes x ≡ true
  first_known None x first = or_left (x == 1) (is_some (map.get homes x)) (eq-eqb x 1 (sym (same_Some 1 x first)))
  first_known (Some d) x first = or_right (x == 1) _ (first_has_home d x first)

  -- the first of those after one, and what comes after that
  pub next_after : (after : Option Ino) (x : Ino) → slice_get (dirs_after homes after) 0 ≡ Some x.0 → dirs_after homes after ≡ x.0 ∷ dirs_after homes (Some x)
  next_after None x first =
      let root : x.0 ≡ 1 = sym (same_Some 1 x.0 first) in
      λ i. sym root i ∷ sym (ap (λ b. cond b (map.keys homes) (behind x.0 (map.keys homes))) (eq-eqb x.0 1 root)) i
  next_after (Some d) x first =
      passing d ∙ from_first (comes_after d) (more_after d) x.0 (map.keys homes) (rising (map.entries homes) (entries_sorted homes)) (first_passing d x.0 first)
      ∙ ap (λ ks. x.0 ∷ ks) (sym (ap (λ b. cond b (map.keys homes) (behind x.0 (map.keys homes))) (ne_eqb x.0 1 (first_other d x.0 first))))

-- all directories come from the first on
pub all_dirs : (homes : Homes) (d : ℕ) → is_known homes d ≡ true → list_any (eq_by_cmp nat_cmp d) (dirs_after homes None) ≡ true
all_dirs homes d known = (λ i. unsigned_tied d 1 i || sym (contains_key-keys homes d) i) ∙ known
