-- The first row with a pin, of rows in order.
use Rattle.inode_table.proofs.Common.{Directory, Ino, IsAfter, IsFirstPinned, IsNextPinned, IsSome, Less, Rank, DirRows, ap, arith, below_all, entries_sorted, eq_by_cmp, find, find-where_key, get-entries, is_eq, is_lt, is_sorted, is_sorted-where_key, left_of, nat_cmp, nat_cmp-IsAntisymmetric, nat_cmp_total, pin_in, pins_of, ranked, right_of, subst, sym, tie, tied_itself, where_key, ◌∙◌}
use Rattle.std.specs.Prelude.{◌≡◌, ℕ, ◌<◌, ◌≤◌, Bool, true, false, cond, T, List, [], ◌∷◌, Option, Some, None, is_some, refl}
use Rattle.std.specs.FinMap as map
use Rattle.std.specs.Cmp.{nat_cmp_is}
use Rattle.mds_types.proofs.EntrySearch.{not_found_below}
use Rattle.sorted_map.proofs.PlaceLaws.{less as less_of}
use Rattle.inode_table.proofs.CountRows.{get_pin}

under : (x y : ℕ) → nat_cmp x y ≡ Less → x < y
under x y is = ranked x y Less (sym is)

-- a row that is found behind another has a greater number
behind : (first : ℕ) (es : List (ℕ × Directory)) (d : ℕ) → T (below_all nat_cmp first es) → IsSome (find nat_cmp d es) → first < d
behind first [] d below some = let clash : false ≡ true = some in cc
behind first (e ∷ es) d below some =
    elim (eq_by_cmp nat_cmp d e.0) as (λ b. eq_by_cmp nat_cmp d e.0 ≡ b → IsSome (cond b (Some e.1) (find nat_cmp d es)) → first < d) [
      | true ↦ λ tied its. subst (λ (n : ℕ). first < n) (sym (nat_cmp-IsAntisymmetric d e.0 (tie _ tied))) (under first e.0 (less_of _ (left_of _ _ below)))
      | false ↦ λ apart its. behind first es d (right_of _ _ below) its
    ] refl some

there : (o : Option Directory) → IsSome (pin_in o) → IsSome o
there None none = none
there (Some row) its = refl

module _ (all left rest : List (ℕ × Directory)) (row : ℕ × Directory) (is : left ≡ row ∷ rest) (sorted : T (is_sorted nat_cmp left)) (each : (d : ℕ) → pin_in (find nat_cmp d left) ≡ pin_in (find nat_cmp d all)) where
  here : T (is_sorted nat_cmp (row ∷ rest))
  here = subst (λ es. T (is_sorted nat_cmp es)) is sorted

  same : (d : ℕ) → pin_in (find nat_cmp d (row ∷ rest)) ≡ pin_in (find nat_cmp d all)
  same d = ap (λ es. pin_in (find nat_cmp d es)) (sym is) ∙ each d

  pub rest_sorted : T (is_sorted nat_cmp rest)
  rest_sorted = right_of _ _ here

  -- the first row, if it has a pin
  pub first_here : is_some row.1.settings.pin ≡ true → IsFirstPinned all (Some (record { 0 = row.0 }))
  first_here some = (
    ap is_some (sym (same row.0)) ∙ ap (λ r. is_some (pin_in (cond (is_eq r) (Some row.1) (find nat_cmp row.0 rest)))) (tied_itself nat_cmp_total row.0) ∙ some,
    λ d its. later d (eq_by_cmp nat_cmp d row.0) refl (ap is_some (same d) ∙ its),
  )
    where
      later : (d : ℕ) (b : Bool) → eq_by_cmp nat_cmp d row.0 ≡ b → IsSome (pin_in (cond b (Some row.1) (find nat_cmp d rest))) → row.0 ≤ d
      later d true tied its = let one : d ≡ row.0 = nat_cmp-IsAntisymmetric d row.0 (tie _ tied) in omega (arith, one)
      later d false apart its = let more : row.0 < d = behind row.0 rest d (left_of _ _ here) (there (find nat_cmp d rest) its) in omega (arith, more)

  -- if it has none, it can be passed
  pub rest_pins : is_some row.1.settings.pin ≡ false → (d : ℕ) → pin_in (find nat_cmp d rest) ≡ pin_in (find nat_cmp d all)
  rest_pins none d = go (eq_by_cmp nat_cmp d row.0) refl ∙ same d
    where
      no_pin : (o : Option Rank) → is_some o ≡ false → o ≡ None
      no_pin None is = refl
      no_pin (Some r) is = let clash : true ≡ false = is in cc

      go : (b : Bool) → eq_by_cmp nat_cmp d row.0 ≡ b → pin_in (find nat_cmp d rest) ≡ pin_in (cond b (Some row.1) (find nat_cmp d rest))
      go true tied = ap pin_in (ap (λ k. find nat_cmp k rest) (nat_cmp-IsAntisymmetric d row.0 (tie _ tied)) ∙ not_found_below nat_cmp_total row.0 rest (left_of _ _ here)) ∙ sym (no_pin row.1.settings.pin none)
      go false apart = refl

-- ---- the rows behind a directory

abbrev pub is_after : Option Ino → ℕ → Bool
is_after None d = true
is_after (Some last) d = is_lt (nat_cmp last.0 d)

after_is : (after : Option Ino) (d : ℕ) → IsAfter after d → is_after after d ≡ true
after_is None d is = refl
after_is (Some last) d is = ap is_lt (sym (nat_cmp_is last.0 d Less is))

is_behind : (after : Option Ino) (d : ℕ) → is_after after d ≡ true → IsAfter after d
is_behind None d is = tt
is_behind (Some last) d is = under last.0 d (less_of _ (subst T (sym is) tt))

module _ (rows : DirRows) (after : Option Ino) (left : List (ℕ × Directory)) (is : left ≡ where_key nat_cmp (is_after after) (map.entries rows)) where
  pub left_sorted : T (is_sorted nat_cmp left)
  left_sorted = subst (λ es. T (is_sorted nat_cmp es)) (sym is) (is_sorted-where_key nat_cmp (is_after after) (map.entries rows) (entries_sorted rows))

  found_left : (d : ℕ) → find nat_cmp d left ≡ cond (is_after after d) (map.get rows d) None
  found_left d =
      ap (find nat_cmp d) is
      ∙ find-where_key nat_cmp (is_after after) d (λ x tied. ap (is_after after) (sym (nat_cmp-IsAntisymmetric d x tied))) (map.entries rows)
      ∙ ap (λ o. cond (is_after after d) o None) (sym (get-entries rows d))

  on_left : (d : ℕ) → is_after after d ≡ true → map.get (pins_of rows) d ≡ pin_in (find nat_cmp d left)
  on_left d on = get_pin rows d ∙ ap pin_in (sym (found_left d ∙ ap (λ b. cond b (map.get rows d) None) on))

  pub next_of_rows : (o : Option Ino) → IsFirstPinned left o → IsNextPinned (pins_of rows) after o
  next_of_rows None none = λ d pinned behind. let clash : false ≡ true = ap is_some (sym (on_left d (after_is after d behind) ∙ none d)) ∙ pinned in cc
  next_of_rows (Some dir) (some, least) =
      let its = passes (is_after after dir.0) refl (ap (λ o. is_some (pin_in o)) (sym (found_left dir.0)) ∙ some) in
      (ap is_some (on_left dir.0 its) ∙ some, is_behind after dir.0 its, λ d pinned behind. least d (ap is_some (sym (on_left d (after_is after d behind))) ∙ pinned))
    where
      passes : (b : Bool) → is_after after dir.0 ≡ b → IsSome (pin_in (cond b (map.get rows dir.0) None)) → is_after after dir.0 ≡ true
      passes true is some = is
      passes false is some = let clash : false ≡ true = some in cc
