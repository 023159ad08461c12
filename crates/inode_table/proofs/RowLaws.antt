-- What the homes and the leaves of a table's rows say of the rows.
use Rattle.std.proofs.Common.{◌≡◌, ℕ, ◌==◌, Bool, true, false, cond, ◌&&◌, ◌||◌, T, is_some, List, [], ◌∷◌, map as list_map, Option, Some, None, option_map, refl, sym, ap, ap₂, subst, ◌∙◌, arith}
use Rattle.std.proofs.lemmas.Bool.{or_left}
use Rattle.std.specs.Ordering.{nat_cmp, is_lt, eq_by_cmp}
use Rattle.std.specs.Cmp.{nat_cmp_total, unsigned_tied}
use Rattle.std.specs.FinMap as map
use Rattle.std.specs.FinMap.{find, is_sorted, nat_cmp-IsAntisymmetric, entries-from_sorted, entries_sorted, get-entries, get-from_sorted, get-retain_keys, same_map, gets, get-insert, get-remove}
use Rattle.std.specs.FinMap.Entries.{below_all}
use Rattle.mds_types.specs.Frag.{Fragment, root_fragment}
use Rattle.fragtree.specs.FragTree.{IsPick}
use Rattle.sorted_map.proofs.NatKeys.{is_same, is_apart, get_put, get_beside}
use Rattle.inode_table.specs.declared.dirs.Home.{Home}
use Rattle.inode_table.specs.declared.dirs.Directory.{Directory}
use Rattle.inode_table.specs.Dirs.{IsLeafAt, is_known, leaves_of, or_whole}
use Rattle.inode_table.specs.Rows.{DirRows, leaves_of_row, homes_of, covers_below, covers_of}

module _ {V X : Type 0} (f : V → X) where
  -- the pairs with something of each value in its place
  abbrev taken : List (ℕ × V) → List (ℕ × X)
  taken es = list_map (λ e. (e.0, f e.1)) es

  below_taken : (x : ℕ) (es : List (ℕ × V)) → below_all nat_cmp x (taken es) ≡ below_all nat_cmp x es
  below_taken x [] = refl
  below_taken x (e ∷ es) = ap (λ b. is_lt (nat_cmp x e.0) && b) (below_taken x es)

  sorted_taken : (es : List (ℕ × V)) → is_sorted nat_cmp (taken es) ≡ is_sorted nat_cmp es
  sorted_taken [] = refl
  sorted_taken (e ∷ es) = ap₂ (λ a b. a && b) (below_taken e.0 es) (sorted_taken es)

  find_taken : (q : ℕ) (es : List (ℕ × V)) → find nat_cmp q (taken es) ≡ option_map f (find nat_cmp q es)
  find_taken q [] = refl
  find_taken q (e ∷ es) =
      elim (eq_by_cmp nat_cmp q e.0) as (λ b. cond b (Some (f e.1)) (find nat_cmp q (taken es)) ≡ option_map f (cond b (Some e.1) (find nat_cmp q es))) [ true ↦ refl | false ↦ find_taken q es ]

  pub get_taken : (m : map.FinMap nat_cmp V) (q : ℕ) → map.get {R = nat_cmp} (map.from_sorted (taken (map.entries m))) q ≡ option_map f (map.get m q)
  get_taken m q =
      get-from_sorted nat_cmp _ q (subst T (sym (sorted_taken (map.entries m))) (entries_sorted m))
      ∙ find_taken q (map.entries m)
      ∙ ap (option_map f) (sym (get-entries m q))

-- where the directory of a row stands
abbrev pub home_in : Option Directory → Option Home
home_in row = option_map (λ (r : Directory). r.home) row

-- the numbers of directories are those of the rows
numbers_taken : (es : List (ℕ × Directory)) → list_map (λ e. e.0) (taken (λ (r : Directory). r.home) es) ≡ list_map (λ e. e.0) es
numbers_taken [] = refl
numbers_taken (e ∷ es) = ap (λ ks. e.0 ∷ ks) (numbers_taken es)

pub row_numbers : (rows : DirRows) → map.keys (homes_of rows) ≡ list_map (λ e. e.0) (map.entries rows)
unfolding homes_of
row_numbers rows =
    ap (list_map (λ e. e.0)) (entries-from_sorted nat_cmp _ (subst T (sym (sorted_taken (λ (r : Directory). r.home) (map.entries rows))) (entries_sorted rows)))
    ∙ numbers_taken (map.entries rows)

pub get_home : (rows : DirRows) (d : ℕ) → map.get (homes_of rows) d ≡ home_in (map.get rows d)
unfolding homes_of
get_home rows d = get_taken (λ (r : Directory). r.home) rows d

-- a number without a home has no row
pub no_row : (rows : DirRows) (d : ℕ) → map.get (homes_of rows) d ≡ None → map.get rows d ≡ None
no_row rows d none = go (map.get rows d) (sym (get_home rows d) ∙ none)
  where
    go : (row : Option Directory) → home_in row ≡ None → row ≡ None
    go None is = refl
    go (Some row) is = let clash : Some row.home ≡ None = is in absurd cc

-- a part that not every row has
module _ {X : Type 0} (part : Option Directory → Option X) (nowhere : part None ≡ None) (or_any : Option X → X) (of_some : (x : X) → or_any (Some x) ≡ x) where
  abbrev in_row : Directory → X
  in_row row = or_any (part (Some row))

  part_kept_in : (row : Option Directory) (o : Option X) → part row ≡ o → option_map in_row (cond (is_some o) row None) ≡ o
  part_kept_in row None is = refl
  part_kept_in None (Some x) is = let clash : None ≡ Some x = sym nowhere ∙ is in cc
  part_kept_in (Some row) (Some x) is = ap (λ o. Some (or_any o)) is ∙ ap Some (of_some x)

  pub get_part : (rows : DirRows) (d : ℕ) → map.get {R = nat_cmp} (map.from_sorted (taken in_row (map.entries (map.retain_keys rows (λ k. is_some (part (map.get rows k))))))) d ≡ part (map.get rows d)
  get_part rows d =
      let has : ℕ → Bool = λ k. is_some (part (map.get rows k)) in
      get_taken in_row (map.retain_keys rows has) d ∙ ap (option_map in_row) (get-retain_keys rows has d (λ x tied. ap has (sym (nat_cmp-IsAntisymmetric d x tied)))) ∙ part_kept_in (map.get rows d) _ refl

get_below : (rows : DirRows) (d : ℕ) → map.get (covers_below rows) d ≡ leaves_of_row (map.get rows d)
unfolding covers_below
get_below rows d = get_part leaves_of_row refl or_whole (λ x. refl) rows d

-- the leaves of the root, and those of another directory
pub get_root : (root : Option (List Fragment)) (rows : DirRows) → map.get (homes_of rows) 1 ≡ None → map.get (covers_of root rows) 1 ≡ root
get_root None rows rootless = get_below rows 1 ∙ ap leaves_of_row (no_row rows 1 rootless)
get_root (Some leaves) rows rootless = get_put (covers_below rows) 1 leaves

pub get_leaves : (root : Option (List Fragment)) (rows : DirRows) (d : ℕ) → (d ≡ 1 → ⊥) → map.get (covers_of root rows) d ≡ leaves_of_row (map.get rows d)
get_leaves None rows d other = get_below rows d
get_leaves (Some leaves) rows d other = get_beside (covers_below rows) 1 leaves d other ∙ get_below rows d

-- those of a row that was taken out
pub row_left : (rows : DirRows) (d : ℕ) → leaves_of_row (option_map (λ (r : ℕ × Directory). r.1) (option_map (λ v. (d, v)) (map.get rows d))) ≡ leaves_of_row (map.get rows d)
row_left rows d = go (map.get rows d)
  where
    go : (o : Option Directory) → leaves_of_row (option_map (λ (r : ℕ × Directory). r.1) (option_map (λ v. (d, v)) o)) ≡ leaves_of_row o
    go None = refl
    go (Some row) = refl

-- ---- what a map by number is once it changed twice, and a map from the numbers of rows to a part of each once a row did

same : {X : Type 0} (a b : map.FinMap nat_cmp X) → ((q : ℕ) → map.get a q ≡ map.get b q) → a ≡ b
same a b each = same_map nat_cmp_total nat_cmp-IsAntisymmetric a b each

module _ {X : Type 0} (m : map.FinMap nat_cmp X) (k : ℕ) (a : X) where
  -- the last of two values that are put for one key counts, and changes of two keys are made in either order
  pub put_again : (b : X) → map.insert m k b ≡ map.insert (map.insert m k a) k b
  put_again b = same _ _ (λ q. grind (arith, gets))

  apart_from : (j q : ℕ) → (j ≡ k → ⊥) → eq_by_cmp nat_cmp q j ≡ true → eq_by_cmp nat_cmp q k ≡ false
  apart_from j q other is = grind (arith, unsigned_tied, other)

  pub put_both : (j : ℕ) (b : X) → (j ≡ k → ⊥) → map.insert (map.insert m j b) k a ≡ map.insert (map.insert m k a) j b
  put_both j b other = same _ _ (λ q. let apart = apart_from j q other in grind (arith, gets, apart))

  pub put_and_gone : (j : ℕ) → (j ≡ k → ⊥) → map.insert (map.remove m j) k a ≡ map.remove (map.insert m k a) j
  put_and_gone j other = same _ _ (λ q. let apart = apart_from j q other in grind (arith, gets, apart))

module _ {X : Type 0} (parts : DirRows → map.FinMap nat_cmp X) (part : Option Directory → Option X) (told : (rows : DirRows) (d : ℕ) → map.get (parts rows) d ≡ part (map.get rows d)) where
  -- where no rows are there is none
  pub part_none : part None ≡ None → parts map.empty ≡ map.empty
  part_none none = same _ _ (λ q. grind (arith, gets, told, none))

  module _ (rows : DirRows) (d : ℕ) where
    -- a row is put that has it,
    pub part_put : (row : Directory) (x : X) → part (Some row) ≡ Some x → parts (map.insert rows d row) ≡ map.insert (parts rows) d x
    part_put row x has = same _ _ (λ q. let then = told (map.insert rows d row) q in let now = told rows q in grind (arith, get-insert, nat_cmp_total, then, now, has))

    -- that has the same,
    pub part_kept : (row : Directory) → part (Some row) ≡ part (map.get rows d) → parts (map.insert rows d row) ≡ parts rows
    part_kept row kept = same _ _ (λ q. grind (arith, gets, told, kept, nat_cmp-IsAntisymmetric))

    -- or that has none
    pub part_cleared : (row : Directory) → part (Some row) ≡ None → parts (map.insert rows d row) ≡ map.remove (parts rows) d
    part_cleared row none = same _ _ (λ q. let then = told (map.insert rows d row) q in let now = told rows q in grind (arith, get-insert, get-remove, nat_cmp_total, then, now, none))

    -- a row goes
    pub part_left : part None ≡ None → parts (map.remove rows d) ≡ map.remove (parts rows) d
    part_left none = same _ _ (λ q. let then = told (map.remove rows d) q in let now = told rows q in grind (arith, get-remove, nat_cmp_total, then, now, none))

-- ---- the homes and the leaves

-- the table of no directories
pub no_homes : homes_of map.empty ≡ map.empty
no_homes = part_none homes_of home_in get_home refl

pub no_leaves : covers_of None map.empty ≡ map.empty
no_leaves = part_none covers_below leaves_of_row get_below refl

-- the root gets other leaves
pub root_put : (root : Option (List Fragment)) (rows : DirRows) (leaves : List Fragment) → covers_of (Some leaves) rows ≡ map.insert (covers_of root rows) 1 leaves
root_put None rows leaves = refl
root_put (Some its) rows leaves = put_again (covers_below rows) 1 its leaves

module _ (rows : DirRows) (d : ℕ) where
  -- a row is put: its home is put; one that keeps its home keeps all homes
  pub homes_put : (row : Directory) → homes_of (map.insert rows d row) ≡ map.insert (homes_of rows) d row.home
  homes_put row = part_put homes_of home_in get_home rows d row row.home refl

  pub homes_kept : (row : Directory) → home_in (Some row) ≡ home_in (map.get rows d) → homes_of (map.insert rows d row) ≡ homes_of rows
  homes_kept row kept = part_kept homes_of home_in get_home rows d row kept

  pub homes_left : homes_of (map.remove rows d) ≡ map.remove (homes_of rows) d
  homes_left = part_left homes_of home_in get_home rows d refl

  -- a row that keeps its leaves keeps all leaves
  pub leaves_kept : (root : Option (List Fragment)) (row : Directory) → row.settings.leaves ≡ leaves_of_row (map.get rows d) → covers_of root (map.insert rows d row) ≡ covers_of root rows
  leaves_kept None row kept = part_kept covers_below leaves_of_row get_below rows d row kept
  leaves_kept (Some its) row kept = ap (λ m. map.insert m 1 its) (part_kept covers_below leaves_of_row get_below rows d row kept)

  -- a row gets other leaves
  pub leaves_put : (root : Option (List Fragment)) (row : Directory) (leaves : List Fragment) → (d ≡ 1 → ⊥) → row.settings.leaves ≡ Some leaves → covers_of root (map.insert rows d row) ≡ map.insert (covers_of root rows) d leaves
  leaves_put None row leaves other has = part_put covers_below leaves_of_row get_below rows d row leaves has
  leaves_put (Some its) row leaves other has = ap (λ m. map.insert m 1 its) (part_put covers_below leaves_of_row get_below rows d row leaves has) ∙ put_both (covers_below rows) 1 its d leaves other

  -- a row goes, and its leaves
  pub leaves_left : (root : Option (List Fragment)) → (d ≡ 1 → ⊥) → covers_of root (map.remove rows d) ≡ map.remove (covers_of root rows) d
  leaves_left None other = part_left covers_below leaves_of_row get_below rows d refl
  leaves_left (Some its) other = ap (λ m. map.insert m 1 its) (part_left covers_below leaves_of_row get_below rows d refl) ∙ put_and_gone (covers_below rows) 1 its d other

module _ (root : Option (List Fragment)) (rows : DirRows) (d : ℕ) where
  -- a directory with a home has a row
  pub has_row : map.get rows d ≡ None → is_some (map.get (homes_of rows) d) ≡ true → ⊥
  has_row none some = let clash : false ≡ true = sym (ap is_some (get_home rows d ∙ ap home_in none)) ∙ some in cc

  -- a directory below the root is one that has a row
  pub known_row : (d ≡ 1 → ⊥) → is_some (map.get rows d) ≡ is_known (homes_of rows) d
  known_row other = go (map.get rows d) ∙ sym (ap is_some (get_home rows d)) ∙ sym (ap (λ b. b || is_some (map.get (homes_of rows) d)) (is_apart d 1 other))
    where
      go : (row : Option Directory) → is_some row ≡ is_some (home_in row)
      go None = refl
      go (Some row) = refl

  pub has_known_row : (d ≡ 1 → ⊥) → map.get rows d ≡ None → is_known (homes_of rows) d ≡ true → ⊥
  has_known_row other none known = let clash : false ≡ true = sym (ap is_some none) ∙ known_row other ∙ known in cc

  -- the leaves of the root, by a number that is its
  pub leaves_at_root : d ≡ 1 → map.get (homes_of rows) 1 ≡ None → map.get (covers_of root rows) d ≡ root
  leaves_at_root top rootless = ap (map.get (covers_of root rows)) top ∙ get_root root rows rootless

  -- a hash falls in the root, in a directory with a row, and nowhere where there is none
  module _ (hash : ℕ) (leaf : Fragment) where
    pub at_root : d ≡ 1 → map.get (homes_of rows) 1 ≡ None → IsPick (or_whole root) hash leaf → IsLeafAt (homes_of rows) (covers_of root rows) d hash leaf None
    at_root top rootless pick = record {
      known = or_left (d == 1) _ (is_same d 1 top);
      pick = subst (λ o. IsPick (or_whole o) hash leaf) (sym (leaves_at_root top rootless)) pick;
      home = sym (ap (map.get (homes_of rows)) top ∙ rootless);
    }

    pub at_row : (row : Directory) → (d ≡ 1 → ⊥) → map.get rows d ≡ Some row → IsPick (or_whole row.settings.leaves) hash leaf → IsLeafAt (homes_of rows) (covers_of root rows) d hash leaf (Some row.home)
    at_row row other is pick = record {
      known = sym (known_row other) ∙ ap is_some is;
      pick = subst (λ o. IsPick (or_whole o) hash leaf) (sym (get_leaves root rows d other ∙ ap leaves_of_row is)) pick;
      home = sym (get_home rows d ∙ ap home_in is);
    }

  pub no_directory : (d ≡ 1 → ⊥) → map.get rows d ≡ None → is_known (homes_of rows) d ≡ false
  no_directory other none = sym (known_row other) ∙ ap is_some none

  -- a new row has the one leaf `*`
  pub new_leaves : (row : Directory) → (d ≡ 1 → ⊥) → row.settings.leaves ≡ None → leaves_of (covers_of root (map.insert rows d row)) d ≡ root_fragment ∷ []
  new_leaves row other none = ap or_whole (get_leaves root (map.insert rows d row) d other ∙ ap leaves_of_row (get_put rows d row) ∙ none)
