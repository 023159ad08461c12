-- The directories in order whose leaves were set.
use Rattle.std.proofs.Common.{◌≡◌, ℕ, Bool, true, false, cond, is_some, Bor}
use Rattle.std.proofs.Common.{List, [], ◌∷◌, drop, Option, Some, None, refl, sym, ap, ◌∙◌}
use Rattle.std.specs.Prelude.{filter, slice_get}
use Rattle.std.specs.Option.{option_copied}
use Rattle.std.specs.Ordering.{eq_by_cmp, nat_cmp}
use Rattle.std.specs.Cmp.{unsigned_tied}
use Rattle.std.specs.List.{list_any}
use Rattle.std.specs.FinMap as map
use Rattle.std.proofs.lemmas.Bool.{eqb-true}
use Rattle.std.proofs.lemmas.Map.Views.{any-filter_same}
use Rattle.std.proofs.lemmas.Option.{same_Some}
use Rattle.mds_types.specs.declared.ids.Ino.{Ino}
use Rattle.inode_table.specs.Dirs.{Covers, Homes, is_known}
use Rattle.inode_table.specs.Order.{dirs_after, trees_after}
use Rattle.inode_table.proofs.OrderLaws.{all_dirs, first_known, first_passes, next_after}

-- leaves were set where there are some
pub are_set : {A : Type 0} (o : Option (Bor A)) (found : Option A) → option_copied o ≡ found → is_some found ≡ is_some o
are_set None found is = sym (ap is_some is)
are_set (Some a) found is = sym (ap is_some is)

module _ (homes : Homes) (covers : Covers) where
  abbrev has_tree : ℕ → Bool
  has_tree d = is_some (map.get covers d)

  -- the first of them has a tree
  pub first_has_tree : (after : Option Ino) (x : ℕ) → slice_get (trees_after homes covers after) 0 ≡ Some x
      → has_tree x ≡ true
  first_has_tree after x first = (first_passes has_tree x (dirs_after homes after) first).0

  -- a directory with a tree is among all of them
  pub all_trees : (d : ℕ) → is_known homes d ≡ true → has_tree d ≡ true
      → list_any (eq_by_cmp nat_cmp d) (trees_after homes covers None) ≡ true
  all_trees d known has =
      any-filter_same (eq_by_cmp nat_cmp d) has_tree true (λ k tied. ap has_tree (sym (eqb-true d k (sym (unsigned_tied d k) ∙ tied))) ∙ has) (dirs_after homes None) ∙ all_dirs homes d known

  module _ (rootless : map.get homes 1 ≡ None) where
    -- directories without a tree are passed over until the first with one comes
    found : (ds : List ℕ) (after : Option Ino) (x : Ino) → dirs_after homes after ≡ ds → slice_get (filter has_tree ds) 0 ≡ Some x.0
        → (is_known homes x.0 ≡ true) × (filter has_tree ds ≡ x.0 ∷ trees_after homes covers (Some x))
    found [] after x all first = let clash : None ≡ Some x.0 = first in absurd cc
    found (d ∷ ds) after x all first =
        let y : Ino = record { 0 = d } in
        let here : slice_get (dirs_after homes after) 0 ≡ Some d = ap (λ l. slice_get l 0) all in
        let both : d ∷ ds ≡ d ∷ dirs_after homes (Some y) = sym all ∙ next_after homes rootless after y here in
        let rest : ds ≡ dirs_after homes (Some y) = ap (drop 1) both in
        elim (has_tree d) as (λ b. slice_get (cond b (d ∷ filter has_tree ds) (filter has_tree ds)) 0 ≡ Some x.0 → (is_known homes x.0 ≡ true) × (cond b (d ∷ filter has_tree ds) (filter has_tree ds) ≡ x.0 ∷ trees_after homes covers (Some x))) [
          | true ↦ λ f.
              let same = same_Some d x.0 f in
              (first_known homes rootless after x.0 (here ∙ ap Some same), (λ i. same i ∷ filter has_tree (rest i)) ∙ ap (λ k. x.0 ∷ trees_after homes covers (Some (record { 0 = k }))) same)
          | false ↦ found ds (Some y) x (sym rest)
        ] first

    -- the first of them is a directory
    pub first_tree_known : (after : Option Ino) (x : ℕ) → slice_get (trees_after homes covers after) 0 ≡ Some x
        → is_known homes x ≡ true
    first_tree_known after x first = (found (dirs_after homes after) after (record { 0 = x }) refl first).0

    -- the first of them, and what comes after that
    pub next_tree_after : (after : Option Ino) (x : Ino) → slice_get (trees_after homes covers after) 0 ≡ Some x.0
        → trees_after homes covers after ≡ x.0 ∷ trees_after homes covers (Some x)
    next_tree_after after x first = (found (dirs_after homes after) after x refl first).1
