-- The first leaf behind another for which a job stands, by the rows behind it.
use Rattle.mdcache.proofs.Common.{Bool, IsNextJob, IsSome, Job, Jobs, List, None, Option, Some, T, [], ap, below_all, cond, cond_both, entries_sorted, eq_by_cmp, false, find, find-where_key, get-entries, inl, inr, is_behind, is_eq, is_some, is_sorted, is_sorted-where_key, leaf-exact, leaf_cmp, left_of, refl, right_of, subst, sym, tie, tied_itself, true, where_key, ◌∙◌, ◌∷◌, ◌≡◌, ◌⊎◌}
use Rattle.std.specs.declared.cmp.Ordering.TheVariants.{Less}
use Rattle.std.specs.FinMap as map
use Rattle.sorted_map.proofs.PlaceLaws.{less as less_of}
use Rattle.mds_types.specs.Leaf.{Leaf}
use Rattle.mds_types.proofs.LeafLaws.{leaf-total}

-- a row that is found behind the first has a greater leaf
greater : (first : Leaf) (rows : List (Leaf × Job)) (leaf : Leaf) → T (below_all leaf_cmp first rows) → IsSome (find leaf_cmp leaf rows) → leaf_cmp first leaf ≡ Less
greater first [] leaf below some = let clash : false ≡ true = some in cc
greater first (e ∷ rows) leaf below some = elim (eq_by_cmp leaf_cmp leaf e.0) as (λ b. eq_by_cmp leaf_cmp leaf e.0 ≡ b → IsSome (cond b (Some e.1) (find leaf_cmp leaf rows)) → leaf_cmp first leaf ≡ Less) [
  | true ↦ λ tied its. ap (leaf_cmp first) (leaf-exact leaf e.0 (tie _ tied)) ∙ less_of _ (left_of _ _ below)
  | false ↦ λ apart its. greater first rows leaf (right_of _ _ below) its
] refl some

-- the leaf of the first row
abbrev pub leaf_of_first : List (Leaf × Job) → Option Leaf
leaf_of_first [] = None
leaf_of_first (e ∷ rows) = Some e.0

module _ (jobs : Jobs) (after : Option Leaf) where
  -- these rows have just the jobs of the leaves behind
  abbrev HasThose : List (Leaf × Job) → Type 0
  HasThose rows = (leaf : Leaf) → find leaf_cmp leaf rows ≡ cond (is_behind after leaf) (map.get jobs leaf) None

  there : (rows : List (Leaf × Job)) → HasThose rows → (leaf : Leaf) → is_behind after leaf ≡ true → map.get jobs leaf ≡ find leaf_cmp leaf rows
  there rows has leaf on = sym (has leaf ∙ ap (λ (b : Bool). cond b (map.get jobs leaf) None) on)

  first_is : (rows : List (Leaf × Job)) → T (is_sorted leaf_cmp rows) → HasThose rows → IsNextJob jobs after (leaf_of_first rows)
  first_is [] sorted has = λ leaf on. there [] has leaf on
  first_is (e ∷ rows) sorted has =
      let itself : find leaf_cmp e.0 (e ∷ rows) ≡ Some e.1 = ap (λ r. cond (is_eq r) (Some e.1) (find leaf_cmp e.0 rows)) (tied_itself leaf-total e.0) in
      let mine = cond_both (is_behind after e.0) (map.get jobs e.0) None (λ o. Some e.1 ≡ o → (is_behind after e.0 ≡ true) × IsSome (map.get jobs e.0)) (λ on gets. (on, ap is_some (sym gets))) (λ off gets. absurd cc) (sym itself ∙ has e.0) in (
        mine.0,
        mine.1,
        λ leaf on some. cond_both (eq_by_cmp leaf_cmp leaf e.0) (Some e.1) (find leaf_cmp leaf rows) (λ o. IsSome o → (leaf ≡ e.0) ⊎ (leaf_cmp e.0 leaf ≡ Less))
            (λ tied is. inl (leaf-exact leaf e.0 (tie _ tied))) (λ apart is. inr (greater e.0 rows leaf (left_of _ _ sorted) is)) (ap is_some (sym (there (e ∷ rows) has leaf on)) ∙ some),
      )

  pub next_is : (rows : List (Leaf × Job)) → rows ≡ where_key leaf_cmp (is_behind after) (map.entries jobs) → IsNextJob jobs after (leaf_of_first rows)
  next_is rows is = first_is rows
      (subst (λ (l : List (Leaf × Job)). T (is_sorted leaf_cmp l)) (sym is) (is_sorted-where_key leaf_cmp (is_behind after) (map.entries jobs) (entries_sorted jobs)))
      (λ leaf. ap (find leaf_cmp leaf) is
      ∙ find-where_key leaf_cmp (is_behind after) leaf (λ x tied. ap (is_behind after) (sym (leaf-exact leaf x tied))) (map.entries jobs)
      ∙ ap (λ (o : Option Job). cond (is_behind after leaf) o None) (sym (get-entries jobs leaf)))
