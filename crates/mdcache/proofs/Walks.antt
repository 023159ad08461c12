-- A walk over the jobs in search of a number.
use Rattle.mdcache.proofs.Common.{Bool, Job, Jobs, List, None, NoneHasNumber, Some, T, [], ap, cond, cond_both, entries_sorted, eq_by_cmp, find, get-entries, is_sorted, leaf-exact, leaf_cmp, left_of, not_found_below, right_of, same_Some, subst, sym, tie, ℕ, ◌∙◌, ◌∷◌, ◌≡◌}
use Rattle.std.specs.FinMap as map
use Rattle.mds_types.specs.Leaf.{Leaf}
use Rattle.mds_types.proofs.LeafLaws.{key_itself, leaf-total}

-- of these jobs, the ones that are left are all that can have the number
pub record IsRest (number : ℕ) (all left : List (Leaf × Job)) : Type 0 where
  pub sorted : T (is_sorted leaf_cmp left)
  pub found : (leaf : Leaf) (job : Job) → find leaf_cmp leaf left ≡ Some job → find leaf_cmp leaf all ≡ Some job
  pub kept : (leaf : Leaf) (job : Job) → find leaf_cmp leaf all ≡ Some job → job.number ≡ number → find leaf_cmp leaf left ≡ Some job

pub at_first : (jobs : Jobs) (number : ℕ) (left : List (Leaf × Job)) → left ≡ map.entries jobs → IsRest number (map.entries jobs) left
at_first jobs number left is = subst (IsRest number (map.entries jobs)) (sym is) (record { sorted = entries_sorted jobs; found = λ leaf job h. h; kept = λ leaf job h same. h })

-- where the first of them is another, the rest can have it still
pub steps_on : (number : ℕ) (all left rest : List (Leaf × Job)) (e : Leaf × Job) → IsRest number all left → left ≡ e ∷ rest → (e.1.number ≡ number → ⊥) → IsRest number all rest
steps_on number all left rest e before split other = record {
  sorted = right_of _ _ is.sorted;
  found = λ leaf job h. is.found leaf job (cond_both (eq_by_cmp leaf_cmp leaf e.0) (Some e.1) (find leaf_cmp leaf rest) (λ o. o ≡ Some job) (λ tied.
      let none : find leaf_cmp leaf rest ≡ None = ap (λ k. find leaf_cmp k rest) (leaf-exact _ _ (tie _ tied)) ∙ not_found_below leaf-total e.0 rest (left_of _ _ is.sorted) in
      let clash : None ≡ Some job = sym none ∙ h in absurd cc) (λ apart. h));
  kept = λ leaf job h same. cond_both (eq_by_cmp leaf_cmp leaf e.0) (Some e.1) (find leaf_cmp leaf rest) (λ o. o ≡ Some job → find leaf_cmp leaf rest ≡ Some job)
      (λ tied it. absurd (other (ap (λ (j : Job). j.number) (same_Some e.1 job it) ∙ same))) (λ apart it. it) (is.kept leaf job h same);
}
  where
    is : IsRest number all (e ∷ rest)
    is = subst (IsRest number all) split before

-- where the first of them has the number its job is found
pub found_here : (jobs : Jobs) (number : ℕ) (left rest : List (Leaf × Job)) (e : Leaf × Job) → IsRest number (map.entries jobs) left → left ≡ e ∷ rest → e.1.number ≡ number
    → (job : Job) × (map.get jobs e.0 ≡ Some job) × (job.number ≡ number)
found_here jobs number left rest e is split same =
    (e.1, get-entries jobs e.0 ∙ (subst (IsRest number (map.entries jobs)) split is).found e.0 e.1 (ap (λ (b : Bool). cond b (Some e.1) (find leaf_cmp e.0 rest)) (key_itself e.0)), same)

-- none has it where none is left
pub none_left_of : (jobs : Jobs) (number : ℕ) (left : List (Leaf × Job)) → IsRest number (map.entries jobs) left → left ≡ [] → NoneHasNumber jobs number
none_left_of jobs number left is empty leaf job h same = let clash : None ≡ Some job = (subst (IsRest number (map.entries jobs)) empty is).kept leaf job (sym (get-entries jobs leaf) ∙ h) same in cc
