-- The jobs of a region end, leaf by leaf.
use Rattle.ranked_tree.proofs.Common.{Bool, Covers, EndsInside, Homes, IsNextJob, Job, Jobs, Leaf, List, MatchOption, NearestRoot, None, Option, Roots, Some, State, [], ap, arith, cases_Bool, cond, cond_both, eq_by_cmp, false, false≢true, find, get-entries, get_left, get_removed, inl, inr, is_behind, is_lt, is_some, leaf-exact, leaf-total, leaf_cmp, less_is, none-some, none_unless, one_root, refl, rules, same_or_apart, subst, suc, sym, tie, tied_itself, true, true≢false, value_of, ℕ, ⊎_elim, ◌+◌, ◌<◌, ◌∙◌, ◌∷◌, ◌≡◌, ◌≢◌, ◌≤◌, ◌⊎◌}
use Rattle.std.specs.FinMap as map
use Rattle.ranked_tree.proofs.StandLaws.{FewerJobs, found_left}

-- ---- how many are to come

-- of these rows those whose leaves pass the test
abbrev count : (Leaf → Bool) → List (Leaf × Job) → ℕ
count p [] = 0
count p (e ∷ es) = cond (p e.0) 1 0 + count p es

-- so many jobs stand behind a leaf
abbrev pub count_behind : Option Leaf → Jobs → ℕ
count_behind last jobs = count (is_behind last) (map.entries jobs)

add_no_more : (b c : Bool) → (c ≡ true → b ≡ true) → (m n : ℕ) → n ≤ m → cond c 1 0 + n ≤ cond b 1 0 + m
add_no_more true c h m n le = cond_both c 1 0 (λ k. k + n ≤ 1 + m) (λ on. omega (arith, le)) (λ off. omega (arith, le))
add_no_more false c h m n le = cond_both c 1 0 (λ k. k + n ≤ 0 + m) (λ on. absurd (false≢true (h on))) (λ off. omega (arith, le))

module _ (p q : Leaf → Bool) (fewer : (leaf : Leaf) → q leaf ≡ true → p leaf ≡ true) where
  no_more : (es : List (Leaf × Job)) → count q es ≤ count p es
  no_more [] = omega arith
  no_more (e ∷ es) = add_no_more (p e.0) (q e.0) (fewer e.0) (count p es) (count q es) (no_more es)

  module _ (next : Leaf) (job : Job) (on : p next ≡ true) (off : q next ≡ false) where
    less : (es : List (Leaf × Job)) → find leaf_cmp next es ≡ Some job → count q es < count p es
    less [] found = absurd (none-some job found)
    less (e ∷ es) found =
        cond_both (eq_by_cmp leaf_cmp next e.0) (Some e.1) (find leaf_cmp next es) (λ o. o ≡ Some job → cond (q e.0) 1 0 + count q es < cond (p e.0) 1 0 + count p es)
        (λ tied is. let same = leaf-exact next e.0 (tie _ tied) in rw (← same, on, off) (omega (arith, no_more es))) (λ apart is. omega (arith, add_no_more (p e.0) (q e.0) (fewer e.0) (count p es) (suc (count q es)) (omega (arith, less es is)))) found

-- what is behind the next is behind the last
still_behind : (last : Option Leaf) (next : Leaf) → is_behind last next ≡ true → (leaf : Leaf) → is_behind (Some next) leaf ≡ true → is_behind last leaf ≡ true
still_behind None next behind leaf is = refl
still_behind (Some at) next behind leaf is = ap is_lt (leaf-total.trans at next leaf (less_is (leaf_cmp at next) behind) (less_is (leaf_cmp next leaf) is))

-- ---- whether a leaf is in the region, by its nearest root

module _ (roots : Roots) (root : Leaf) (homes : Homes) (covers : Covers) (leaf : Leaf) where
  abbrev pub FindsRoot : Option Leaf → Type 0
  FindsRoot found = MatchOption found ((near : Leaf) → NearestRoot roots homes covers leaf near → ⊥) (NearestRoot roots homes covers leaf)

  pub found_outside : (found : Option Leaf) → FindsRoot found → (found ≡ Some root → ⊥) → NearestRoot roots homes covers leaf root → ⊥
  found_outside found is apart near = search (rules, one_root)

-- ---- how far it has come

module _ (roots : Roots) (root : Leaf) where
  abbrev IsInside : State → Leaf → Type 0
  IsInside tree leaf = NearestRoot roots tree.homes tree.covers leaf root

  -- the jobs of the region have ended as far as a leaf, and nothing else of the state changed
  pub record HaveEnded (old now : State) (last : Option Leaf) : Type 0 where
    pub ended : (leaf : Leaf) → is_behind last leaf ≡ false → IsInside old leaf → map.get now.jobs leaf ≡ None
    pub others : (leaf : Leaf) → (IsInside old leaf → ⊥) → map.get now.jobs leaf ≡ map.get old.jobs leaf
    pub fewer : FewerJobs old now
    pub left : now ≡ record old { jobs = now.jobs }

  module _ (old now : State) (last : Option Leaf) (next : Leaf) (so_far : HaveEnded old now last) (first : IsNextJob now.jobs last (Some next)) where
    pub fewer_left : count_behind (Some next) old.jobs < count_behind last old.jobs
    fewer_left =
        let stands = value_of _ first.1 in
        less (is_behind last) (is_behind (Some next)) (still_behind last next first.0) next stands.0 first.0 (ap is_lt (tied_itself leaf-total next)) (map.entries old.jobs) (sym (get-entries old.jobs next) ∙ so_far.fewer next stands.0 stands.1)

    module _ (new : State) (turn : EndsInside roots root now new next) where
      -- of the jobs the turn ends that of the leaf, if it is inside, and no other
      turned : (new ≡ record now { jobs = new.jobs }) × ((IsInside old next × (new.jobs ≡ map.remove now.jobs next)) ⊎ ((IsInside old next → ⊥) × (new.jobs ≡ now.jobs)))
      turned = ⊎_elim (λ its. (its.1 ∙ ap (λ (j : Jobs). record now { jobs = j }) (sym (ap (λ (s : State). s.jobs) its.1)), inl (subst (λ (s : State). IsInside s next) so_far.left its.0, ap (λ (s : State). s.jobs) its.1)))
          (λ its. (its.1 ∙ ap (λ (j : Jobs). record now { jobs = j }) (sym (ap (λ (s : State). s.jobs) its.1)), inr (λ there. its.0 (subst (λ (s : State). IsInside s next) (sym so_far.left) there), ap (λ (s : State). s.jobs) its.1))) turn

      beside : (leaf : Leaf) → leaf ≢ next → map.get new.jobs leaf ≡ map.get now.jobs leaf
      beside leaf apart = ⊎_elim (λ its. ap (λ (j : Jobs). map.get j leaf) its.1 ∙ get_left now.jobs next leaf apart) (λ its. ap (λ (j : Jobs). map.get j leaf) its.1) turned.1

      pub ended_on : HaveEnded old new (Some next)
      ended_on = record {
        ended = λ leaf not inside.
            ⊎_elim (λ same. ap (map.get new.jobs) same ∙ ⊎_elim (λ its. ap (λ (j : Jobs). map.get j next) its.1 ∙ get_removed now.jobs next) (λ its. absurd (its.0 (subst (IsInside old) same inside))) turned.1)
            (λ apart. beside leaf apart ∙
            -- of a leaf between the last and the next none stood
            ⊎_elim (λ behind. none_unless (map.get now.jobs leaf) (λ job stands. ⊎_elim apart (λ after. true≢false (sym (ap is_lt after) ∙ not)) (first.2 leaf behind (ap is_some stands)))) (λ before. so_far.ended leaf before inside) (cases_Bool (is_behind last leaf))) (same_or_apart leaf next);
        others = λ leaf out.
            ⊎_elim (λ same. ⊎_elim (λ its. absurd (out (subst (IsInside old) (sym same) its.0))) (λ its. ap (λ (j : Jobs). map.get j leaf) its.1) turned.1) (beside leaf) (same_or_apart leaf next) ∙ so_far.others leaf out;
        fewer = λ leaf job stands. so_far.fewer leaf job (⊎_elim (λ its. found_left now.jobs next leaf job (ap (λ (j : Jobs). map.get j leaf) (sym its.1) ∙ stands)) (λ its. ap (λ (j : Jobs). map.get j leaf) (sym its.1) ∙ stands) turned.1);
        left = turned.0 ∙ ap (λ (s : State). record s { jobs = new.jobs }) so_far.left;
      }
