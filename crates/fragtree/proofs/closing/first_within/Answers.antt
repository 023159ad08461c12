-- What is split within a fragment stands from it on, before what begins behind its end.
use Rattle.fragtree.proofs.Common.{Bool, ContainsFragment, Fragment, IfNone, IfSome, IsFragment, IsSome, List, None, FragSplits, [], ap, arith, contents, false, frag_cmp, is_from, is_some, leb, nat_tests, refl, span, sym, then_some, true, where_key, ℕ, ◌+◌, ◌<◌, ◌∙◌, ◌∷◌, ◌≡◌, ◌≤◌}
use Rattle.std.specs.FinMap as map
use Rattle.fragtree.proofs.FirstKeys.{from_found, first_split, none_before, within_from, from_within}
use Rattle.fragtree.proofs.closing.first_within.Goals as goal

module _ (m : FragSplits) (f : Fragment) (whole : IsFragment f) (last : ℕ) (ends : last + 1 ≡ f.value + span f.bits) (e : Fragment × ℕ) (rest : List (Fragment × ℕ)) (is : where_key frag_cmp (is_from frag_cmp f) (map.entries m) ≡ e ∷ rest) where
  first_behind : (b : Bool) → leb e.0.value last ≡ b → IfNone (then_some b e.0) ((g : Fragment) → IsFragment g → ContainsFragment f g → map.get m g ≡ None)
  first_behind true test = tt
  first_behind false test = λ g fragment within.
      let behind : last < e.0.value = grind (arith, nat_tests) in
      let w = within_from f g whole within in
      none_before m f e rest is g w.0 (omega (arith, w.1, ends, behind))

  first_inside : IsFragment e.0 → (b : Bool) → leb e.0.value last ≡ b → IfSome (then_some b e.0) (λ g. IsSome (map.get m g) × ContainsFragment f g)
  first_inside fragment false test = tt
  first_inside fragment true test =
      let before : e.0.value ≤ last = grind (arith, nat_tests) in
      let w = first_split m f e rest is in
      (ap is_some w.0, from_within f e.0 whole fragment w.1 (omega (arith, ends, before)))

pub returns-in_err-first-clause-none : goal.returns-in_err-first-clause-none
returns-in_err-first-clause-none c =
    rw c.from_residual.ensures
    (λ g fragment within. from_found (contents frag_cmp c.args.splits.now) c.args.f g [] (sym c.iter_from.ensures ∙ c.in_err-first.ensures.steps.0) (within_from c.args.f g c.last_hash-last.ensures.valid within).0)

pub returns-clause-none : goal.returns-clause-none
returns-clause-none c =
    rw (c.then_some.ensures, c.value.ensures.value)
    (first_behind (contents frag_cmp c.args.splits.now) c.args.f c.last_hash-last.ensures.valid c.last_hash-last.result c.last_hash-last.ensures.last c.in_ok-first.field-0.now _ (sym c.iter_from.ensures ∙ c.in_ok-first.ensures.steps) _ refl)

pub returns-clause-some : goal.returns-clause-some
returns-clause-some c =
    rw (c.then_some.ensures, c.value.ensures.value)
    (first_inside (contents frag_cmp c.args.splits.now) c.args.f c.last_hash-last.ensures.valid c.last_hash-last.result c.last_hash-last.ensures.last c.in_ok-first.field-0.now _ (sym c.iter_from.ensures ∙ c.in_ok-first.ensures.steps) c.value.ensures.valid _ refl)
