-- Finite maps by fragment: what one answers after a change.
use Rattle.std.proofs.Common.{◌≡◌, ◌≢◌, ◌-◌, ◌<◌, ◌⊎◌, inl, inr, ℕ, true, false, cond, Some, None, IsSome, is_some, sym, ap, ◌∙◌, arith}
use Rattle.std.proofs.lemmas.Bool.{cases_Bool}
use Rattle.std.specs.Ordering.{eq_by_cmp, is_eq}
use Rattle.std.specs.Cmp.{tied_itself}
use Rattle.std.specs.FinMap as map
use Rattle.std.specs.FinMap.{get-empty, get-insert, get-remove, empty_of_len, len-remove}
use Rattle.mds_types.specs.Frag.{Fragment, frag_cmp}
use Rattle.mds_types.specs.OrderLaws.{frag-exact}
use Rattle.mds_types.proofs.OrderLaws.{frag-total}
use Rattle.sorted_map.proofs.MapLaws.{tie}
use Rattle.fragtree.specs.Descents.{FragSplits}

pub apart : (q k : Fragment) → q ≢ k → eq_by_cmp frag_cmp q k ≡ false
apart q k other = elim (cases_Bool (eq_by_cmp frag_cmp q k)) [ inl tied ↦ absurd (other (frag-exact q k (tie _ tied))) | inr is ↦ is ]

pub itself : (k : Fragment) → eq_by_cmp frag_cmp k k ≡ true
itself k = ap is_eq (tied_itself frag-total k)

pub one_or_other : (f g : Fragment) → (f ≡ g) ⊎ (f ≢ g)
one_or_other f g = elim (cases_Bool (eq_by_cmp frag_cmp f g)) [
  | inl tied ↦ inl (frag-exact f g (tie _ tied))
  | inr is ↦ inr (λ same. let clash : true ≡ false = sym (itself g) ∙ ap (λ h. eq_by_cmp frag_cmp h g) (sym same) ∙ is in cc)
]

module _ (m : FragSplits) (k : Fragment) where
  pub get_put : (x : ℕ) → map.get (map.insert m k x) k ≡ Some x
  get_put x = get-insert frag-total m k x k ∙ ap (λ b. cond b (Some x) (map.get m k)) (itself k)

  pub get_beside : (x : ℕ) (q : Fragment) → q ≢ k → map.get (map.insert m k x) q ≡ map.get m q
  get_beside x q other = get-insert frag-total m k x q ∙ ap (λ b. cond b (Some x) (map.get m q)) (apart q k other)

  pub get_removed : map.get (map.remove m k) k ≡ None
  get_removed = get-remove frag-total m k k ∙ ap (λ b. cond b None (map.get m k)) (itself k)

  pub get_left : (q : Fragment) → q ≢ k → map.get (map.remove m k) q ≡ map.get m q
  get_left q other = get-remove frag-total m k q ∙ ap (λ b. cond b None (map.get m q)) (apart q k other)

  -- what is split then is the key that was put, or was split before
  pub after_put : (x : ℕ) (q : Fragment) (y : ℕ) → map.get (map.insert m k x) q ≡ Some y → ((q ≡ k) × (x ≡ y)) ⊎ (map.get m q ≡ Some y)
  after_put x q y is = elim (one_or_other q k) [
    | inl same ↦ let both : Some x ≡ Some y = sym (get_put x) ∙ ap (map.get (map.insert m k x)) (sym same) ∙ is in inl (same, cc)
    | inr other ↦ inr (sym (get_beside x q other) ∙ is)
  ]

  -- what is split still was split before
  pub after_removal : (q : Fragment) (y : ℕ) → map.get (map.remove m k) q ≡ Some y → map.get m q ≡ Some y
  after_removal q y is = elim (one_or_other q k) [
    | inl same ↦ let clash : None ≡ Some y = sym get_removed ∙ ap (map.get (map.remove m k)) (sym same) ∙ is in cc
    | inr other ↦ sym (get_left q other) ∙ is
  ]

-- a map that loses a key gets shorter
pub fewer : (m : FragSplits) (k : Fragment) → IsSome (map.get m k) → map.len (map.remove m k) < map.len m
fewer m k there =
    let shorter : map.len (map.remove m k) ≡ map.len m - 1 = len-remove frag-total m k ∙ ap (λ b. cond b (map.len m - 1) (map.len m)) there in
    let some : map.len m ≡ 0 → ⊥ = λ none.
    let clash : false ≡ true = sym (ap (λ (n : FragSplits). is_some (map.get n k)) (empty_of_len m none) ∙ ap is_some (get-empty frag_cmp k)) ∙ there in cc in
    omega arith
