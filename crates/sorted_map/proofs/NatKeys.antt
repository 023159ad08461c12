-- Finite maps whose keys are numbers: what one answers after a change.
use Rattle.std.specs.Prelude.{◌≡◌, ℕ, cond, ◌⊎◌, Some, None, refl}
use Rattle.std.proofs.Common.{sym, ap, ◌∙◌, inl, inr}
-- whether two numbers are one
pub use Rattle.std.proofs.lemmas.Bool.{eq-eqb as is_same, ne_eqb as is_apart, cases_eq as same_or_apart}
use Rattle.std.specs.Ordering.{nat_cmp}
use Rattle.std.specs.Cmp.{nat_cmp_total, unsigned_tied}
use Rattle.std.specs.FinMap as map
use Rattle.std.specs.FinMap.{get-insert, get-remove}

module _ {X : Type 0} (m : map.FinMap nat_cmp X) (k : ℕ) where
  pub get_put : (x : X) → map.get (map.insert m k x) k ≡ Some x
  get_put x = get-insert nat_cmp_total m k x k ∙ ap (λ b. cond b (Some x) (map.get m k)) (unsigned_tied k k ∙ is_same k k refl)

  pub get_beside : (x : X) (q : ℕ) → (q ≡ k → ⊥) → map.get (map.insert m k x) q ≡ map.get m q
  get_beside x q apart = get-insert nat_cmp_total m k x q ∙ ap (λ b. cond b (Some x) (map.get m q)) (unsigned_tied q k ∙ is_apart q k apart)

  pub get_removed : map.get (map.remove m k) k ≡ None
  get_removed = get-remove nat_cmp_total m k k ∙ ap (λ b. cond b None (map.get m k)) (unsigned_tied k k ∙ is_same k k refl)

  pub get_left : (q : ℕ) → (q ≡ k → ⊥) → map.get (map.remove m k) q ≡ map.get m q
  get_left q apart = get-remove nat_cmp_total m k q ∙ ap (λ b. cond b None (map.get m q)) (unsigned_tied q k ∙ is_apart q k apart)

  -- what has a value then is the key that was put, or another that had it before
  pub after_put : (x : X) (q : ℕ) (y : X) → map.get (map.insert m k x) q ≡ Some y → ((q ≡ k) × (x ≡ y)) ⊎ ((q ≡ k → ⊥) × (map.get m q ≡ Some y))
  after_put x q y is = go (same_or_apart q k)
    where
      go : (q ≡ k) ⊎ (q ≡ k → ⊥) → ((q ≡ k) × (x ≡ y)) ⊎ ((q ≡ k → ⊥) × (map.get m q ≡ Some y))
      go (inl same) =
          let values : Some x ≡ Some y = sym (get_put x) ∙ ap (λ j. map.get (map.insert m k x) j) (sym same) ∙ is in
          inl (same, cc)
      go (inr apart) = inr (apart, sym (get_beside x q apart) ∙ is)

  -- what has a value still is another key than the one that was removed
  pub after_removal : (q : ℕ) (y : X) → map.get (map.remove m k) q ≡ Some y → (q ≡ k → ⊥) × (map.get m q ≡ Some y)
  after_removal q y is = go (same_or_apart q k)
    where
      go : (q ≡ k) ⊎ (q ≡ k → ⊥) → (q ≡ k → ⊥) × (map.get m q ≡ Some y)
      go (inl same) = let clash : None ≡ Some y = sym get_removed ∙ ap (λ j. map.get (map.remove m k) j) (sym same) ∙ is in absurd cc
      go (inr apart) = (apart, sym (get_left q apart) ∙ is)
