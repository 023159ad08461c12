-- What contracts see of a store that fails one call.
use Rattle.std.specs.Prelude.{◌≡◌, ℕ, ◌-◌, ◌+◌, Option, Some, refl}
use Rattle.mds_types.specs.declared.refusals.Refusal.{Refusal}
use Rattle.mds_types.specs.declared.refusals.Refusal.TheVariants.{StoreFault}
use Rattle.std.specs.Coded.{Coded, code_by, coded×, coded_ℕ}

-- the store below, how many calls are left up to the one that fails (0: none will), and how many failed
pub record Faulty (S : Type 0) : Type 0 where
  pub store : S
  pub left : ℕ
  pub failed : ℕ

-- one call more. The one that fails answers a fault, and the store below isn't called; any other is exactly one call of
-- the store below, and answers what that answers
pub record IsPassedOn {S : Type 0} (IsCall : S → Option Refusal → S → Type 0) (old : Faulty S)
    (refusal : Option Refusal) (new : Faulty S) : Type 0 where
  pub left : new.left ≡ old.left - 1
  pub fails : old.left ≡ 1 → (refusal ≡ Some StoreFault) × (new.failed ≡ old.failed + 1) × (new.store ≡ old.store)
  pub passes : (old.left ≡ 1 → ⊥) → (new.failed ≡ old.failed) × IsCall old.store refusal new.store

abbrev pub faulty_code : {S : Type 0} → Coded S → Coded (Faulty S)
faulty_code {S} s =
    code_by (S
    × (ℕ × ℕ)) (coded× s (coded× coded_ℕ coded_ℕ)) (λ f. (f.store, (f.left, f.failed))) (λ p. record {
      store =
          p.0;
      left = p.1.0;
      failed = p.1.1;
    }) (λ _. refl)

-- the faults of the store below and its own, by the count of that store's
abbrev pub all_faults : {S : Type 0} → (S → ℕ) → Faulty S → ℕ
all_faults faults f = f.failed + faults f.store
