-- Where the first LF stands.
use Rattle.script_text.proofs.Common.{Bool, List, [], ap, arith, cond, false, is_not_lf, length, not, prefix_len, refl, slice_index, suc, sym, true, zero, ℕ, ◌+◌, ◌<◌, ◌==◌, ◌∷◌, ◌≡◌}

not_lf : (b : Bool) → (b ≡ true → ⊥) → b ≡ false
not_lf true isnt = absurd (isnt refl)
not_lf false isnt = refl

pub lf_at : (bytes : List ℕ) (k : ℕ) → ((i : ℕ) → i < k → (slice_index bytes i == 10) ≡ true → ⊥) → k < length bytes → (slice_index bytes k == 10) ≡ true → k ≡ prefix_len is_not_lf bytes
lf_at [] k none within here = absurd (omega (arith, within))
lf_at (byte ∷ bytes) zero none within here = sym (ap (λ b. cond (not b) (1 + prefix_len is_not_lf bytes) 0) here)
lf_at (byte ∷ bytes) (suc k) none within here =
    let rest : k ≡ prefix_len is_not_lf bytes = lf_at bytes k (λ i lt. none (suc i) (omega (arith, lt))) (omega (arith, within)) here in
    omega (arith, rest, ap (λ b. cond (not b) (1 + prefix_len is_not_lf bytes) 0) (not_lf (byte == 10) (none 0 (omega arith))))

pub no_lf : (bytes : List ℕ) → ((i : ℕ) → i < length bytes → (slice_index bytes i == 10) ≡ true → ⊥) → length bytes ≡ prefix_len is_not_lf bytes
no_lf [] none = refl
no_lf (byte ∷ bytes) none =
    let rest : length bytes ≡ prefix_len is_not_lf bytes = no_lf bytes (λ i lt. none (suc i) (omega (arith, lt))) in
    omega (arith, rest, ap (λ b. cond (not b) (1 + prefix_len is_not_lf bytes) 0) (not_lf (byte == 10) (none 0 (omega arith))))
