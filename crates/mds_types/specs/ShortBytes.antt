-- Few bytes, which stand in the value itself.
use Rattle.std.specs.Prelude.{◌≡◌, ℕ, ◌-◌, ◌≤◌, List, drop, replicate}

-- so many of 22 bytes count, and the others are zeros
pub record IsPadded (len : ℕ) (bytes : List ℕ) : Type 0 where
  pub few : len ≤ 22
  pub zeros : drop len bytes ≡ replicate (22 - len) 0
