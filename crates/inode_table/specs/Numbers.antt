-- The inode numbers that a rank hands out (this project's own profile).
use Rattle.std.specs.Prelude.{◌≡◌, ℕ, ◌+◌, ◌*◌, ◌^◌, ◌<◌, ◌≤◌, nat_lt, cond, Option, Some, None, Result, Ok, Err}
use Rattle.mds_types.specs.declared.refusals.Refusal.{Refusal}
use Rattle.mds_types.specs.declared.refusals.Refusal.TheVariants.{NoInodes}
use Rattle.mds_types.specs.declared.ids.Ino.{Ino}

-- a rank, and the number that it hands out next
pub record Supply : Type 0 where
  pub rank : ℕ
  pub next : ℕ

-- the first number of a rank
abbrev pub first_number : ℕ → ℕ
first_number rank = (rank + 1) * 2 ^ 40

-- the end of a rank's range of 2^40 numbers
abbrev pub end_number : ℕ → ℕ
end_number rank = (rank + 2) * 2 ^ 40

-- one of 16 ranks, and a number of its range or the range's end
pub record IsSupply (s : Supply) : Type 0 where
  pub ranked : s.rank < 16
  pub started : first_number s.rank ≤ s.next
  pub ended : s.next ≤ end_number s.rank

-- a draw gives the next number, unless the range is used up
abbrev pub Draws : Supply → Supply → Result Ino Refusal → Type 0
Draws old new (Ok number) =
    (old.next < end_number old.rank) × (number.0 ≡ old.next) × (new ≡ record old { next = old.next + 1 })
Draws old new (Err reason) = (old.next ≡ end_number old.rank) × (reason ≡ NoInodes) × (new ≡ old)

-- the number that a draw would give, if one is left
abbrev pub offer : Supply → Option Ino
offer s = cond (nat_lt s.next (end_number s.rank)) (Some (record { 0 = s.next })) None
