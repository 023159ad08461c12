-- The value of a rank's row (this project's own profile).
use Rattle.std.specs.Prelude.{◌≡◌, ℕ, ◌+◌, ◌*◌, ◌^◌, ◌≤◌, List, length, Result, Ok, Err}
use Rattle.byteorder.specs.Endian.{little_bytes}
use Rattle.mds_types.specs.declared.ids.Ino.{Ino}
use Rattle.mds_types.specs.declared.ids.Rank.{Rank}
use Rattle.session_rows.specs.declared.faults.RowFault.{RowFault}
use Rattle.session_rows.specs.declared.faults.RowFault.TheVariants.{BelowMark, Length, NoMemory, NoReply, OtherRange, OutOfOrder}

-- a number of the rank's range of 2 ^ 40 numbers, or the end of that range
pub record IsNextIno (rank : Rank) (next : Ino) : Type 0 where
  pub least : (rank.0 + 1) * 2 ^ 40 ≤ next.0
  pub most : next.0 ≤ (rank.0 + 2) * 2 ^ 40

-- the grammar of a rank's value: the number that it hands out next
pub record SpellsRank (rank : Rank) (bytes : List ℕ) (next : Ino) : Type 0 where
  pub known : IsNextIno rank next
  pub spelled : bytes ≡ little_bytes 8 next.0

-- what reading a rank's value answers
abbrev pub ReadsRank : Rank → List ℕ → Result Ino RowFault → Type 0
ReadsRank rank bytes (Ok next) = SpellsRank rank bytes next
ReadsRank rank bytes (Err Length) = length bytes ≡ 8 → ⊥
ReadsRank rank bytes (Err OtherRange) = (length bytes ≡ 8) × ((next : Ino) → SpellsRank rank bytes next → ⊥)
ReadsRank rank bytes (Err BelowMark) = ⊥
ReadsRank rank bytes (Err OutOfOrder) = ⊥
ReadsRank rank bytes (Err NoReply) = ⊥
ReadsRank rank bytes (Err NoMemory) = ⊥
