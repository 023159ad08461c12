-- What becomes of bytes that are offered as a link's target, and the error number of each fault.
use Rattle.std.specs.Prelude.{◌≡◌, ℕ, ◌<◌, ◌≤◌, List, [], length, Option, Some, None, Result, Ok, Err}
use Rattle.mds_types.specs.declared.targets.TargetFault.{TargetFault}
use Rattle.mds_types.specs.declared.targets.TargetFault.TheVariants.{Empty, Invalid, TooLong, NoMemory}
use Rattle.mds_types.specs.Name.{IsTarget}

-- Ok exactly for a target, with those bytes; else the fault of its errno, unless memory is refused
abbrev pub TargetFromBytes : List ℕ → Result (List ℕ) TargetFault → Type 0
TargetFromBytes bytes (Ok target) = IsTarget bytes × (target ≡ bytes)
TargetFromBytes bytes (Err NoMemory) = IsTarget bytes
TargetFromBytes bytes (Err Empty) = bytes ≡ []
TargetFromBytes bytes (Err TooLong) = 4095 < length bytes
TargetFromBytes bytes (Err Invalid) = (0 < length bytes) × (length bytes ≤ 4095) × (IsTarget bytes → ⊥)

-- the error number that an operation with such a target answers
abbrev pub target_errno : TargetFault → Option ℕ
target_errno Empty = Some 2
target_errno Invalid = Some 22
target_errno TooLong = Some 36
target_errno NoMemory = None
