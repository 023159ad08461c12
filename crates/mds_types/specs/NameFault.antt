-- What becomes of bytes that are offered as a name, and the error number of each fault.
use Rattle.std.specs.Prelude.{◌≡◌, ℕ, ◌<◌, ◌≤◌, List, length, Option, Some, None, Result, Ok, Err}
use Rattle.mds_types.specs.declared.names.NameFault.{NameFault}
use Rattle.mds_types.specs.declared.names.NameFault.TheVariants.{Invalid, TooLong, NoMemory}
use Rattle.mds_types.specs.Name.{IsName}

-- Ok exactly for a name, with those bytes; else the fault of its errno, unless memory is refused, which a name of more
-- than 22 bytes takes
abbrev pub NameFromBytes : List ℕ → Result (List ℕ) NameFault → Type 0
NameFromBytes bytes (Ok name) = IsName bytes × (name ≡ bytes)
NameFromBytes bytes (Err NoMemory) = IsName bytes × (22 < length bytes)
NameFromBytes bytes (Err TooLong) = 255 < length bytes
NameFromBytes bytes (Err Invalid) = (length bytes ≤ 255) × (IsName bytes → ⊥)

-- why bytes are no name, whatever memory there is
abbrev pub IsFaultOf : List ℕ → NameFault → Type 0
IsFaultOf bytes Invalid = (length bytes ≤ 255) × (IsName bytes → ⊥)
IsFaultOf bytes TooLong = 255 < length bytes
IsFaultOf bytes NoMemory = ⊥

-- the error number that an operation on such a name answers
abbrev pub name_errno : NameFault → Option ℕ
name_errno Invalid = Some 22
name_errno TooLong = Some 36
name_errno NoMemory = None
