-- Which bytes are a name, and which a link's target (this project's own profile, within POSIX.1's rules on file names).
use Rattle.std.specs.Prelude.{◌≡◌, ℕ, ◌<◌, ◌≤◌, Bool, true, false, not, ◌&&◌, ◌==◌, List, [], ◌∷◌, length}
use Rattle.std.specs.List.{list_all}

-- a byte that a name may have: not zero and not `/`
abbrev pub fits_name : ℕ → Bool
fits_name byte = not (byte == 0) && not (byte == 47)

-- `.` and `..` stand for directories of their own
abbrev pub is_dots : List ℕ → Bool
is_dots [] = false
is_dots (a ∷ []) = a == 46
is_dots (a ∷ b ∷ []) = (a == 46) && (b == 46)
is_dots (a ∷ b ∷ c ∷ rest) = false

-- a name of an entry: 1 to 255 bytes, none zero or `/`, and neither `.` nor `..`
pub record IsName (bytes : List ℕ) : Type 0 where
  pub some : 0 < length bytes
  pub short : length bytes ≤ 255
  pub plain : list_all fits_name bytes ≡ true
  pub no_dots : is_dots bytes ≡ false

-- a byte that a target may have: not zero
abbrev pub fits_target : ℕ → Bool
fits_target byte = not (byte == 0)

-- the target of a symbolic link: 1 to 4095 bytes, none zero
pub record IsTarget (bytes : List ℕ) : Type 0 where
  pub some : 0 < length bytes
  pub short : length bytes ≤ 4095
  pub plain : list_all fits_target bytes ≡ true
