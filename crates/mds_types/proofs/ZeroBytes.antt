-- No byte is zero where zero is not among the bytes.
use Rattle.mds_types.proofs.Common.{fits_target, list_all, list_any, not}
use Rattle.std.proofs.Common.{◌≡◌, ℕ, Bool, true, false, ◌&&◌, ◌||◌, ◌==◌, List, [], ◌∷◌, refl}

one_byte : (zero rest : Bool) (all : Bool) → not rest ≡ all → not (zero || rest) ≡ (not zero && all)
one_byte true rest all e = refl
one_byte false rest all e = e

pub no_zero : (bytes : List ℕ) → not (list_any (λ byte. byte == 0) bytes) ≡ list_all fits_target bytes
no_zero [] = refl
no_zero (byte ∷ bytes) = one_byte (byte == 0) (list_any (λ b. b == 0) bytes) (list_all fits_target bytes) (no_zero bytes)
