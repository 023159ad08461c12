-- Bytes that are compared as numbers: they lie as the numbers that they spell.
use Rattle.std.specs.Prelude.{◌≡◌, ◌≢◌, ℕ, ◌+◌, ◌*◌, ◌<◌, List, [], ◌∷◌, take, drop, slice_index}
use Rattle.std.specs.Cmp.Lexicographic.{slice_cmp}
use Rattle.std.specs.Ordering.{nat_cmp}

-- the number that bytes spell behind another one, the greatest first
abbrev pub spelt : ℕ → List ℕ → ℕ
spelt n [] = n
spelt n (b ∷ bs) = spelt (n * 256 + b) bs

-- the number that so many bytes from a place on spell
abbrev pub word_at : List ℕ → (at many : ℕ) → ℕ
word_at bytes at many = spelt 0 (take many (drop at bytes))

-- the first so many bytes are alike
abbrev pub Alike : (xs ys : List ℕ) → ℕ → Type 0
Alike xs ys n = (k : ℕ) → k < n → slice_index xs k ≡ slice_index ys k

-- two numbers that were read from bytes: where they differ they lie as those do, and else the first so many bytes are
-- alike
pub record Settles (xs ys : List ℕ) (n x y : ℕ) : Type 0 where
  pub apart : x ≢ y → slice_cmp nat_cmp xs ys ≡ nat_cmp x y
  pub alike : x ≡ y → Alike xs ys n
