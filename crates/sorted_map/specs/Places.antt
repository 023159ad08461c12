-- Where a key stands among pairs in order.
use Rattle.std.specs.Prelude.{◌≡◌, ℕ, zero, suc, List, [], ◌∷◌, Result, MatchResult, ⊤}
use Rattle.std.specs.declared.cmp.Ordering.{Ordering}
use Rattle.std.specs.declared.cmp.Ordering.TheVariants.{Less, Equal, Greater}
use Rattle.std.specs.FinMap.Entries.{put}

module _ {K V : Type 0} (R : K → K → Ordering) (k : K) where
  -- the key would go at place i: the keys before it are less, and those from it on are greater
  abbrev pub IsGap : List (K × V) → ℕ → Type 0
  IsGap [] zero = ⊤
  IsGap [] (suc i) = ⊥
  IsGap (e ∷ es) zero = (R k e.0 ≡ Less) × IsGap es zero
  IsGap (e ∷ es) (suc i) = (R k e.0 ≡ Greater) × IsGap es i

  -- the key stands at place i: the keys before it are less, and those after it are greater
  abbrev pub IsKeyAt : List (K × V) → ℕ → Type 0
  IsKeyAt [] i = ⊥
  IsKeyAt (e ∷ es) zero = (R k e.0 ≡ Equal) × IsGap es zero
  IsKeyAt (e ∷ es) (suc i) = (R k e.0 ≡ Greater) × IsKeyAt es i

  -- the place of the key, or its gap
  abbrev pub IsPlace : List (K × V) → Result ℕ ℕ → Type 0
  IsPlace es r = MatchResult r (IsKeyAt es) (IsGap es)

module _ {K V : Type 0} (R : K → K → Ordering) where
  -- pairs put into others in order, one after the other
  abbrev pub puts : List (K × V) → List (K × V) → List (K × V)
  puts es [] = es
  puts es (f ∷ fs) = puts (put R f.0 f.1 es) fs
