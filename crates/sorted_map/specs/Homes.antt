-- The chunk of a key. Only this crate's own contracts use these words.
use Rattle.std.specs.Prelude.{◌≡◌, Bool, false, ℕ, zero, suc, ◌+◌, List, [], ◌∷◌, Result, Ok, Err, ⊤}
use Rattle.std.specs.declared.cmp.Ordering.{Ordering}
use Rattle.std.specs.declared.cmp.Ordering.TheVariants.{Greater}
use Rattle.std.specs.Ordering.{is_lt}
use Rattle.sorted_map.specs.Chunks.{flat, items_before}
use Rattle.sorted_map.specs.Places.{IsGap}

module _ {K V : Type 0} (R : K → K → Ordering) (k : K) where
  -- all keys of a chunk are less than k
  abbrev pub IsBelowKey : List (K × V) → Type 0
  IsBelowKey [] = ⊤
  IsBelowKey (e ∷ es) = (R k e.0 ≡ Greater) × IsBelowKey es

  -- chunk i is where k stands or would go: the keys of the chunks before it are less, and those of the chunks behind it
  -- are greater
  abbrev pub IsHome : List (List (K × V)) → ℕ → Type 0
  IsHome [] i = ⊥
  IsHome (c ∷ cs) zero = IsGap R k (flat cs) zero
  IsHome (c ∷ cs) (suc i) = IsBelowKey c × IsHome cs i

  -- whether the first key of a chunk is greater than k
  abbrev pub starts_above : List (K × V) → Bool
  starts_above [] = false
  starts_above (e ∷ es) = is_lt (R k e.0)

-- a place in chunk i as one among all the items
abbrev pub place_in : {A : Type 0} → List (List A) → ℕ → Result ℕ ℕ → Result ℕ ℕ
place_in cs i (Ok at) = Ok (items_before cs i + at)
place_in cs i (Err at) = Err (items_before cs i + at)
