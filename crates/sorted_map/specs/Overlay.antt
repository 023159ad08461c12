-- Maps changed by all the pairs, or all the keys, of another.
use Rattle.std.specs.Prelude.{Bool, false, not, List, [], ◌∷◌}
use Rattle.std.specs.declared.cmp.Ordering.{Ordering}
use Rattle.std.specs.Ordering.{is_gt}
use Rattle.std.specs.FinMap as map

module _ {K V : Type 0} {R : K → K → Ordering} where
  -- these pairs put into the map, one after the other
  abbrev pub with_pairs : map.FinMap R V → List (K × V) → map.FinMap R V
  with_pairs m [] = m
  with_pairs m (e ∷ es) = with_pairs (map.insert m e.0 e.1) es

  -- the map with another laid over it: a key of that one has its value there, each other key the value that it had
  unfoldable pub overlaid : map.FinMap R V → map.FinMap R V → map.FinMap R V
  overlaid m over = with_pairs m (map.entries over)

module _ {K V W : Type 0} {R : K → K → Ordering} where
  -- the map without the keys that another has
  unfoldable pub without_keys : map.FinMap R V → map.FinMap R W → map.FinMap R V
  without_keys m gone = map.retain_keys m (λ k. not (map.contains_key gone k))

-- whether the first key of some pairs is less than k
abbrev pub starts_below : {K V : Type 0} → (K → K → Ordering) → K → List (K × V) → Bool
starts_below R k [] = false
starts_below R k (e ∷ es) = is_gt (R k e.0)
