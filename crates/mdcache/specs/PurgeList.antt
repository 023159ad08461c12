-- What a contract sees of a purge list.
use Rattle.std.specs.Prelude.{ℕ, List, Option}
use Rattle.std.specs.Option.{option_map}
use Rattle.objstore.specs.Omap.{Keys}
use Rattle.sorted_map.specs.SortedMap.{first_pair}

-- the names of objects that are to be removed, as texts in the order of their bytes, and how many more fit with no
-- growth
pub record Listed : Type 0 where
  pub names : Keys
  pub room : ℕ

-- the first name, if there is one
abbrev pub first_name : Keys → Option (List ℕ)
first_name names = option_map (λ (e : List ℕ × Unit {0}). e.0) (first_pair names)
