-- What is left of an iterator over chunks.
use Rattle.std.specs.Prelude.{◌≡◌, ℕ, ◌+◌, ◌<◌, List, length}
use Rattle.sorted_map.specs.Chunks.{AllSome, total}

-- what is left of one chunk, and the chunks behind it: none of these is empty, and all their pairs can be counted
pub record IsRest {A : Type 0} (front : List A) (cs : List (List A)) : Type 0 where
  pub some : AllSome cs
  pub fits : length front + total length cs < 18446744073709551616

-- what is left of an iterator that gives pairs away: those of a vector, and the chunks behind it, none of which is
-- empty; and how many they are
pub record AreLeft {A : Type 0} (front : List A) (front_len : ℕ) (cs : List (List A)) (count : ℕ) : Type 0 where
  pub some : AllSome cs
  pub front_is : front_len ≡ length front
  pub count_is : count ≡ length cs
