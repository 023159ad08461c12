-- The places of a cache: no leaf has two of them, and how many can't become free.
use Rattle.std.specs.Prelude.{ℕ, ◌+◌, ◌≤◌, cond, [], ◌∷◌, length}
use Rattle.std.specs.List.{IsDistinct}
use Rattle.std.specs.Map.{keys_of}
use Rattle.dentry_cache.specs.Cache.{Held, Places, leaf_is}

-- no leaf has two places
abbrev pub AreDistinct : Places → Type 0
AreDistinct places = IsDistinct leaf_is (keys_of places)

-- what every cache keeps: no leaf has two places, and no more are taken than there are
pub record IsCache (cache : Held) : Type 0 where
  pub distinct : AreDistinct cache.entries
  pub fits : length cache.entries ≤ cache.cap

-- how many places are kept for fragments that will be made
abbrev pub kept_places : Places → ℕ
kept_places [] = 0
kept_places (e ∷ places) = cond e.1.kept 1 0 + kept_places places
