-- Names of objects, and keys in objects.
use Rattle.std.specs.Prelude.{ℕ, Bool, List, map}
use Rattle.std.specs.declared.cmp.Ordering.{Ordering}
use Rattle.std.specs.Ordering.{ordering_then, eq_by_cmp}
use Rattle.std.specs.List.{list_any}
use Rattle.std.specs.FinMap as finmap
use Rattle.objstore.specs.Omap.{Keys, key_cmp}

-- a key in an object: the object's name, and the key
abbrev pub Spot : Type 0
Spot = List ℕ × List ℕ

abbrev pub spot_cmp : Spot → Spot → Ordering
spot_cmp x y = ordering_then (key_cmp x.0 y.0) (key_cmp x.1 y.1)

abbrev pub Spots : Type 0
Spots = finmap.FinMap spot_cmp (Unit {0})

pub record Noted : Type 0 where
  pub names : Keys
  pub keys : Spots

abbrev pub none_noted : Noted
none_noted = record { names = finmap.empty; keys = finmap.empty }

-- whether a name is among them, and whether a key is
abbrev pub has_name : Noted → List ℕ → Bool
has_name noted name = finmap.contains_key noted.names name

abbrev pub has_key : Noted → List ℕ → List ℕ → Bool
has_key noted name key = finmap.contains_key noted.keys (name, key)

-- whether a name, or a key, is among those of a list
abbrev pub is_name_of : List (List ℕ × Unit {0}) → List ℕ → Bool
is_name_of rest name = list_any (eq_by_cmp key_cmp name) (map (λ e. e.0) rest)

abbrev pub is_key_of : List (Spot × Unit {0}) → List ℕ → List ℕ → Bool
is_key_of rest name key = list_any (eq_by_cmp spot_cmp (name, key)) (map (λ e. e.0) rest)
