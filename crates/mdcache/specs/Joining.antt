-- The names of leaves, joined one leaf after the other in the fragment that a merge makes.
use Rattle.std.specs.Prelude.{◌≡◌, ◌⊎◌, ℕ, List, [], ◌∷◌, Option}
use Rattle.std.specs.FinMap as map
use Rattle.std.specs.List.{Contains}
use Rattle.dirfrag_codec.specs.FragmentObject.{Names}
use Rattle.cached_frag.specs.declared.marks.Mark.{Mark}
use Rattle.cached_frag.specs.Cached.{Cached}
use Rattle.cached_frag.specs.Moving.{marked_as}
use Rattle.dentry_cache.specs.Cache.{Leaf}
use Rattle.dentry_cache.specs.Came.{IsThat}

-- what a name is once those of some leaves came in, all at this version: that of the last of them which has it
abbrev pub name_joined : (Leaf → Names) → ℕ → List Leaf → List ℕ → Option Mark → Option Mark
name_joined names version [] name was = was
name_joined names version (leaf ∷ leaves) name was =
    name_joined names version leaves name (marked_as version (map.get (names leaf) name) was)

-- a fragment has taken the names of some leaves in
pub record HasJoined (names : Leaf → Names) (version : ℕ) (leaves : List Leaf) (old new : Cached) : Type 0 where
  pub base : new.base ≡ old.base
  pub generation : new.generation ≡ old.generation
  pub dirty : (name : List ℕ) → map.get new.dirty name ≡ name_joined names version leaves name (map.get old.dirty name)

-- one of these leaves at this rank; or this other one
abbrev pub IsAmong : ℕ → List Leaf → ℕ → Leaf → Type 0
IsAmong r leaves s q = (s ≡ r) × Contains leaves q

abbrev pub IsAmongOr : ℕ → List Leaf → Leaf → ℕ → Leaf → Type 0
IsAmongOr r leaves other s q = IsAmong r leaves s q ⊎ IsThat r other s q
