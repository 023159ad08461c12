-- Names that become clean, one after the other. Only this crate's own contracts use these words.
use Rattle.std.specs.Prelude.{◌≡◌, ℕ, Bool, true, false, cond, ◌==◌, List, [], ◌∷◌, Option, Some, None}
use Rattle.std.specs.FinMap as map
use Rattle.cached_frag.specs.declared.marks.Mark.{Mark}
use Rattle.cached_frag.specs.Marks.{Marks}

-- whether the last change of a name has this version
abbrev pub is_at : ℕ → Option Mark → Bool
is_at version (Some mark) = mark.version == version
is_at version None = false

-- the dirty names without this one, if its last change has this version
abbrev pub settled_one : Marks → List ℕ → ℕ → Marks
settled_one dirty name version = cond (is_at version (map.get dirty name)) (map.remove dirty name) dirty

-- without each of these
abbrev pub settled_in : Marks → List (List ℕ × Mark) → Marks
settled_in dirty [] = dirty
settled_in dirty (e ∷ es) = settled_in (settled_one dirty e.0 e.1.version) es

-- what is taken out
abbrev pub IsTakenFrom : Marks → Marks → List ℕ → ℕ → Option (List ℕ × Mark) → Type 0
IsTakenFrom old new name version (Some pair) =
    (pair.0 ≡ name) × (map.get old name ≡ Some pair.1) × (is_at version (map.get old name) ≡ true)
    × (new ≡ map.remove old name)
IsTakenFrom old new name version None = (is_at version (map.get old name) ≡ false) × (new ≡ old)
