-- The names of a store, and those that are left of them: words of the contracts of private functions.
use Rattle.std.specs.Prelude.{◌≡◌, ◌⊎◌, ℕ, ◌-◌, ◌<◌, Bool, true, false, slice_get, List, [], ◌∷◌, ◌++◌, map as each, length, Option, Some, None}
use Rattle.std.specs.FinMap as map
use Rattle.mds_types.specs.Frag.{Fragment}
use Rattle.mds_types.specs.ObjectText.{object_text}
use Rattle.mds_types.specs.declared.ids.Ino.{Ino}
use Rattle.mds_types.specs.declared.object_names.ObjName.TheVariants.{Frag as FragOf, Tree as TreeOf}
use Rattle.objstore.specs.Omap.{Keys}
use Rattle.objstore.specs.Objects.{Objects, object_names_after}
use Rattle.inode_table.specs.Dirs.{Covers, leaves_of}
use Rattle.cold_store.specs.Rows.{IsIn}

-- keys and more of them, and keys without some
abbrev pub with_keys : Keys → List (List ℕ) → Keys
with_keys keys [] = keys
with_keys keys (name ∷ names) = with_keys (map.insert keys name tt) names

abbrev pub keys_without : Keys → List (List ℕ) → Keys
keys_without keys [] = keys
keys_without keys (name ∷ names) = keys_without (map.remove keys name) names

-- the keys are the names of the objects
abbrev pub AreNamesOf : Objects → Keys → Type 0
AreNamesOf objects keys = (name : List ℕ) → map.contains_key keys name ≡ map.contains_key objects name

-- the last of a page's names, if more follow
abbrev pub IsLastOf : Bool → List (List ℕ) → Option (List ℕ) → Type 0
IsLastOf more names None = (more ≡ false) ⊎ (names ≡ [])
IsLastOf more names (Some last) = (more ≡ true) × (slice_get names (length names - 1) ≡ Some last)

-- what a page of names leaves: all were read, or those behind a name are left
abbrev pub EndsNames : Objects → Option (List ℕ) → Keys → Keys → Option (List ℕ) → Type 0
EndsNames objects after old new None = new ≡ with_keys old (object_names_after objects after)
EndsNames objects after old new (Some last) =
    (with_keys new (object_names_after objects (Some last)) ≡ with_keys old (object_names_after objects after))
    × (length (object_names_after objects (Some last)) < length (object_names_after objects after))

-- the names of the objects of a directory's leaves, with that of its tree, and those of directories
abbrev pub leaf_texts : Ino → List Fragment → List (List ℕ)
leaf_texts d leaves = each (λ f. object_text (FragOf d f)) leaves

abbrev pub texts_in : Covers → Ino → List (List ℕ)
texts_in covers d = object_text (TreeOf d) ∷ leaf_texts d (leaves_of covers d.0)

abbrev pub texts_from : Covers → List Ino → List (List ℕ)
texts_from covers [] = []
texts_from covers (d ∷ ds) = texts_in covers d ++ texts_from covers ds

-- what is left of the names of the objects: all but these
pub record AreAllBut (objects : Objects) (texts : List (List ℕ)) (left : Keys) : Type 0 where
  pub there : (name : List ℕ) → map.contains_key left name ≡ true → map.contains_key objects name ≡ true
  pub apart : (name : List ℕ) → map.contains_key left name ≡ true → IsIn name texts → ⊥
  pub others : (name : List ℕ) → map.contains_key objects name ≡ true → IsIn name texts
      ⊎ (map.contains_key left name ≡ true)
