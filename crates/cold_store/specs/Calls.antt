-- How often a walk calls the store, and in which order: `IsCall` is what the store says of one call.
use Rattle.std.specs.Prelude.{◌≡◌, ◌≢◌, ◌⊎◌, ℕ, zero, suc, List, [], ◌∷◌, length, take, slice_get, Option, Some, None}
use Rattle.mds_types.specs.Frag.{Fragment}
use Rattle.mds_types.specs.declared.ids.Ino.{Ino}
use Rattle.mds_types.specs.declared.object_names.ObjName.{ObjName}
use Rattle.mds_types.specs.declared.object_names.ObjName.TheVariants.{Frag as FragOf, Tree as TreeOf}
use Rattle.mds_types.specs.declared.refusals.Refusal.{Refusal}
use Rattle.mds_types.specs.declared.refusals.Refusal.TheVariants.{NoMemory, Damaged}
use Rattle.objstore.specs.Omap.{Omap}
use Rattle.objstore.specs.Objects.{Objects, object_names_after}
use Rattle.dirfrag_codec.specs.Values.{tree_of_bytes as leaves_spelled}
use Rattle.dentry_cache.specs.Calls.{AreCalls, calls_to_load}
use Rattle.dentry_cache.specs.Loading.{object_of}
use Rattle.cold_store.specs.ColdTree.{tree_object_of}
use Rattle.cold_store.specs.Rows.{IsGoodDir, IsGoodLeaf, IsGoodTree, Walked, cover_in, stored_leaves, records_at, records_from, rows_in, root_alone, with_rows}

-- what a store says of one call: the store before it, what refuses it, and the store after it
abbrev pub Calls : Type 0 → Type 1
Calls S = S → Option Refusal → S → Type 0

-- the calls that read the tree object of a directory: one for its header; where that spells leaves, one for a pair
abbrev pub behind_header : Option (List Fragment) → ℕ
behind_header None = zero
behind_header (Some leaves) = 1

abbrev pub behind_tree : Option Omap → ℕ
behind_tree None = zero
behind_tree (Some object) = behind_header (leaves_spelled object.header)

abbrev pub calls_for_tree : Option Omap → ℕ
calls_for_tree object = suc (behind_tree object)

-- a damaged object that is told is this one
abbrev pub TellsNoOther : Option Refusal → ObjName → Type 0
TellsNoOther told object = (name : ObjName) → told ≡ Some (Damaged name) → name ≡ object

-- leaves are read one after the other, each by the calls that load it; behind one that isn't good none is read
abbrev pub AreLeafCalls : {S : Type 0} → Calls S → Objects → Walked → Ino → List Fragment → S → Option Refusal → S → Type 0
AreLeafCalls IsCall objects s d [] old told new = (new ≡ old) × (told ≡ None)
AreLeafCalls {S} IsCall objects s d (f ∷ fs) old told new =
    ((told ≢ None) × TellsNoOther told (FragOf d f)
    × AreCalls IsCall (calls_to_load f (object_of objects d f)) old told new)
    ⊎ (IsGoodLeaf objects s (d, f) × (mid : S) × AreCalls IsCall (calls_to_load f (object_of objects d f)) old None mid
    × AreLeafCalls IsCall objects (with_rows s (records_at objects (d, f))) d fs mid told new)

-- so is a directory: its tree object first, and the leaves where that is good
abbrev pub AreDirCalls : {S : Type 0} → Calls S → Objects → Walked → Ino → S → Option Refusal → S → Type 0
AreDirCalls {S} IsCall objects s d old told new =
    ((told ≢ None) × TellsNoOther told (TreeOf d) × AreCalls IsCall (calls_for_tree (tree_object_of objects d)) old told new)
    ⊎ (IsGoodTree (tree_object_of objects d) (cover_in objects d) × (mid : S)
    × AreCalls IsCall (calls_for_tree (tree_object_of objects d)) old None mid
    × AreLeafCalls IsCall objects s d (stored_leaves objects d) mid told new)

-- directories are read one after the other, and each is good
abbrev pub AreDirsCalls : {S : Type 0} → Calls S → Objects → Walked → List Ino → S → S → Type 0
AreDirsCalls IsCall objects s [] old new = new ≡ old
AreDirsCalls {S} IsCall objects s (d ∷ ds) old new =
    IsGoodDir objects s d × (mid : S) × AreDirCalls IsCall objects s d old None mid
    × AreDirsCalls IsCall objects (with_rows s (rows_in objects d)) ds mid new

-- what was found once these directories were read
abbrev pub found_in : Objects → List Ino → Walked
found_in objects ds = with_rows root_alone (records_from objects ds)

-- these are the first of the directories, in the order in which they are found: the walk read them, and all were good
pub record HasRead {S : Type 0} (IsCall : Calls S) (objects : Objects) (ds : List Ino) (old mid : S) : Type 0 where
  pub first : take (length ds) (found_in objects ds).queue ≡ ds
  pub calls : AreDirsCalls IsCall objects root_alone ds old mid

-- all directories that are found were read
pub record IsWhollyRead {S : Type 0} (IsCall : Calls S) (objects : Objects) (queue : List Ino) (old mid : S) : Type 0 where
  pub whole : (found_in objects queue).queue ≡ queue
  pub read : HasRead IsCall objects queue old mid

-- the pages of names that are read behind one which takes so many more: another for each 64
abbrev pub name_pages_beyond : ℕ → List (List ℕ) → ℕ
name_pages_beyond more [] = zero
name_pages_beyond zero (name ∷ names) = suc (name_pages_beyond 63 names)
name_pages_beyond (suc more) (name ∷ names) = name_pages_beyond more names

-- those of all objects behind a name: one at least
abbrev pub name_pages : Objects → Option (List ℕ) → ℕ
name_pages objects after = suc (name_pages_beyond 64 (object_names_after objects after))

-- the pages of names that are left behind one
abbrev pub NamesLeft : Objects → Option (List ℕ) → Option (List ℕ) → Type 0
NamesLeft objects after None = name_pages objects after ≡ 1
NamesLeft objects after (Some last) = name_pages objects after ≡ suc (name_pages objects (Some last))

-- a walk: directories are read in the order in which they are found. Either it ends in one of them, where it is refused,
-- and reads no other; or all are good, and the names of the objects are read. Memory may lack before it begins
pub data AreWalkCalls {S : Type 0} (IsCall : Calls S) (objects : Objects) (old : S) (told : Option Refusal) (new : S) : Type 0 where
  not_begun : new ≡ old → told ≡ Some NoMemory → AreWalkCalls IsCall objects old told new
  ends_in : (ds : List Ino) (d : Ino) (mid : S) → HasRead IsCall objects ds old mid
      → slice_get (found_in objects ds).queue (length ds) ≡ Some d → told ≢ None
      → AreDirCalls IsCall objects (found_in objects ds) d mid told new
      → AreWalkCalls IsCall objects old told new
  all_read : (ds : List Ino) (mid : S) → IsWhollyRead IsCall objects ds old mid
      → AreCalls IsCall (name_pages objects None) mid told new
      → AreWalkCalls IsCall objects old told new
