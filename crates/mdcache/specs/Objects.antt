-- What the calls about objects do that aren't of live leaves: that of a directory's tree is written or removed, and one
-- is purged.
use Rattle.std.specs.Prelude.{◌≡◌, ◌⊎◌, ℕ, true, false, cond, nat_lt, length, List, Option, Some, None, Result, Ok, Err}
use Rattle.std.specs.FinMap as map
use Rattle.mds_types.specs.Frag.{Fragment}
use Rattle.mds_types.specs.declared.ids.Ino.{Ino}
use Rattle.mds_types.specs.declared.refusals.Refusal.{Refusal}
use Rattle.mds_types.specs.declared.refusals.Refusal.TheVariants.{NoSuchFrag}
use Rattle.objstore.specs.Omap.{Omap}
use Rattle.objstore.specs.Objects.{MayRefuse, Objects}
use Rattle.dirfrag_codec.specs.TreeObject.{tree_bytes}
use Rattle.inode_table.specs.Dirs.{is_known, leaves_of}
use Rattle.mdcache.specs.PurgeList.{first_name}
use Rattle.mdcache.specs.Shown.{shown_tree}
use Rattle.mdcache.specs.State.{State, tree_text}

-- the object of a fragment tree: the leaves in its header, and no pairs
abbrev pub tree_object : List Fragment → Omap
tree_object leaves = record { header = tree_bytes leaves; pairs = map.empty }

-- the objects with that of a tree under this name, if there is more than one leaf; without one, if there is one leaf
abbrev pub with_tree_at : Objects → List ℕ → List Fragment → Objects
with_tree_at objects name leaves =
    cond (nat_lt 1 (length leaves)) (map.insert objects name (tree_object leaves)) (map.remove objects name)

-- the tree's object is as the directory's leaves are, and isn't to be removed
abbrev pub tree_saved : State → Ino → State
tree_saved s dir = record s {
  objects = with_tree_at s.objects (tree_text dir) (leaves_of s.covers dir.0);
  purge =
      map.remove s.purge (tree_text dir);
}

-- it is refused NoSuchFrag exactly where there is no such directory, and otherwise as the store refuses
abbrev pub SavesTree : (old new : State) → (before after : ℕ) → Ino → Result (Unit {0}) Refusal → Type 0
SavesTree old new before after dir (Ok done) =
    (is_known old.homes dir.0 ≡ true) × (new ≡ tree_saved old dir) × (shown_tree new ≡ shown_tree old)
SavesTree old new before after dir (Err reason) =
    (((reason ≡ NoSuchFrag) × (is_known old.homes dir.0 ≡ false))
    ⊎ ((is_known old.homes dir.0 ≡ true) × MayRefuse before after reason)) × (new ≡ old)

-- an object is removed, and its name is off the list
abbrev pub purged : State → List ℕ → State
purged s name = record s { objects = map.remove s.objects name; purge = map.remove s.purge name }

-- an empty list leaves nothing to do; otherwise its first name goes, from the store too, unless the store refuses
abbrev pub PurgesName : (old new : State) → (before after : ℕ) → Option (List ℕ) → Result (Unit {0}) Refusal → Type 0
PurgesName old new before after None result = (result ≡ Ok tt) × (new ≡ old)
PurgesName old new before after (Some name) (Ok done) = (new ≡ purged old name) × (shown_tree new ≡ shown_tree old)
PurgesName old new before after (Some name) (Err reason) = MayRefuse before after reason × (new ≡ old)

abbrev pub Purges : (old new : State) → (before after : ℕ) → Result (Unit {0}) Refusal → Type 0
Purges old new before after result = PurgesName old new before after (first_name old.purge) result
