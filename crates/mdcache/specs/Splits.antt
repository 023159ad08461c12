-- What a split and a merge of a directory's leaves make of the state.
use Rattle.std.specs.Prelude.{◌≡◌, ◌⊎◌, ℕ, ◌+◌, ◌<◌, ◌≤◌, ◌^◌, Bool, true, cond, List, [], ◌∷◌, map as each, Option, Some, None}
use Rattle.std.specs.List.{Contains, list_all}
use Rattle.std.specs.FinMap as map
use Rattle.mds_types.specs.declared.ids.Ino.{Ino}
use Rattle.mds_types.specs.Frag.{Fragment, child_of}
use Rattle.mds_types.specs.Tree.{dentry_of}
use Rattle.fragtree.specs.FragTree.{CanMerge, CanSplit, HasLeaf, IsMerge, IsSplit, IsTree, leaves_inside}
use Rattle.namehash.specs.Rjenkins.{hash_of}
use Rattle.objstore.specs.Omap.{Keys}
use Rattle.cached_frag.specs.declared.bases.Base.TheVariants.{Fresh}
use Rattle.cached_frag.specs.Moving.{marked_as}
use Rattle.dentry_cache.specs.Pairs.{holds}
use Rattle.dentry_cache.specs.Cache.{Leaf, Unsaved}
use Rattle.inode_table.specs.Dirs.{is_known, leaves_of}
use Rattle.namespace_ops.specs.Changes.{in_directory}
use Rattle.namespace_ops.specs.Kept.{ChangesOnly}
use Rattle.mdcache.specs.Changes.{without_leaves}
use Rattle.mdcache.specs.Made.{IsUntouched}
use Rattle.mdcache.specs.Reads.{has_none}
use Rattle.mdcache.specs.Shown.{names_of, shown_tree}
use Rattle.mdcache.specs.Sound.{IsSound}
use Rattle.mdcache.specs.State.{State, UnsavedLeaves, text_of}

-- ---- leaves that end, and leaves that come in their place

-- a leaf that comes: it is one of the new leaves, and was none of the old ones
abbrev pub Comes : (old new : List Fragment) → Fragment → Type 0
Comes old new f = HasLeaf new f × (HasLeaf old f → ⊥)

-- a leaf that ended, or that came: of these the state changes
abbrev pub IsConcerned : (old new gone : List Fragment) → Fragment → Type 0
IsConcerned old new gone f = HasLeaf gone f ⊎ Comes old new f

-- what isn't clean of a leaf is there, and this holds of it
abbrev pub HasUnsaved : Option Unsaved → (Unsaved → Type 0) → Type 0
HasUnsaved None P = ⊥
HasUnsaved (Some u) P = P u

-- a fragment that came: no object counts for it, it has one of the next generations, and exactly the names of the
-- directory that it contains are dirty, all at the next version, each with the inode that it stands for
pub record IsNewLeaf (old : State) (dir : Ino) (f : Fragment) (count : ℕ) (u : Unsaved) : Type 0 where
  pub fresh : u.base ≡ Fresh
  pub first : old.next_generation ≤ u.generation
  pub last : u.generation < old.next_generation + count
  pub dirty : (name : List ℕ)
      → map.get u.dirty name ≡ marked_as old.next_version
      (cond (holds f (hash_of name)) (map.get (shown_tree old) (dentry_of dir.0 name)) None) None

-- the objects of leaves that ended are to be removed, those of leaves that came aren't, and of other names nothing
-- changes
pub record IsListedAnew (old new : Keys) (dir : Ino) (gone : List Fragment) (Came : Fragment → Type 0) : Type 0 where
  pub ended : (f : Fragment) → HasLeaf gone f → map.get new (text_of (dir, f)) ≡ Some tt
  pub came : (f : Fragment) → Came f → map.get new (text_of (dir, f)) ≡ None
  pub others : (name : List ℕ) → ((f : Fragment) → HasLeaf gone f ⊎ Came f → name ≡ text_of (dir, f) → ⊥)
      → map.get new name ≡ map.get old name

-- a list without some names
abbrev pub without_objects : Keys → List (List ℕ) → Keys
without_objects names [] = names
without_objects names (name ∷ more) = without_objects (map.remove names name) more

-- these texts name the objects of the children of a fragment, and nothing else
pub record NameChildren (dir : Ino) (frag : Fragment) (nb : ℕ) (texts : List (List ℕ)) : Type 0 where
  pub each : (i : ℕ) → i < 2 ^ nb → Contains texts (text_of (dir, child_of frag i nb))
  pub only : (text : List ℕ) → Contains texts text → (i : ℕ) × (i < 2 ^ nb) × (text ≡ text_of (dir, child_of frag i nb))

-- whether no name stands in some leaves of a directory
abbrev pub are_empty : State → Ino → List Fragment → Bool
are_empty s dir leaves = list_all (λ f. has_none (names_of s.unsaved s.objects (dir, f))) leaves

-- the state with other leaves of a directory, so many of them new: no job stands for a leaf that ended. If names go to
-- new leaves they take the next version
abbrev pub regrouped : State → Ino → (gone cover : List Fragment) → ℕ → UnsavedLeaves → Keys → State
regrouped s dir gone cover count unsaved purge = record s {
  covers = map.insert s.covers dir.0 cover;
  unsaved = unsaved;
  jobs = without_leaves s.jobs (each (in_directory dir.0) gone);
  purge = purge;
  next_generation = s.next_generation + count;
  next_version = s.next_version + cond (are_empty s dir gone) 0 1;
}

-- a directory got another cover: some leaves ended, so many came, of which no object counts and all names are dirty,
-- and all others are as they were
pub record IsRegrouped (old new : State) (dir : Ino) (gone cover : List Fragment) (count : ℕ) : Type 0 where
  pub known : is_known old.homes dir.0 ≡ true
  pub whole : IsTree cover
  pub unsaved : UnsavedLeaves
  pub purge : Keys
  pub left : new ≡ regrouped old dir gone cover count unsaved purge
  pub came : (f : Fragment) → Comes (leaves_of old.covers dir.0) cover f
      → HasUnsaved (map.get unsaved (dir, f)) (IsNewLeaf old dir f count)
  pub ended : (f : Fragment) → HasLeaf gone f → map.get unsaved (dir, f) ≡ None
  pub others : (leaf : Leaf) → (leaf.0.0 ≡ dir.0 → IsConcerned (leaves_of old.covers dir.0) cover gone leaf.1 → ⊥)
      → map.get unsaved leaf ≡ map.get old.unsaved leaf
  pub listed : IsListedAnew old.purge purge dir gone (Comes (leaves_of old.covers dir.0) cover)

-- ---- a split

-- a leaf of a directory was split by so many bits: its children stand in its place, by their generations in order
pub record IsSplitInto (old new : State) (dir : Ino) (frag : Fragment) (nb : ℕ) : Type 0 where
  pub can : CanSplit (leaves_of old.covers dir.0) frag nb
  pub cover : List Fragment
  pub divided : IsSplit (leaves_of old.covers dir.0) cover frag nb
  pub regrouped : IsRegrouped old new dir (frag ∷ []) cover (2 ^ nb)
  pub numbered : (i : ℕ) → i < 2 ^ nb
      → HasUnsaved (map.get new.unsaved (dir, child_of frag i nb)) (λ u. u.generation ≡ old.next_generation + i)

-- ---- a merge

-- the leaves of a directory properly inside a fragment were merged: that fragment stands in their place
pub record IsMergedInto (old new : State) (dir : Ino) (frag : Fragment) : Type 0 where
  pub can : CanMerge (leaves_of old.covers dir.0) frag
  pub cover : List Fragment
  pub merged : IsMerge (leaves_of old.covers dir.0) cover frag
  pub regrouped : IsRegrouped old new dir (leaves_inside frag (leaves_of old.covers dir.0)) cover 1

-- ---- the laws

-- the state is sound, the tree that is shown is the same, and each leaf that didn't end stands, and shows what it
-- showed
pub record KeepsShownTree (old new : State) (dir : Ino) (gone : List Fragment) : Type 0 where
  pub sound : IsSound new
  pub tree : shown_tree new ≡ shown_tree old
  pub frame : ChangesOnly (IsUntouched old new) (each (in_directory dir.0) gone)

-- every split, and every merge, is right
abbrev pub SplitsAreRight : Type 0
SplitsAreRight =
    (old new : State) (dir : Ino) (frag : Fragment) (nb : ℕ) → IsSound old → IsSplitInto old new dir frag nb
    → KeepsShownTree old new dir (frag ∷ [])

abbrev pub MergesAreRight : Type 0
MergesAreRight =
    (old new : State) (dir : Ino) (frag : Fragment) → IsSound old → IsMergedInto old new dir frag
    → KeepsShownTree old new dir (leaves_inside frag (leaves_of old.covers dir.0))
