-- A fragment's names, divided over its children.
use Rattle.std.specs.Prelude.{◌≡◌, ◌≢◌, ℕ, ◌+◌, ◌<◌, ◌≤◌, ◌-◌, ◌^◌, false, List, [], ◌∷◌, filter, length, Some, None}
use Rattle.std.specs.List.{slice_index_or}
use Rattle.std.specs.Map.{lookup}
use Rattle.std.specs.FinMap as map
use Rattle.mds_types.specs.Frag.{Contains, Fragment, IsFragment, child_of}
use Rattle.mds_types.specs.declared.ids.Ino.{Ino}
use Rattle.mds_types.specs.declared.inodes.Inode.{Inode}
use Rattle.namehash.specs.Rjenkins.{hash_of}
use Rattle.dirfrag_codec.specs.FragmentObject.{Names}
use Rattle.cached_frag.specs.declared.bases.Base.TheVariants.{Fresh}
use Rattle.cached_frag.specs.Cached.{Cached, shown_names}
use Rattle.cached_frag.specs.Moving.{marked_as}
use Rattle.dentry_cache.specs.Loading.{AreWithin}
use Rattle.dentry_cache.specs.Pairs.{holds}
use Rattle.dentry_cache.specs.declared.parts.Part.{Part}
use Rattle.dentry_cache.specs.Cache.{HasCached, Held, Leaf, cached, held, is_evictable, leaf_is, used_as, without}

-- the names whose hashes a fragment contains
unfoldable pub names_in : Fragment → Names → Names
names_in frag names = map.retain_keys names (λ name. holds frag (hash_of name))

-- a child of a fragment that was split: no object of its name counts, it shows the names that it contains, and each of
-- them is dirty at this version
pub record IsCachedChild (child : Fragment) (names : Names) (number version : ℕ) (now : Cached) : Type 0 where
  pub fresh : now.base ≡ Fresh
  pub numbered : now.generation ≡ number
  pub shows : shown_names now ≡ names_in child names
  pub dirty : (name : List ℕ) → map.get now.dirty name ≡ marked_as version (map.get (names_in child names) name) None

-- ---- the children that a split will make

-- a fragment with no names, and with room for so many changes
abbrev pub bare : ℕ → ℕ → Cached
bare generation room =
    record { base = Fresh; generation = generation; clean = map.empty; dirty = map.empty; room = room; places = 0 }

-- a child that is ready for the names that it will show: with none yet, and with room for each
pub record IsReadyPart (frag : Fragment) (nb : ℕ) (names : Names) (i : ℕ) (part : Part) : Type 0 where
  pub child : part.frag ≡ child_of frag i nb
  pub none : part.fragment ≡ bare part.fragment.generation part.fragment.room
  pub room : map.len (names_in (child_of frag i nb) names) ≤ part.fragment.room

-- all children of a fragment, in order, each of them ready
pub record AreReady (frag : Fragment) (nb : ℕ) (names : Names) (parts : List Part) : Type 0 where
  pub count : length parts ≡ 2 ^ nb
  pub each : (i : ℕ) (d : Part) → i < length parts → IsReadyPart frag nb names i (slice_index_or parts i d)

-- their generations are numbers that follow one another
abbrev pub AreNumbered : ℕ → List Part → Type 0
AreNumbered first parts =
    (i : ℕ) (d : Part) → i < length parts → (slice_index_or parts i d).fragment.generation ≡ first + i

-- how many places are free, or become so where a clean fragment goes
abbrev pub spare : Held → ℕ
spare old = (old.cap - length old.entries) + length (filter (λ e. is_evictable e.1) old.entries)

-- ---- what a split leaves

-- the children with their names, in place of those that were ready for them
pub record AreChildren (frag : Fragment) (nb : ℕ) (names : Names) (version : ℕ) (ready made : List Part) : Type 0 where
  pub count : length made ≡ length ready
  pub child : (i : ℕ) (d : Part) → i < length made → (slice_index_or made i d).frag ≡ child_of frag i nb
  pub each : (i : ℕ) (d : Part) → i < length made
      → IsCachedChild (child_of frag i nb) names (slice_index_or ready i d).fragment.generation version
      (slice_index_or made i d).fragment

-- these fragments in their places, each the most recently used when it comes in
abbrev pub filled : Ino → List Part → Held → Held
filled dir [] old = old
filled dir (part ∷ parts) old = filled dir parts (used_as (dir, part.frag) (held part.fragment) old)

-- a leaf that is none of the children
abbrev pub IsNoChild : Ino → Fragment → ℕ → Leaf → Type 0
IsNoChild dir frag nb leaf = (i : ℕ) → i < 2 ^ nb → leaf_is (dir, child_of frag i nb) leaf ≡ false

-- a fragment was split: it is gone, its children are there with its names, the last one the most recently used, and the
-- other places are as they were
pub record DividesInto (dir : Ino) (frag : Fragment) (nb : ℕ) (parts : List Part) (version : ℕ) (names : Names)
    (old new : Held) : Type 0 where
  pub made : List Part
  pub divided : AreChildren frag nb names version parts made
  pub order : new ≡ filled dir made (without (dir, frag) old)
  pub children : (i : ℕ) (d : Part) → i < 2 ^ nb
      → HasCached (cached new.entries (dir, child_of frag i nb))
      (IsCachedChild (child_of frag i nb) names (slice_index_or parts i d).fragment.generation version)
  pub gone : lookup (leaf_is (dir, frag)) new.entries ≡ None
  pub others : (leaf : Leaf) → leaf_is (dir, frag) leaf ≡ false → IsNoChild dir frag nb leaf
      → lookup (leaf_is leaf) new.entries ≡ lookup (leaf_is leaf) old.entries

-- ---- the law

-- one child has a name of the fragment, and no other
pub record IsInOneChild (frag : Fragment) (nb : ℕ) (names : Names) (name : List ℕ) (inode : Inode) : Type 0 where
  pub place : ℕ
  pub among : place < 2 ^ nb
  pub has : map.get (names_in (child_of frag place nb) names) name ≡ Some inode
  pub alone : (other : ℕ) → other ≢ place → map.get (names_in (child_of frag other nb) names) name ≡ None

-- each name of a fragment is in one child
abbrev pub NamesAreDivided : Type 0
NamesAreDivided =
    (frag : Fragment) (nb : ℕ) (names : Names) → IsFragment frag → frag.bits + nb ≤ 24 → AreWithin frag names
    → (name : List ℕ) (inode : Inode) → map.get names name ≡ Some inode → IsInOneChild frag nb names name inode

-- a child has names of the fragment alone, and those that its hash picks
abbrev pub ChildrenHaveTheirOwn : Type 0
ChildrenHaveTheirOwn =
    (child : Fragment) (names : Names) (name : List ℕ) (inode : Inode)
    → map.get (names_in child names) name ≡ Some inode → (map.get names name ≡ Some inode)
    × Contains child (hash_of name)
