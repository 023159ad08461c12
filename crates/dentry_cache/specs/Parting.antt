-- The children of a fragment under way. Only this crate's own contracts use these words.
use Rattle.std.specs.Prelude.{◌≡◌, ℕ, ◌+◌, ◌<◌, ◌≤◌, ◌==◌, Bool, true, false, cond, List, [], ◌∷◌, length, Option, Some, None}
use Rattle.std.specs.List.{slice_index_or}
use Rattle.mds_types.specs.Frag.{Fragment, child_of}
use Rattle.mds_types.specs.declared.ids.Ino.{Ino}
use Rattle.cached_frag.specs.declared.marks.Mark.{Mark}
use Rattle.cached_frag.specs.Cached.{marked}
use Rattle.dentry_cache.specs.declared.parts.Part.{Part}
use Rattle.dentry_cache.specs.Cache.{Leaf, leaf_is}
use Rattle.dentry_cache.specs.Divided.{bare}

-- so of each child
abbrev pub Each : (ℕ → Part → Type 0) → List Part → Type 0
Each P parts = (i : ℕ) (d : Part) → i < length parts → P i (slice_index_or parts i d)

-- so of each child, before and now
abbrev pub EachThen : (ℕ → Part → Part → Type 0) → List Part → List Part → Type 0
EachThen P old new = (i : ℕ) (d : Part) → i < length old → P i (slice_index_or old i d) (slice_index_or new i d)

-- a child with no names
pub record IsBare (frag : Fragment) (nb generation i : ℕ) (part : Part) : Type 0 where
  pub child : part.frag ≡ child_of frag i nb
  pub none : part.fragment ≡ bare (generation + i) part.fragment.room

-- whether this is the place
abbrev pub is_place : Option ℕ → ℕ → Bool
is_place (Some at) i = i == at
is_place None i = false

-- room for one change more, where it is this child
pub record Grows (here : Bool) (old now : Part) : Type 0 where
  pub frag : now.frag ≡ old.frag
  pub same : now.fragment ≡ record {
    base = old.fragment.base;
    generation = old.fragment.generation;
    clean =
        old.fragment.clean;
    dirty = old.fragment.dirty;
    room = now.fragment.room;
    places = old.fragment.places;
  }
  pub room : old.fragment.room + cond here 1 0 ≤ now.fragment.room

-- a change of a name, where it is this child
abbrev pub Puts : List ℕ → Mark → Bool → Part → Part → Type 0
Puts name mark true old now = (now.frag ≡ old.frag) × (now.fragment ≡ marked old.fragment name mark)
Puts name mark false old now = now ≡ old

-- a place is kept for each of these, and no two of them are one leaf
abbrev pub AreKeptApart : Leaf → Ino → List Part → Type 0
AreKeptApart leaf dir [] = Unit {0}
AreKeptApart leaf dir (part ∷ parts) = (leaf_is leaf (dir, part.frag) ≡ false) × AreKeptApart leaf dir parts
