-- What a contract sees of a cache: its places, the most recently used first.
use Rattle.std.specs.Prelude.{◌≡◌, ℕ, ◌<◌, ◌≤◌, ◌⊎◌, Bool, true, false, cond, not, ◌&&◌, List, [], ◌∷◌, ◌++◌, length, Option, Some, None, is_some}
use Rattle.std.specs.List.{AllByRecursion}
use Rattle.std.specs.Map.{lookup, remove_entry, set_value}
use Rattle.std.specs.FinMap as finmap
use Rattle.lru.specs.LruCache.{LruCache, lru_cache}
pub use Rattle.mds_types.specs.Leaf.{Leaf, leaf_cmp, leaf_is}
use Rattle.cached_frag.specs.declared.bases.Base.{Base}
use Rattle.cached_frag.specs.declared.bases.Base.TheVariants.{Fresh}
use Rattle.cached_frag.specs.Marks.{Marks}
use Rattle.cached_frag.specs.Cached.{Cached, is_clean, shown_names}
use Rattle.dentry_cache.specs.declared.cache.Place.{Place}

-- the places, the most recently used first, and how many there may be
abbrev pub Places : Type 0
Places = List (Leaf × Place)

abbrev pub Held : Type 0
Held = LruCache Leaf Place

-- the fragment in a place; none in one that is kept for a fragment that will be made
abbrev pub fragment_in : Option Place → Option Cached
fragment_in (Some place) = cond place.kept None (Some place.frag)
fragment_in None = None

-- the cached fragment of a leaf
abbrev pub cached : Places → Leaf → Option Cached
cached places leaf = fragment_in (lookup (leaf_is leaf) places)

-- a place may be taken for another fragment if it holds a clean one
abbrev pub is_evictable : Place → Bool
is_evictable place = not place.kept && is_clean place.frag

-- whether a leaf is the one that is to stay
abbrev pub is_to_stay : Option Leaf → Leaf → Bool
is_to_stay None leaf = false
is_to_stay (Some one) leaf = leaf_is one leaf

-- whether a fragment may go, while another one is to stay
abbrev pub may_go : Option Leaf → Leaf × Place → Bool
may_go stay e = is_evictable e.1 && not (is_to_stay stay e.0)

-- none of these may go
abbrev pub NoneGoes : Option Leaf → Places → Type 0
NoneGoes stay places = AllByRecursion (λ e. may_go stay e ≡ false) places

-- the least recently used of those that may go: it stands between those used later and those used before
pub record IsOldest (stay : Option Leaf) (places : Places) (leaf : Leaf) : Type 0 where
  pub later : Places
  pub place : Place
  pub before : Places
  pub among : places ≡ later ++ (leaf, place) ∷ before
  pub goes : may_go stay (leaf, place) ≡ true
  pub last : NoneGoes stay before

-- the least recently used of those that may go is gone
abbrev pub Evicts : Option Leaf → Held → Held → Type 0
Evicts stay old new =
    (leaf : Leaf) × (o : IsOldest stay old.entries leaf) × (new ≡ lru_cache (o.later ++ o.before) old.cap)

-- a place is free, or becomes so: where all are taken the least recently used of those that may go is gone
abbrev pub MakesRoom : Option Leaf → Held → Held → Type 0
MakesRoom stay old new =
    ((length old.entries < old.cap) × (new ≡ old)) ⊎ ((old.cap ≤ length old.entries) × Evicts stay old new)

-- all places are taken, and no fragment may go
pub record IsFull (stay : Option Leaf) (old : Held) : Type 0 where
  pub taken : old.cap ≤ length old.entries
  pub none : NoneGoes stay old.entries

-- a fragment in its place
abbrev pub held : Cached → Place
held f = record { frag = f; kept = false }

-- a place that is kept for a fragment that will be made
abbrev pub kept_place : Place
kept_place = record {
  frag = record {
    base = Fresh;
    generation = 0;
    clean = finmap.empty;
    dirty = finmap.empty;
    room =
        0;
    places = 0;
  };
  kept = true;
}

-- whether a place is kept
abbrev pub is_kept : Option Place → Bool
is_kept None = false
is_kept (Some place) = place.kept

-- the leaf has this in its place, and is the most recently used; the other places are as they were
abbrev pub used_as : Leaf → Place → Held → Held
used_as leaf place old = lru_cache ((leaf, place) ∷ remove_entry (leaf_is leaf) old.entries) old.cap

-- the leaf has no place; the others are as they were
abbrev pub without : Leaf → Held → Held
without leaf old = lru_cache (remove_entry (leaf_is leaf) old.entries) old.cap

-- a leaf that had no place has this in one
abbrev pub TakesPlace : Option Leaf → Leaf → Place → Held → Held → Type 0
TakesPlace stay leaf place old new =
    (mid : Held) × MakesRoom stay old mid × (new ≡ lru_cache ((leaf, place) ∷ mid.entries) old.cap)

-- no place was taken, but one may have become free
abbrev pub MayMakeRoom : Option Leaf → Held → Held → Type 0
MayMakeRoom stay old new = (new ≡ old) ⊎ MakesRoom stay old new

-- the fragment of a leaf is there
abbrev pub IsThere : Option Cached → Type 0
IsThere None = ⊥
IsThere (Some f) = Unit {0}

-- it is there, and has room for a change
abbrev pub HasRoom : Option Cached → Type 0
HasRoom None = ⊥
HasRoom (Some f) = 0 < f.room

-- it is there, and this holds of it
abbrev pub HasCached : Option Cached → (Cached → Type 0) → Type 0
HasCached None P = ⊥
HasCached (Some f) P = P f

-- a fragment that is there shows a name
abbrev pub shows_in : Option Cached → List ℕ → Bool
shows_in None name = false
shows_in (Some f) name = is_some (finmap.get (shown_names f) name)

-- the fragment of a leaf was changed so, and is the most recently used; the other places are as they were
abbrev pub IsChanged : Option Cached → (Cached → Cached → Type 0) → Leaf → Held → Held → Type 0
IsChanged None Change leaf old new = ⊥
IsChanged (Some f) Change leaf old new = (now : Cached) × Change f now × (new ≡ used_as leaf (held now) old)

-- the fragment of a leaf was changed so, where it stands; the order of use and the other places are as they were
abbrev pub IsWritten : Option Cached → (Cached → Cached → Type 0) → Leaf → Held → Held → Type 0
IsWritten None Change leaf old new = ⊥
IsWritten (Some f) Change leaf old new =
    (now : Cached) × Change f now × (new ≡ lru_cache (set_value (leaf_is leaf) old.entries (held now)) old.cap)

-- the place of a leaf is the most recently used; a leaf that has none changes nothing
abbrev pub IsTouched : Option Place → Leaf → Held → Held → Bool → Type 0
IsTouched (Some place) leaf old new there = (there ≡ true) × (new ≡ used_as leaf place old)
IsTouched None leaf old new there = (there ≡ false) × (new ≡ old)

-- ---- what isn't clean

-- what a fragment that isn't clean has beyond its object: its base, which of the fragments of its name it is, and its
-- dirty names
pub record Unsaved : Type 0 where
  pub base : Base
  pub generation : ℕ
  pub dirty : Marks

abbrev pub unsaved_of : Cached → Option Unsaved
unsaved_of f = cond (is_clean f) None (Some (record { base = f.base; generation = f.generation; dirty = f.dirty }))

abbrev pub unsaved_in : Option Cached → Option Unsaved
unsaved_in (Some f) = unsaved_of f
unsaved_in None = None

abbrev pub with_unsaved : finmap.FinMap leaf_cmp Unsaved → Leaf → Option Unsaved → finmap.FinMap leaf_cmp Unsaved
with_unsaved m leaf (Some u) = finmap.insert m leaf u
with_unsaved m leaf None = finmap.remove m leaf

-- the fragments that aren't clean
unfoldable pub unsaved : Places → finmap.FinMap leaf_cmp Unsaved
unsaved [] = finmap.empty
unsaved (e ∷ places) = with_unsaved (unsaved places) e.0 (unsaved_in (fragment_in (Some e.1)))
