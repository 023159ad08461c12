-- How a cache's places stand in slots. Only this crate's own contracts use these words.
use Rattle.std.specs.Prelude.{◌≡◌, ℕ, ◌<◌, List, length, get_or, map, Some}
use Rattle.std.specs.Map.{lookup}
use Rattle.lru.specs.LruCache.{LruCache, lru_cache}
use Rattle.mds_types.specs.Frag.{root_fragment}
use Rattle.dentry_cache.specs.Cache.{Held, Leaf, Places, kept_place, leaf_is}
use Rattle.dentry_cache.specs.declared.place_lru.Slot.{Slot}

-- the slot of a number
abbrev pub slot_at : List Slot → ℕ → Slot
slot_at slots i = get_or slots i (record { leaf = (record { 0 = 0 }, root_fragment); place = kept_place })

-- the places of leaves whose slots these are
abbrev pub places_in : List Slot → List (Leaf × ℕ) → Places
places_in slots entries = map (λ e. (e.0, (slot_at slots e.1).place)) entries

-- the order of use, with the places
abbrev pub placed_by : LruCache Leaf ℕ → List Slot → Held
placed_by order slots = lru_cache (places_in slots order.entries) order.cap

-- each leaf has a slot of its own, and each slot is a leaf's
pub record AreSlotted (slots : List Slot) (entries : List (Leaf × ℕ)) : Type 0 where
  pub within : (leaf : Leaf) (i : ℕ) → lookup (leaf_is leaf) entries ≡ Some i → i < length slots
  pub owned : (leaf : Leaf) (i : ℕ) → lookup (leaf_is leaf) entries ≡ Some i → (slot_at slots i).leaf ≡ leaf
  pub taken : (i : ℕ) → i < length slots → lookup (leaf_is (slot_at slots i).leaf) entries ≡ Some i
