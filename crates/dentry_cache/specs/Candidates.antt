-- Which fragments a rank would split or merge by what it caches of them: CephFS's queues of fragments to split and to
-- merge (`mds_bal_split_size`, `mds_bal_merge_size`, with this project's own numbers).
use Rattle.std.specs.Prelude.{◌≡◌, ◌⊎◌, ℕ, zero, suc, ◌+◌, ◌<◌, ◌≤◌, Option, Some, None, IsSome, unwrap_or}
use Rattle.std.specs.declared.cmp.Ordering.TheVariants.{Less}
use Rattle.std.specs.FinMap as map
use Rattle.mds_types.specs.Frag.{IsFragment, child_of}
use Rattle.mds_types.specs.Leaf.{Leaf, leaf_cmp}
use Rattle.cached_frag.specs.Cached.{Cached, shown_names}
use Rattle.dentry_cache.specs.CacheMap.{CacheMap, here}

-- the number of entries of each fragment that a rank caches
abbrev pub Sizes : Type 0
Sizes = Leaf → Option ℕ

abbrev pub size_in : Option Cached → Option ℕ
size_in (Some f) = Some (map.len (shown_names f))
size_in None = None

abbrev pub sizes_at : CacheMap → ℕ → Sizes
sizes_at c r leaf = size_in (here c r leaf)

-- a leaf is large: it is cached, it has more than 10000 entries, and its bits allow a split by 3
pub record IsLargeIn (sizes : Sizes) (leaf : Leaf) : Type 0 where
  pub entries : ℕ
  pub cached : sizes leaf ≡ Some entries
  pub many : 10000 < entries
  pub bits : leaf.1.bits ≤ 21

-- the i-th of the eight children of a fragment by 3 bits
abbrev pub child : Leaf → ℕ → Leaf
child whole i = (whole.0, child_of whole.1 i 3)

-- how many entries the first so many of them have
abbrev pub entries_of_children : Sizes → Leaf → ℕ → ℕ
entries_of_children sizes whole zero = 0
entries_of_children sizes whole (suc n) = unwrap_or (sizes (child whole n)) 0 + entries_of_children sizes whole n

-- the eight children of a fragment are cached, and have fewer than 50 entries together
pub record IsSmallIn (sizes : Sizes) (whole : Leaf) : Type 0 where
  -- else eight neighbours that straddle a border would count as children
  pub fragment : IsFragment whole.1
  pub cached : (i : ℕ) → i < 8 → IsSome (sizes (child whole i))
  pub few : entries_of_children sizes whole 8 < 50

-- a leaf that comes later in the order of leaves
abbrev pub IsBehind : Option Leaf → Leaf → Type 0
IsBehind None leaf = Unit {0}
IsBehind (Some one) leaf = leaf_cmp one leaf ≡ Less

-- the first leaf behind another of which this holds
pub record IsFirstBehind (P : Leaf → Type 0) (after : Option Leaf) (leaf : Leaf) : Type 0 where
  pub is : P leaf
  pub behind : IsBehind after leaf
  pub least : (other : Leaf) → P other → IsBehind after other → (other ≡ leaf) ⊎ (leaf_cmp leaf other ≡ Less)

-- that leaf, or there is none
abbrev pub IsNextLeaf : (Leaf → Type 0) → Option Leaf → Option Leaf → Type 0
IsNextLeaf P after (Some leaf) = IsFirstBehind P after leaf
IsNextLeaf P after None = (leaf : Leaf) → P leaf → IsBehind after leaf → ⊥
