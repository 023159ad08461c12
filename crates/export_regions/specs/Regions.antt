-- What a rank caches of the region of a subtree root (Weil et al., OSDI 2006), and what an export of it hands over
-- (this project's own profile).
use Rattle.std.specs.Prelude.{◌≡◌, ◌⊎◌, ℕ, ◌≤◌, ◌^◌, Bool, true, cond, List, [], ◌∷◌, ◌++◌, map as list_map, Option, Some}
use Rattle.std.specs.Option.{option_map}
use Rattle.std.specs.FinMap as map
use Rattle.mds_types.specs.declared.dirfrags.Dirfrag.{Dirfrag}
use Rattle.mds_types.specs.declared.ids.Rank.{Rank}
use Rattle.mds_types.specs.Leaf.{Leaf, leaf_cmp, leaf_of}
use Rattle.cached_frag.specs.Cached.{Cached}
use Rattle.cached_frag.specs.Marks.{Marks}
use Rattle.dentry_cache.specs.Cache.{Unsaved}
use Rattle.dentry_cache.specs.CacheCalls.{unclean_in}
use Rattle.dentry_cache.specs.CacheMap.{CacheMap, clean_in}
use Rattle.dentry_cache.specs.PlacesByUse.{PlaceOf, places_at}
use Rattle.export_bytes.specs.declared.exports.Export.{Export}
use Rattle.export_bytes.specs.declared.exports.SentFrag.{SentFrag}
use Rattle.export_bytes.specs.Export.{SentName}
use Rattle.inode_table.specs.Dirs.{Covers, Homes}
use Rattle.subtree_map.specs.Authority.{NearestRoot, Roots}

-- a leaf is in the region of a root
abbrev pub IsOfRegion : Roots → Homes → Covers → Leaf → Leaf → Type 0
IsOfRegion roots homes covers root leaf = NearestRoot roots homes covers leaf root

-- ---- what a rank caches of a region

-- leaves whose fragments aren't clean, and leaves whose fragments are
pub record RegionLeaves : Type 0 where
  pub unclean : List Leaf
  pub clean : List Leaf

-- the leaves of these places that are in a region and whose fragments pass a test, in the same order
abbrev pub Picks : (In : Leaf → Type 0) → (Option Cached → Bool) → List PlaceOf → List Leaf → Type 0
Picks In test [] leaves = leaves ≡ []
Picks In test (place ∷ places) leaves =
    ((test place.1 ≡ true) × In place.0 × (rest : List Leaf) × (leaves ≡ place.0 ∷ rest) × Picks In test places rest)
    ⊎ (((test place.1 ≡ true) × In place.0 → ⊥) × Picks In test places leaves)

-- the leaves of a region that a rank caches, of each kind the most recently used first
pub record AreCachedOf (In : Leaf → Type 0) (c : CacheMap) (r : ℕ) (leaves : RegionLeaves) : Type 0 where
  pub unclean : Picks In unclean_in (places_at c r) leaves.unclean
  pub clean : Picks In clean_in (places_at c r) leaves.clean

-- with a leaf more, behind the others of its kind
abbrev pub with_leaf : RegionLeaves → Leaf → Bool → RegionLeaves
with_leaf leaves leaf is_clean = record {
  unclean = cond is_clean leaves.unclean (leaves.unclean ++ leaf ∷ []);
  clean = cond is_clean (leaves.clean ++ leaf ∷ []) leaves.clean;
}

-- ---- what an export of it hands over

-- the fragments that aren't clean
abbrev pub UncleanLeaves : Type 0
UncleanLeaves = map.FinMap leaf_cmp Unsaved

-- dirty names as they are sent, in their order: each with what became of it
abbrev pub sent_names : Marks → List SentName
sent_names dirty = list_map (λ e. (e.0, e.1.inode)) (map.entries dirty)

-- what is sent of a fragment that isn't clean: its base and its dirty names
abbrev pub sent_of : Leaf → Unsaved → SentFrag
sent_of leaf u = record { ino = leaf.0; frag = leaf.1; base = u.base; names = sent_names u.dirty }

-- these fragments are sent of a region: each that isn't clean, and no other
pub record AreSent (In : Leaf → Type 0) (unclean : UncleanLeaves) (sent : map.FinMap leaf_cmp SentFrag) : Type 0 where
  pub all : (leaf : Leaf) → In leaf → map.get sent leaf ≡ option_map (sent_of leaf) (map.get unclean leaf)
  pub only : (leaf : Leaf) (frag : SentFrag) → map.get sent leaf ≡ Some frag → In leaf

-- the values of a map, in the order of its keys
abbrev pub values : {X : Type 0} → map.FinMap leaf_cmp X → List X
values m = list_map (λ e. e.1) (map.entries m)

-- an export of the region of a root, by the rank that the root is at to another: what isn't clean of the region, by
-- inode and then by value
pub record IsExportOf (In : Leaf → Type 0) (unclean : UncleanLeaves) (root : Dirfrag) (to : Rank)
    (export : Export) : Type 0 where
  pub ino : export.ino ≡ root.dir
  pub frag : export.frag ≡ root.frag
  pub exporter : export.exporter ≡ root.rank
  pub importer : export.importer ≡ to
  pub sent : map.FinMap leaf_cmp SentFrag
  pub are : AreSent In unclean sent
  pub frags : export.frags ≡ values sent

-- a fragment of a region has more dirty names than 32 bits count
pub record HasTooMany (In : Leaf → Type 0) (unclean : UncleanLeaves) : Type 0 where
  pub leaf : Leaf
  pub within : In leaf
  pub unsaved : Unsaved
  pub beside : map.get unclean leaf ≡ Some unsaved
  pub many : 2 ^ 32 ≤ map.len unsaved.dirty

-- one export alone is that of a region
abbrev pub HasOneExport : Type 0
HasOneExport =
    (roots : Roots) (homes : Homes) (covers : Covers) (unclean : UncleanLeaves) (root : Dirfrag) (to : Rank)
    (a b : Export)
    → IsExportOf (IsOfRegion roots homes covers (leaf_of root)) unclean root to a
    → IsExportOf (IsOfRegion roots homes covers (leaf_of root)) unclean root to b → a ≡ b
