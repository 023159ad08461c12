-- What Import makes of a sent region: the importer has in its cache what isn't clean of it, and the exporter caches
-- none of it any more (CephFS's Migrator; this project's own profile).
use Rattle.std.specs.Prelude.{◌≡◌, ◌≢◌, ◌⊎◌, ℕ, length, List, Some}
use Rattle.std.specs.Option.{option_map}
use Rattle.std.specs.FinMap as map
use Rattle.mds_types.specs.declared.ids.Rank.{Rank}
use Rattle.mds_types.specs.declared.object_names.ObjName.TheVariants.{Frag as FragOf}
use Rattle.mds_types.specs.declared.refusals.Refusal.{Refusal}
use Rattle.mds_types.specs.declared.refusals.Refusal.TheVariants.{Damaged, NoMemory, NothingToEvict, WrongExportState}
use Rattle.cached_frag.specs.Cached.{Cached}
use Rattle.dentry_cache.specs.Cache.{Unsaved}
use Rattle.dentry_cache.specs.CacheMap.{At, CacheMap, lies_by}
use Rattle.dentry_cache.specs.Handing.{HandsFragmentsOver, WantsPlace}
use Rattle.export_regions.specs.Regions.{AreCachedOf, RegionLeaves}
use Rattle.export_steps.specs.declared.exports.ExportState.TheVariants.{Imported, Sent}
use Rattle.export_steps.specs.declared.exports.StandingExport.{StandingExport}
use Rattle.export_steps.specs.Standing.{ComesTo, Standing, state_at}
use Rattle.subtree_map.specs.Authority.{Leaf, Roots}
use Rattle.mdcache.specs.Core.{Core, state_of}
use Rattle.mdcache.specs.State.{State as TreeState}
use Rattle.ranked_tree.specs.declared.regions.Regions.{Regions}
use Rattle.ranked_tree.specs.Ranked.{Ranked}
use Rattle.ranked_tree.specs.Sending.{IsInRegionOf, SpellsRegion}

-- what isn't clean of a fragment as the importer has it: of generation 0, as one that was fetched
abbrev pub imported_unsaved : Unsaved → Unsaved
imported_unsaved u = record { base = u.base; generation = 0; dirty = u.dirty }

-- what isn't clean of a region is of generation 0, and all else of the state is as it was
pub record IsRenewed (In : Leaf → Type 0) (old new : TreeState) : Type 0 where
  pub within : (leaf : Leaf) → In leaf
      → map.get new.unsaved leaf ≡ option_map imported_unsaved (map.get old.unsaved leaf)
  pub others : (leaf : Leaf) → (In leaf → ⊥) → map.get new.unsaved leaf ≡ map.get old.unsaved leaf
  pub left : new ≡ record old { unsaved = new.unsaved }

-- each cached fragment of a region is at its importer, and each other one is at the rank where it was
abbrev pub ComeToImporter : (In : Leaf → Type 0) → Rank → (old new : CacheMap) → Type 0
ComeToImporter In importer old new =
    (leaf : Leaf) (a : At) → map.get new.held leaf ≡ Some a → (In leaf × (a.rank ≡ importer.0))
    ⊎ ((In leaf → ⊥) × (f : Cached) × (map.get old.held leaf ≡ Some (lies_by a.rank f)))

-- what the exporter caches of a region goes to the importer: each fragment that isn't clean is there, and those that
-- are clean are cached no more
pub record HandsRegion (In : Leaf → Type 0) (export : StandingExport) (old new : CacheMap) : Type 0 where
  pub leaves : RegionLeaves
  pub cached : AreCachedOf In old export.exporter.0 leaves
  pub handed : HandsFragmentsOver export.exporter.0 export.importer.0 leaves.unclean leaves.clean old new
  pub came : ComeToImporter In export.importer old new

-- where a region isn't taken the caches stay, but that for want of memory clean fragments of the importer may have gone
abbrev pub KeepsRegion : (importer : Rank) → (old new : CacheMap) → Refusal → Type 0
KeepsRegion importer old new reason =
    (new ≡ old) ⊎ ((reason ≡ NoMemory) × (leaves : List Leaf) × WantsPlace importer.0 leaves old new)

-- Import: the export of a root goes from sent to imported, the bytes are those of its region, which the importer has
-- now
pub record Imports (old new : Ranked) (root : Leaf) (bytes : List ℕ) : Type 0 where
  pub step : ComesTo old.exports new.exports root Sent Imported
  pub region : SpellsRegion (state_of old.tree) old.subtrees.roots root step.export bytes
  pub renewed : IsRenewed (IsInRegionOf (state_of old.tree) old.subtrees.roots root) (state_of old.tree)
      (state_of new.tree)
  pub caches : HandsRegion
      (IsInRegionOf (state_of old.tree) old.subtrees.roots root) step.export old.tree.caches new.tree.caches

-- why the region of a sent export isn't taken: want of memory; bytes that aren't those of the region; or fewer places
-- of the importer that are free or can become so than fragments that were sent
abbrev pub MayNotImport : (Lacks : ℕ → Rank → Type 0) → TreeState → Roots → (root : Leaf) → StandingExport
    → (bytes : List ℕ) → Refusal → Type 0
MayNotImport Lacks tree roots root export bytes reason =
    (reason ≡ NoMemory)
    ⊎ ((reason ≡ Damaged (FragOf root.0 root.1)) × (SpellsRegion tree roots root export bytes → ⊥))
    ⊎ ((reason ≡ NothingToEvict) × (sent : SpellsRegion tree roots root export bytes)
    × Lacks (length sent.export.frags) export.importer)

-- why Import is refused: no sent export of the root stands, or, where one does, its region isn't taken
abbrev pub RefusesImport : (Lacks : ℕ → Rank → Type 0) → TreeState → Roots → Standing → (root : Leaf) → (bytes : List ℕ)
    → Refusal → Type 0
RefusesImport Lacks tree roots exports root bytes reason =
    ((reason ≡ WrongExportState) × (state_at exports root ≢ Some Sent))
    ⊎ ((export : StandingExport) × (map.get exports root ≡ Some export) × (export.state ≡ Sent)
    × MayNotImport Lacks tree roots root export bytes reason)

-- the caches stay, or are those of a region that isn't taken
abbrev pub LeavesCaches : Standing → (root : Leaf) → (old new : CacheMap) → Refusal → Type 0
LeavesCaches exports root old new reason =
    (new ≡ old) ⊎ ((export : StandingExport) × (map.get exports root ≡ Some export)
    × KeepsRegion export.importer old new reason)

-- ---- words of this crate's own contracts

-- the region of a sent export was taken
pub record TakesRegion (old new : Core) (regions : Regions) (root : Leaf) (export : StandingExport)
    (bytes : List ℕ) : Type 0 where
  pub region : SpellsRegion (state_of old) regions.roots.roots root export bytes
  pub renewed : IsRenewed (IsInRegionOf (state_of old) regions.roots.roots root) (state_of old) (state_of new)
  pub caches : HandsRegion (IsInRegionOf (state_of old) regions.roots.roots root) export old.caches new.caches

-- bytes are those of the region of an export, of which so many fragments aren't clean
abbrev pub IsSpelledBy : TreeState → Roots → (root : Leaf) → StandingExport → (bytes : List ℕ) → ℕ → Type 0
IsSpelledBy tree roots root export bytes count =
    (sent : SpellsRegion tree roots root export bytes) × (length sent.export.frags ≡ count)

-- they aren't, or memory is wanted to tell
abbrev pub IsWrong : TreeState → Roots → (root : Leaf) → StandingExport → (bytes : List ℕ) → Refusal → Type 0
IsWrong tree roots root export bytes reason =
    (reason ≡ NoMemory) ⊎ ((reason ≡ Damaged (FragOf root.0 root.1)) × (SpellsRegion tree roots root export bytes → ⊥))
