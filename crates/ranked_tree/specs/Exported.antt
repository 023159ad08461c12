-- The exports that stand over a tree: whose each region is, and what is kept of those that stand.
use Rattle.std.specs.Prelude.{◌≡◌, ◌⊎◌, ℕ, ◌<◌, true, None, Some, length}
use Rattle.std.specs.FinMap as map
use Rattle.mds_types.specs.declared.ids.Ino.{Ino}
use Rattle.mds_types.specs.declared.ids.Rank.{Rank}
use Rattle.mds_types.specs.Frag.{Fragment}
use Rattle.cached_frag.specs.declared.jobs.Job.{Job}
use Rattle.inode_table.specs.Dirs.{Covers, Homes, IsLive}
use Rattle.export_steps.specs.declared.exports.StandingExport.{StandingExport}
use Rattle.export_steps.specs.Holder.{IsFrozen, holding}
use Rattle.export_steps.specs.Standing.{ArePlaced, Standing}
use Rattle.subtree_map.specs.Authority.{Leaf, NearestRoot, Roots}
use Rattle.subtree_map.specs.Changes.{Subtrees, is_inside}
use Rattle.mdcache.specs.Core.{Core, state_of}
use Rattle.mdcache.specs.State.{State as TreeState}
use Rattle.ranked_tree.specs.declared.regions.Regions.{Regions}
use Rattle.ranked_tree.specs.Held.{IsOwned}
use Rattle.ranked_tree.specs.Subtrees.{AreRoots}

-- the roots, each with the rank that holds its region
abbrev pub held_in : Regions → Roots
held_in regions = holding regions.exports regions.roots.roots

-- a leaf changes no more until the export of its region ends
abbrev pub IsFrozenIn : TreeState → Regions → Leaf → Type 0
IsFrozenIn tree regions leaf = IsFrozen regions.exports regions.roots.roots tree.homes tree.covers leaf

-- a leaf lies in the region of another, once that is a subtree root
abbrev pub IsUnder : Roots → Homes → Covers → (root leaf : Leaf) → Type 0
IsUnder roots homes covers root leaf = (rank : Rank) → NearestRoot (map.insert roots root rank) homes covers leaf root

-- a leaf of a directory that lies properly inside a fragment is frozen
abbrev pub IsAnyFrozen : Standing → Roots → Homes → Covers → Ino → Fragment → Type 0
IsAnyFrozen exports roots homes covers dir frag =
    (leaf : Leaf) × IsLive homes covers leaf × (is_inside dir.0 frag leaf ≡ true)
    × IsFrozen exports roots homes covers leaf

-- no leaf of a directory that lies properly inside a fragment is frozen
abbrev pub AreThawed : Standing → Roots → Homes → Covers → Ino → Fragment → Type 0
AreThawed exports roots homes covers dir frag =
    (leaf : Leaf) → is_inside dir.0 frag leaf ≡ true → IsLive homes covers leaf
    → IsFrozen exports roots homes covers leaf → ⊥

-- over a tree whose ranks have so many caches: the roots are its own, and what Finish changes has its place; the ranks
-- of roots and of exports have caches; and no commit of a frozen leaf is begun
pub record StandSoundly (tree : TreeState) (count : ℕ) (subtrees : Subtrees) (exports : Standing) : Type 0 where
  pub valid : AreRoots tree subtrees.roots
  pub placed : ArePlaced exports subtrees
  pub ranked : (leaf : Leaf) (rank : Rank) → map.get subtrees.roots leaf ≡ Some rank → rank.0 < count
  pub there : (root : Leaf) (export : StandingExport) → map.get exports root ≡ Some export → (export.exporter.0 < count)
      × (export.importer.0 < count)
  pub unbegun : (leaf : Leaf) (job : Job) → map.get tree.jobs leaf ≡ Some job
      → IsFrozen exports subtrees.roots tree.homes tree.covers leaf → ⊥

-- a tree that is divided among ranks: each caches what it holds, and the exports stand soundly
pub record IsDivided (core : Core) (regions : Regions) : Type 0 where
  pub owned : IsOwned core (held_in regions)
  pub stand : StandSoundly (state_of core) (length core.caches.used) regions.roots regions.exports

-- the jobs of the region of a root have ended, and nothing else of the state changed
pub record EndsRegion (old new : TreeState) (roots : Roots) (root : Leaf) : Type 0 where
  pub ended : (leaf : Leaf) → NearestRoot roots old.homes old.covers leaf root → map.get new.jobs leaf ≡ None
  pub others : (leaf : Leaf) → (NearestRoot roots old.homes old.covers leaf root → ⊥)
      → map.get new.jobs leaf ≡ map.get old.jobs leaf
  pub left : new ≡ record old { jobs = new.jobs }

-- the job of one leaf has ended if the leaf is in the region; otherwise nothing changed
abbrev pub EndsInside : Roots → Leaf → (old new : TreeState) → Leaf → Type 0
EndsInside roots root old new leaf =
    (NearestRoot roots old.homes old.covers leaf root × (new ≡ record old { jobs = map.remove old.jobs leaf }))
    ⊎ ((NearestRoot roots old.homes old.covers leaf root → ⊥) × (new ≡ old))
