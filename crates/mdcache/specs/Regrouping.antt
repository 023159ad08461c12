-- What is made ready for a split and for a merge of a directory's leaves, and what they make of the whole.
use Rattle.std.specs.Prelude.{◌≡◌, ℕ, ◌+◌, ◌<◌, ◌≤◌, ◌^◌, Bool, cond, List, map as each, length, None}
use Rattle.std.specs.FinMap as map
use Rattle.mds_types.specs.Frag.{Fragment}
use Rattle.mds_types.specs.Leaf.{leaf_of}
use Rattle.fragtree.specs.FragTree.{IsMerge, IsTree, leaves_inside}
use Rattle.cached_frag.specs.declared.bases.Base.TheVariants.{Fresh}
use Rattle.cached_frag.specs.Cached.{Cached, shown_names}
use Rattle.dentry_cache.specs.Cache.{Leaf}
use Rattle.dentry_cache.specs.CacheMap.{CacheMap, unclean, with_frag}
use Rattle.dentry_cache.specs.CacheSplits.{HaveKeptPlaces, IsKeptFor, IsReadyAt}
use Rattle.dentry_cache.specs.Divided.{AreNumbered}
use Rattle.mds_types.specs.declared.dirfrags.Dirfrag.{Dirfrag}
use Rattle.inode_table.specs.Dirs.{leaves_of}
use Rattle.namespace_ops.specs.Changes.{in_directory}
use Rattle.mdcache.specs.declared.merging.Merge.{Merge}
use Rattle.mdcache.specs.declared.merge_plan.MergePlan.{MergePlan}
use Rattle.mdcache.specs.declared.splitting.Split.{Split}
use Rattle.mdcache.specs.declared.split_plan.SplitPlan.{SplitPlan}
use Rattle.mdcache.specs.Changes.{leaves_in}
use Rattle.mdcache.specs.Core.{Core, Rooms, without_frags}
use Rattle.mdcache.specs.Joining.{name_joined}
use Rattle.mdcache.specs.Reads.{has_none}
use Rattle.mdcache.specs.Shown.{names_of}
use Rattle.mdcache.specs.Splits.{NameChildren, without_objects}
use Rattle.mdcache.specs.State.{text_of}

-- ---- a split

-- the name of the leaf's object, with room on the purge list, and those of its children's objects
pub record IsSplitPlanned (p : Core) (a : Dirfrag) (nb : ℕ) (plan : SplitPlan) : Type 0 where
  pub object : plan.object ≡ text_of (leaf_of a)
  pub children : NameChildren a.dir a.frag nb plan.children.items
  pub list : 0 < p.room.purge

-- beside that the children, with room for their names and a place for each, by their generations in order
pub record IsSplitReady (p : Core) (a : Dirfrag) (nb : ℕ) (split : Split) : Type 0 where
  pub planned : IsSplitPlanned p a nb split.plan
  pub ready : IsReadyAt a.rank.0 a.dir a.frag nb p.caches split.parts
  pub numbered : AreNumbered p.next_generation split.parts
  pub kept : HaveKeptPlaces p.caches a.rank.0 a.dir a.frag nb

-- a leaf was split: its directory has this cover, its job is gone, its object is to be removed and those of its
-- children aren't; the children took generations, and their names a version, if there are any
abbrev pub split_in : Core → Dirfrag → ℕ → SplitPlan → (cover : List Fragment) → (empty : Bool) → CacheMap → Rooms
    → Core
split_in p a nb plan cover empty caches room = record p {
  covers = map.insert p.covers a.dir.0 cover;
  caches = caches;
  jobs = map.remove p.jobs (leaf_of a);
  purge = without_objects (map.insert p.purge plan.object tt) plan.children.items;
  next_generation = p.next_generation + 2 ^ nb;
  next_version = p.next_version + cond empty 0 1;
  room = room;
}

-- ---- a merge

-- the leaves of a directory properly inside a fragment
abbrev pub ending_at : Core → Dirfrag → List Leaf
ending_at p a = each (in_directory a.dir.0) (leaves_inside a.frag (leaves_of p.covers a.dir.0))

-- the leaves that end, with room on the purge list for the names of their objects, and the directory's leaves after the
-- merge
pub record IsMergePlanned (p : Core) (a : Dirfrag) (plan : MergePlan) : Type 0 where
  pub leaves : plan.leaves.items ≡ leaves_inside a.frag (leaves_of p.covers a.dir.0)
  pub list : length plan.leaves.items ≤ p.room.purge
  pub cover : IsMerge (leaves_of p.covers a.dir.0) plan.cover a.frag
  pub whole : IsTree plan.cover

-- a fragment of the next generation, for which no object counts, has the names of these leaves, dirty at the next
-- version
pub record IsJoined (p : Core) (leaves : List Leaf) (joined : Cached) : Type 0 where
  pub fresh : joined.base ≡ Fresh
  pub numbered : joined.generation ≡ p.next_generation
  pub dirty : (name : List ℕ)
      → map.get joined.dirty name ≡ name_joined (names_of (unclean p.caches) p.objects) p.next_version leaves name None

-- beside what was planned this fragment, and a place for it
pub record IsMergeReady (p : Core) (a : Dirfrag) (merge : Merge) : Type 0 where
  pub planned : IsMergePlanned p a merge.plan
  pub joined : IsJoined p (ending_at p a) merge.joined
  pub kept : IsKeptFor p.caches a.rank.0 (leaf_of a)

-- leaves were merged: the fragment came, and they ended; its object isn't to be removed; it took a generation, and its
-- names a version, if it has any
abbrev pub merged_in : Core → Dirfrag → MergePlan → Cached → Rooms → Core
merged_in p a plan joined room =
    let left : Core =
    without_frags (record p {
      caches =
          with_frag p.caches a.rank.0 (leaf_of a) joined;
    }) (leaves_in a.dir plan.leaves.items) room in
    record left {
      covers = map.insert p.covers a.dir.0 plan.cover;
      purge = map.remove left.purge (text_of (leaf_of a));
      next_generation = p.next_generation + 1;
      next_version = p.next_version + cond (has_none (shown_names joined)) 0 1;
    }
