-- What a contract sees of the tree over caches and a store, and what small steps make of it.
use Rattle.std.specs.Prelude.{◌≡◌, ℕ, ◌+◌, ◌<◌, ◌≤◌, Bool, length, List, map as each, Option, Some, None}
use Rattle.std.specs.FinMap as map
use Rattle.mds_types.specs.declared.ids.Ino.{Ino}
use Rattle.mds_types.specs.declared.ids.Rank.{Rank}
use Rattle.mds_types.specs.Tree.{Tree}
use Rattle.mds_types.specs.declared.inodes.Inode.{Inode}
use Rattle.mds_types.specs.Leaf.{leaf_of}
use Rattle.objstore.specs.Omap.{Keys}
use Rattle.objstore.specs.Objects.{Objects}
use Rattle.cached_frag.specs.declared.bases.Base.TheVariants.{Fresh}
use Rattle.cached_frag.specs.declared.jobs.Job.{Job}
use Rattle.cached_frag.specs.Cached.{Cached, snapshot_of}
use Rattle.dentry_cache.specs.Cache.{Leaf, shows_in}
use Rattle.dentry_cache.specs.CacheCalls.{KeepsNone}
use Rattle.dentry_cache.specs.CacheMap.{At, CacheMap, IsFreeFor, here, unclean, used_at, with_frag, with_mark}
use Rattle.dentry_cache.specs.Ended.{ended_all}
use Rattle.dentry_cache.specs.Loading.{IsSaved, object_of}
use Rattle.dentry_cache.specs.Ties.{IsTied}
use Rattle.mds_types.specs.declared.dirfrags.Dirfrag.{Dirfrag}
use Rattle.inode_table.specs.declared.dirs.Home.{Home}
use Rattle.inode_table.specs.Dirs.{Counts, Covers, DirPins, Homes, one_less, one_more}
use Rattle.inode_table.specs.TreeTable.{counts_moved, with_home, with_dir_pin}
use Rattle.mdcache.specs.Changes.{rows_but, texts_gone, with_objects, without_leaves}
use Rattle.dentry_cache.specs.Reads.{Reads}
use Rattle.mdcache.specs.CacheReads.{LacksPlacesIn}
use Rattle.namespace_ops.specs.Changes.{leaves_gone}
use Rattle.mdcache.specs.Shown.{shown_tree}
use Rattle.mdcache.specs.Sound.{IsSound}
use Rattle.mdcache.specs.State.{IsLive, State, text_of}
use Rattle.mdcache.specs.StandingJobs.{Jobs}

-- how many more directories, jobs, and names of objects to be removed fit with no growth
pub record Rooms : Type 0 where
  pub dirs : ℕ
  pub jobs : ℕ
  pub purge : ℕ

-- how many entries a directory may have; the directory table; the caches of all ranks, with the order in which each
-- used its leaves; the store's objects and its count of faults; the jobs that stand, and the names of objects to be
-- removed; the numbers that the next job, fragment and dirty name get; and what fits with no growth
pub record Core : Type 0 where
  pub limit : ℕ
  pub homes : Homes
  pub covers : Covers
  pub counts : Counts
  pub pins : DirPins
  pub caches : CacheMap
  pub objects : Objects
  pub faults : ℕ
  pub jobs : Jobs
  pub purge : Keys
  pub next_job : ℕ
  pub next_generation : ℕ
  pub next_version : ℕ
  pub room : Rooms

-- the state: of the caches what isn't clean
abbrev pub state_of : Core → State
state_of c = record {
  limit = c.limit;
  homes = c.homes;
  covers = c.covers;
  counts = c.counts;
  pins = c.pins;
  unsaved = unclean c.caches;
  objects = c.objects;
  jobs = c.jobs;
  purge = c.purge;
  next_job = c.next_job;
  next_generation = c.next_generation;
  next_version = c.next_version;
}

-- the tree that is shown
abbrev pub shown_in : Core → Tree
shown_in c = shown_tree (state_of c)

-- a rank lacks so many places, whatever was fetched and in whatever order fragments were used: each other place of
-- its cache has a fragment that isn't clean
abbrev pub LacksPlacesAt : ℕ → Core → Rank → Type 0
LacksPlacesAt count core rank = LacksPlacesIn count core.caches rank.0

-- a cached fragment is a live leaf, is tied to its object, and has a generation that was given out, or 0, that of one
-- that was fetched
pub record IsCachedIn (s : State) (leaf : Leaf) (f : Cached) : Type 0 where
  pub live : IsLive s.homes s.covers leaf
  pub tied : IsTied f (object_of s.objects leaf.0 leaf.1)
  pub made : f.generation < s.next_generation

-- each cached fragment is sound
abbrev pub AllCachedIn : State → CacheMap → Type 0
AllCachedIn s caches = (leaf : Leaf) (a : At) → map.get caches.held leaf ≡ Some a → IsCachedIn s leaf a.frag

-- the state is sound, and so is each cached fragment; no place is kept
pub record IsSoundCore (c : Core) : Type 0 where
  pub sound : IsSound (state_of c)
  pub begun : 0 < c.next_generation
  pub cached : AllCachedIn (state_of c) c.caches
  pub none : KeepsNone c.caches

-- no less room than before
pub record IsNoLess (old new : Rooms) : Type 0 where
  pub dirs : old.dirs ≤ new.dirs
  pub jobs : old.jobs ≤ new.jobs
  pub purge : old.purge ≤ new.purge

-- what reads and preparations leave: of the caches what was read for leaves that are named, the count of faults, and
-- room
pub record ReadsCore (Uses Ends : ℕ → Leaf → Type 0) (old new : Core) : Type 0 where
  pub caches : Reads Uses Ends old.objects old.caches new.caches
  pub room : IsNoLess old.room new.room
  pub beside : new ≡ record old { caches = new.caches; faults = new.faults; room = new.room }

-- a leaf can be fetched at the rank that holds it: there is the rank, no other has the leaf, and if it is clean its
-- object spells it
pub record MayFetch (p : Core) (a : Dirfrag) : Type 0 where
  pub there : a.rank.0 < length p.caches.used
  pub free : IsFreeFor p.caches a.rank.0 (leaf_of a)
  pub saved : map.get (unclean p.caches) (leaf_of a) ≡ None → IsSaved a.frag (object_of p.objects a.dir a.frag)

-- ---- what the small steps make of it

-- a fragment just made: no object counts, and it has no names
abbrev pub made_frag : ℕ → Cached
made_frag generation =
    record { base = Fresh; generation = generation; clean = map.empty; dirty = map.empty; room = 0; places = 0 }

-- a name of a leaf is dirty at the next version, and has this inode, or none
abbrev pub named : Core → Dirfrag → List ℕ → Option Inode → Core
named p a name inode = record p {
  caches = with_mark p.caches a.rank.0 (leaf_of a) name (record { version = p.next_version; inode = inode });
  next_version = p.next_version + 1;
}

-- an entry came to a directory, or one went
abbrev pub with_entry_counted : Core → Ino → Core
with_entry_counted p dir = record p { counts = one_more p.counts dir.0 }

abbrev pub without_entry : Core → Ino → Core
without_entry p dir = record p { counts = one_less p.counts dir.0 }

-- the pin of an inode is set, if it is a directory
abbrev pub pinned : Core → Inode → Core
pinned p inode = record p { pins = with_dir_pin p.pins inode }

-- a fragment that is there shows a name
abbrev pub shows : Core → Dirfrag → List ℕ → Bool
shows p a name = shows_in (here p.caches a.rank.0 (leaf_of a)) name

-- a directory came: it has its home, no entry, and a leaf just made at a rank, whose object isn't to be removed
abbrev pub with_dir : Core → Dirfrag → Home → Rooms → Core
with_dir p a home room = record p {
  homes = map.insert p.homes a.dir.0 home;
  counts = map.insert p.counts a.dir.0 0;
  caches = with_frag p.caches a.rank.0 (leaf_of a) (made_frag p.next_generation);
  purge = map.remove p.purge (text_of (leaf_of a));
  next_generation = p.next_generation + 1;
  room = room;
}

-- an inode moved from one name to another, where something was shown or nothing, and has its home there, if it is a
-- directory
abbrev pub moved_entry : Core → Dirfrag → List ℕ → Dirfrag → List ℕ → List ℕ → Inode → Core
moved_entry c from source to target name inode =
    named (record (named c from source None) {
      homes =
          with_home c.homes (record { dir = to.dir; name = name }) inode;
      counts =
          counts_moved c.counts from.dir.0 to.dir.0 (shows c to target);
    }) to target (Some inode)

-- these leaves of a directory ended: their places and jobs are gone, and their objects are to be removed
abbrev pub without_frags : Core → List Leaf → Rooms → Core
without_frags p leaves room = record p {
  caches = ended_all p.caches leaves;
  jobs = without_leaves p.jobs leaves;
  purge = with_objects p.purge (each text_of leaves);
  room = room;
}

-- a directory went, or none: all its leaves ended, and the object of its tree is to be removed too
abbrev pub without_dir : Core → Option Ino → Rooms → Core
without_dir p gone room = record p {
  homes = rows_but p.homes gone;
  covers = rows_but p.covers gone;
  counts = rows_but p.counts gone;
  pins = rows_but p.pins gone;
  caches = ended_all p.caches (leaves_gone p.covers gone);
  jobs = without_leaves p.jobs (leaves_gone p.covers gone);
  purge = with_objects p.purge (texts_gone (state_of p) gone);
  room = room;
}

-- a leaf was used
abbrev pub used_core : Core → Dirfrag → Rooms → Core
used_core c a room = record c { caches = used_at c.caches a.rank.0 (leaf_of a); room = room }

-- the job of this number that is of a fragment as it stands
abbrev pub IsJobOf : ℕ → Leaf → Job → Cached → Type 0
IsJobOf number leaf job f =
    job ≡ record { number = number; ino = leaf.0; frag = leaf.1; generation = f.generation; snapshot = snapshot_of f }

-- a job stands for a leaf, which was used, and its number is taken
abbrev pub with_job_in : Core → Dirfrag → Job → Rooms → Core
with_job_in c a job room =
    record (used_core c a room) { jobs = map.insert c.jobs (leaf_of a) job; next_job = c.next_job + 1 }
