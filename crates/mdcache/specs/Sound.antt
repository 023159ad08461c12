-- What every state keeps.
use Rattle.std.specs.Prelude.{◌≡◌, ◌⊎◌, ℕ, ◌<◌, ◌^◌, true, is_some, List, Option, Some, None}
use Rattle.std.specs.FinMap as map
use Rattle.mds_types.specs.declared.ids.Ino.{Ino}
use Rattle.mds_types.specs.declared.inodes.Inode.{Inode}
use Rattle.objstore.specs.Omap.{Omap}
use Rattle.namehash.specs.Rjenkins.{hash_of}
use Rattle.fragtree.specs.FragTree.{IsPick}
use Rattle.cached_frag.specs.declared.jobs.Job.{Job}
use Rattle.cached_frag.specs.declared.marks.Mark.{Mark}
use Rattle.cached_frag.specs.Marks.{Marks}
use Rattle.cached_frag.specs.Snap.{IsSnap, counts_of}
use Rattle.cached_frag.specs.Cached.{shown_over}
use Rattle.dentry_cache.specs.Loading.{IsSaved, object_of}
use Rattle.dentry_cache.specs.Cache.{Leaf, Unsaved}
use Rattle.dentry_cache.specs.Ties.{Keeps, names_at}
use Rattle.inode_table.specs.Dirs.{IsTable, is_known, leaves_of}
use Rattle.inode_table.specs.TreeTable.{IsCounted, IsTabled}
use Rattle.mdcache.specs.Shown.{names_of, shown_tree}
use Rattle.mdcache.specs.State.{IsLive, State, text_of, tree_text}

-- the version of each of these names was given out before
abbrev pub AreYoung : Marks → ℕ → Type 0
AreYoung marks next = (name : List ℕ) (mark : Mark) → map.get marks name ≡ Some mark → mark.version < next

-- a fragment that isn't clean is a live leaf, and its generation and the versions of its dirty names were given out
pub record IsUnsaved (s : State) (leaf : Leaf) (u : Unsaved) : Type 0 where
  pub live : IsLive s.homes s.covers leaf
  pub made : u.generation < s.next_generation
  pub young : AreYoung u.dirty s.next_version

-- a job's snapshot is of this fragment: base and generation are its own, each name of the snapshot is dirty still, and
-- where its version is that of the snapshot so is its inode
pub record IsOf (job : Job) (u : Unsaved) (object : Option Omap) : Type 0 where
  pub valid : IsSnap job.snapshot
  pub base : job.snapshot.base ≡ u.base
  pub generation : job.generation ≡ u.generation
  pub keeps : Keeps u.dirty job.snapshot.names
  pub counted : job.snapshot.counts ≡ counts_of (shown_over job.snapshot.base (names_at object) job.snapshot.names)

-- a job that stands is of its leaf, which isn't clean; its number and the versions of its names were given out
pub record IsStandingJob (s : State) (leaf : Leaf) (job : Job) : Type 0 where
  pub mine : (job.ino, job.frag) ≡ leaf
  pub given : job.number < s.next_job
  pub young : AreYoung job.snapshot.names s.next_version
  pub unsaved : Unsaved
  pub beside : map.get s.unsaved leaf ≡ Some unsaved
  pub taken : IsOf job unsaved (object_of s.objects leaf.0 leaf.1)

-- an object is that of a live leaf, or the tree object of a directory whose leaves were set, or is to be removed
abbrev pub HasOwner : State → List ℕ → Type 0
HasOwner s name =
    ((leaf : Leaf) × IsLive s.homes s.covers leaf × (name ≡ text_of leaf))
    ⊎ ((dir : Ino) × (is_some (map.get s.covers dir.0) ≡ true) × (name ≡ tree_text dir))
    ⊎ (is_some (map.get s.purge name) ≡ true)

pub record IsSound (s : State) : Type 0 where
  -- each directory reaches the root, and its leaves cover every hash once
  pub table : IsTable s.homes s.covers
  -- the number of a directory has 64 bits
  pub numbered : (d : ℕ) → is_known s.homes d ≡ true → d < 2 ^ 64
  -- the shown tree is well formed, and the table has exactly the root and the tree's directories, each with its parent
  -- and name
  pub tabled : IsTabled (shown_tree s) s.homes
  -- and for each of them how many entries it has, and its pin
  pub counted : IsCounted (shown_tree s) s.counts s.pins
  -- a leaf shows only names whose pick it is
  pub placed : (leaf : Leaf) (name : List ℕ) (inode : Inode) → IsLive s.homes s.covers leaf
      → map.get (names_of s.unsaved s.objects leaf) name ≡ Some inode
      → IsPick (leaves_of s.covers leaf.0.0) (hash_of name) leaf.1
  -- what isn't clean is live
  pub unsaved : (leaf : Leaf) (u : Unsaved) → map.get s.unsaved leaf ≡ Some u → IsUnsaved s leaf u
  -- each live leaf that is clean has an object that spells it whole
  pub saved : (leaf : Leaf) → IsLive s.homes s.covers leaf → map.get s.unsaved leaf ≡ None
      → IsSaved leaf.1 (object_of s.objects leaf.0 leaf.1)
  -- no object lies there that nothing owns
  pub owned : (name : List ℕ) → is_some (map.get s.objects name) ≡ true → HasOwner s name
  -- no object of a live leaf is to be removed
  pub listed : (leaf : Leaf) → IsLive s.homes s.covers leaf → map.get s.purge (text_of leaf) ≡ None
  -- each job is of a fragment that isn't clean, and no two have one number
  pub standing : (leaf : Leaf) (job : Job) → map.get s.jobs leaf ≡ Some job → IsStandingJob s leaf job
  pub once : (a b : Leaf) (i j : Job) → map.get s.jobs a ≡ Some i → map.get s.jobs b ≡ Some j → i.number ≡ j.number
      → a ≡ b
