-- What the calls about commits do: one begins, one ends, one is dropped.
use Rattle.std.specs.Prelude.{◌≡◌, ◌⊎◌, ℕ, ◌+◌, ◌-◌, ◌^◌, true, cond, ◌==◌, is_some, Option, Some, None, Result, Ok, Err}
use Rattle.std.specs.FinMap as map
use Rattle.std.specs.Option.{option_map}
use Rattle.mds_types.specs.declared.refusals.Refusal.{Refusal}
use Rattle.mds_types.specs.declared.refusals.Refusal.TheVariants.{NoInodes, NoMemory, NoSuchFrag, JobOutstanding, StaleJob}
use Rattle.objstore.specs.Omap.{Omap}
use Rattle.objstore.specs.Objects.{MayRefuse, written}
use Rattle.dirfrag_codec.specs.FragmentObject.{Names, SpellsFragment}
use Rattle.cached_frag.specs.declared.bases.Base.{Base}
use Rattle.cached_frag.specs.declared.bases.Base.TheVariants.{Stored}
use Rattle.cached_frag.specs.declared.jobs.Job.{Job}
use Rattle.cached_frag.specs.Commit.{write_of}
use Rattle.cached_frag.specs.Marks.{Marks}
use Rattle.cached_frag.specs.Snap.{IsBelowEnd, Snap, counts_of, next_version}
use Rattle.cached_frag.specs.Cached.{Cached, shown_over, unsettled}
use Rattle.dentry_cache.specs.Loading.{object_of}
use Rattle.dentry_cache.specs.Cache.{Leaf, Unsaved, unsaved_in, with_unsaved}
use Rattle.dentry_cache.specs.Ties.{names_at}
use Rattle.mdcache.specs.StandingJobs.{NoneHasNumber}
use Rattle.mdcache.specs.Shown.{shown_at, shown_tree}
use Rattle.mdcache.specs.State.{IsLive, State, text_of}

-- ---- a commit begins

-- the snapshot of a fragment that isn't clean, as it stands over its object
abbrev pub snapshot_at : Unsaved → Option Omap → Snap
snapshot_at u object = record { base = u.base; names = u.dirty; counts = counts_of (shown_at (Some u) object) }

-- the job of the next number for a fragment as it stands
abbrev pub job_for : State → Leaf → Unsaved → Job
job_for s leaf u = record {
  number = s.next_job;
  ino = leaf.0;
  frag = leaf.1;
  generation = u.generation;
  snapshot =
      snapshot_at u (object_of s.objects leaf.0 leaf.1);
}

-- the leaf of a job
abbrev pub leaf_of_job : Job → Leaf
leaf_of_job job = (job.ino, job.frag)

-- base and generation of a fragment that isn't clean; none of one that is
abbrev pub told_of_commit : Option Cached → Option (Base × ℕ)
told_of_commit o = option_map (λ (u : Unsaved). (u.base, u.generation)) (unsaved_in o)

-- the job stands, and its number is taken
abbrev pub with_job : State → Job → State
with_job s job = record s { jobs = map.insert s.jobs (leaf_of_job job) job; next_job = s.next_job + 1 }

-- no number is left for a job, or none for the version that its commit would write
abbrev pub IsAtEnd : ℕ → Base → Type 0
IsAtEnd number base = (number ≡ 2 ^ 64 - 1) ⊎ (IsBelowEnd base → ⊥)

abbrev pub LacksJobNumber : State → Unsaved → Type 0
LacksJobNumber s u = IsAtEnd s.next_job u.base

-- a clean fragment gives nothing; of any other the job of its snapshot stands then
abbrev pub BeginsUnsaved : (old new : State) → Leaf → Option Unsaved → Option Job → Type 0
BeginsUnsaved old new leaf None job = (job ≡ None) × (new ≡ old)
BeginsUnsaved old new leaf (Some u) None = ⊥
BeginsUnsaved old new leaf (Some u) (Some job) =
    (job ≡ job_for old leaf u) × (LacksJobNumber old u → ⊥) × (new ≡ with_job old job)

-- why no commit of a leaf begins: there is no such leaf; a job stands for it; a number is lacking for a fragment that
-- isn't clean; want of memory, where none of these
abbrev pub MayNotBeginJob : State → Leaf → Refusal → Type 0
MayNotBeginJob s leaf reason =
    ((reason ≡ NoSuchFrag) × (IsLive s.homes s.covers leaf → ⊥))
    ⊎ ((reason ≡ JobOutstanding) × IsLive s.homes s.covers leaf × (is_some (map.get s.jobs leaf) ≡ true))
    ⊎ (IsLive s.homes s.covers leaf × (map.get s.jobs leaf ≡ None) × (u : Unsaved) × (map.get s.unsaved leaf ≡ Some u)
    × (((reason ≡ NoInodes) × LacksJobNumber s u) ⊎ ((reason ≡ NoMemory) × (LacksJobNumber s u → ⊥))))

abbrev pub Begins : (old new : State) → Leaf → Result (Option Job) Refusal → Type 0
Begins old new leaf (Ok job) =
    IsLive old.homes old.covers leaf × (map.get old.jobs leaf ≡ None)
    × BeginsUnsaved old new leaf (map.get old.unsaved leaf) job
Begins old new leaf (Err reason) = MayNotBeginJob old leaf reason × (new ≡ old)

-- ---- a commit ends

-- a fragment over its object at this version with these dirty names; none of it is unsaved where no name is dirty
abbrev pub stored_with : ℕ → ℕ → Marks → Option Unsaved
stored_with version generation dirty =
    cond (map.len dirty == 0) None (Some (record { base = Stored version; generation = generation; dirty = dirty }))

-- what is unsaved of a fragment once its snapshot is committed: the names that changed since
abbrev pub left_of : Unsaved → Snap → Option Unsaved
left_of u snapshot = stored_with (next_version snapshot.base) u.generation (unsettled u.dirty snapshot.names)

-- the snapshot's write was done, its names became clean, and the job is gone
abbrev pub committed : State → Job → Unsaved → State
committed s job u = record s {
  unsaved = with_unsaved s.unsaved (leaf_of_job job) (left_of u job.snapshot);
  objects = written s.objects (text_of (leaf_of_job job)) (write_of job.snapshot);
  jobs = map.remove s.jobs (leaf_of_job job);
}

-- the names that a snapshot shows over the object that it was taken over
abbrev pub names_then : Snap → Option Omap → Names
names_then snapshot object = shown_over snapshot.base (names_at object) snapshot.names

-- an object is there, and spells these names at a version
abbrev pub HasSpelled : Option Omap → ℕ → Names → Type 0
HasSpelled None version names = ⊥
HasSpelled (Some object) version names = SpellsFragment object version names

-- a commit ended: its job stood, and its object spells what the fragment showed when the job began, one version higher;
-- the shown tree stays
pub record IsEnded (old new : State) (job : Job) : Type 0 where
  pub stood : map.get old.jobs (leaf_of_job job) ≡ Some job
  pub unsaved : Unsaved
  pub beside : map.get old.unsaved (leaf_of_job job) ≡ Some unsaved
  pub left : new ≡ committed old job unsaved
  pub spelled : HasSpelled (object_of new.objects job.ino job.frag) (next_version job.snapshot.base)
      (names_then job.snapshot (object_of old.objects job.ino job.frag))
  pub tree : shown_tree new ≡ shown_tree old

-- it is refused StaleJob exactly where no job of this number, fragment, generation and snapshot stands, and otherwise
-- as the store refuses
abbrev pub EndsJobOf : (old new : State) → (before after : ℕ) → Job → Result (Unit {0}) Refusal → Type 0
EndsJobOf old new before after job (Ok done) = IsEnded old new job
EndsJobOf old new before after job (Err reason) =
    (((reason ≡ StaleJob) × (map.get old.jobs (leaf_of_job job) ≡ Some job → ⊥))
    ⊎ ((map.get old.jobs (leaf_of_job job) ≡ Some job) × MayRefuse before after reason)) × (new ≡ old)

-- ---- a commit is dropped

-- the job of this number stood, and is gone
pub record IsDropped (old new : State) (number : ℕ) : Type 0 where
  pub leaf : Leaf
  pub job : Job
  pub stood : map.get old.jobs leaf ≡ Some job
  pub numbered : job.number ≡ number
  pub left : new ≡ record old { jobs = map.remove old.jobs leaf }

-- it is refused StaleJob exactly where no job of this number stands
abbrev pub Drops : (old new : State) → ℕ → Result (Unit {0}) Refusal → Type 0
Drops old new number (Ok done) = IsDropped old new number
Drops old new number (Err reason) = (reason ≡ StaleJob) × NoneHasNumber old.jobs number × (new ≡ old)
