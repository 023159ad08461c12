-- A commit writes what its fragment showed when the job was given out, over however many steps.
use Rattle.std.specs.Prelude.{◌≡◌, List, Some, Result}
use Rattle.std.specs.FinMap as map
use Rattle.mds_types.specs.declared.entries.Entry.{Entry}
use Rattle.mds_types.specs.declared.refusals.Refusal.{Refusal}
use Rattle.cluster_core.specs.Opening.{Opening}
use Rattle.cached_frag.specs.declared.jobs.Job.{Job}
use Rattle.dentry_cache.specs.Cache.{Leaf, Unsaved}
use Rattle.dentry_cache.specs.Loading.{object_of}
use Rattle.mdcache.specs.Commits.{job_for, names_then}
use Rattle.mdcache.specs.Shown.{names_of}
use Rattle.cluster_core.specs.declared.events.Answer.{Answer}
use Rattle.cluster_core.specs.declared.events.Event.{Event}
use Rattle.cluster_core.specs.Sound.{IsSound}
use Rattle.cluster_core.specs.State.{Core, State}
use Rattle.cluster_core.specs.Steps.{Steps}

-- no step of a sound book changes the object of a fragment with a job that exists before and after the step
abbrev pub JobsKeepObjects : Type 0
JobsKeepObjects =
    (opening : Opening) (past now : List Entry) (old new : Core) (result : Result Answer Refusal) (event : Event)
    → IsSound opening past old → Steps old new past now result event
    → (leaf : Leaf) (job : Job) → map.get old.state.tree.jobs leaf ≡ Some job
    → map.get new.state.tree.jobs leaf ≡ Some job
    → object_of new.state.tree.objects leaf.0 leaf.1 ≡ object_of old.state.tree.objects leaf.0 leaf.1

-- the end of a commit spells the names that the job's snapshot has over the object. They are the names that the
-- fragment shows when the job is given out
abbrev pub JobsTakeWhatIsShown : Type 0
JobsTakeWhatIsShown = (state : State) (leaf : Leaf) (u : Unsaved) → map.get state.tree.unsaved leaf ≡ Some u
    → names_then (job_for state.tree leaf u).snapshot
    (object_of state.tree.objects leaf.0 leaf.1) ≡ names_of state.tree.unsaved state.tree.objects leaf
