-- What the end of a commit leaves, done or refused.
use Rattle.mdcache.proofs.Common.{AllCachedIn, CacheMap, Cached, Came, Core, Edits, EndsJobOf, Err, IsCommitted, IsEnded, IsFreeFor, IsSound, IsSoundCore, IsThat, IsThere, Job, Jobs, KeepsNone, Leaf, MayRefuse, NoneEnds, Objects, Ok, Refusal, Result, Rooms, Some, State, WriteOp, ap, by_edits, edits_unclean, has, here, here_is, inr, is_some, leaf_text, refl, state_of, stays, subst, sym, unsaved_in, with_frag, write_of, written, ℕ, ◌∙◌, ◌≡◌}
use Rattle.std.specs.FinMap as map
use Rattle.mdcache.specs.Commits.{leaf_of_job}
use Rattle.mdcache.proofs.CoreLaws.{cached_but}
use Rattle.mdcache.proofs.EndLaws.{ended, ended_cached, ended_sound, now_unclean, t, unclean_is_there}
use Rattle.mdcache.proofs.NoneLaws.{none_edits}
use Rattle.mdcache.proofs.PutLaws.{cached_with}

-- what the end of a commit leaves, or its refusal
pub record HasEnded (old new : Core) (r after : ℕ) (job : Job) (result : Result (Unit {0}) Refusal) : Type 0 where
  pub ended : EndsJobOf (state_of old) (state_of new) old.faults after job result
  pub came : Came (IsThat r (leaf_of_job job)) NoneEnds old.caches new.caches
  pub sound : IsSoundCore new

module _ (old view : Core) (is : view ≡ old) (sound : IsSoundCore old) (r : ℕ) (job found : Job) (same_job : found ≡ job) (found_stood : map.get view.jobs (leaf_of_job found) ≡ Some found) (free : IsFreeFor old.caches r (leaf_of_job job)) where
  abbrev leaf : Leaf
  leaf = leaf_of_job job

  stood : map.get view.jobs leaf ≡ Some job
  stood = subst (λ (j : Job). map.get view.jobs (leaf_of_job j) ≡ Some j) same_job found_stood

  now_sound : IsSoundCore view
  now_sound = subst IsSoundCore (sym is) sound

  -- the fragment of a job that stands is at the rank that may hold it
  pub job_cached : IsThere (here view.caches r leaf)
  job_cached = unclean_is_there view.caches r leaf (subst (λ (k : Core). IsFreeFor k.caches r leaf) (sym is) free) (ap is_some (now_sound.sound.standing leaf job stood).beside)

  -- caches in which this fragment changed, as the most recently used
  module _ (Change : Cached → Cached → Type 0) (caches : CacheMap) (edits : Edits Change r leaf view.caches caches) where
    edited : Came (IsThat r leaf) NoneEnds old.caches caches × KeepsNone caches
    edited = (
      subst (λ (k : Core). Came (IsThat r leaf) NoneEnds k.caches caches) is (by_edits r leaf Change view.caches caches edits (λ (k : CacheMap). Came (IsThat r leaf) NoneEnds view.caches k) (λ f then seen change. has view.caches r leaf then stays (refl, refl))),
      none_edits view.caches r leaf now_sound.none Change caches edits,
    )

  -- it was refused
  module _ (caches : CacheMap) (objects : Objects) (faults : ℕ) (edits : Edits (λ (f then : Cached). then ≡ record f { places = then.places }) r leaf view.caches caches) (same : objects ≡ view.objects) where
    abbrev left : Core
    left = record view { caches = caches; objects = objects; faults = faults }

    left_view : state_of left ≡ state_of view
    left_view = λ i. record (state_of view) {
      unsaved = edits_unclean view.caches caches r leaf (λ (f then : Cached). then ≡ record f { places = then.places }) (λ f then change. ap (λ (k : Cached). unsaved_in (Some k)) change) edits i;
      objects = same i;
    }

    pub end_refused : (reason : Refusal) → MayRefuse view.faults faults reason → HasEnded old left r faults job (Err reason)
    end_refused reason refused = record {
      ended = (inr (subst (λ (k : Core). map.get k.jobs leaf ≡ Some job) is stood, subst (λ (k : Core). MayRefuse k.faults faults reason) is refused), left_view ∙ ap state_of is);
      came = (edited (λ (f then : Cached). then ≡ record f { places = then.places }) caches edits).0;
      sound = record {
        sound = subst IsSound (sym left_view) now_sound.sound;
        begun = now_sound.begun;
        cached = subst (λ (s : State). AllCachedIn s caches) (sym left_view) (by_edits r leaf (λ (f then : Cached). then ≡ record f { places = then.places }) view.caches caches edits (AllCachedIn (state_of view))
            (λ f then seen change. cached_with (state_of view) view.caches r leaf then now_sound.cached (cached_but (state_of view) leaf f then (change ∙ (λ i. record f { room = sym (ap (λ (k : Cached). k.room) change) i; places = then.places }))
            (now_sound.cached leaf (record { rank = r; frag = f }) (here_is r (map.get view.caches.held leaf) f seen)))));
        none = (edited (λ (f then : Cached). then ≡ record f { places = then.places }) caches edits).1;
      };
    }

  -- it is done
  module _ (caches : CacheMap) (objects : Objects) (faults : ℕ) (jobs : Jobs) (room : Rooms) (op : WriteOp) (is_written : objects ≡ written view.objects (leaf_text job.ino job.frag) op) (op_is : op ≡ write_of job.snapshot)
      (settled : Edits (IsCommitted job.snapshot) r leaf view.caches caches) (over : jobs ≡ map.remove view.jobs (leaf_of_job found)) where
    abbrev with_caches : CacheMap → Core
    with_caches k = record view { caches = k; objects = objects; faults = faults; jobs = jobs; room = room }

    -- it ended, and the state is sound then, with its caches
    abbrev IsDone : State → CacheMap → Type 0
    IsDone s k = IsEnded (state_of view) s job × IsSound s × AllCachedIn s k

    done : IsDone (state_of (with_caches caches)) caches
    done = by_edits r leaf (IsCommitted job.snapshot) view.caches caches settled (λ (k : CacheMap). IsDone (state_of (with_caches k)) k) (λ f now seen change.
        let after : state_of (with_caches (with_frag view.caches r leaf now)) ≡ t view r job now_sound stood f now seen change = λ i. record (state_of view) {
          unsaved = now_unclean view r job now_sound stood f now seen change i;
          objects = (is_written ∙ ap (written view.objects (leaf_text job.ino job.frag)) op_is) i;
          jobs = (over ∙ ap (λ (j : Job). map.remove view.jobs (leaf_of_job j)) same_job) i;
        } in
        subst (λ (s : State). IsDone s (with_frag view.caches r leaf now)) (sym after)
        (ended view r job now_sound stood f now seen change, ended_sound view r job now_sound stood f now seen change, ended_cached view r job now_sound stood f now seen change))

    pub end_done : HasEnded old (with_caches caches) r faults job (Ok tt)
    end_done = record {
      ended = subst (λ (k : Core). IsEnded (state_of k) (state_of (with_caches caches)) job) is done.0;
      came = (edited (IsCommitted job.snapshot) caches settled).0;
      sound = record { sound = done.1; begun = now_sound.begun; cached = done.2; none = (edited (IsCommitted job.snapshot) caches settled).1 };
    }
