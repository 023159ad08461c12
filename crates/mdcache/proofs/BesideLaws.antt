-- What is left by calls that change no name: of jobs, objects of no live leaf, and places.
use Rattle.mdcache.proofs.Common.{AllCachedIn, AreCaches, CacheMap, Core, Err, Ino, IsDropped, IsSound, IsSoundCore, Job, Jobs, KeepsNone, Keys, Leaf, List, None, Objects, Ok, OnErr, OnOk, Option, Purges, PurgesName, Refusal, Result, Rooms, Some, State, ap, clean_there, evicted, first_name, given_up, goes, held_given_up, is_known, last_passes, leaves_of, length, not, option_map, order, purged, refl, same_Some, shown_tree, state_of, subst, sym, tree_saved, tree_text, true, unclean, unclean_gone, victim, whole_given_up, with_tree_at, ℕ, ◌<◌, ◌∙◌, ◌≡◌}
use Rattle.std.specs.FinMap as map
use Rattle.dentry_cache.specs.Cache.{is_to_stay}
use Rattle.mdcache.proofs.ObjectLaws.{KeepsLeaves, purged_right, tree_saved_right}
use Rattle.mdcache.proofs.SoundLaws.{dropped_sound}

module _ (old view : Core) (is : view ≡ old) (sound : IsSoundCore old) where
  now : IsSoundCore view
  now = subst IsSoundCore (sym is) sound

  -- nothing that is sound is changed
  pub faults_sound : (objects : Objects) (faults : ℕ) → objects ≡ view.objects → IsSoundCore (record view { objects = objects; faults = faults })
  faults_sound objects faults same =
      subst (λ (o : Objects). IsSoundCore (record view { objects = o; faults = faults })) (sym same) (record { sound = now.sound; begun = now.begun; cached = now.cached; none = now.none })

  -- a job is given up
  module _ (leaf : Leaf) (jobs : Jobs) (ended : jobs ≡ map.remove view.jobs leaf) where
    pub drop_sound : (room : Rooms) → IsSoundCore (record view { jobs = jobs; room = room })
    drop_sound room =
        let sound = subst (λ (j : Jobs). IsSound (record (state_of view) { jobs = j })) (sym ended) (dropped_sound (state_of view) leaf now.sound) in
        record { sound = sound; begun = now.begun; cached = λ q a at. let was = now.cached q a at in record { live = was.live; tied = was.tied; made = was.made }; none = now.none }

    pub drop_done : (number : ℕ) (room : Rooms) → (job : Job) × (map.get view.jobs leaf ≡ Some job) × (job.number ≡ number) → IsDropped (state_of old) (state_of (record view { jobs = jobs; room = room })) number × IsSoundCore (record view { jobs = jobs; room = room })
    drop_done number room found = (
      subst (λ (k : Core). IsDropped (state_of k) (state_of (record view { jobs = jobs; room = room })) number) is
          (record { leaf = leaf; job = found.0; stood = found.1; numbered = found.2; left = λ i. record (state_of view) { jobs = ended i } }),
      drop_sound room,
    )

  -- objects and the purge list change, and each leaf stays as it is
  abbrev changed : Objects → Keys → ℕ → Rooms → Core
  changed objects purge faults room = record view { objects = objects; purge = purge; faults = faults; room = room }

  changed_sound : (objects : Objects) (purge : Keys) (faults : ℕ) (room : Rooms) (t : State) → KeepsLeaves (state_of view) t → state_of (changed objects purge faults room) ≡ t → IsSoundCore (changed objects purge faults room)
  changed_sound objects purge faults room t keeps same =
      record { sound = subst IsSound (sym same) keeps.sound; begun = now.begun; cached = subst (λ (s : State). AllCachedIn s view.caches) (sym same) (keeps.cached view.caches now.cached); none = now.none }

  -- an object that nothing owns is removed
  module _ (name : List ℕ) (objects : Objects) (purge : Keys) (faults : ℕ) (room : Rooms) (first : first_name view.purge ≡ Some name) (removed : objects ≡ map.remove view.objects name) (listed : purge ≡ map.remove view.purge name) where
    abbrev less : Core
    less = changed objects purge faults room

    is_purged : state_of less ≡ purged (state_of view) name
    is_purged = λ i. record (state_of view) { objects = removed i; purge = listed i }

    pub purge_done : (before after : ℕ) → Purges (state_of old) (state_of less) before after (Ok tt) × IsSoundCore less
    purge_done before after =
        let right = purged_right (state_of view) name now.sound first in (
          subst (λ (k : Core). Purges (state_of k) (state_of less) before after (Ok tt)) is
              (subst (λ (o : Option (List ℕ)). PurgesName (state_of view) (state_of less) before after o (Ok tt)) (sym first) (is_purged, ap shown_tree is_purged ∙ right.tree)),
          changed_sound objects purge faults room (purged (state_of view) name) right is_purged,
        )

  -- the object of a directory's tree is brought up to date
  module _ (dir : Ino) (objects : Objects) (purge : Keys) (faults : ℕ) (room : Rooms) (known : is_known view.homes dir.0 ≡ true) (saved : objects ≡ with_tree_at view.objects (tree_text dir) (leaves_of view.covers dir.0)) (listed : purge ≡ map.remove view.purge (tree_text dir)) where
    abbrev written : Core
    written = changed objects purge faults room

    is_written : state_of written ≡ tree_saved (state_of view) dir
    is_written = λ i. record (state_of view) { objects = saved i; purge = listed i }

    pub tree_done : ((is_known old.homes dir.0 ≡ true) × (state_of written ≡ tree_saved (state_of old) dir) × (shown_tree (state_of written) ≡ shown_tree (state_of old))) × IsSoundCore written
    tree_done =
        let right = tree_saved_right (state_of view) dir now.sound known in (
          subst (λ (k : Core). (is_known k.homes dir.0 ≡ true) × (state_of written ≡ tree_saved (state_of k) dir) × (shown_tree (state_of written) ≡ shown_tree (state_of k))) is
              (known, is_written, ap shown_tree is_written ∙ right.tree),
          changed_sound objects purge faults room (tree_saved (state_of view) dir) right is_written,
        )

  -- the least recently used of a rank's clean fragments goes
  module _ (r : ℕ) (caches : CacheMap) (there : r < length view.caches.used) (valid : AreCaches view.caches) where
    -- what isn't clean stays, and what is cached is sound still
    abbrev IsLess : CacheMap → Type 0
    IsLess k = (unclean k ≡ unclean view.caches) × AllCachedIn (state_of view) k × KeepsNone k

    went : evicted view.caches r None ≡ Some caches → IsLess caches
    went gone = elim (victim view.caches r None) as (λ o. victim view.caches r None ≡ o → option_map (given_up view.caches r) o ≡ Some caches → IsLess caches) [
      | None ↦ λ at h. let clash : None ≡ Some caches = h in absurd cc
      | Some v ↦ λ at h. subst IsLess (same_Some (given_up view.caches r v) caches h) (
        unclean_gone view.caches r v (λ some. clean_there r (map.get view.caches.held v) (not (is_to_stay None v)) (last_passes (goes view.caches r None) (order view.caches r) v at)),
        (λ q a at. now.cached q a (held_given_up view.caches r v q a at)),
        (λ s q placed. whole_given_up view.caches r v s q there (valid.distinct r) (now.none s q) placed),
      )
    ] refl gone

    went_state : evicted view.caches r None ≡ Some caches → state_of (record view { caches = caches }) ≡ state_of view
    went_state gone = λ i. record (state_of view) { unsaved = (went gone).0 i }

    pub evict_done : (result : Result (Unit {0}) Refusal) → OnOk result (evicted view.caches r None ≡ Some caches) → OnErr result (caches ≡ view.caches) → (state_of (record view { caches = caches }) ≡ state_of old) × IsSoundCore (record view { caches = caches })
    evict_done (Ok done) gone left = (
      went_state gone ∙ ap state_of is,
      record { sound = subst IsSound (sym (went_state gone)) now.sound; begun = now.begun; cached = subst (λ (s : State). AllCachedIn s caches) (sym (went_state gone)) (went gone).1; none = (went gone).2 },
    )
    evict_done (Err reason) gone left = (ap (λ (k : CacheMap). state_of (record view { caches = k })) left ∙ ap state_of is, subst (λ (k : CacheMap). IsSoundCore (record view { caches = k })) (sym left) now)
