-- What the beginning of a commit leaves, done or not.
use Rattle.mdcache.proofs.Common.{AllCachedIn, AreYoung, Base, Begins, BeginsUnsaved, Bool, Bor, Cached, Came, Core, Dirfrag, Err, HasCached, IfErr, IfOk, IsAtEnd, IsBelowEnd, IsFreeFor, IsJobOf, IsLive, IsOf, IsSnap, IsSound, IsSoundCore, IsThat, IsThere, Job, Leaf, NoInodes, NoMemory, None, NoneEnds, Ok, Omap, OnErr, Option, Refusal, Result, Rooms, Some, State, Unsaved, ap, lies_by, cond, cond_both, counts_of, false, here, here_is, inl, inr, is_clean, is_some, job_for, object_of, option_copied, option_map, refl, rules, same_Some, shown_names, shown_at, state_of, stays, subst, sym, tied_show, unsaved_in, used_at, used_core, used_unclean, uses, with_job, with_job_in, ℕ, ◌+◌, ◌∙◌, ◌≡◌}
use Rattle.std.specs.FinMap as map
use Rattle.mds_types.specs.Leaf.{leaf_of as leaf_at}
use Rattle.dentry_cache.specs.Ties.{IsStillDirty}
use Rattle.mdcache.specs.Commits.{leaf_of_job}
use Rattle.mdcache.proofs.EndLaws.{unclean_here}
use Rattle.mdcache.proofs.SoundLaws.{begun_sound}
use Rattle.mdcache.proofs.NoneLaws.{none_used}

-- ---- what is told of a fragment

abbrev told : Option Unsaved → Option (Base × ℕ)
told o = option_map (λ (u : Unsaved). (u.base, u.generation)) o

-- a fragment of which this was told isn't clean
from_told : (o : Option Cached) (base : Base) (generation : ℕ) → Some (base, generation) ≡ told (unsaved_in o) → (f : Cached) × (o ≡ Some f) × (is_clean f ≡ false) × (base ≡ f.base) × (generation ≡ f.generation)
from_told None base generation is = let clash : Some (base, generation) ≡ None = is in absurd cc
from_told (Some f) base generation is = cond_both (is_clean f) None (Some (record { base = f.base; generation = f.generation; dirty = f.dirty }))
    (λ (o : Option Unsaved). Some (base, generation) ≡ told o → (g : Cached) × (Some f ≡ Some g) × (is_clean g ≡ false) × (base ≡ g.base) × (generation ≡ g.generation))
    (λ clean h. let clash : Some (base, generation) ≡ None = h in absurd cc) (λ dirty h.
    let same = same_Some (base, generation) (f.base, f.generation) h in
    (f, refl, dirty, ap (λ (p : Base × ℕ). p.0) same, ap (λ (p : Base × ℕ). p.1) same)) is

pub none_told : (o : Option Unsaved) → None ≡ told o → o ≡ None
none_told o is = search rules

-- no job stands where none is found
pub none_found : (o : Option (Bor Job)) (r : Option Job) (b : Bool) → option_copied o ≡ r → b ≡ is_some o → b ≡ false → r ≡ None
none_found o r b is told apart = search rules

-- what a call leaves that begins a commit, or is refused
pub record HasBegun (old new : Core) (a : Dirfrag) (result : Result (Option Job) Refusal) : Type 0 where
  pub begun : Begins (state_of old) (state_of new) (leaf_at a) result
  pub came : Came (IsThat a.rank.0 (leaf_at a)) NoneEnds old.caches new.caches
  pub sound : IsSoundCore new

-- so it is where the leaf isn't clean
pub record HasBegunUnsaved (old new : Core) (a : Dirfrag) (result : Result Job Refusal) : Type 0 where
  pub begun : IfOk result (λ job. Begins (state_of old) (state_of new) (leaf_at a) (Ok (Some job)))
  pub refused : IfErr result (λ reason. Begins (state_of old) (state_of new) (leaf_at a) (Err reason))
  pub came : Came (IsThat a.rank.0 (leaf_at a)) NoneEnds old.caches new.caches
  pub sound : IsSoundCore new

module _ (c view : Core) (is : view ≡ c) (sound : IsSoundCore c) (a : Dirfrag) (free : IsFreeFor c.caches a.rank.0 (leaf_at a)) (live : IsLive c.homes c.covers (leaf_at a)) (none_stands : map.get view.jobs (leaf_at a) ≡ None) where
  abbrev leaf : Leaf
  leaf = leaf_at a

  abbrev s : State
  s = state_of c

  none : map.get s.jobs leaf ≡ None
  none = ap (λ (k : Core). map.get k.jobs leaf) (sym is) ∙ none_stands

  -- a clean fragment gives nothing
  pub begins_none : None ≡ told (unsaved_in (here view.caches a.rank.0 leaf)) → HasBegun c c a (Ok None)
  begins_none clean =
      let none_left = none_told (map.get s.unsaved leaf) (clean ∙ ap (λ (k : Core). told (unsaved_in (here k.caches a.rank.0 leaf))) is ∙ ap told (sym (unclean_here c.caches a.rank.0 leaf free))) in
      record { begun = (live, none, subst (λ (o : Option Unsaved). BeginsUnsaved s s leaf o None) (sym none_left) (refl, refl)); came = stays; sound = sound }

  module _ (base : Base) (generation : ℕ) (is_told : Some (base, generation) ≡ told (unsaved_in (here view.caches a.rank.0 leaf))) where
    its : (f : Cached) × (here c.caches a.rank.0 leaf ≡ Some f) × (is_clean f ≡ false) × (base ≡ f.base) × (generation ≡ f.generation)
    its = from_told (here c.caches a.rank.0 leaf) base generation (is_told ∙ ap (λ (k : Core). told (unsaved_in (here k.caches a.rank.0 leaf))) is)

    abbrev u : Unsaved
    u = record { base = its.0.base; generation = its.0.generation; dirty = its.0.dirty }

    found : map.get s.unsaved leaf ≡ Some u
    found = unclean_here c.caches a.rank.0 leaf free ∙ ap unsaved_in its.1 ∙ ap (λ (b : Bool). cond b None (Some u)) its.2

    pub can_begin : IsBelowEnd base → HasCached (here c.caches a.rank.0 leaf) (λ (f : Cached). (is_clean f ≡ false) × IsBelowEnd f.base × (generation ≡ f.generation))
    can_begin below =
        subst (λ (o : Option Cached). HasCached o (λ (f : Cached). (is_clean f ≡ false) × IsBelowEnd f.base × (generation ≡ f.generation))) (sym its.1)
        (its.2, subst IsBelowEnd its.3 below, its.4)

    lacks_number : (reason : Refusal) → (reason ≡ NoInodes) × IsAtEnd view.next_job base → HasBegun c c a (Err reason)
    lacks_number reason why = record {
      begun = (inr (inr (live, none, u, found, inl (why.0, subst (IsAtEnd s.next_job) its.3 (subst (λ (k : Core). IsAtEnd k.next_job base) is why.1)))), refl);
      came = stays;
      sound = sound;
    }

    -- the leaf is used
    module _ (room : Rooms) (enough : IsAtEnd view.next_job base → ⊥) where
      used_state : state_of (used_core c a room) ≡ s
      used_state = λ i. record s { unsaved = used_unclean c.caches (used_at c.caches a.rank.0 leaf) a.rank.0 leaf refl i }

      used_sound : IsSoundCore (used_core c a room)
      used_sound = record {
        sound = subst IsSound (sym used_state) sound.sound;
        begun = sound.begun;
        cached = subst (λ (t : State). AllCachedIn t (used_at c.caches a.rank.0 leaf)) (sym used_state) sound.cached;
        none = none_used c.caches a.rank.0 leaf sound.none (used_at c.caches a.rank.0 leaf) (subst IsThere (sym its.1) tt) refl;
      }

      left : IsAtEnd s.next_job u.base → ⊥
      left lacks = enough (subst (λ (k : Core). IsAtEnd k.next_job base) (sym is) (subst (IsAtEnd s.next_job) (sym its.3) lacks))

      not_begun : (new : Core) → new ≡ used_core c a room → (reason : Refusal) → reason ≡ NoMemory → HasBegun c new a (Err reason)
      not_begun new is_used reason why = subst (λ (k : Core). HasBegun c k a (Err reason)) (sym is_used)
          (record { begun = (inr (inr (live, none, u, found, inr (why, left))), used_state); came = uses c.caches a.rank.0 leaf stays (refl, refl); sound = used_sound })

      -- and its job stands
      module _ (job : Job) (valid : IsSnap job.snapshot) (taken : HasCached (here c.caches a.rank.0 leaf) (IsJobOf s.next_job leaf job)) where
        abbrev object : Option Omap
        object = object_of s.objects leaf.0 leaf.1

        job_is : job ≡ job_for s leaf u
        job_is =
            let shows : shown_names its.0 ≡ shown_at (Some u) object = tied_show its.0 object (sound.cached leaf (lies_by a.rank.0 its.0) (here_is a.rank.0 (map.get c.caches.held leaf) its.0 its.1)).tied in
            subst (λ (o : Option Cached). HasCached o (IsJobOf s.next_job leaf job)) its.1 taken
            ∙ (λ i. record { number = s.next_job; ino = leaf.0; frag = leaf.1; generation = u.generation; snapshot = record { base = u.base; names = u.dirty; counts = counts_of (shows i) } })

        abbrev begun : Core
        begun = with_job_in c a job room

        one_leaf : leaf_of_job job ≡ leaf
        one_leaf = ap leaf_of_job job_is

        begun_state : state_of begun ≡ with_job s job
        begun_state = λ i. record s { unsaved = used_unclean c.caches (used_at c.caches a.rank.0 leaf) a.rank.0 leaf refl i; jobs = map.insert s.jobs (sym one_leaf i) job; next_job = s.next_job + 1 }

        is_of : IsOf job u object
        is_of =
            subst (λ (j : Job). IsOf j u object) (sym job_is)
            (record { valid = subst (λ (j : Job). IsSnap j.snapshot) job_is valid; base = refl; generation = refl; keeps = λ name. elim (map.get u.dirty name) as (λ m. IsStillDirty m m) [ None ↦ tt | Some mark ↦ λ same. refl ]; counted = refl })

        begun_is : (new : Core) → new ≡ begun → HasBegun c new a (Ok (Some job))
        begun_is new is_begun = subst (λ (k : Core). HasBegun c k a (Ok (Some job))) (sym is_begun) (record {
          begun = (live, none, subst (λ (o : Option Unsaved). BeginsUnsaved s (state_of begun) leaf o (Some job)) (sym found) (job_is, left, begun_state));
          came = uses c.caches a.rank.0 leaf stays (refl, refl);
          sound = record {
            sound = subst IsSound (sym begun_state) (begun_sound s job u sound.sound (ap (map.get s.unsaved) one_leaf ∙ found) (ap (λ (j : Job). j.number) job_is)
                (subst (λ (j : Job). AreYoung j.snapshot.names s.next_version) (sym job_is) (sound.sound.unsaved leaf u found).young) (subst (λ (l : Leaf). IsOf job u (object_of s.objects l.0 l.1)) (sym one_leaf) is_of));
            begun = sound.begun;
            cached = λ q b is. let was = used_sound.cached q b is in record { live = was.live; tied = was.tied; made = was.made };
            none = used_sound.none;
          };
        })

      -- whichever it was
      pub begun_or_not : (new : Core) (result : Result Job Refusal) → IfOk result (λ job. HasCached (here c.caches a.rank.0 leaf) (IsJobOf s.next_job leaf job)) → IfOk result (λ job. new ≡ with_job_in c a job room)
          → IfOk result (λ job. IsSnap job.snapshot) → IfErr result (λ reason. reason ≡ NoMemory) → OnErr result (new ≡ used_core c a room) → HasBegunUnsaved c new a result
      begun_or_not new (Ok job) taken stands valid err left =
          let its = begun_is job valid taken new stands in
          record { begun = its.begun; refused = tt; came = its.came; sound = its.sound }
      begun_or_not new (Err reason) taken stands valid err left =
          let its = not_begun new left reason err in
          record { begun = tt; refused = its.begun; came = its.came; sound = its.sound }

    -- no number is left
    pub begins_not : (reason : Refusal) → (reason ≡ NoInodes) × IsAtEnd view.next_job base → HasBegunUnsaved c c a (Err reason)
    begins_not reason why =
        let its = lacks_number reason why in
        record { begun = tt; refused = its.begun; came = its.came; sound = its.sound }
