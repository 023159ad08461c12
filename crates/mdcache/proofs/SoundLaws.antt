-- What keeps a state sound.
use Rattle.mdcache.proofs.Common.{AllCachedIn, AreYoung, Bool, CacheMap, IsCounted, IsLive, IsOf, HasOwner, IsSaved, IsSound, IsStandingJob, IsTabled, IsTied, IsUnsaved, Job, Jobs, Keys, Leaf, List, Names, None, Objects, Some, State, Unsaved, ap, arith, cond, cond_both, get-insert, get-remove, inl, inr, is_some, leaf-total, leaf_is, object_of, one_leaf, refl, rules, same_Some, shown_at, shown_tree, subst, sym, text_of, tied_leaf, true, with_job, ℕ, ⊎_elim, ◌∙◌, ◌≡◌, ◌⊎◌}
use Rattle.std.specs.FinMap as map
use Rattle.mdcache.specs.Commits.{leaf_of_job}
use Rattle.mdcache.specs.Shown.{names_of}
use Rattle.mdcache.proofs.TreeLaws.{tree_alike}

-- what a leaf shows is told by what isn't clean of it and by its object
pub names_alike : (s t : State) (leaf : Leaf) → map.get t.unsaved leaf ≡ map.get s.unsaved leaf → object_of t.objects leaf.0 leaf.1 ≡ object_of s.objects leaf.0 leaf.1
    → names_of t.unsaved t.objects leaf ≡ names_of s.unsaved s.objects leaf
unfolding names_of
names_alike s t leaf unsaved object = λ i. shown_at (unsaved i) (object i)

-- ---- objects change that no live leaf has

module _ (s : State) (objects : Objects) (purge : Keys) (sound : IsSound s) where
  abbrev pub now : State
  now = record s { objects = objects; purge = purge }

  module _ (same : (leaf : Leaf) → IsLive s.homes s.covers leaf → object_of objects leaf.0 leaf.1 ≡ object_of s.objects leaf.0 leaf.1) where
    names : (leaf : Leaf) → IsLive s.homes s.covers leaf → names_of s.unsaved objects leaf ≡ names_of s.unsaved s.objects leaf
    names leaf live = names_alike s now leaf refl (same leaf live)

    pub other_objects_tree : shown_tree now ≡ shown_tree s
    other_objects_tree = tree_alike s.homes s.covers (names_of s.unsaved objects) (names_of s.unsaved s.objects) names

    pub other_objects : ((name : List ℕ) → is_some (map.get objects name) ≡ true → HasOwner now name) → ((leaf : Leaf) → IsLive s.homes s.covers leaf → map.get purge (text_of leaf) ≡ None) → IsSound now
    other_objects owned listed = record {
      table = sound.table;
      numbered = sound.numbered;
      tabled = subst (λ t. IsTabled t s.homes) (sym other_objects_tree) sound.tabled;
      counted = subst (λ t. IsCounted t s.counts s.pins) (sym other_objects_tree) sound.counted;
      placed = λ leaf name inode live has. sound.placed leaf name inode live (ap (λ (n : Names). map.get n name) (sym (names leaf live)) ∙ has);
      unsaved = λ leaf u is. let old = sound.unsaved leaf u is in record { live = old.live; made = old.made; young = old.young };
      saved = λ leaf live clean. subst (IsSaved leaf.1) (sym (same leaf live)) (sound.saved leaf live clean);
      owned = owned;
      listed = listed;
      standing = λ leaf job is.
          let old = sound.standing leaf job is in
          let taken = subst (IsOf job old.unsaved) (sym (same leaf (sound.unsaved leaf old.unsaved old.beside).live)) old.taken in
          record { mine = old.mine; given = old.given; young = old.young; unsaved = old.unsaved; beside = old.beside; taken = taken };
      once = sound.once;
    }

    pub other_objects_kept : (caches : CacheMap) → AllCachedIn s caches → AllCachedIn now caches
    other_objects_kept caches old leaf a there =
        let was = old leaf a there in
        record { live = was.live; tied = subst (IsTied a.frag) (sym (same leaf was.live)) was.tied; made = was.made }

-- ---- jobs

pub get_ended : (s : State) (leaf q : Leaf) → map.get (map.remove s.jobs leaf) q ≡ cond (leaf_is q leaf) None (map.get s.jobs q)
get_ended s leaf q = get-remove leaf-total s.jobs leaf q ∙ ap (λ (b : Bool). cond b None (map.get s.jobs q)) (tied_leaf q leaf)

-- a job that stands after another ended stood before
pub stood_before : (s : State) (leaf q : Leaf) (job : Job) → map.get (map.remove s.jobs leaf) q ≡ Some job → map.get s.jobs q ≡ Some job
stood_before s leaf q job is = cond_both (leaf_is q leaf) None (map.get s.jobs q) (λ o. o ≡ Some job → map.get s.jobs q ≡ Some job) (λ gone h. let clash : None ≡ Some job = h in absurd cc) (λ stays h. h) (sym (get_ended s leaf q) ∙ is)

-- all is sound with other jobs that stand, and whose numbers are one each
pub jobs_sound : (s : State) (jobs : Jobs) (next : ℕ) → IsSound s → ((q : Leaf) (i : Job) → map.get jobs q ≡ Some i → IsStandingJob (record s { jobs = jobs; next_job = next }) q i)
    → ((a b : Leaf) (i j : Job) → map.get jobs a ≡ Some i → map.get jobs b ≡ Some j → i.number ≡ j.number → a ≡ b) → IsSound (record s { jobs = jobs; next_job = next })
jobs_sound s jobs next sound standing once =
    let unsaved : (q : Leaf) (u : Unsaved) → map.get s.unsaved q ≡ Some u → IsUnsaved (record s { jobs = jobs; next_job = next }) q u = λ q u is. (let old = sound.unsaved q u is in record { live = old.live; made = old.made; young = old.young }) in
    search (rules, sound.owned)

pub dropped_sound : (s : State) (leaf : Leaf) → IsSound s → IsSound (record s { jobs = map.remove s.jobs leaf })
dropped_sound s leaf sound = jobs_sound s (map.remove s.jobs leaf) s.next_job sound
    (λ q job is. let old = sound.standing q job (stood_before s leaf q job is) in record { mine = old.mine; given = old.given; young = old.young; unsaved = old.unsaved; beside = old.beside; taken = old.taken })
    (λ a b i j p q same. sound.once a b i j (stood_before s leaf a i p) (stood_before s leaf b j q) same)

module _ (s : State) (job : Job) (u : Unsaved) (sound : IsSound s) (beside : map.get s.unsaved (leaf_of_job job) ≡ Some u) (number : job.number ≡ s.next_job)
    (young : AreYoung job.snapshot.names s.next_version) (taken : IsOf job u (object_of s.objects job.ino job.frag)) where
  abbrev pub begun : State
  begun = with_job s job

  begun_or_before : (q : Leaf) (i : Job) → map.get begun.jobs q ≡ Some i → ((q ≡ leaf_of_job job) × (job ≡ i)) ⊎ (map.get s.jobs q ≡ Some i)
  begun_or_before q i is = cond_both (leaf_is q (leaf_of_job job)) (Some job) (map.get s.jobs q) (λ o. o ≡ Some i → ((q ≡ leaf_of_job job) × (job ≡ i)) ⊎ (map.get s.jobs q ≡ Some i))
      (λ same h. inl (one_leaf q (leaf_of_job job) same, same_Some job i h)) (λ apart h. inr h) (sym (get-insert leaf-total s.jobs (leaf_of_job job) job q ∙ ap (λ (b : Bool). cond b (Some job) (map.get s.jobs q)) (tied_leaf q (leaf_of_job job))) ∙ is)

  all_stand : (q : Leaf) (i : Job) → map.get begun.jobs q ≡ Some i → IsStandingJob begun q i
  all_stand q i is = ⊎_elim
      (λ same. subst (λ (j : Job). IsStandingJob begun q j) same.1
      (subst (λ (l : Leaf). IsStandingJob begun l job) (sym same.0) (record { mine = refl; given = omega (arith, number); young = young; unsaved = u; beside = beside; taken = taken })))
      (λ before. let old = sound.standing q i before in record { mine = old.mine; given = omega (arith, old.given); young = old.young; unsaved = old.unsaved; beside = old.beside; taken = old.taken }) (begun_or_before q i is)

  below : (q : Leaf) (i : Job) → map.get s.jobs q ≡ Some i → i.number ≡ job.number → ⊥
  below q i is same = omega (arith, (sound.standing q i is).given, same, number)

  one_number : (a b : Leaf) (i j : Job) → map.get begun.jobs a ≡ Some i → map.get begun.jobs b ≡ Some j → i.number ≡ j.number → a ≡ b
  one_number a b i j p q same = go (begun_or_before a i p) (begun_or_before b j q)
    where
      go : ((a ≡ leaf_of_job job) × (job ≡ i)) ⊎ (map.get s.jobs a ≡ Some i) → ((b ≡ leaf_of_job job) × (job ≡ j)) ⊎ (map.get s.jobs b ≡ Some j) → a ≡ b
      go (inl x) (inl y) = x.0 ∙ sym y.0
      go (inl x) (inr y) = absurd (below b j y (sym same ∙ ap (λ (k : Job). k.number) (sym x.1)))
      go (inr x) (inl y) = absurd (below a i x (same ∙ ap (λ (k : Job). k.number) (sym y.1)))
      go (inr x) (inr y) = sound.once a b i j x y same

  pub begun_sound : IsSound begun
  begun_sound = jobs_sound s begun.jobs begun.next_job sound all_stand one_number
