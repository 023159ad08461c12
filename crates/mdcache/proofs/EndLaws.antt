-- What the end of a commit keeps.
use Rattle.mdcache.proofs.Common.{AllCachedIn, AreYoung, At, Base, Bool, CacheMap, Cached, Commits, Core, Fresh, HasSpelled, IsCachedIn, IsCommitted, IsCounted, IsEnded, IsFree, IsFreeFor, IsLive, IsOf, IsSaved, IsSound, IsSoundCore, IsStandingJob, IsTabled, IsThere, IsTied, IsUnsaved, Job, Keeps, Leaf, Marks, Names, None, Omap, Option, Some, State, Stored, Unsaved, ap, arith, lies_by, at_rank, committed, committed_are_tied, cond, cond_both, empty_of_len, eqb-true, false, get-unsettled, get_beside, get_put, get_unclean, get_with_frag, here_is, inl, is_clean, is_clean_over, is_same, is_settled, is_some, key_or_apart, leaf_is, leaf_itself, leaf_or_apart, names_at, names_then, next_version, none_entries, not, object_after, object_of, refl, rules, same_Some, same_leaf, shown_names, shown_at, shown_over, shown_tree, spells_what_it_shows, state_of, subst, sym, text_of, tied_show, true, unclean, unclean_with, unsaved_at, unsaved_here_at, unsaved_in, unsaved_of, unsettled, with_frag, with_marks, with_unsaved, ℕ, ⊎_elim, ◌<◌, ◌==◌, ◌∙◌, ◌≡◌}
use Rattle.std.specs.FinMap as map
use Rattle.mds_types.proofs.LeafLaws.{get_removed}
use Rattle.objstore.specs.Objects.{written}
use Rattle.cached_frag.specs.Marks.{patched}
use Rattle.dentry_cache.specs.CacheMap.{here as here_of}
use Rattle.dentry_cache.specs.Ties.{IsRight}
use Rattle.mdcache.specs.Commits.{leaf_of_job, left_of}
use Rattle.mdcache.specs.Shown.{names_of}
use Rattle.mdcache.proofs.SoundLaws.{names_alike, stood_before}
use Rattle.mdcache.proofs.TextLaws.{one_text}
use Rattle.mdcache.proofs.TreeLaws.{tree_alike}

-- ---- what is clean shows what its object has

pub nothing_patched : (names : Names) (marks : Marks) → map.len marks ≡ 0 → patched names marks ≡ names
unfolding patched
nothing_patched names marks none = ap (λ es. with_marks names es) (none_entries marks (empty_of_len marks none))

-- a cached fragment shows what isn't clean of it over its object
pub cached_shows : (f : Cached) (object : Option Omap) → IsTied f object → shown_at (unsaved_of f) object ≡ shown_names f
cached_shows f object tie = cond_both (is_clean f) None (Some (record { base = f.base; generation = f.generation; dirty = f.dirty })) (λ o. shown_at o object ≡ shown_names f)
    (λ clean. clean_shows f.base refl clean ∙ sym (tied_show f object tie)) (λ dirty. sym (tied_show f object tie))
  where
    clean_shows : (b : Base) → f.base ≡ b → is_clean_over b f.dirty ≡ true → names_at object ≡ shown_over b (names_at object) f.dirty
    clean_shows Fresh is clean = let clash : false ≡ true = clean in cc
    clean_shows (Stored version) is clean = sym (nothing_patched (names_at object) f.dirty (eqb-true (map.len f.dirty) 0 clean))

-- what a fragment that isn't clean has beyond its object
some_but : {A : Type 0} (b : Bool) (x y : A) → cond b None (Some x) ≡ Some y → (b ≡ false) × (x ≡ y)
some_but b x y h = search rules

-- what isn't clean of a leaf that is free for a rank is that of its fragment there
pub unclean_here : (c : CacheMap) (r : ℕ) (leaf : Leaf) → IsFreeFor c r leaf → map.get (unclean c) leaf ≡ unsaved_in (here_of c r leaf)
unclean_here c r leaf free = get_unclean c leaf ∙ elim (map.get c.held leaf) as (λ o. IsFree r o → unsaved_at o ≡ unsaved_in (at_rank r o)) [
  | None ↦ λ is. refl
  | Some a ↦ λ is. ap (λ (b : Bool). unsaved_in (cond b (Some a.frag) None)) (sym (is_same a.rank r is))
] free

-- so the fragment of a leaf that isn't clean is there
pub unclean_is_there : (c : CacheMap) (r : ℕ) (leaf : Leaf) → IsFreeFor c r leaf → is_some (map.get (unclean c) leaf) ≡ true → IsThere (here_of c r leaf)
unclean_is_there c r leaf free dirty = elim (here_of c r leaf) as (λ o. is_some (unsaved_in o) ≡ true → IsThere o) [
  | None ↦ λ none. let clash : false ≡ true = none in absurd cc
  | Some f ↦ λ some. tt
] (ap is_some (sym (unclean_here c r leaf free)) ∙ dirty)

-- ---- a commit ended

module _ (c : Core) (r : ℕ) (job : Job) (kept : IsSoundCore c) (stood : map.get c.jobs (leaf_of_job job) ≡ Some job)
    (f now : Cached) (at_rank : here_of c.caches r (leaf_of_job job) ≡ Some f) (done : IsCommitted job.snapshot f now) where
  abbrev s : State
  s = state_of c

  abbrev leaf : Leaf
  leaf = leaf_of_job job

  abbrev object : Option Omap
  object = object_of s.objects job.ino job.frag

  abbrev here : Omap
  here = object_after job.snapshot object

  abbrev stands : IsStandingJob s leaf job
  stands = kept.sound.standing leaf job stood

  abbrev u : Unsaved
  u = stands.unsaved

  held : map.get c.caches.held leaf ≡ Some (lies_by r f)
  held = here_is r (map.get c.caches.held leaf) f at_rank

  beyond : unsaved_of f ≡ Some u
  beyond = sym (get_unclean c.caches leaf ∙ ap unsaved_at held) ∙ stands.beside

  its_own : u ≡ record { base = f.base; generation = f.generation; dirty = f.dirty }
  its_own = sym (some_but (is_clean f) (record { base = f.base; generation = f.generation; dirty = f.dirty }) u beyond).1

  tie : IsTied f object
  tie = (kept.cached leaf (lies_by r f) held).tied

  right : IsRight job.snapshot now object
  right =
      let o = stands.taken in
      let commits : Commits job.snapshot f object = record { valid = o.valid; based = o.base ∙ ap (λ (v : Unsaved). v.base) its_own; keeps = subst (λ (v : Unsaved). Keeps v.dirty job.snapshot.names) its_own o.keeps; counted = o.counted } in
      committed_are_tied job.snapshot f now object tie commits done

  abbrev pub t : State
  t = committed s job u

  live : IsLive s.homes s.covers leaf
  live = (kept.sound.unsaved leaf u stands.beside).live

  -- objects

  object_here : object_of t.objects leaf.0 leaf.1 ≡ Some here
  unfolding written
  object_here = get_put s.objects (text_of leaf) _

  object_beside : (q : Leaf) → IsLive s.homes s.covers q → leaf_is q leaf ≡ false → object_of t.objects q.0 q.1 ≡ object_of s.objects q.0 q.1
  unfolding written
  object_beside q is apart = get_beside s.objects (text_of leaf) _ (text_of q) (λ same. let clash : true ≡ false = sym (same_leaf q leaf (one_text s.homes s.covers kept.sound.table kept.sound.numbered q leaf is live same)) ∙ apart in cc)

  -- what isn't clean

  left_unsaved : unsaved_of now ≡ left_of u job.snapshot
  left_unsaved =
      let dirty : now.dirty ≡ unsettled u.dirty job.snapshot.names = done.dirty ∙ ap (λ (v : Unsaved). unsettled v.dirty job.snapshot.names) (sym its_own) in
      let generation : now.generation ≡ u.generation = done.generation ∙ ap (λ (v : Unsaved). v.generation) (sym its_own) in
      let based = done.based in
      λ i. cond (is_clean_over (based i) (dirty i)) None (Some (record { base = based i; generation = generation i; dirty = dirty i }))

  pub now_unclean : unclean (with_frag c.caches r leaf now) ≡ t.unsaved
  now_unclean = unclean_with c.caches r leaf now ∙ (λ i. with_unsaved (unclean c.caches) leaf (left_unsaved i))

  unsaved_now : (q : Leaf) (b : Bool) → leaf_is q leaf ≡ b → map.get t.unsaved q ≡ cond b (left_of u job.snapshot) (map.get s.unsaved q)
  unsaved_now q b is = unsaved_here_at s.unsaved leaf q (left_of u job.snapshot) ∙ ap (λ (y : Bool). cond y (left_of u job.snapshot) (map.get s.unsaved q)) is

  unsaved_here : map.get t.unsaved leaf ≡ left_of u job.snapshot
  unsaved_here = unsaved_now leaf true (leaf_itself leaf)

  -- what is shown

  shows_here : names_of t.unsaved t.objects leaf ≡ names_of s.unsaved s.objects leaf
  unfolding names_of
  shows_here =
      (λ i. shown_at ((unsaved_here ∙ sym left_unsaved) i) (object_here i)) ∙ cached_shows now (Some here) right.tied ∙ done.shown ∙ sym (cached_shows f object tie)
      ∙ (λ i. shown_at ((beyond ∙ sym stands.beside) i) object)

  shows : (q : Leaf) → IsLive s.homes s.covers q → names_of t.unsaved t.objects q ≡ names_of s.unsaved s.objects q
  shows q is = ⊎_elim (λ same. subst (λ (l : Leaf). names_of t.unsaved t.objects l ≡ names_of s.unsaved s.objects l) (sym same) shows_here)
      (λ apart. names_alike s t q (unsaved_now q false apart) (object_beside q is apart)) (leaf_or_apart q leaf)

  tree_stays : shown_tree t ≡ shown_tree s
  tree_stays = tree_alike s.homes s.covers (names_of t.unsaved t.objects) (names_of s.unsaved s.objects) shows

  -- soundness

  saved_here : map.get t.unsaved leaf ≡ None → IsSaved leaf.1 (Some here)
  unfolding names_of
  saved_here clean =
      let same : names_of s.unsaved s.objects leaf ≡ names_then job.snapshot object =
      sym shows_here ∙ (λ i. shown_at (clean i) (object_here i)) ∙ sym (spells_what_it_shows here (next_version job.snapshot.base) (names_then job.snapshot object) right.spelled) in
      (next_version job.snapshot.base, names_then job.snapshot object, (right.spelled, λ name inode has. (kept.sound.placed leaf name inode live (ap (λ (n : Names). map.get n name) same ∙ has)).contains))

  pub ended_sound : IsSound t
  unfolding written
  ended_sound = record {
    table = kept.sound.table;
    numbered = kept.sound.numbered;
    tabled = subst (λ tree. IsTabled tree s.homes) (sym tree_stays) kept.sound.tabled;
    counted = subst (λ tree. IsCounted tree s.counts s.pins) (sym tree_stays) kept.sound.counted;
    placed = λ q name inode is has. kept.sound.placed q name inode is (ap (λ (n : Names). map.get n name) (sym (shows q is)) ∙ has);
    unsaved = λ q v is.
        let young : AreYoung (unsettled u.dirty job.snapshot.names) s.next_version = λ name mark is.
        (cond_both (not (is_settled (map.get u.dirty name) (map.get job.snapshot.names name))) (map.get u.dirty name) None (λ o. o ≡ Some mark → mark.version < s.next_version)
        (λ apart. (kept.sound.unsaved leaf u stands.beside).young name mark) (λ settled h. let clash : None ≡ Some mark = h in absurd cc) (sym (get-unsettled u.dirty job.snapshot.names name) ∙ is)) in
        ⊎_elim
        (λ same. subst (λ (l : Leaf). IsUnsaved t l v) (sym same) (subst (IsUnsaved t leaf)
        (some_but (map.len (unsettled u.dirty job.snapshot.names) == 0) (record { base = Stored (next_version job.snapshot.base); generation = u.generation; dirty = unsettled u.dirty job.snapshot.names }) v (sym unsaved_here ∙ ap (map.get t.unsaved) (sym same) ∙ is)).1
        (record { live = live; made = (kept.sound.unsaved leaf u stands.beside).made; young = young })))
        (λ apart. let before = kept.sound.unsaved q v (sym (unsaved_now q false apart) ∙ is) in record { live = before.live; made = before.made; young = before.young }) (leaf_or_apart q leaf);
    saved = λ q is clean. ⊎_elim
        (λ same. subst (λ (l : Leaf). IsSaved l.1 (object_of t.objects l.0 l.1)) (sym same) (subst (IsSaved leaf.1) (sym object_here) (saved_here (ap (map.get t.unsaved) (sym same) ∙ clean))))
        (λ apart. subst (IsSaved q.1) (sym (object_beside q is apart)) (kept.sound.saved q is (sym (unsaved_now q false apart) ∙ clean))) (leaf_or_apart q leaf);
    owned = λ name has.
        ⊎_elim (λ same. inl (leaf, live, same)) (λ apart. kept.sound.owned name (ap is_some (sym (get_beside s.objects (text_of leaf) _ name apart)) ∙ has)) (key_or_apart name (text_of leaf));
    listed = kept.sound.listed;
    standing = λ q i is. ⊎_elim (λ same. let clash : None ≡ Some i = sym (get_removed s.jobs leaf) ∙ ap (map.get t.jobs) (sym same) ∙ is in absurd cc) (λ apart.
        let before = kept.sound.standing q i (stood_before s leaf q i is) in
        record {
          mine = before.mine;
          given = before.given;
          young = before.young;
          unsaved = before.unsaved;
          beside = unsaved_now q false apart ∙ before.beside;
          taken = subst (IsOf i before.unsaved) (sym (object_beside q (kept.sound.unsaved q before.unsaved before.beside).live apart)) before.taken;
        }) (leaf_or_apart q leaf);
    once = λ a b i j p q same. kept.sound.once a b i j (stood_before s leaf a i p) (stood_before s leaf b j q) same;
  }

  pub ended_cached : AllCachedIn t (with_frag c.caches r leaf now)
  ended_cached q a is = ⊎_elim (λ same.
      let now_is : lies_by r now ≡ a = same_Some (lies_by r now) a (sym (get_with_frag c.caches r leaf now q ∙ ap (λ (b : Bool). cond b (Some (lies_by r now)) (map.get c.caches.held q)) (same_leaf q leaf same)) ∙ is) in
      let given = (kept.cached leaf (lies_by r f) held).made in
      let generation = done.generation in
      subst (λ (l : Leaf). IsCachedIn t l a.frag) (sym same) (subst (λ (x : At). IsCachedIn t leaf x.frag) now_is (record { live = live; tied = subst (IsTied now) (sym object_here) right.tied; made = omega (arith, given, generation) })))
      (λ apart.
      let was = kept.cached q a (sym (get_with_frag c.caches r leaf now q ∙ ap (λ (b : Bool). cond b (Some (lies_by r now)) (map.get c.caches.held q)) apart) ∙ is) in
      record { live = was.live; tied = subst (IsTied a.frag) (sym (object_beside q was.live apart)) was.tied; made = was.made }) (leaf_or_apart q leaf)

  pub ended : IsEnded s t job
  ended = record { stood = stood; unsaved = u; beside = stands.beside; left = refl; spelled = subst (λ o. HasSpelled o (next_version job.snapshot.base) (names_then job.snapshot object)) (sym object_here) right.spelled; tree = tree_stays }
