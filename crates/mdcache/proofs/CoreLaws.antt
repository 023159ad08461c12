-- What reads and preparations leave of the tree over caches and a store, and what they find.
use Rattle.mdcache.proofs.Common.{AllCachedIn, At, Base, CacheMap, Cached, Came, Core, Counts, Covers, Dentry, DirPins, Dirfrag, Rewrites, Fragment, HasCached, Homes, IfErr, IfErr-weaker, IfOk, IfOk-weaker, Ino, Inode, IsButRoom, IsCachedIn, IsFree, IsLive, IsNoLess, IsPick, IsSaved, IsSound, IsSoundCore, IsThat, IsThere, IsTiedAt, KeepsNone, KeepsState, Keys, LacksPlacesIn, Leaf, List, Loads, MayFetch, MayHold, MayNotBeReady, MayNotFind, Names, None, NoneEnds, Objects, Omap, OnErr, OnOk, Option, Reads, ReadsCore, Refusal, Result, Rooms, Some, State, UnsavedLeaves, ap, arith, lies_by, came_cap, came_ranks, rewrites_reads, faults_told, fetched_are_tied, get_unclean, hash_of, here, here_is, inl, inr, is_directory, is_known, is_some, it_stays, known_is, leaf_of, leaves_of, length, object_of, reads_came, reads_held, reads_then, reads_unclean, reads_weaker, refl, rules, shown_names, shown_at, shown_in, shows, shows_in, state_of, subst, sym, true, unclean, unsaved_at, used_at, used_reads, ℕ, ⊎_elim, ◌+◌, ◌<◌, ◌∙◌, ◌≡◌, ◌≤◌, ◌⊎◌}
use Rattle.std.specs.FinMap as map
use Rattle.std.proofs.Common.{◌-◌, ◌^◌}
use Rattle.mdcache.specs.Ready.{LacksNumbers}
use Rattle.mdcache.specs.Shown.{names_of}
pub use Rattle.std.proofs.lemmas.Result.{on_ok_weaker as on_ok}
use Rattle.mdcache.proofs.EndLaws.{cached_shows}
use Rattle.mdcache.proofs.UncleanOf.{reads_unclean_of}
use Rattle.mdcache.proofs.NamedLaws.{sound_leaves, stands_at}
use Rattle.mdcache.proofs.NoNames.{none_unless}

-- ---- one fragment

-- room is no part of a tie
tied_but : (b : Base) (f : Cached) (room places : ℕ) (object : Option Omap) → IsTiedAt b f object → IsTiedAt b (record f { room = room; places = places }) object
tied_but b f room places object tie = search rules

pub cached_but : (s : State) (leaf : Leaf) (g f : Cached) → IsButRoom g f → IsCachedIn s leaf g → IsCachedIn s leaf f
cached_but s leaf g f but was =
    subst (IsCachedIn s leaf) (sym but) (record { live = was.live; tied = tied_but g.base g f.room f.places (object_of s.objects leaf.0 leaf.1) was.tied; made = was.made })

pub loaded_first : (leaf : Leaf) (f : Cached) (object : Option Omap) → Loads leaf.1 object (Some f) → f.generation ≡ 0
loaded_first leaf f object h = search rules

-- a fragment that was read
loaded_cached : (s : State) (leaf : Leaf) (f : Cached) → 0 < s.next_generation → IsLive s.homes s.covers leaf → Loads leaf.1 (object_of s.objects leaf.0 leaf.1) (Some f) → IsCachedIn s leaf f
loaded_cached s leaf f begun live loads = record {
  live = live;
  tied = fetched_are_tied leaf.1 (object_of s.objects leaf.0 leaf.1) f loads;
  made = omega (arith, begun, loaded_first leaf f (object_of s.objects leaf.0 leaf.1) loads);
}

-- ---- what reads leave

module _ (Uses Ends : ℕ → Leaf → Type 0) (old new : Core) (reads : ReadsCore Uses Ends old new) where
  came : Came Uses Ends old.caches new.caches
  came = reads_came Uses Ends old.objects old.caches new.caches reads.caches

  pub reads_state : state_of new ≡ state_of old
  reads_state = ap state_of reads.beside ∙ (λ i. record (state_of old) { unsaved = reads_unclean Uses Ends old.objects old.caches new.caches reads.caches i })

  -- a leaf that is used is live, if it is cached then
  abbrev pub AreLive : Type 0
  AreLive = (r : ℕ) (q : Leaf) → Uses r q → (a : At) → map.get new.caches.held q ≡ Some a → IsLive old.homes old.covers q

  pub reads_cached_so : IsSoundCore old → AreLive → (leaf : Leaf) (a : At) → map.get new.caches.held leaf ≡ Some a → IsCachedIn (state_of new) leaf a.frag
  reads_cached_so sound live leaf a is = subst (λ (s : State). IsCachedIn s leaf a.frag) (sym reads_state) (⊎_elim
      (λ was. cached_but (state_of old) leaf was.0 a.frag was.2 (sound.cached leaf (lies_by a.rank was.0) was.1))
      (λ came. cached_but (state_of old) leaf came.1 a.frag came.3 (loaded_cached (state_of old) leaf came.1 sound.begun (live a.rank leaf came.0 a is) came.2))
      (reads_held Uses Ends old.objects old.caches new.caches reads.caches leaf a is))

  pub reads_sound_so : IsSoundCore old → AreLive → KeepsNone new.caches → IsSoundCore new
  reads_sound_so sound live none = record {
    sound = subst IsSound (sym reads_state) sound.sound;
    begun = subst (λ (s : State). 0 < s.next_generation) (sym reads_state) sound.begun;
    cached = reads_cached_so sound live;
    none = none;
  }

  pub reads_sound : IsSoundCore old → ((r : ℕ) (q : Leaf) → Uses r q → IsLive old.homes old.covers q) → KeepsNone new.caches → IsSoundCore new
  reads_sound sound live = reads_sound_so sound (λ r q uses a is. live r q uses)

  pub reads_keeps : (told : Option Refusal) → new.faults ≡ old.faults + faults_told told → KeepsState old new told
  reads_keeps told counted = record {
    state = reads_state;
    unclean = reads_unclean_of Uses Ends old.objects old.caches new.caches reads.caches;
    count = came_ranks Uses Ends old.caches new.caches came;
    cap = came_cap Uses Ends old.caches new.caches came;
    counted = counted;
  }

  -- a leaf that could be fetched still can
  pub may_fetch_on : (a : Dirfrag) → ((r : ℕ) → Uses r (leaf_of a) → r ≡ a.rank.0) → MayFetch old a → MayFetch new a
  may_fetch_on a mine may = record {
    there = subst (λ (n : ℕ). a.rank.0 < n) (sym (came_ranks Uses Ends old.caches new.caches came)) may.there;
    free = free (map.get new.caches.held (leaf_of a)) refl;
    saved = λ none. subst (λ (s : State). IsSaved a.frag (object_of s.objects a.dir a.frag)) (sym reads_state)
        (may.saved (ap (λ (m : UnsavedLeaves). map.get m (leaf_of a)) (sym (reads_unclean Uses Ends old.objects old.caches new.caches reads.caches)) ∙ none));
  }
    where
      free : (o : Option At) → map.get new.caches.held (leaf_of a) ≡ o → IsFree a.rank.0 o
      free None is = tt
      free (Some b) is = ⊎_elim (λ stood. subst (IsFree a.rank.0) stood.1 may.free) (λ read. mine b.rank read.0) (reads_held Uses Ends old.objects old.caches new.caches reads.caches (leaf_of a) b is)

-- a leaf that was cached nowhere, and isn't named, is cached nowhere
pub still_absent : (Uses Ends : ℕ → Leaf → Type 0) (old new : Core) (q : Leaf) → ReadsCore Uses Ends old new → ((r : ℕ) → Uses r q → ⊥) → map.get old.caches.held q ≡ None → map.get new.caches.held q ≡ None
still_absent Uses Ends old new q reads unnamed none = none_unless (map.get new.caches.held q) (λ a is. ⊎_elim (λ was. let clash : None ≡ Some (lies_by a.rank was.0) = sym none ∙ was.1 in cc) (λ read. unnamed a.rank read.0) (reads_held Uses Ends old.objects old.caches new.caches reads.caches q a is))

-- one after the other
pub reads_core_on : (Uses Ends : ℕ → Leaf → Type 0) (old mid new : Core) → ReadsCore Uses Ends old mid → ReadsCore Uses Ends mid new → ReadsCore Uses Ends old new
reads_core_on Uses Ends old mid new first second = record {
  caches = reads_then Uses Ends old.objects old.caches mid.caches new.caches first.caches
      (subst (λ (o : Objects). Reads Uses Ends o mid.caches new.caches) (ap (λ (c : Core). c.objects) first.beside) second.caches);
  room = record { dirs = omega (arith, first.room.dirs, second.room.dirs); jobs = omega (arith, first.room.jobs, second.room.jobs); purge = omega (arith, first.room.purge, second.room.purge) };
  beside = second.beside ∙ ap (λ (c : Core). record c { caches = new.caches; faults = new.faults; room = new.room }) first.beside;
}

pub no_less_itself : (a : Rooms) → IsNoLess a a
no_less_itself a = record { dirs = omega arith; jobs = omega arith; purge = omega arith }

pub reads_itself : (Uses Ends : ℕ → Leaf → Type 0) (c : Core) → ReadsCore Uses Ends c c
reads_itself Uses Ends c = record { caches = it_stays; room = no_less_itself c.room; beside = refl }

pub there_after : (Uses Ends : ℕ → Leaf → Type 0) (old new : Core) (r : ℕ) → ReadsCore Uses Ends old new → r < length old.caches.used → r < length new.caches.used
there_after Uses Ends old new r reads there =
    subst (λ (n : ℕ). r < n) (sym (came_ranks Uses Ends old.caches new.caches (reads_came Uses Ends old.objects old.caches new.caches reads.caches))) there

-- a step of the caches, of what is seen of the parts that are there: the first one, and one after others
module _ (Uses Ends : ℕ → Leaf → Type 0) (old view new : Core) (room : IsNoLess view.room new.room)
    (beside : new ≡ record view { caches = new.caches; faults = new.faults; room = new.room }) where
  pub first_step : view ≡ old → Reads Uses Ends view.objects view.caches new.caches → ReadsCore Uses Ends old new
  first_step is reads = subst (λ (k : Core). ReadsCore Uses Ends k new) is (record { caches = reads; room = room; beside = beside })

  pub next_step : (mid : Core) → ReadsCore Uses Ends old mid → view ≡ mid → Reads Uses Ends view.objects view.caches new.caches → ReadsCore Uses Ends old new
  next_step mid before is reads = reads_core_on Uses Ends old mid new before (subst (λ (k : Core). ReadsCore Uses Ends k new) is (record { caches = reads; room = room; beside = beside }))

-- a use after other steps, and other room of a fragment
module _ (Uses Ends : ℕ → Leaf → Type 0) (old mid view : Core) (is : view ≡ mid) (before : ReadsCore Uses Ends old mid) (r : ℕ) (leaf : Leaf) (named : Uses r leaf) (caches' : CacheMap) where
  pub use_step : caches' ≡ used_at view.caches r leaf → ReadsCore Uses Ends old (record view { caches = caches' })
  use_step used = next_step Uses Ends old view (record view { caches = caches' }) (no_less_itself view.room) refl mid before is
      (used_reads Uses Ends view.objects view.caches view.caches caches' r leaf it_stays named used)

  pub room_step : (Change : Cached → Cached → Type 0) → ((f now : Cached) → Change f now → IsButRoom f now) → Rewrites Change r leaf view.caches caches' → ReadsCore Uses Ends old (record view { caches = caches' })
  room_step Change but edits = next_step Uses Ends old view (record view { caches = caches' }) (no_less_itself view.room) refl mid before is
      (rewrites_reads Uses Ends view.objects view.caches view.caches caches' r leaf Change but it_stays named edits)

-- for more leaves
pub reads_core_wider : (Few Many FewEnd ManyEnd : ℕ → Leaf → Type 0) (old new : Core) → ((r : ℕ) (q : Leaf) → Few r q → Many r q) → ((r : ℕ) (q : Leaf) → FewEnd r q → ManyEnd r q)
    → ReadsCore Few FewEnd old new → ReadsCore Many ManyEnd old new
reads_core_wider Few Many FewEnd ManyEnd old new more more_end reads =
    record { caches = reads_weaker Few FewEnd Many ManyEnd more more_end old.objects old.caches new.caches reads.caches; room = reads.room; beside = reads.beside }

-- ---- what a sound core tells

-- a cached fragment shows the names of its leaf
pub shows_so : (c : Core) → AllCachedIn (state_of c) c.caches → (r : ℕ) (leaf : Leaf) (f : Cached) → here c.caches r leaf ≡ Some f → names_of (unclean c.caches) c.objects leaf ≡ shown_names f
unfolding names_of
shows_so c cached r leaf f there =
    let held : map.get c.caches.held leaf ≡ Some (lies_by r f) = here_is r (map.get c.caches.held leaf) f there in
    ap (λ o. shown_at o (object_of c.objects leaf.0 leaf.1)) (get_unclean c.caches leaf ∙ ap unsaved_at held)
    ∙ cached_shows f (object_of c.objects leaf.0 leaf.1) (cached leaf (lies_by r f) held).tied

module _ (c : Core) (sound : IsSoundCore c) where
  pub dir_known : (d : ℕ) → is_directory (shown_in c) d ≡ true → is_known c.homes d ≡ true
  dir_known d is = known_is (shown_in c) c.homes sound.sound.tabled d ∙ is

  pub pick_live : (dir : Ino) (hash : ℕ) (f : Fragment) → is_directory (shown_in c) dir.0 ≡ true → IsPick (leaves_of c.covers dir.0) hash f → IsLive c.homes c.covers (dir, f)
  pick_live dir hash f is pick = record { known = dir_known dir.0 is; stands = pick.stands }

  -- a live leaf can be fetched at a rank that may hold it
  pub may_fetch : (a : Dirfrag) → MayHold c.caches a.rank (leaf_of a) → IsLive c.homes c.covers (leaf_of a) → MayFetch c a
  may_fetch a holds live = record { there = holds.there; free = holds.alone; saved = sound.sound.saved (leaf_of a) live }

  pub shows_cached : (r : ℕ) (leaf : Leaf) (f : Cached) → here c.caches r leaf ≡ Some f → names_of (unclean c.caches) c.objects leaf ≡ shown_names f
  shows_cached = shows_so c sound.cached

  -- what holds of the shown names of a cached fragment holds of those of its leaf
  pub of_names : (P : Names → Type 0) (r : ℕ) (leaf : Leaf) → HasCached (here c.caches r leaf) (λ (f : Cached). P (shown_names f)) → P (names_of (unclean c.caches) c.objects leaf)
  of_names P r leaf has = elim (here c.caches r leaf) as (λ o. here c.caches r leaf ≡ o → HasCached o (λ (f : Cached). P (shown_names f)) → P (names_of (unclean c.caches) c.objects leaf)) [
    | None ↦ λ there h. absurd h
    | Some f ↦ λ there h. subst P (sym (shows_cached r leaf f there)) h
  ] refl has

  -- a cached fragment shows a name where its leaf does
  pub shows_names : (a : Dirfrag) (name : List ℕ) → IsThere (here c.caches a.rank.0 (leaf_of a)) → shows c a name ≡ is_some (map.get (names_of (unclean c.caches) c.objects (leaf_of a)) name)
  shows_names a name there = elim (here c.caches a.rank.0 (leaf_of a)) as (λ o. here c.caches a.rank.0 (leaf_of a) ≡ o → IsThere o → shows_in o name ≡ is_some (map.get (names_of (unclean c.caches) c.objects (leaf_of a)) name)) [
    | None ↦ λ is h. absurd h
    | Some f ↦ λ is h. ap (λ (names : Names). is_some (map.get names name)) (sym (shows_cached a.rank.0 (leaf_of a) f is))
  ] refl there

-- ---- why a read is refused, said of what was before others

pub if_ok : {A E : Type 0} (P Q : A → Type 0) (r : Result A E) → ((x : A) → P x → Q x) → IfOk r P → IfOk r Q
if_ok P Q r = IfOk-weaker r P Q

pub if_err : {A E : Type 0} (P Q : E → Type 0) (r : Result A E) → ((e : E) → P e → Q e) → IfErr r P → IfErr r Q
if_err P Q r = IfErr-weaker r P Q

pub on_err_so : {A E P : Type 0} (r : Result A E) → P → OnErr r P
on_err_so r p = search rules

pub ok_so : {A E P : Type 0} (r : Result A E) → P → OnOk r P
ok_so r p = search rules

pub not_found_weaker : (P Q : Type 0) (before after : ℕ) (reason : Refusal) → (P → Q) → MayNotFind P before after reason → MayNotFind Q before after reason
not_found_weaker P Q before after reason f is = search rules

pub cached_so : (P Q : Cached → Type 0) (o : Option Cached) → ((f : Cached) → P f → Q f) → HasCached o P → HasCached o Q
cached_so P Q o f h = search rules

module _ (Uses Ends : ℕ → Leaf → Type 0) (old mid : Core) (reads : ReadsCore Uses Ends old mid) where
  pub lacks_before : (count r : ℕ) → LacksPlacesIn count mid.caches r → LacksPlacesIn count old.caches r
  lacks_before count r lacks =
      omega (arith, came_cap Uses Ends old.caches mid.caches (reads_came Uses Ends old.objects old.caches mid.caches reads.caches), ap (λ m. map.len m) (reads_unclean_of Uses Ends old.objects old.caches mid.caches reads.caches r), lacks)

  pub not_found_before : (count r after : ℕ) (reason : Refusal) → mid.faults ≡ old.faults → MayNotFind (LacksPlacesIn count mid.caches r) mid.faults after reason → MayNotFind (LacksPlacesIn count old.caches r) old.faults after reason
  not_found_before count r after reason same (inl memory) = inl memory
  not_found_before count r after reason same (inr (inl fault)) = inr (inl (fault.0, subst (λ (n : ℕ). n < after) same fault.1))
  not_found_before count r after reason same (inr (inr full)) = inr (inr (full.0, lacks_before count r full.1))

pub not_found_pair : (Uses Ends : ℕ → Leaf → Type 0) (old mid : Core) → ReadsCore Uses Ends old mid → (count r t after : ℕ) (reason : Refusal) → mid.faults ≡ old.faults
    → MayNotFind (LacksPlacesIn count mid.caches r ⊎ LacksPlacesIn count mid.caches t) mid.faults after reason → MayNotFind (LacksPlacesIn count old.caches r ⊎ LacksPlacesIn count old.caches t) old.faults after reason
not_found_pair Uses Ends old mid reads count r t after reason same is = subst (λ (n : ℕ). MayNotFind (LacksPlacesIn count old.caches r ⊎ LacksPlacesIn count old.caches t) n after reason) same
    (not_found_weaker _ _ mid.faults after reason (⊎_elim (λ lacks. inl (lacks_before Uses Ends old mid reads count r lacks)) (λ lacks. inr (lacks_before Uses Ends old mid reads count t lacks))) is)

-- ---- a read of leaves that are live

module _ (Uses : ℕ → Leaf → Type 0) (old new : Core) (read : ReadsCore Uses NoneEnds old new) (sound : IsSoundCore old) (none : KeepsNone new.caches) (live : (r : ℕ) (q : Leaf) → Uses r q → IsLive old.homes old.covers q) where
  pub read_sound : IsSoundCore new
  read_sound = reads_sound Uses NoneEnds old new read sound live none

  -- what holds of the shown names of a cached fragment holds of those of its leaf
  pub read_names : (P : Names → Type 0) (r : ℕ) (leaf : Leaf) → HasCached (here new.caches r leaf) (λ (f : Cached). P (shown_names f)) → P (names_of (unclean old.caches) old.objects leaf)
  read_names P r leaf has = subst P (ap (λ (s : State). names_of s.unsaved s.objects leaf) (reads_state Uses NoneEnds old new read)) (of_names new read_sound P r leaf has)

  pub read_found : (r : ℕ) (dentry : Dentry) (f : Fragment) (found : Option Inode) → is_directory (shown_in old) dentry.dir.0 ≡ true → IsPick (leaves_of old.covers dentry.dir.0) (hash_of dentry.name) f
      → HasCached (here new.caches r (dentry.dir, f)) (λ (g : Cached). found ≡ map.get (shown_names g) dentry.name) → found ≡ map.get (shown_in old) dentry
  read_found r dentry f found known pick has =
      read_names (λ (names : Names). found ≡ map.get names dentry.name) r (dentry.dir, f) has
      ∙ sym (stands_at (state_of old) (sound_leaves (state_of old) sound.sound) dentry f (dir_known old sound dentry.dir.0 known) pick)

-- one leaf that is live
pub that_live : (c : Core) (r : ℕ) (leaf : Leaf) → IsLive c.homes c.covers leaf → (s : ℕ) (q : Leaf) → IsThat r leaf s q → IsLive c.homes c.covers q
that_live c r leaf live s q is = subst (IsLive c.homes c.covers) (sym is.1) live

pub two_live : (c : Core) (a b : ℕ) (one two : Leaf) → IsLive c.homes c.covers one → IsLive c.homes c.covers two → (s : ℕ) (q : Leaf) → IsThat a one s q ⊎ IsThat b two s q → IsLive c.homes c.covers q
two_live c a b one two first second s q = ⊎_elim (that_live c a one first s q) (that_live c b two second s q)

-- ---- a change is made ready

-- so much room for names of objects to be removed, or for directories
pub purge_grown : (Uses Ends : ℕ → Leaf → Type 0) (old view : Core) (is : view ≡ old) (names : Keys) (room : ℕ) → names ≡ view.purge → view.room.purge ≤ room
    → ReadsCore Uses Ends old (record view { purge = names; room = record view.room { purge = room } })
purge_grown Uses Ends old view is names room same more =
    first_step Uses Ends old view (record view { purge = names; room = record view.room { purge = room } }) (record { dirs = omega arith; jobs = omega arith; purge = more })
    (λ i. record view { purge = same i; room = record view.room { purge = room } }) is it_stays

pub dirs_grown : (Uses Ends : ℕ → Leaf → Type 0) (old view : Core) (is : view ≡ old) (homes : Homes) (covers : Covers) (counts : Counts) (pins : DirPins) (room : ℕ) → homes ≡ view.homes → covers ≡ view.covers → counts ≡ view.counts → pins ≡ view.pins → view.room.dirs ≤ room
    → ReadsCore Uses Ends old (record view { homes = homes; covers = covers; counts = counts; pins = pins; room = record view.room { dirs = room } })
dirs_grown Uses Ends old view is homes covers counts pins room same_homes same_covers same_counts same_pins more =
    first_step Uses Ends old view (record view { homes = homes; covers = covers; counts = counts; pins = pins; room = record view.room { dirs = room } })
    (record { dirs = more; jobs = omega arith; purge = omega arith })
    (λ i. record view { homes = same_homes i; covers = same_covers i; counts = same_counts i; pins = same_pins i; room = record view.room { dirs = room } }) is it_stays

-- room where nothing is done if it is there
pub grows_by : (old new : ℕ) → (0 < old → new ≡ old) → old ≤ new
grows_by old new ready = search rules

-- why it isn't, once numbers are known to be left
pub not_ready : (Lacks P : Type 0) (before after : ℕ) (reason : Refusal) → (Lacks → ⊥) → MayNotFind P before after reason → MayNotBeReady Lacks P before after reason
not_ready Lacks P before after reason left is = inr (left, is)

-- numbers that are left don't lack
pub one_left : (next now : ℕ) → now ≡ next → now < 2 ^ 64 - 1 → LacksNumbers 1 next → ⊥
one_left next now same left lacks = absurd (omega (arith, same, left, lacks))

pub two_left : (next now : ℕ) → now ≡ next → now < 2 ^ 64 - 2 → LacksNumbers 2 next → ⊥
two_left next now same left lacks = absurd (omega (arith, same, left, lacks))

-- so where more may lack, but of the numbers no more
pub not_ready_wider : (Few Many Less More : Type 0) (before after : ℕ) (reason : Refusal) → (Few → Many) → (Many → Few) → (Less → More) → MayNotBeReady Few Less before after reason → MayNotBeReady Many More before after reason
not_ready_wider Few Many Less More before after reason more few wider is = search rules

-- room grew alone
module _ (old grown : Core) (room : (Uses Ends : ℕ → Leaf → Type 0) → ReadsCore Uses Ends old grown) (sound : IsSoundCore old) where
  pub grown_sound : grown.caches ≡ old.caches → IsSoundCore grown
  grown_sound same = reads_sound NoneEnds NoneEnds old grown (room NoneEnds NoneEnds) sound (λ r q no_use. absurd no_use) (subst KeepsNone (sym same) sound.none)

  pub grown_may : (a : Dirfrag) → MayHold old.caches a.rank (leaf_of a) → IsLive old.homes old.covers (leaf_of a) → MayFetch grown a
  grown_may a holds live = may_fetch_on NoneEnds NoneEnds old grown (room NoneEnds NoneEnds) a (λ r no_use. absurd no_use) (may_fetch old sound a holds live)

  pub grown_refused : (count r after : ℕ) (reason : Refusal) → grown.faults ≡ old.faults → MayNotFind (LacksPlacesIn count grown.caches r) grown.faults after reason → MayNotFind (LacksPlacesIn count old.caches r) old.faults after reason
  grown_refused count r after reason same is = not_found_before NoneEnds NoneEnds old grown (room NoneEnds NoneEnds) count r after reason same is
