-- What a change makes, once its steps are known.
use Rattle.mdcache.proofs.Common.{AllCachedIn, At, Bool, CacheMap, Cached, Came, Change, Core, Dirfrag, EndsWith, HasCached, HasNumber, HasRoom, HasSpace, Ino, Inode, IsChangedBy, IsKeptFor, IsLive, IsNamedIn, IsReadOf, IsRightChange, IsSound, IsSoundCore, IsThere, KeepsNone, KeepsOnlyAt, Leaf, List, Makes, MayChange, None, NoneEnds, Objects, Option, Rank, Reads, ReadsCore, Rooms, Some, Spot, State, Unsaved, adds, ap, arith, lies_by, cond, cond_both, count_of, counts_moved, dentry_at, false, first_leaf, get_unclean, here, home_at, inl, inr, is_apart, is_clean, is_dir_kind, is_known, is_some, leaf_of, length, made_frag, may_come, moves, named, object_of, one_less, one_more, pinned, reads_held, refl, removes, root_fragment, rows_but, same_Some, sets, shown_in, shown_tree, shows, state_of, subst, sym, true, unclean, unclean_with, unsaved_at, with_directory, with_entry_counted, with_home, with_new, with_dir_pin, without_gone_dir, without_dir, without_entry, ℕ, ◌-◌, ◌<◌, ◌==◌, ◌^◌, ◌||◌, ◌∙◌, ◌≡◌}
use Rattle.std.specs.FinMap as map
use Rattle.mdcache.specs.Changing.{generation_in}
use Rattle.mdcache.specs.Core.{moved_entry, with_dir}
use Rattle.mdcache.proofs.ChangeLaws.{changes_are_right}
use Rattle.mdcache.proofs.CoreLaws.{dir_known, loaded_first, reads_state, shows_names}
use Rattle.mdcache.proofs.ChangeSteps.{HasMade, KeepGenerations, cached_there, is_gone, is_named, kept_named, left, made_dir, made_first, made_gone, made_named, made_tables, room_left, roomy_there}
use Rattle.mdcache.proofs.HomeLaws.{first_live, grown_live, moved_known, relocates}
use Rattle.mdcache.proofs.NamedLaws.{sound_leaves, stands_at}
use Rattle.mdcache.proofs.NoneLaws.{none_only, only_none}
use Rattle.mdcache.proofs.PutLaws.{beyond}

-- all that the steps of a change leave
pub record IsDone (change : Change) (old new : Core) : Type 0 where
  pub made : Makes change (state_of old) (state_of new)
  pub right : IsRightChange change (state_of old) (state_of new)
  pub came : Came (IsNamedIn change) (EndsWith change) old.caches new.caches
  pub sound : IsSoundCore new
  pub generations : KeepGenerations (state_of old) old.caches new.caches

done : (change : Change) (old new : Core) → IsSound (state_of old) → HasNumber change → MayChange (shown_in old) old.covers change → Makes change (state_of old) (state_of new)
    → HasMade (IsNamedIn change) (EndsWith change) None old new → 0 < new.next_generation → IsDone change old new
done change old new sound number may made has begun =
    let right : IsRightChange change (state_of old) (state_of new) = changes_are_right change (state_of old) (state_of new) sound number may made in
    record {
      made = made;
      right = right;
      came = has.came;
      sound = record { sound = right.sound; begun = begun; cached = has.cached; none = only_none new.caches has.only };
      generations = has.generations;
    }

-- nothing comes
not_new : {P : Type 0} → false ≡ true → P
not_new clash = cc

-- ---- after reads

-- what isn't clean is cached, and has the generation of its fragment
unclean_held : (c : CacheMap) (leaf : Leaf) (u : Unsaved) → map.get (unclean c) leaf ≡ Some u → (a : At) × (map.get c.held leaf ≡ Some a) × (u.generation ≡ a.frag.generation)
unclean_held c leaf u is = go (map.get c.held leaf) refl (sym (get_unclean c leaf) ∙ is)
  where
    given : (a : At) → unsaved_at (Some a) ≡ Some u → u.generation ≡ a.frag.generation
    given a = cond_both (is_clean a.frag) None (Some (beyond a.frag)) (λ o. o ≡ Some u → u.generation ≡ a.frag.generation) (λ clean none. let clash : None ≡ Some u = none in absurd cc)
        (λ dirty some. sym (ap (λ (v : Unsaved). v.generation) (same_Some (beyond a.frag) u some)))

    go : (o : Option At) → map.get c.held leaf ≡ o → unsaved_at o ≡ Some u → (a : At) × (map.get c.held leaf ≡ Some a) × (u.generation ≡ a.frag.generation)
    go None held h = let clash : None ≡ Some u = h in absurd cc
    go (Some a) held h = (a, held, given a h)

-- what was read of a leaf that wasn't cached was fetched
read_first : (Uses Ends : ℕ → Leaf → Type 0) (objects : Objects) (old new : CacheMap) → Reads Uses Ends objects old new → (leaf : Leaf) → map.get old.held leaf ≡ None → generation_in (map.get new.held leaf) ≡ 0
read_first Uses Ends objects old new reads leaf none = go (map.get new.held leaf) refl
  where
    of : (a : At) → IsReadOf Uses objects leaf None a → a.frag.generation ≡ 0
    of a (inl was) = let clash : None ≡ Some (lies_by a.rank was.0) = was.1 in absurd cc
    of a (inr read) = ap (λ (f : Cached). f.generation) read.3 ∙ loaded_first leaf read.1 (object_of objects leaf.0 leaf.1) read.2

    go : (o : Option At) → map.get new.held leaf ≡ o → generation_in o ≡ 0
    go None held = refl
    go (Some a) held = of a (subst (λ (o : Option At). IsReadOf Uses objects leaf o a) none (reads_held Uses Ends objects old new reads leaf a held))

-- what was read for a change before its steps changed nothing else
pub after_reads : (change : Change) (old mid new : Core) → ReadsCore (IsNamedIn change) NoneEnds old mid → IsDone change mid new → IsChangedBy change old new
after_reads change old mid new reads is =
    let same : state_of mid ≡ state_of old = reads_state (IsNamedIn change) NoneEnds old mid reads in
    record {
      made = subst (λ (s : State). Makes change s (state_of new)) same is.made;
      right = subst (λ (s : State). IsRightChange change s (state_of new)) same is.right;
      between = mid.caches;
      read = reads.caches;
      came = is.came;
      generations = kept;
      fetched = λ leaf u live none unclean. kept leaf u live unclean ∙ read_first (IsNamedIn change) NoneEnds old.objects old.caches mid.caches reads.caches leaf none;
    }
  where
    kept : (leaf : Leaf) (u : Unsaved) → IsLive old.homes old.covers leaf → map.get (unclean new.caches) leaf ≡ Some u → u.generation ≡ generation_in (map.get mid.caches.held leaf)
    kept leaf u live unclean =
        let w = unclean_held new.caches leaf u unclean in
        let still : IsLive mid.homes mid.covers leaf = subst (λ (s : State). IsLive s.homes s.covers leaf) (sym (reads_state (IsNamedIn change) NoneEnds old mid reads)) live in
        w.2 ∙ is.generations leaf w.0 still w.1

-- and it may be made still
pub may_still : (Uses : ℕ → Leaf → Type 0) (change : Change) (old mid : Core) → ReadsCore Uses NoneEnds old mid → MayChange (shown_in old) old.covers change → MayChange (shown_in mid) mid.covers change
may_still Uses change old mid reads may = subst (λ (s : State). MayChange (shown_tree s) s.covers change) (sym (reads_state Uses NoneEnds old mid reads)) may

-- ---- counts and pins

-- one more fits where a new inode comes
pub new_fits : (s : State) → IsSound s → (spot : Spot) (inode : Inode) → MayChange (shown_tree s) s.covers (adds spot inode) → count_of s.counts spot.at.dir.0 < 2 ^ 64 - 1
new_fits s sound spot inode may = omega (arith, may.takes.spaced, sound.counted.each spot.at.dir.0)

-- a directory that is altered is in the table
pub set_listed : (c : Core) → IsSoundCore c → (spot : Spot) (inode : Inode) → MayChange (shown_in c) c.covers (sets spot inode) → is_dir_kind inode.kind ≡ true → is_some (map.get c.homes inode.ino.0) ≡ true
set_listed c sound spot inode may kinded =
    ap (λ (n : Ino). is_some (map.get c.homes n.0)) may.takes.number
    ∙ ap is_some (sound.sound.tabled.holds.listed (dentry_at spot) may.takes.before may.takes.stands (sym (ap is_dir_kind may.takes.kind) ∙ kinded))

-- before the first step
first_made : (change : Change) (old : Core) → AllCachedIn (state_of old) old.caches → KeepsNone old.caches → HasMade (IsNamedIn change) (EndsWith change) None old old
first_made change old cached none = made_first _ _ None old cached (none_only None old.caches none)

module _ (old new : Core) (sound : IsSound (state_of old)) (begun : 0 < old.next_generation) (cached : AllCachedIn (state_of old) old.caches) (spot : Spot) (room : HasRoom (here old.caches spot.at.rank.0 (leaf_of spot.at))) where
  abbrev place : Dirfrag
  place = spot.at

  there : IsThere (here old.caches place.rank.0 (leaf_of place))
  there = roomy_there (here old.caches place.rank.0 (leaf_of place)) room

  -- a name got an inode
  module _ (inode : Inode) where
    abbrev now : Core
    now = named old place spot.name (Some inode)

    pub set_done : KeepsNone old.caches → MayChange (shown_in old) old.covers (sets spot inode) → new ≡ pinned now inode → IsDone (sets spot inode) old new
    set_done none may is =
        let before = first_made (sets spot inode) old cached none in
        subst (IsDone (sets spot inode) old) (sym is)
        (done (sets spot inode) old (pinned now inode) sound not_new may (state_of now, (state_of now, is_named _ _ None old old before place spot.name (Some inode) there, refl), refl)
        (made_tables _ _ None old now (made_named _ _ None old old before place spot.name (Some inode) there (refl, refl)) old.homes old.counts (with_dir_pin old.pins inode) (λ leaf live. live)) begun)

    pub file_done : KeepsNone old.caches → is_dir_kind inode.kind ≡ false → inode.ino.0 < 2 ^ 64 → MayChange (shown_in old) old.covers (adds spot inode) → new ≡ with_entry_counted now place.dir → IsDone (adds spot inode) old new
    file_done none file number may is =
        let before = first_made (adds spot inode) old cached none in
        subst (IsDone (adds spot inode) old) (sym is) (done (adds spot inode) old (with_entry_counted now place.dir) sound (λ new. number) may (
          state_of now,
          (state_of now, is_named _ _ None old old before place spot.name (Some inode) there, sym (ap (λ (b : Bool). cond b (with_directory (state_of now) (dentry_at spot) inode.ino) (state_of now)) file)),
          ap (λ (b : Bool). record (state_of now) { counts = cond b (map.insert (one_more old.counts place.dir.0) inode.ino.0 0) (one_more old.counts place.dir.0) }) (sym file),
        )
        (made_tables _ _ None old now (made_named _ _ None old old before place spot.name (Some inode) there (inl (refl, refl))) old.homes (one_more old.counts place.dir.0) old.pins (λ leaf live. live)) begun)

    abbrev first : Dirfrag
    first = record { dir = inode.ino; frag = root_fragment; rank = spot.at.rank }

    abbrev kept : Option (Rank × Leaf)
    kept = Some (spot.at.rank, first_leaf inode.ino)

    -- a directory has its home, and its leaf, for which a place is kept
    module _ (only : KeepsOnlyAt kept old.caches) (kept_place : IsKeptFor old.caches spot.at.rank.0 (first_leaf inode.ino)) (kinded : is_dir_kind inode.kind ≡ true) (fits : inode.ino.0 < 2 ^ 64) (rank : spot.at.rank.0 < length old.caches.used)
        (may : MayChange (shown_in old) old.covers (adds spot inode)) (rooms : Rooms) where
      pub directory_done : (name : List ℕ) → name ≡ spot.name
          → new ≡ with_dir (with_entry_counted now place.dir) first (record { parent = spot.at.dir; name = name }) rooms → IsDone (adds spot inode) old new
      directory_done its name is =
          let leaves = sound_leaves (state_of old) sound in
          let come = may_come (shown_in old) old.homes (dentry_at spot) inode sound.tabled may.takes in
          let unknown : is_known old.homes inode.ino.0 ≡ false = λ i. is_apart inode.ino.0 1 come.other i || is_some (come.fresh i) in
          let not_live : IsLive old.homes old.covers (first_leaf inode.ino) → ⊥ = λ live. let clash : true ≡ false = sym live.known ∙ unknown in cc in
          let counts = one_more old.counts place.dir.0 in
          let before = made_first (IsNamedIn (adds spot inode)) (EndsWith (adds spot inode)) kept old cached only in
          let named = made_named _ _ kept old old before place spot.name (Some inode) there (inl (refl, refl)) in
          let grown = made_dir _ _ old (with_entry_counted now place.dir) first (made_tables _ _ kept old now named old.homes counts old.pins (λ leaf live. live))
          (kept_named old place spot.name (Some inode) there (first_leaf inode.ino) kept_place rank).1 (home_at (dentry_at spot)) rooms
          (first_live (state_of old) leaves (dentry_at spot) inode.ino come fits) (grown_live (state_of old) leaves (dentry_at spot) inode.ino come fits) not_live (inr (kinded, (refl, refl))) in
          let with_leaf : State = record (with_directory (state_of now) (dentry_at spot) inode.ino) { counts = map.insert counts inode.ino.0 0 } in
          subst (IsDone (adds spot inode) old) (sym (is ∙ (λ i. with_dir (with_entry_counted now place.dir) first (record { parent = spot.at.dir; name = name i }) rooms)))
          (done (adds spot inode) old (with_dir (with_entry_counted now place.dir) first (home_at (dentry_at spot)) rooms) sound (λ new. fits) may (
            with_new (state_of now) (dentry_at spot) inode,
            (state_of now, is_named _ _ kept old old before place spot.name (Some inode) there, refl),
            (λ i. record with_leaf { unsaved = unclean_with now.caches spot.at.rank.0 (first_leaf inode.ino) (made_frag now.next_generation) i })
                ∙ sym (ap (λ (b : Bool). record (cond b (with_directory (state_of now) (dentry_at spot) inode.ino) (state_of now)) { counts = cond b (map.insert counts inode.ino.0 0) counts; pins = old.pins }) kinded),
          ) grown (omega (arith, begun)))

  -- a name went, and the directory that stood there, if one did
  module _ (gone : Option Ino) (none : KeepsNone old.caches) (may : MayChange (shown_in old) old.covers (removes spot gone)) (rooms : Rooms) where
    abbrev erased : Core
    erased = named old place spot.name None

    pub removal_done : new ≡ without_dir (without_entry erased place.dir) gone rooms → KeepsNone new.caches → IsDone (removes spot gone) old new
    removal_done is keeps =
        let change = removes spot gone in
        let before = first_made change old cached none in
        let counts = one_less old.counts place.dir.0 in
        subst (IsDone change old) (sym is) (done change old (left erased counts gone rooms) sound not_new may
        (without_gone_dir (state_of erased) gone, (state_of erased, is_named _ _ None old old before place spot.name None there, refl), is_gone erased counts gone rooms)
        (made_gone erased counts gone rooms _ _ old (λ r q is. is) (made_named _ _ None old old before place spot.name None there (refl, refl)) (λ was. subst (λ (k : Core). KeepsNone k.caches) is keeps)) begun)

-- ---- an entry moves

module _ (old new : Core) (sound : IsSoundCore old) (source target : Spot) (inode : Inode) (gone : Option Ino) (may : MayChange (shown_in old) old.covers (moves source target inode gone)) where
  abbrev change : Change
  change = moves source target inode gone

  -- its new name is shown where something stands there
  pub stands_at_target : HasRoom (here old.caches target.at.rank.0 (leaf_of target.at)) → shows old target.at target.name ≡ is_some (map.get (shown_in old) (dentry_at target))
  stands_at_target room =
      shows_names old sound target.at target.name (roomy_there (here old.caches target.at.rank.0 (leaf_of target.at)) room)
      ∙ ap is_some (sym (stands_at (state_of old) (sound_leaves (state_of old) sound.sound) (dentry_at target) target.at.frag (dir_known old sound target.at.dir.0 may.takes.parent) may.carries.put))

  -- and what comes to another directory, where nothing does, can be counted there
  pub counts_fit : HasRoom (here old.caches target.at.rank.0 (leaf_of target.at)) → shows old target.at target.name ≡ false → (source.at.dir.0 == target.at.dir.0) ≡ false → count_of old.counts target.at.dir.0 < 2 ^ 64 - 1
  counts_fit room none apart = elim (map.get (shown_in old) (dentry_at target)) as (λ o. is_some o ≡ false → HasSpace (shown_in old) (dentry_at source) (dentry_at target) o → count_of old.counts target.at.dir.0 < 2 ^ 64 - 1) [
    | None ↦ λ is space. omega (arith, space apart, sound.sound.counted.each target.at.dir.0)
    | Some i ↦ λ is space. let clash : true ≡ false = is in absurd cc
  ] (sym (stands_at_target room) ∙ none) may.takes.spaced

  module _ (two : HasCached (here old.caches source.at.rank.0 (leaf_of source.at)) (λ (f : Cached). 1 < f.room)) (one : HasRoom (here old.caches target.at.rank.0 (leaf_of target.at))) (rooms : Rooms) where
    pub entry_moved : (name : List ℕ) → name ≡ target.name
        → new ≡ without_dir (moved_entry old source.at source.name target.at target.name name inode) gone rooms → KeepsNone new.caches
        → IsDone change old new
    entry_moved name its is keeps =
        let left_name = named old source.at source.name None in
        let housed = record left_name { homes = with_home old.homes (dentry_at target) inode } in
        let came_name = named housed target.at target.name (Some inode) in
        let counts = counts_moved old.counts source.at.dir.0 target.at.dir.0 (shows old target.at target.name) in
        let before = first_made change old sound.cached sound.none in
        let there_first = cached_there (λ (f : Cached). 1 < f.room) (here old.caches source.at.rank.0 (leaf_of source.at)) two in
        let housed_made = made_tables _ _ None old left_name (made_named _ _ None old old before source.at source.name None there_first (inl (refl, refl))) (with_home old.homes (dentry_at target) inode) old.counts old.pins
        (λ leaf live. record { known = moved_known old.homes old.covers sound.sound.table (dentry_at target) inode (relocates (state_of old) sound.sound source target inode gone may) leaf.0.0 ∙ live.known; stands = live.stands }) in
        let there_second = roomy_there _ (room_left old.caches source.at.rank.0 target.at.rank.0 (leaf_of source.at) (leaf_of target.at) source.name (record { version = old.next_version; inode = None }) two one) in
        let named = is_named _ _ None old housed housed_made target.at target.name (Some inode) there_second in
        let now : new ≡ left came_name counts gone rooms = is ∙ ap (λ (n : List ℕ). without_dir (moved_entry old source.at source.name target.at target.name n inode) gone rooms) its in
        subst (IsDone change old) (sym now) (done change old (left came_name counts gone rooms) sound.sound not_new may (
          without_gone_dir (state_of came_name) gone,
          (
            state_of left_name,
            is_named _ _ None old old before source.at source.name None there_first,
            (record (state_of came_name) { homes = old.homes }, record { before = named.before; stands = named.stands; left = λ i. record (named.left i) { homes = old.homes } }, refl),
          ),
          is_gone came_name counts gone rooms ∙ ap (λ (b : Bool). record (without_gone_dir (state_of came_name) gone) {
            counts = rows_but (counts_moved old.counts source.at.dir.0 target.at.dir.0 b) gone;
            pins = rows_but old.pins gone;
          }) (stands_at_target one),
        )
        (made_gone came_name counts gone rooms _ _ old (λ r q is. is) (made_named _ _ None old housed housed_made target.at target.name (Some inode) there_second (inr (refl, refl)))
        (λ was. subst (λ (k : Core). KeepsNone k.caches) now keeps)) sound.begun)
