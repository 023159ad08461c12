-- What the steps of a change leave, one after the other.
use Rattle.mdcache.proofs.Common.{AllCachedIn, AreCaches, At, Bool, CacheMap, Cached, Came, Contains, Core, Counts, DirPins, Dirfrag, Fragment, HasCached, HasLeaf, HasRoom, Home, Homes, Ino, Inode, IsCachedIn, IsFree, IsKeptFor, IsLive, IsNamed, IsThere, IsTied, KeepsNone, KeepsOnlyAt, Leaf, List, Mark, None, Option, Rank, Rooms, Some, State, UnsavedLeaves, [], alters, ap, arith, lies_by, at_rank, cond, cond_both, edited_as, ended, ended_all, ended_at, ends, false, false_from_ne_true, get_given_up, get_left_home, get_with_frag, given_up, has, has_place, here, here_is, here_put, here_with_frag, holder_there, is_some, leaf_is, leaf_of, leaves, leaves_in, leaves_of, length, list_any, made_frag, marked, named, none_given_up, object_of, one_leaf, or_whole, refl, removed, rewritten, rows_but, rules, same_Some, state_of, stays, subst, suc, sym, true, unclean, unclean_alike, unclean_given_up, unsaved_at, with_frag, without_dir, without_gone_dir, without_leaves, zero, ℕ, ⊎_elim, ◌<◌, ◌==◌, ◌||◌, ◌∙◌, ◌∷◌, ◌≡◌, ◌≤◌}
use Rattle.std.specs.FinMap as map
use Rattle.dentry_cache.specs.CacheMap.{with_mark}
use Rattle.mdcache.specs.Changing.{generation_in}
use Rattle.mdcache.specs.Core.{with_dir}
use Rattle.mdcache.proofs.GoneLaws.{among}
use Rattle.mdcache.proofs.NoneLaws.{none_only, only_none}
use Rattle.mdcache.proofs.PutLaws.{cached_with, mark, marked_is, put_cached, put_named, put_only, with_only}

-- the fragment that is there
pub its : (o : Option Cached) → IsThere o → (f : Cached) × (o ≡ Some f)
its None h = absurd h
its (Some f) h = (f, refl)

pub roomy_there : (o : Option Cached) → HasRoom o → IsThere o
roomy_there o h = search rules

pub cached_there : (P : Cached → Type 0) (o : Option Cached) → HasCached o P → IsThere o
cached_there P o h = search rules

-- cached fragments are sound in another state that has the objects, whatever was live, and gave out no fewer generations
pub cached_on : (s t : State) (caches : CacheMap) → ((leaf : Leaf) → IsLive s.homes s.covers leaf → IsLive t.homes t.covers leaf) → t.objects ≡ s.objects → s.next_generation ≤ t.next_generation
    → AllCachedIn s caches → AllCachedIn t caches
cached_on s t caches live objects more cached leaf a is =
    let was : IsCachedIn s leaf a.frag = cached leaf a is in
    record {
      live = live leaf was.live;
      tied = subst (λ o. IsTied a.frag (object_of o leaf.0 leaf.1)) (sym objects) was.tied;
      made = omega (arith, was.made, more);
    }

-- a leaf that isn't among those of a directory that goes stands still
left_live_at : (s : State) (dir : Ino) (leaf : Leaf) → IsLive s.homes s.covers leaf → list_any (leaf_is leaf) (leaves s.covers dir.0) ≡ false → IsLive (map.remove s.homes dir.0) (map.remove s.covers dir.0) leaf
left_live_at s dir leaf live none = record {
  known = ap (λ (o : Option Home). (leaf.0.0 == 1) || is_some o) (get_left_home s.homes dir.0 leaf.0.0 apart) ∙ live.known;
  stands = subst (λ (fs : List Fragment). HasLeaf fs leaf.1) (sym (ap or_whole (get_left_home s.covers dir.0 leaf.0.0 apart))) live.stands;
}
  where
    apart : leaf.0.0 ≡ dir.0 → ⊥
    apart same = let clash : true ≡ false = sym (among dir.0 leaf (leaves_of s.covers dir.0) same (subst (λ (d : ℕ). HasLeaf (leaves_of s.covers d) leaf.1) same live.stands)) ∙ none in cc

-- each fragment of a leaf that was live has the generation that it had in caches before
abbrev pub KeepGenerations : State → CacheMap → CacheMap → Type 0
KeepGenerations s old c = (leaf : Leaf) (a : At) → IsLive s.homes s.covers leaf → map.get c.held leaf ≡ Some a → a.frag.generation ≡ generation_in (map.get old.held leaf)

-- so it is where one of them is another of its generation
generations_rewritten : (s : State) (old c : CacheMap) (r : ℕ) (leaf : Leaf) (f now : Cached) → here c r leaf ≡ Some f → now.generation ≡ f.generation → KeepGenerations s old c → KeepGenerations s old (rewritten c r leaf now)
generations_rewritten s old c r leaf f now seen same kept q a live is = cond_both (leaf_is q leaf) (Some (lies_by r now)) (map.get c.held q) (λ o. o ≡ Some a → a.frag.generation ≡ generation_in (map.get old.held q))
    (λ one h. sym (ap (λ (x : At). x.frag.generation) (same_Some (lies_by r now) a h)) ∙ same ∙ kept q (lies_by r f) live (ap (map.get c.held) (one_leaf q leaf one) ∙ here_is r (map.get c.held leaf) f seen))
    (λ apart h. kept q a live h) (sym (get_with_frag c r leaf now q) ∙ is)

-- and where one comes of a leaf that wasn't live
generations_beside : (s : State) (old c : CacheMap) (r : ℕ) (leaf : Leaf) (f : Cached) → (IsLive s.homes s.covers leaf → ⊥) → KeepGenerations s old c → KeepGenerations s old (with_frag c r leaf f)
generations_beside s old c r leaf f new kept q a live is = cond_both (leaf_is q leaf) (Some (lies_by r f)) (map.get c.held q) (λ o. o ≡ Some a → a.frag.generation ≡ generation_in (map.get old.held q))
    (λ one h. absurd (new (subst (λ (l : Leaf). IsLive s.homes s.covers l) (one_leaf q leaf one) live))) (λ apart h. kept q a live h) (sym (get_with_frag c r leaf f q) ∙ is)

-- the caches came from those before, their fragments are sound and have the generations they had, and a place that is kept is this one
pub record HasMade (Uses Ends : ℕ → Leaf → Type 0) (kept : Option (Rank × Leaf)) (old new : Core) : Type 0 where
  pub came : Came Uses Ends old.caches new.caches
  pub cached : AllCachedIn (state_of new) new.caches
  pub only : KeepsOnlyAt kept new.caches
  pub generations : KeepGenerations (state_of old) old.caches new.caches

module _ (Uses Ends : ℕ → Leaf → Type 0) (kept : Option (Rank × Leaf)) (old : Core) where
  pub made_first : AllCachedIn (state_of old) old.caches → KeepsOnlyAt kept old.caches → HasMade Uses Ends kept old old
  made_first cached only = record { came = stays; cached = cached; only = only; generations = λ leaf a live is. sym (ap generation_in is) }

  module _ (c : Core) (before : HasMade Uses Ends kept old c) where
    -- a name of a leaf changed
    module _ (a : Dirfrag) (name : List ℕ) (inode : Option Inode) (there : IsThere (here c.caches a.rank.0 (leaf_of a))) where
      abbrev w : (f : Cached) × (here c.caches a.rank.0 (leaf_of a) ≡ Some f)
      w = its (here c.caches a.rank.0 (leaf_of a)) there

      pub is_named : IsNamed (state_of c) (state_of (named c a name inode)) (leaf_of a) name inode
      is_named = put_named c a name inode w.0 w.1 before.cached

      pub made_named : Uses a.rank.0 (leaf_of a) → HasMade Uses Ends kept old (named c a name inode)
      made_named uses = record {
        came = subst (Came Uses Ends old.caches) (sym (marked_is c a name inode w.0 w.1 before.cached))
            (alters c.caches a.rank.0 (leaf_of a) w.0 (marked w.0 name (mark c a name inode w.0 w.1 before.cached)) before.came uses w.1);
        cached = cached_on (state_of c) (state_of (named c a name inode)) (named c a name inode).caches (λ leaf live. live) refl (omega arith) (put_cached c a name inode w.0 w.1 before.cached);
        only = put_only c a name inode w.0 w.1 before.cached kept before.only;
        generations = subst (KeepGenerations (state_of old) old.caches) (sym (marked_is c a name inode w.0 w.1 before.cached))
            (generations_rewritten (state_of old) old.caches c.caches a.rank.0 (leaf_of a) w.0 (marked w.0 name (mark c a name inode w.0 w.1 before.cached)) w.1 refl before.generations);
      }

    -- a directory moved, or a file; entries were counted, or a pin set
    pub made_tables : (homes : Homes) (counts : Counts) (pins : DirPins) → ((leaf : Leaf) → IsLive c.homes c.covers leaf → IsLive homes c.covers leaf) → HasMade Uses Ends kept old (record c { homes = homes; counts = counts; pins = pins })
    made_tables homes counts pins live = record {
      came = before.came;
      cached = cached_on (state_of c) (state_of (record c { homes = homes; counts = counts; pins = pins })) c.caches live refl (omega arith) before.cached;
      only = before.only;
      generations = before.generations;
    }

-- ---- a place is kept for a leaf that comes

module _ (c : Core) (a : Dirfrag) (name : List ℕ) (inode : Option Inode) (there : IsThere (here c.caches a.rank.0 (leaf_of a))) (first : Leaf) (kept : IsKeptFor c.caches a.rank.0 first) (rank : a.rank.0 < length c.caches.used) where
  abbrev g : (f : Cached) × (here c.caches a.rank.0 (leaf_of a) ≡ Some f)
  g = its (here c.caches a.rank.0 (leaf_of a)) there

  held : map.get c.caches.held (leaf_of a) ≡ Some (lies_by a.rank.0 g.0)
  held = here_is a.rank.0 (map.get c.caches.held (leaf_of a)) g.0 g.1

  abbrev its_mark : Mark
  its_mark = record { version = c.next_version; inode = inode }

  pub kept_named : IsKeptFor (named c a name inode).caches a.rank.0 first
  kept_named = (
    ap (λ (o : Option Cached). has_place (edited_as c.caches a.rank.0 (leaf_of a) (λ (f : Cached). marked f name its_mark) o) a.rank.0 first) g.1 ∙ kept.0,
    ap (λ (k : CacheMap). map.get k.held first) (ap (edited_as c.caches a.rank.0 (leaf_of a) (λ (f : Cached). marked f name its_mark)) g.1) ∙ get_with_frag c.caches a.rank.0 (leaf_of a) (marked g.0 name its_mark) first
        ∙ ap (λ (b : Bool). cond b (Some (lies_by a.rank.0 (marked g.0 name its_mark))) (map.get c.caches.held first))
        (false_from_ne_true _ (λ one. let clash : None ≡ Some (lies_by a.rank.0 g.0) = sym kept.1 ∙ ap (map.get c.caches.held) (one_leaf first (leaf_of a) one) ∙ held in cc)) ∙ kept.1,
  )

-- where a fragment comes into the one place that is kept, none is kept then
pub filled_none : (c : CacheMap) (a : Dirfrag) (f : Cached) → KeepsOnlyAt (Some (a.rank, leaf_of a)) c → map.get c.held (leaf_of a) ≡ None → KeepsNone (with_frag c a.rank.0 (leaf_of a) f)
filled_none c a f only absent s q placed = ⊎_elim (λ is. is) (λ own. absurd (clash own.0 own.1)) (with_only (Some (a.rank, leaf_of a)) c a.rank.0 (leaf_of a) f (subst (IsFree a.rank.0) (sym absent) tt) rank only s q placed)
  where
    both : (t : ℕ) (l : Leaf) → ◌≡◌ {A = Option (Rank × Leaf)} (Some (a.rank, leaf_of a)) (Some (record { 0 = t }, l)) → ◌≡◌ {A = Rank × Leaf} (a.rank, leaf_of a) (record { 0 = t }, l)
    both t l own = same_Some (a.rank, leaf_of a) (record { 0 = t }, l) own

    rank : (t : ℕ) → map.get c.held (leaf_of a) ≡ None → ◌≡◌ {A = Option (Rank × Leaf)} (Some (a.rank, leaf_of a)) (Some (record { 0 = t }, leaf_of a)) → t ≡ a.rank.0
    rank t none own = sym (ap (λ (p : Rank × Leaf). p.0.0) (both t (leaf_of a) own))

    clash : map.get (with_frag c a.rank.0 (leaf_of a) f).held q ≡ None → ◌≡◌ {A = Option (Rank × Leaf)} (Some (a.rank, leaf_of a)) (Some (record { 0 = s }, q)) → ⊥
    clash none own = subst IsThere (ap (at_rank a.rank.0) (ap (map.get (with_frag c a.rank.0 (leaf_of a) f).held) (ap (λ (p : Rank × Leaf). p.1) (both s q own)) ∙ none)) (subst IsThere (sym (here_put c a.rank.0 (leaf_of a) f)) tt)

-- ---- a directory comes

module _ (Uses Ends : ℕ → Leaf → Type 0) (old c : Core) (a : Dirfrag) (before : HasMade Uses Ends (Some (a.rank, leaf_of a)) old c) (absent : map.get c.caches.held (leaf_of a) ≡ None) (home : Home) (room : Rooms)
    (live : IsLive (map.insert c.homes a.dir.0 home) c.covers (leaf_of a)) (still : (leaf : Leaf) → IsLive c.homes c.covers leaf → IsLive (map.insert c.homes a.dir.0 home) c.covers leaf) where
  pub made_dir : (IsLive old.homes old.covers (leaf_of a) → ⊥) → Uses a.rank.0 (leaf_of a) → HasMade Uses Ends None old (with_dir c a home room)
  made_dir new uses =
      let fresh = made_frag c.next_generation in
      let grown = state_of (with_dir c a home room) in
      record {
        came = has c.caches a.rank.0 (leaf_of a) fresh before.came uses;
        cached = cached_with grown c.caches a.rank.0 (leaf_of a) fresh (cached_on (state_of c) grown c.caches still refl (omega arith) before.cached) (record { live = live; tied = tt; made = omega arith });
        only = none_only None (with_dir c a home room).caches (filled_none c.caches a fresh before.only absent);
        generations = generations_beside (state_of old) old.caches c.caches a.rank.0 (leaf_of a) fresh new before.generations;
      }

-- ---- leaves end

-- what isn't clean of a leaf that ends is gone
ended_unclean : (c : CacheMap) (leaf : Leaf) → unclean (ended c leaf) ≡ map.remove (unclean c) leaf
ended_unclean c leaf = elim (map.get c.held leaf) as (λ o. map.get c.held leaf ≡ o → unclean (ended_at c leaf o) ≡ map.remove (unclean c) leaf) [
  | None ↦ λ is. unclean_alike c (given_up c 0 leaf) (λ q. ap unsaved_at (sym (ap (λ (o : Option Cached). map.get (removed c.held leaf o) q) (ap (at_rank 0) is)))) ∙ unclean_given_up c 0 leaf (subst (IsFree 0) (sym is) tt)
  | Some a ↦ λ is. unclean_given_up c a.rank leaf (subst (IsFree a.rank) (sym is) refl)
] refl

pub unclean_ended : (c : CacheMap) (ls : List Leaf) → unclean (ended_all c ls) ≡ without_leaves (unclean c) ls
unclean_ended c [] = refl
unclean_ended c (leaf ∷ ls) = unclean_ended (ended c leaf) ls ∙ ap (λ (u : UnsavedLeaves). without_leaves u ls) (ended_unclean c leaf)

-- what is cached still was so before, and didn't end
ended_held : (c : CacheMap) (leaf q : Leaf) (a : At) → map.get (ended c leaf).held q ≡ Some a → (leaf_is q leaf ≡ false) × (map.get c.held q ≡ Some a)
ended_held c leaf q a is = go (map.get c.held leaf) refl is
  where
    go : (o : Option At) → map.get c.held leaf ≡ o → map.get (ended_at c leaf o).held q ≡ Some a → (leaf_is q leaf ≡ false) × (map.get c.held q ≡ Some a)
    go None lies_by h = (false_from_ne_true _ (λ one. let clash : None ≡ Some a = sym lies_by ∙ ap (map.get c.held) (sym (one_leaf q leaf one)) ∙ h in cc), h)
    go (Some b) lies_by h =
        cond_both (leaf_is q leaf) None (map.get c.held q) (λ o. o ≡ Some a → (leaf_is q leaf ≡ false) × (map.get c.held q ≡ Some a)) (λ one h. let clash : None ≡ Some a = h in absurd cc) (λ apart h. (apart, h))
        (sym (get_given_up c b.rank leaf q (subst (IsFree b.rank) (sym lies_by) refl)) ∙ h)

pub still_held : (c : CacheMap) (ls : List Leaf) (q : Leaf) (a : At) → map.get (ended_all c ls).held q ≡ Some a → (list_any (leaf_is q) ls ≡ false) × (map.get c.held q ≡ Some a)
still_held c [] q a is = (refl, is)
still_held c (leaf ∷ ls) q a is =
    let later = still_held (ended c leaf) ls q a is in
    let first = ended_held c leaf q a later.1 in
    ((λ i. first.0 i || later.0 i), first.1)

-- the caches came from those before by ends of leaves that are named so
pub ends_came_so : (Uses Ends : ℕ → Leaf → Type 0) (old c : CacheMap) (ls : List Leaf) → ((r : ℕ) (leaf : Leaf) → Contains ls leaf → Ends r leaf) → Came Uses Ends old c → Came Uses Ends old (ended_all c ls)
ends_came_so Uses Ends old c [] named came = came
ends_came_so Uses Ends old c (leaf ∷ ls) named came = ends_came_so Uses Ends old (ended c leaf) ls (λ r q has. named r q (suc has.0, omega (arith, has.1), has.2))
    (elim (map.get c.held leaf) as (λ o. Came Uses Ends old (ended_at c leaf o)) [ None ↦ came | Some a ↦ ends c a.rank leaf came (named a.rank leaf (zero, omega arith, refl)) ])

-- so where all leaves of a directory are
pub ends_came : (Uses Ends : ℕ → Leaf → Type 0) (old c : CacheMap) (dir : Ino) (frags : List Fragment) → ((r : ℕ) (leaf : Leaf) → leaf.0 ≡ dir → Ends r leaf) → Came Uses Ends old c → Came Uses Ends old (ended_all c (leaves_in dir frags))
ends_came Uses Ends old c dir frags named = ends_came_so Uses Ends old c (leaves_in dir frags) (λ r leaf has. named r leaf (its_dir frags leaf has))
  where
    its_dir : (fs : List Fragment) (leaf : Leaf) → Contains (leaves_in dir fs) leaf → leaf.0 ≡ dir
    its_dir [] leaf (k, within, is) = absurd (omega (arith, within))
    its_dir (f ∷ fs) leaf (zero, within, is) = ap (λ (l : Leaf). l.0) (sym is)
    its_dir (f ∷ fs) leaf (suc k, within, is) = its_dir fs leaf (k, omega (arith, within), is)

-- and no place is kept then, if none was
pub none_ended : (c : CacheMap) (leaf : Leaf) → AreCaches c → KeepsNone c → KeepsNone (ended c leaf)
none_ended c leaf valid none = elim (map.get c.held leaf) as (λ o. map.get c.held leaf ≡ o → KeepsNone (ended_at c leaf o)) [
  | None ↦ λ is. none
  | Some a ↦ λ is. none_given_up c (given_up c a.rank leaf) a.rank leaf (holder_there c leaf a valid is) valid none refl
] refl

-- ---- a directory goes, or none

module _ (c : Core) (counts : Counts) (gone : Option Ino) (room : Rooms) where
  abbrev after : Option Ino → Core
  after went = without_dir (record c { counts = counts }) went room

  abbrev pub left : Core
  left = after gone

  -- the state without_gone_dir the directory, but for the counts and the pins
  abbrev without_by : Option Ino → State
  without_by went = record (without_gone_dir (state_of c) went) { counts = rows_but counts went; pins = rows_but c.pins went }

  pub is_gone : state_of left ≡ without_by gone
  is_gone = go gone
    where
      go : (went : Option Ino) → state_of (after went) ≡ without_by went
      go None = refl
      go (Some dir) = ap (λ (u : UnsavedLeaves). record (without_by (Some dir)) { unsaved = u }) (unclean_ended c.caches (leaves c.covers dir.0))

  module _ (Uses Ends : ℕ → Leaf → Type 0) (old : Core) (named : (r : ℕ) (leaf : Leaf) → gone ≡ Some leaf.0 → Ends r leaf) (before : HasMade Uses Ends None old c) where
    pub made_gone : (KeepsNone c.caches → KeepsNone left.caches) → HasMade Uses Ends None old left
    made_gone stays_none = record {
      came = comes gone named;
      cached = subst (λ (s : State). AllCachedIn s left.caches) (sym is_gone) (stay gone);
      only = none_only None left.caches (stays_none (only_none c.caches before.only));
      generations = keeps gone;
    }
      where
        keeps : (went : Option Ino) → KeepGenerations (state_of old) old.caches (after went).caches
        keeps None = before.generations
        keeps (Some dir) = λ leaf a live is. before.generations leaf a live (still_held c.caches (leaves c.covers dir.0) leaf a is).1

        comes : (went : Option Ino) → ((r : ℕ) (leaf : Leaf) → went ≡ Some leaf.0 → Ends r leaf) → Came Uses Ends old.caches (after went).caches
        comes None named = before.came
        comes (Some dir) named = ends_came Uses Ends old.caches c.caches dir (leaves_of c.covers dir.0) (λ r leaf is. named r leaf (ap (λ (d : Ino). Some d) (sym is))) before.came

        stay : (went : Option Ino) → AllCachedIn (without_by went) (after went).caches
        stay None leaf a is = let cached : IsCachedIn (state_of c) leaf a.frag = before.cached leaf a is in record { live = cached.live; tied = cached.tied; made = cached.made }
        stay (Some dir) leaf a is =
            let was = still_held c.caches (leaves c.covers dir.0) leaf a is in
            let cached : IsCachedIn (state_of c) leaf a.frag = before.cached leaf a was.1 in
            record {
              live = left_live_at (state_of c) dir leaf cached.live was.0;
              tied = cached.tied;
              made = cached.made;
            }

-- ---- an entry moves

-- where one leaf has room for two changes and another, or the same, for one, that one has room still once a name of the first changed
pub room_left : (c : CacheMap) (r s : ℕ) (source target : Leaf) (name : List ℕ) (mark : Mark) → HasCached (here c r source) (λ (f : Cached). 1 < f.room) → HasRoom (here c s target) → HasRoom (here (with_mark c r source name mark) s target)
room_left c r s source target name mark two one = by (here c r source) refl two
  where
    by : (o : Option Cached) → here c r source ≡ o → HasCached o (λ (f : Cached). 1 < f.room) → HasRoom (here (with_mark c r source name mark) s target)
    by None seen two = absurd two
    by (Some f) seen two =
        subst HasRoom (sym (ap (λ (k : CacheMap). here k s target) (ap (edited_as c r source (λ (g : Cached). marked g name mark)) seen) ∙ here_with_frag c r source (marked f name mark) s target))
        (cond_both (leaf_is target source) (cond (r == s) (Some (marked f name mark)) None) (here c s target) HasRoom (λ same. cond_both (r == s) (Some (marked f name mark)) None HasRoom (λ rank. omega (arith, two))
        (λ apart. subst HasRoom (ap (here c s) (one_leaf target source same) ∙ ap (at_rank s) (here_is r (map.get c.held source) f seen) ∙ ap (λ b. cond b (Some f) None) apart) one)) (λ apart. one))
