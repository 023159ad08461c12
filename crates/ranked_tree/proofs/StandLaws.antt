-- What is kept of the exports that stand: by what changes neither directories nor roots, and by what changes no frozen leaf.
use Rattle.ranked_tree.proofs.Common.{AllHave, Alters, AreFrozenRegionsKept, AreRoots, AreThawed, Begins, BeginsUnsaved, CacheMap, CameAt, Change, Core, Covers, Drops, EndsJobOf, Err, Fragment, HasAuthority, Homes, Ino, IsDivided, IsFrozen, IsFrozenIn, IsLive, IsOwned, IsSound, IsSoundCore, Job, Jobs, KeepsAuthorities, KeepsHolders, Leaf, List, Makes, NearestRoot, NoNewRank, None, Ok, Option, Rank, Refusal, Regions, Result, Roots, Shape, Some, StandSoundly, Standing, StandingExport, Subtrees, Unsaved, UsedAt, add, ap, came_weaker, cond_both, dentry_at, get-empty, get_beside, get_holding, get_left, get_removed, get_without, held_in, holder_is, holder_or, holding, imported_freezes, is_dir_kind, is_imported, keep_frozen, keep_holders, leaf-exact, leaf-total, leaf_cmp, leaf_is, length, list_any, move, none-some, option_map, refl, region_holder, remove, rules, same_Some, same_map, same_or_apart, set, state_of, subst, sym, unclean, with_directory, without_gone_dir, without_leaves, ℕ, ⊎_elim, ◌<◌, ◌∙◌, ◌≡◌, State}
use Rattle.std.specs.FinMap as map
use Rattle.mdcache.specs.Commits.{leaf_of_job}
use Rattle.ranked_tree.proofs.HeldLaws.{held_after}

-- ---- jobs

-- each job that stands stood
abbrev pub FewerJobs : (old new : State) → Type 0
FewerJobs old new = (leaf : Leaf) (job : Job) → map.get new.jobs leaf ≡ Some job → map.get old.jobs leaf ≡ Some job

pub same_jobs : (old new : State) → new.jobs ≡ old.jobs → FewerJobs old new
same_jobs old new same leaf job is = ap (λ (j : Jobs). map.get j leaf) (sym same) ∙ is

pub jobs_without : (jobs : Jobs) (ls : List Leaf) (leaf : Leaf) (job : Job) → map.get (without_leaves jobs ls) leaf ≡ Some job → map.get jobs leaf ≡ Some job
jobs_without jobs ls leaf job is =
    cond_both (list_any (leaf_is leaf) ls) None (map.get jobs leaf) (λ o. o ≡ Some job → map.get jobs leaf ≡ Some job) (λ among gone. absurd (none-some job gone)) (λ apart found. found) (sym (get_without jobs ls leaf) ∙ is)

-- what is found where one was taken out was there
pub found_left : {X : Type 0} (m : map.FinMap leaf_cmp X) (k q : Leaf) (x : X) → map.get (map.remove m k) q ≡ Some x → map.get m q ≡ Some x
found_left {X} m k q x is =
    ⊎_elim (λ same. absurd (none-some x (sym (get_removed m k) ∙ ap (map.get (map.remove m k)) (sym same) ∙ is))) (λ apart. sym (get_left m k q apart) ∙ is) (same_or_apart q k)

jobs_kept : (s : State) (went : Option Ino) → FewerJobs s (without_gone_dir s went)
jobs_kept s went leaf job is = search (rules, jobs_without)

-- a change begins none
by_shape : (change : Change) → Shape change → (old new : State) → Alters change old new → FewerJobs old new
by_shape _ (set spot inode) old new makes = same_jobs old new (ap (λ (s : State). s.jobs) makes.2 ∙ ap (λ (s : State). s.jobs) makes.1.left)
by_shape _ (add spot inode) old new makes = same_jobs old new (ap (λ (s : State). s.jobs) makes.2 ∙ cond_both (is_dir_kind inode.kind) (with_directory makes.0 (dentry_at spot) inode.ino) makes.0 (λ (s : State). s.jobs ≡ makes.0.jobs) (λ dir. refl) (λ file. refl) ∙ ap (λ (s : State). s.jobs) makes.1.left)
by_shape _ (remove spot went) old new makes = λ leaf job is.
    same_jobs old makes.0 (ap (λ (s : State). s.jobs) makes.1.left) leaf job (jobs_kept makes.0 went leaf job (ap (λ (s : State). map.get s.jobs leaf) (sym makes.2) ∙ is))
by_shape _ (move from to inode went) old new (left, is_left, (named, is_named, is)) = λ leaf job stands.
    same_jobs old named (ap (λ (s : State). s.jobs) is_named.left ∙ ap (λ (s : State). s.jobs) is_left.left) leaf job
    (jobs_kept _ went leaf job (ap (λ (s : State). map.get s.jobs leaf) (sym is) ∙ stands))

pub change_jobs : (change : Change) → Shape change → (old new : State) → Makes change old new → FewerJobs old new
change_jobs change shape old new makes leaf job is = by_shape change shape old makes.0 makes.1 leaf job (ap (λ (s : State). map.get s.jobs leaf) (sym makes.2) ∙ is)

-- the leaf of a job is live
job_live : (s : State) → IsSound s → (leaf : Leaf) (job : Job) → map.get s.jobs leaf ≡ Some job → IsLive s.homes s.covers leaf
job_live s sound leaf job is = let standing = sound.standing leaf job is in (sound.unsaved leaf standing.unsaved standing.beside).live

-- ---- the ranks that hold regions have caches

pub held_bound : (tree : State) (count : ℕ) (subtrees : Subtrees) (exports : Standing) → StandSoundly tree count subtrees exports → (leaf : Leaf) (rank : Rank) → map.get (holding exports subtrees.roots) leaf ≡ Some rank → rank.0 < count
held_bound tree count subtrees exports stand leaf rank is = by (map.get subtrees.roots leaf) (map.get exports leaf) refl refl (sym (get_holding exports subtrees.roots leaf) ∙ is)
  where
    by : (o : Option Rank) (e : Option StandingExport) → map.get subtrees.roots leaf ≡ o → map.get exports leaf ≡ e → option_map (holder_or e) o ≡ Some rank → rank.0 < count
    by None e at stands holds = absurd (none-some rank holds)
    by (Some r) None at stands holds = stand.ranked leaf rank (at ∙ holds)
    by (Some r) (Some e) at stands holds =
        subst (λ (x : Rank). x.0 < count) (same_Some _ rank holds) (cond_both (is_imported e.state) e.importer r (λ (x : Rank). x.0 < count) (λ taken. (stand.there leaf e stands).1) (λ own. stand.ranked leaf r at))

-- ---- no export stands

-- each rank holds its own regions,
pub none_stand : (exports : Standing) (roots : Roots) → exports ≡ map.empty → holding exports roots ≡ roots
none_stand exports roots none =
    let same : (o : Option Rank) → option_map (holder_or None) o ≡ o = search rules in
    same_map leaf-total leaf-exact (holding exports roots) roots (λ q.
    get_holding exports roots q ∙ ap (λ (e : Standing). option_map (holder_or (map.get e q)) (map.get roots q)) none ∙ ap (λ (o : Option StandingExport). option_map (holder_or o) (map.get roots q)) (get-empty leaf_cmp q) ∙ same (map.get roots q))

-- and so they stand soundly
pub stand_none : (core : Core) (regions : Regions) → regions.exports ≡ map.empty → IsOwned core regions.roots.roots → IsDivided core regions
stand_none core regions none owned = record {
  owned = subst (IsOwned core) (sym (none_stand regions.exports regions.roots.roots none)) owned;
  stand = record {
    valid = owned.valid;
    placed = record { ranked = λ root export stands freezing. absurd (gone root export stands); promised = λ root export stands freezing. absurd (gone root export stands) };
    ranked = owned.held.ranks;
    there = λ root export stands. absurd (gone root export stands);
    unbegun = λ leaf job is frozen. gone frozen.root frozen.export frozen.stands;
  };
}
  where
    gone : (root : Leaf) (export : StandingExport) → map.get regions.exports root ≡ Some export → ⊥
    gone root export stands = let clash : None ≡ Some export = sym (get-empty leaf_cmp root) ∙ ap (λ (e : Standing). map.get e root) (sym none) ∙ stands in cc

-- ---- what an event leaves

-- each job of a frozen leaf that stands stood
abbrev FewerFrozen : (old new : State) → Roots → Standing → Type 0
FewerFrozen old new roots exports = (leaf : Leaf) (job : Job) → map.get new.jobs leaf ≡ Some job → IsFrozen exports roots old.homes old.covers leaf → map.get old.jobs leaf ≡ Some job

-- directories, leaves and roots stay
module _ (old new : State) (n m : ℕ) (was now : Subtrees) (exports : Standing) (stand : StandSoundly old n was exports) (count : m ≡ n) (fewer : FewerFrozen old new was.roots exports) where
  pub stand_still : new.homes ≡ old.homes → new.covers ≡ old.covers → now.roots ≡ was.roots → now.promises ≡ was.promises → StandSoundly new m now exports
  stand_still homes covers roots promises = record {
    valid = rw (homes, covers, roots) stand.valid;
    placed = record { ranked = rw roots stand.placed.ranked; promised = rw promises stand.placed.promised };
    ranked = rw (roots, count) stand.ranked;
    there = rw count stand.there;
    unbegun = λ leaf job is. rw (homes, covers, roots) (λ frozen. stand.unbegun leaf job (fewer leaf job is frozen) frozen);
  }

-- no frozen leaf changed
module _ (old new : State) (n m : ℕ) (was now : Subtrees) (exports : Standing) (stand : StandSoundly old n was exports) (count : m ≡ n) (fewer : FewerJobs old new) where
  module _ (kept : AreFrozenRegionsKept exports was now old.homes new.homes old.covers new.covers) where
    pub stand_kept : IsSound old → IsSound new → AreRoots new now.roots → NoNewRank was.roots now.roots → StandSoundly new m now exports
    stand_kept sound later valid none = record {
      valid = valid;
      placed = kept.placed;
      ranked = λ leaf rank is. let its = none leaf rank is in rw count (stand.ranked its.0 rank its.1);
      there = rw count stand.there;
      unbegun = λ leaf job is frozen.
          let stood = fewer leaf job is in
          stand.unbegun leaf job stood ((keep_frozen exports was now old.homes new.homes old.covers new.covers kept leaf (job_live old sound leaf job stood) (job_live new later leaf job is)).1 frozen);
    }

    pub keeps_held : KeepsAuthorities old new was.roots now.roots → KeepsHolders old new was.roots now.roots exports exports
    keeps_held keeps leaf rank live still rules =
        (holder_is exports now.roots new.homes new.covers leaf rank).0
        (keep_holders exports was now old.homes new.homes old.covers new.covers kept keeps leaf rank live still ((holder_is exports was.roots old.homes old.covers leaf rank).1 rules))

-- nothing was done, but that room was made for roots
pub undone : (old new : Core) (regions : Regions) (now : Subtrees) → IsDivided old regions → IsOwned new (held_in regions) → state_of new ≡ state_of old → length new.caches.used ≡ length old.caches.used
    → now.roots ≡ regions.roots.roots → now.promises ≡ regions.roots.promises → IsDivided new (record { roots = now; exports = regions.exports })
undone old new regions now divided owned same count roots promises = record {
  owned = subst (λ (r : Roots). IsOwned new (holding regions.exports r)) (sym roots) owned;
  stand = stand_still (state_of old) (state_of new) (length old.caches.used) (length new.caches.used) regions.roots now regions.exports divided.stand count
      (λ leaf job is frozen. same_jobs (state_of old) (state_of new) (ap (λ (s : State). s.jobs) same) leaf job is) (ap (λ (s : State). s.homes) same) (ap (λ (s : State). s.covers) same) roots promises;
}

-- so it is where of a tree neither directories, leaves nor the number of caches change, and no job begins
pub divided_still : (old new : Core) (regions : Regions) → IsDivided old regions → IsOwned new (held_in regions) → length new.caches.used ≡ length old.caches.used → FewerJobs (state_of old) (state_of new) → new.homes ≡ old.homes → new.covers ≡ old.covers → IsDivided new regions
divided_still old new regions divided owned count fewer homes covers = record {
  owned = owned;
  stand = stand_still (state_of old) (state_of new) (length old.caches.used) (length new.caches.used) regions.roots regions.roots regions.exports divided.stand count (λ leaf job is frozen. fewer leaf job is) homes covers refl refl;
}

-- nor do the caches
pub divided_same : (old new : Core) (regions : Regions) → IsDivided old regions → new.caches ≡ old.caches → IsSoundCore new → FewerJobs (state_of old) (state_of new) → new.homes ≡ old.homes → new.covers ≡ old.covers → IsDivided new regions
divided_same old new regions divided caches sound fewer homes covers =
    let count : length new.caches.used ≡ length old.caches.used = ap (λ (k : CacheMap). length k.used) caches in
    divided_still old new regions divided (record {
      sound = sound;
      valid = rw (homes, covers) divided.owned.valid;
      held = held_after (state_of new) new.caches (held_in regions) (rw count divided.owned.held.ranks) sound.none (λ leaf a is. rw (homes, covers) (divided.owned.held.cached leaf a (ap (λ (k : CacheMap). map.get k.held leaf) (sym caches) ∙ is)));
    }) count fewer homes covers

-- a commit of a leaf that isn't frozen began, or was refused
module _ (old new : Core) (regions : Regions) (divided : IsDivided old regions) (owned : IsOwned new (held_in regions)) (count : length new.caches.used ≡ length old.caches.used) (at : Leaf) (thawed : IsFrozenIn (state_of old) regions at → ⊥) where
  begun_jobs : (result : Result (Option Job) Refusal) → Begins (state_of old) (state_of new) at result → FewerFrozen (state_of old) (state_of new) regions.roots.roots regions.exports
  begun_jobs (Err reason) h leaf job is frozen = same_jobs (state_of old) (state_of new) (ap (λ (s : State). s.jobs) h.1) leaf job is
  begun_jobs (Ok begun) h leaf job is frozen = go (map.get (unclean old.caches) at) begun h.2
    where
      go : (u : Option Unsaved) (made : Option Job) → BeginsUnsaved (state_of old) (state_of new) at u made → map.get old.jobs leaf ≡ Some job
      go None made b = same_jobs (state_of old) (state_of new) (ap (λ (s : State). s.jobs) b.1) leaf job is
      go (Some u) None b = absurd b
      go (Some u) (Some made) b =
          ⊎_elim (λ same. absurd (thawed (subst (λ (l : Leaf). IsFrozenIn (state_of old) regions l) (same ∙ ap leaf_of_job b.0) frozen)))
          (λ apart. sym (get_beside old.jobs (leaf_of_job made) made leaf apart) ∙ ap (λ (s : State). map.get s.jobs leaf) (sym b.2) ∙ is) (same_or_apart leaf (leaf_of_job made))

  pub divided_begun : (result : Result (Option Job) Refusal) → Begins (state_of old) (state_of new) at result → new.homes ≡ old.homes → new.covers ≡ old.covers → IsDivided new regions
  divided_begun result begins homes covers = record {
    owned = owned;
    stand = stand_still (state_of old) (state_of new) (length old.caches.used) (length new.caches.used) regions.roots regions.roots regions.exports divided.stand count (begun_jobs result begins) homes covers refl refl;
  }

-- none stands
pub no_jobs : (old new : Core) → new.jobs ≡ map.empty → FewerJobs (state_of old) (state_of new)
no_jobs old new none leaf job is = absurd (none-some job (sym (get-empty leaf_cmp leaf) ∙ ap (λ (j : Jobs). map.get j leaf) (sym none) ∙ is))

-- other calls about commits end jobs at most
module _ (old new : State) where
  pub jobs_ended : (before after : ℕ) (job : Job) (result : Result (Unit {0}) Refusal) → EndsJobOf old new before after job result → FewerJobs old new
  jobs_ended before after job result h = search (rules, found_left)

  pub jobs_dropped : (number : ℕ) (result : Result (Unit {0}) Refusal) → Drops old new number result → FewerJobs old new
  jobs_dropped number result h = search (rules, found_left)

-- ---- a leaf that isn't frozen

-- its region is held by the rank of its root: so its authority holds it, and who holds it is its authority
module _ (exports : Standing) (roots : Roots) (homes : Homes) (covers : Covers) (leaf : Leaf) (rank : Rank) (thawed : IsFrozen exports roots homes covers leaf → ⊥) where
  own : (root : Leaf) → NearestRoot roots homes covers leaf root → (o : Option StandingExport) → map.get exports root ≡ o → region_holder o (map.get roots root) ≡ map.get roots root
  own root near None none = refl
  own root near (Some e) stands =
      cond_both (is_imported e.state) (Some e.importer) (map.get roots root) (λ o. o ≡ map.get roots root)
      (λ imported. absurd (thawed (record { root = root; export = e; nearest = near; stands = stands; freezing = imported_freezes e.state imported }))) (λ other. refl)

  pub thawed_held : HasAuthority roots homes covers leaf rank → HasAuthority (holding exports roots) homes covers leaf rank
  thawed_held has = (holder_is exports roots homes covers leaf rank).0 (record { root = has.root; nearest = has.nearest; holds = own has.root has.nearest (map.get exports has.root) refl ∙ has.ranked })

  pub thawed_rules : HasAuthority (holding exports roots) homes covers leaf rank → HasAuthority roots homes covers leaf rank
  thawed_rules has =
      let h = (holder_is exports roots homes covers leaf rank).1 has in record { root = h.root; nearest = h.nearest; ranked = sym (own h.root h.nearest (map.get exports h.root) refl) ∙ h.holds }

-- what was used at ranks that hold leaves was used at ranks of which more is known
pub came_by : (Holds More : Rank → Type 0) (Named : Leaf → Type 0) (old new : CacheMap) → ((rank : Rank) → Holds rank → More rank) → CameAt Holds Named old new → CameAt More Named old new
came_by Holds More Named old new more came = came_weaker (UsedAt Holds Named) (λ r q. Named q) (UsedAt More Named) (λ r q. Named q) (λ r q used. (more (record { 0 = r }) used.0, used.1)) (λ r q ends. ends) old new came

-- where the leaves inside a fragment aren't frozen, whose authority a rank is it holds
pub all_held : (exports : Standing) (roots : Roots) (homes : Homes) (covers : Covers) (dir : Ino) (frag : Fragment) → AreThawed exports roots homes covers dir frag → (rank : Rank) → AllHave homes covers roots dir frag rank → AllHave homes covers (holding exports roots) dir frag rank
all_held exports roots homes covers dir frag thawed rank all leaf live inside = thawed_held exports roots homes covers leaf rank (thawed leaf inside live) (all leaf live inside)
