-- What Import makes of a tree that is divided among ranks: the importer of a sent region holds it, and has what isn't clean of it.
use Rattle.ranked_tree.proofs.Common.{AreAtTheirRank, AreCachedOf, AreCaches, AreCleanAt, ArePlaced, AreUncleanAt, At, Bool, CacheMap, Cached, ComeToImporter, ComesTo, Core, Covers, Dirfrag, Err, Export, HandsFragmentsOver, HandsRegion, HandsRegionOver, HasHolder, HasTooMany, HaveNoJobs, Homes, IfErr, IfErr-weaker, Imported, Imports, IsDistinct, IsDivided, IsExportOf, IsGivenOver, IsHere, IsOfRegion, IsInRegionOf, IsRenewed, IsSoundCore, IsSpelled, IsSpelledBy, KeepsOutside, LacksPlacesAt, Leaf, List, MatchOption, MayNotHandOver, MayNotImport, NearestRoot, None, Ok, OnErr, OnOk, Option, Rank, Refusal, RegionLeaves, Regions, Result, Sent, SentFrag, Some, Spelled, SpellsExport, SpellsRegion, StandSoundly, Standing, StandingExport, State, Subtrees, TakesRegion, UncleanLeaves, Unsaved, [], all_left_at, all_so, and_parts, ap, arith, lies_by, at_rank, cases_Bool, clean_in, cond, cond_both, each_passes, eq_by_cmp, export_bytes, false, false≢true, few_lack, find, get-entries, handed_where, hands_over, held_in, here, here_of, holder_is, how_many, imported_unsaved, inl, inr, is_base_of, is_clean, is_frag_before, is_fragment, is_freezing, is_imported, is_name_before, is_same, is_sendable, is_sent_frag, is_sent_name, leaf_cmp, leaf_is, left_by, length, list_all, list_any, moved_all, nat_lt, nat_tests, near_to, none-some, none_unless, not, one_authority, one_export, one_root, one_value, option_map, order, passing_picked, picked_distinct, picked_passes, refl, rise, rules, same_Some, same_or_apart, sent_of, state_of, subst, sym, true, unclean, unclean_in, valid_so, wants_from, ℕ, ⊎_elim, ◌&&◌, ◌==◌, ◌^◌, ◌∙◌, ◌∷◌, ◌≡◌, ◌≤◌, ◌⊎◌}
use Rattle.std.specs.FinMap as map
use Rattle.std.proofs.Common.{◌≢◌, is_some, map as list_map}
use Rattle.ranked_tree.proofs.HeldLaws.{held_after}
use Rattle.ranked_tree.proofs.SendLaws.{at_root, export_here, of_tree, region_held, region_here}
use Rattle.ranked_tree.proofs.StandLaws.{divided_still, held_bound, same_jobs}
use Rattle.ranked_tree.proofs.StepLaws.{step_there}

-- ---- the region of a sent export

module _ (core : Core) (regions : Regions) (divided : IsDivided core regions) (root : Leaf) (export : StandingExport) (stands : map.get regions.exports root ≡ Some export) (sent : export.state ≡ Sent) where
  abbrev In : Leaf → Type 0
  In leaf = IsInRegionOf (state_of core) regions.roots.roots root leaf

  at_home : AreAtTheirRank In core.caches export.exporter.0
  at_home = region_here core regions divided root export stands (ap is_freezing sent) (ap is_imported sent)

  module _ (leaves : RegionLeaves) (cached : AreCachedOf In core.caches export.exporter.0 leaves) where
    -- what is handed over: the leaves of the region that are unclean, with no job, and those that are clean
    pub record AreReady : Type 0 where
      pub unclean : AreUncleanAt core.caches export.exporter.0 leaves.unclean
      pub clean : AreCleanAt core.caches export.exporter.0 leaves.clean
      pub jobless : HaveNoJobs core.jobs leaves.unclean
      pub distinct : AreCaches core.caches → IsDistinct leaf_is leaves.unclean

    pub ready : AreReady
    ready =
        let dirty = each_passes In unclean_in core.caches export.exporter.0 (order core.caches export.exporter.0) leaves.unclean cached.unclean in
        record {
          unclean = all_so _ (λ (leaf : Leaf). unclean_in (here core.caches export.exporter.0 leaf) ≡ true) (λ q both. both.0) leaves.unclean dirty;
          clean = all_so _ (λ (leaf : Leaf). clean_in (here core.caches export.exporter.0 leaf) ≡ true) (λ q both. both.0) leaves.clean
              (each_passes In clean_in core.caches export.exporter.0 (order core.caches export.exporter.0) leaves.clean cached.clean);
          jobless = all_so _ (λ (leaf : Leaf). map.get core.jobs leaf ≡ None) (λ q both.
              none_unless (map.get core.jobs q) (λ job is. divided.stand.unbegun q job is (record { root = root; export = export; nearest = both.1; stands = stands; freezing = ap is_freezing sent }))) leaves.unclean dirty;
          distinct = λ valid. picked_distinct In unclean_in core.caches export.exporter.0 (order core.caches export.exporter.0) leaves.unclean cached.unclean (valid.distinct export.exporter.0);
        }

    module _ (valid : AreCaches core.caches) where
      -- each fragment of the region that isn't clean is one of them,
      dirty_picked : (leaf : Leaf) (f : Cached) → here core.caches export.exporter.0 leaf ≡ Some f → is_clean f ≡ false → In leaf → list_any (leaf_is leaf) leaves.unclean ≡ true
      dirty_picked leaf f seen dirty near =
          passing_picked In unclean_in core.caches export.exporter.0 (order core.caches export.exporter.0) leaves.unclean cached.unclean leaf (valid.placed export.exporter.0 leaf (ap (λ (o : Option Cached). is_some o) seen)) (ap unclean_in seen ∙ ap not dirty) near

      -- so what is unsaved is of generation 0 there, and nowhere else
      abbrev had : Leaf → Option Unsaved
      had leaf = map.get (unclean core.caches) leaf

      pub renewed : (new : Core) → IsGivenOver leaves.unclean (state_of core) (state_of new) → IsRenewed In (state_of core) (state_of new)
      renewed new given = record {
        within = λ leaf near.
            given.unsaved leaf
            ∙ cond_both (list_any (leaf_is leaf) leaves.unclean) (option_map imported_unsaved (had leaf)) (had leaf) (λ o. o ≡ option_map imported_unsaved (had leaf)) (λ among. refl) (kept leaf near (had leaf) refl);
        others = λ leaf out.
            given.unsaved leaf
            ∙ cond_both (list_any (leaf_is leaf) leaves.unclean) (option_map imported_unsaved (had leaf)) (had leaf) (λ o. o ≡ had leaf)
            (λ among. absurd (out (picked_passes In unclean_in core.caches export.exporter.0 (order core.caches export.exporter.0) leaves.unclean cached.unclean leaf among).1)) (λ apart. refl);
        left = given.beside;
      }
        where
          kept : (leaf : Leaf) → In leaf → (u : Option Unsaved) → had leaf ≡ u → list_any (leaf_is leaf) leaves.unclean ≡ false → had leaf ≡ option_map imported_unsaved (had leaf)
          kept leaf near None is among = is ∙ sym (ap (option_map imported_unsaved) is)
          kept leaf near (Some u) is among =
              let h : IsHere In core.caches export.exporter.0 at_home leaf u = here_of In core.caches export.exporter.0 at_home leaf u near is in
              absurd (false≢true (sym among ∙ dirty_picked leaf h.frag h.seen h.dirty near))

      -- each cached fragment of the region is at the importer then, and each other one is where it was
      pub came : (new : CacheMap) → export.exporter.0 ≢ export.importer.0 → HandsFragmentsOver export.exporter.0 export.importer.0 leaves.unclean leaves.clean core.caches new → ComeToImporter In export.importer core.caches new
      came new apart h leaf a is =
          ⊎_elim (λ there. inl ((picked_passes In unclean_in core.caches export.exporter.0 (order core.caches export.exporter.0) leaves.unclean cached.unclean leaf there.0).1, there.1))
          (λ was. stays was.0 was.1 ((holder_is regions.exports regions.roots.roots core.homes core.covers leaf (record { 0 = a.rank })).1 (divided.owned.held.cached leaf a was.1)))
          (handed_where export.exporter.0 export.importer.0 apart leaves.unclean leaves.clean core.caches new ready.unclean h leaf a is)
        where
          moved : Option At
          moved = map.get (moved_all h.0 export.exporter.0 export.importer.0 leaves.unclean).held leaf

          -- what is clean of the region has gone
          gone : a.rank ≡ export.exporter.0 → list_any (leaf_is leaf) leaves.clean ≡ true → ⊥
          gone rank among = by _ (sym (ap (λ (k : CacheMap). map.get k.held leaf) h.2 ∙ all_left_at (moved_all h.0 export.exporter.0 export.importer.0 leaves.unclean) export.exporter.0 leaves.clean leaf ∙ ap (λ (b : Bool). cond b (left_by export.exporter.0 moved) moved) among) ∙ is)
            where
              by : (o : Option At) → left_by export.exporter.0 o ≡ Some a → ⊥
              by None none = none-some a none
              by (Some x) left =
                  cond_both (x.rank == export.exporter.0) None (Some x) (λ o. o ≡ Some a → ⊥) (λ same none. none-some a none)
                  (λ other left. false≢true (sym other ∙ is_same x.rank export.exporter.0 (ap (λ (y : At). y.rank) (same_Some x a left) ∙ rank))) left

          stays : list_any (leaf_is leaf) leaves.unclean ≡ false → map.get core.caches.held leaf ≡ Some a → HasHolder regions.exports regions.roots.roots core.homes core.covers leaf (record { 0 = a.rank })
              → (In leaf × (a.rank ≡ export.importer.0)) ⊎ ((In leaf → ⊥) × (f : Cached) × (map.get core.caches.held leaf ≡ Some (lies_by a.rank f)))
          stays among was holder =
              ⊎_elim (λ same.
              let near : In leaf = subst (NearestRoot regions.roots.roots core.homes core.covers leaf) same holder.nearest in
              let mine : a.rank ≡ export.exporter.0 = ap (λ (r : Rank). r.0)
              (one_authority (held_in regions) core.homes core.covers leaf (record { 0 = a.rank }) export.exporter (divided.owned.held.cached leaf a was) (region_held core regions divided root export stands (ap is_freezing sent) (ap is_imported sent) leaf near)) in
              let seen : here core.caches export.exporter.0 leaf ≡ Some a.frag = ap (at_rank export.exporter.0) was ∙ ap (λ (b : Bool). cond b (Some a.frag) None) (is_same a.rank export.exporter.0 mine) in
              absurd (⊎_elim (λ clean. gone mine (passing_picked In clean_in core.caches export.exporter.0 (order core.caches export.exporter.0) leaves.clean cached.clean leaf
              (valid.placed export.exporter.0 leaf (ap (λ (o : Option Cached). is_some o) seen)) (ap clean_in seen ∙ clean) near)) (λ dirty. false≢true (sym among ∙ dirty_picked leaf a.frag seen dirty near)) (cases_Bool (is_clean a.frag))))
              (λ other. inr ((λ near. other (one_root regions.roots.roots core.homes core.covers leaf holder.root root holder.nearest near)), a.frag, was)) (same_or_apart holder.root root)

-- ---- which leaves an Import takes, over the caches and tables that a call is given

-- what holds of each value of a map holds of the one that is found
of_values : {X : Type 0} (p : X → Bool) (es : List (Leaf × X)) (q : Leaf) (x : X) → list_all p (list_map (λ (e : Leaf × X). e.1) es) ≡ true → find leaf_cmp q es ≡ Some x → p x ≡ true
of_values {X} p [] q x all found = absurd (none-some x found)
of_values {X} p (e ∷ es) q x all found =
    let both : (p e.1 ≡ true) × (list_all p (list_map (λ (e : Leaf × X). e.1) es) ≡ true) = and_parts (p e.1) (list_all p (list_map (λ (e : Leaf × X). e.1) es)) all in
    cond_both (eq_by_cmp leaf_cmp q e.0) (Some e.1) (find leaf_cmp q es) (λ o. o ≡ Some x → p x ≡ true) (λ same is. subst (λ (y : X). p y ≡ true) (same_Some e.1 x is) both.0) (λ apart is. of_values p es q x both.1 is) found

-- the last of some tests
last_tests : (a b c d : Bool) → (a && (b && (c && d))) ≡ true → (c ≡ true) × (d ≡ true)
last_tests a b c d is = and_parts c d (and_parts b (c && d) (and_parts a (b && (c && d)) is).1).1

-- an export that may be sent has no fragment with too many dirty names
few_sent : (Within : Leaf → Type 0) (m : UncleanLeaves) (root : Dirfrag) (to : Rank) (export : Export) → IsExportOf Within m root to export → is_sendable export ≡ true → HasTooMany Within m → ⊥
few_sent Within m root to export is sendable has =
    let here_sent : map.get is.sent has.leaf ≡ Some (sent_of has.leaf has.unsaved) = is.are.all has.leaf has.within ∙ ap (option_map (sent_of has.leaf)) has.beside in
    let each : list_all is_sent_frag export.frags ≡ true = (and_parts (rise is_frag_before None export.frags) (list_all is_sent_frag export.frags) (last_tests (nat_lt export.ino.0 (2 ^ 64) && is_fragment export.frag) (nat_lt export.exporter.0 16 && (nat_lt export.importer.0 16 && not (export.exporter.0 == export.importer.0))) (nat_lt (length export.frags) (2 ^ 32))
    (rise is_frag_before None export.frags && list_all is_sent_frag export.frags) sendable).1).1 in
    let sent : SentFrag = sent_of has.leaf has.unsaved in
    let one : is_sent_frag sent ≡ true = of_values is_sent_frag (map.entries is.sent) has.leaf sent (ap (list_all is_sent_frag) (sym is.frags) ∙ each) (sym (get-entries is.sent has.leaf) ∙ here_sent) in
    let counted : nat_lt (length sent.names) (2 ^ 32) ≡ true = (last_tests (nat_lt sent.ino.0 (2 ^ 64) && is_fragment sent.frag) (is_base_of sent.base (length sent.names)) (nat_lt (length sent.names) (2 ^ 32))
    (rise is_name_before None sent.names && list_all is_sent_name sent.names) one).0 in
    let many : 2 ^ 32 ≤ length sent.names = subst (λ (n : ℕ). 2 ^ 32 ≤ n) (sym (how_many has.unsaved.dirty)) has.many in
    grind (arith, nat_tests, counted, many)

module _ (core : Core) (regions : Regions) (root : Leaf) (export : StandingExport) (caches : CacheMap) (homes : Homes) (covers : Covers) (these : caches ≡ core.caches) (same : homes ≡ core.homes) (alike : covers ≡ core.covers) where
  abbrev from : Dirfrag
  from = at_root core regions root export caches homes covers these same alike

  abbrev Found : Option Spelled → Type 0
  Found o = MatchOption o (HasTooMany (IsOfRegion regions.roots.roots homes covers root) (unclean caches)) (IsSpelled (IsOfRegion regions.roots.roots homes covers root) caches from export.importer)

  module _ (o : Option Spelled) (found : Found o) (bytes : List ℕ) where
    -- a region that can't be sent has no bytes
    pub given_many : o ≡ None → SpellsRegion (state_of core) regions.roots.roots root export bytes → ⊥
    given_many none spells = few_sent (IsInRegionOf (state_of core) regions.roots.roots root) (unclean core.caches) from export.importer spells.export spells.handed spells.spelled.sendable
        (of_tree core regions root export caches homes covers these same alike (λ k h cs. HasTooMany (IsOfRegion regions.roots.roots h cs root) (unclean k)) (subst Found none found))

    module _ (spelled : Spelled) (some : o ≡ Some spelled) where
      abbrev its : IsSpelled (IsOfRegion regions.roots.roots homes covers root) caches from export.importer spelled
      its = subst Found some found

      its_export : IsExportOf (IsInRegionOf (state_of core) regions.roots.roots root) (unclean core.caches) from export.importer its.export
      its_export = export_here core regions root export caches homes covers these same alike its.export its.handed

      -- what the exporter caches of it,
      pub given_cached : AreCachedOf (IsInRegionOf (state_of core) regions.roots.roots root) core.caches export.exporter.0 spelled.leaves
      given_cached = of_tree core regions root export caches homes covers these same alike (λ k h cs. AreCachedOf (IsOfRegion regions.roots.roots h cs root) k export.exporter.0 spelled.leaves) its.cached

      -- bytes that spell what is handed over,
      pub given_spelled : spelled.bytes.items ≡ bytes → IsSpelledBy (state_of core) regions.roots.roots root export bytes (length spelled.leaves.unclean)
      given_spelled equal = (record { export = its.export; spelled = subst (λ (b : List ℕ). SpellsExport b its.export) equal its.spells; handed = its_export }, its.many)

      -- and other bytes
      pub given_wrong : (spelled.bytes.items ≡ bytes → ⊥) → SpellsRegion (state_of core) regions.roots.roots root export bytes → ⊥
      given_wrong other spells =
          let one : spells.export ≡ its.export = one_export (IsInRegionOf (state_of core) regions.roots.roots root) (unclean core.caches) from export.importer spells.export its.export spells.handed its_export in
          other (its.spells.spelled ∙ ap export_bytes (sym one) ∙ sym spells.spelled.spelled)

-- ---- the region is taken

module _ (core new : Core) (regions : Regions) (divided : IsDivided core regions) (root : Leaf) (export : StandingExport) (stands : map.get regions.exports root ≡ Some export) (sent : export.state ≡ Sent) (apart : export.exporter.0 ≢ export.importer.0)
    (bytes : List ℕ) (leaves : RegionLeaves) (cached : AreCachedOf (IsInRegionOf (state_of core) regions.roots.roots root) core.caches export.exporter.0 leaves) (valid : AreCaches core.caches)
    (spelled : IsSpelledBy (state_of core) regions.roots.roots root export bytes (length leaves.unclean)) where
  pub took : (result : Result (Unit {0}) Refusal) → OnOk result (HandsFragmentsOver export.exporter.0 export.importer.0 leaves.unclean leaves.clean core.caches new.caches) → OnOk result (IsGivenOver leaves.unclean (state_of core) (state_of new)) → OnOk result (TakesRegion core new regions root export bytes)
  took (Err reason) h g = tt
  took (Ok done) h g = record {
    region = spelled.0;
    renewed = renewed core regions divided root export stands sent leaves cached valid new g;
    caches = record { leaves = leaves; cached = cached; handed = h; came = came core regions divided root export stands sent leaves cached valid new.caches apart h };
  }

  pub may_not : (result : Result (Unit {0}) Refusal) → IfErr result (MayNotHandOver export.importer.0 leaves.unclean core.caches new.caches) → IfErr result (MayNotImport (λ count rank. LacksPlacesAt count core rank) (state_of core) regions.roots.roots root export bytes)
  may_not result = IfErr-weaker result _ _ (λ reason.
      ⊎_elim (λ full. inr (inr (full.0, spelled.0, subst (λ (n : ℕ). LacksPlacesAt n core export.importer) (sym spelled.1) (few_lack (length leaves.unclean) core.caches export.importer.0 valid divided.owned.sound.none full.1)))) (λ memory. inl memory.0))

  -- where it isn't, each fragment that is cached was there
  pub still_divided : (result : Result (Unit {0}) Refusal) → IfErr result (MayNotHandOver export.importer.0 leaves.unclean core.caches new.caches) → OnErr result (state_of new ≡ state_of core) → length new.caches.used ≡ length core.caches.used → IsSoundCore new
      → OnErr result (IsDivided new regions)
  still_divided (Ok done) h l count sound = tt
  still_divided (Err reason) h l count sound =
      let homes : new.homes ≡ core.homes = ap (λ (s : State). s.homes) l in
      let covers : new.covers ≡ core.covers = ap (λ (s : State). s.covers) l in
      divided_still core new regions divided (record {
        sound = sound;
        valid = rw (homes, covers) divided.owned.valid;
        held = held_after (state_of new) new.caches (held_in regions) (rw count divided.owned.held.ranks) sound.none (λ leaf a is. rw (homes, covers) (divided.owned.held.cached leaf a (
            ⊎_elim (λ full. ap (λ (k : CacheMap). map.get k.held leaf) (sym full.2) ∙ is)
            (λ memory. wants_from export.exporter.0 export.importer.0 apart leaves.unclean core.caches new.caches (ready core regions divided root export stands sent leaves cached).unclean memory.2 leaf a is) h)));
      }) count (same_jobs (state_of core) (state_of new) (ap (λ (s : State). s.jobs) l)) homes covers

-- ---- Import

module _ (old new : Core) (regions : Regions) (later : Standing) (root : Leaf) (export : StandingExport) (divided : IsDivided old regions) (stands : map.get regions.exports root ≡ Some export) (step : ComesTo regions.exports later root Sent Imported)
    (bytes : List ℕ) (takes : TakesRegion old new regions root export bytes) where
  this : step.export ≡ export
  this = one_value _ step.export export step.stood stands

  homes_stay : new.homes ≡ old.homes
  homes_stay = ap (λ (s : State). s.homes) takes.renewed.left

  covers_stay : new.covers ≡ old.covers
  covers_stay = ap (λ (s : State). s.covers) takes.renewed.left

  hands : HandsRegionOver regions.exports later regions.roots.roots old.homes old.covers root export.importer
  hands = subst (λ (e : StandingExport). HandsRegionOver regions.exports later regions.roots.roots old.homes old.covers root e.importer) this (hands_over regions.exports later root step regions.roots.roots old.homes old.covers)

  pub imports : (subtrees : Subtrees) → subtrees ≡ regions.roots → Imports (record { tree = old; subtrees = regions.roots; exports = regions.exports }) (record { tree = new; subtrees = subtrees; exports = later }) root bytes
  imports subtrees same = record {
    step = step;
    region = subst (λ (e : StandingExport). SpellsRegion (state_of old) regions.roots.roots root e bytes) (sym this) takes.region;
    renewed = takes.renewed;
    caches = subst (λ (e : StandingExport). HandsRegion (IsInRegionOf (state_of old) regions.roots.roots root) e old.caches new.caches) (sym this) takes.caches;
  }

  abbrev now : Regions
  now = record { roots = regions.roots; exports = later }

  module _ (sound : IsSoundCore new) (count : length new.caches.used ≡ length old.caches.used) (placed : ArePlaced later regions.roots) where
    stand_now : StandSoundly (state_of new) (length new.caches.used) regions.roots later
    stand_now = record {
      valid = rw (homes_stay, covers_stay) divided.stand.valid;
      placed = placed;
      ranked = rw count divided.stand.ranked;
      there = rw count (step_there (length old.caches.used) regions.exports later root Sent Imported step divided.stand.there);
      unbegun = λ leaf job is frozen. divided.stand.unbegun leaf job (ap (λ (s : State). map.get s.jobs leaf) (sym takes.renewed.left) ∙ is) ((hands.frozen leaf).0 (rw (← homes_stay, ← covers_stay) frozen));
    }

    pub imported_divided : IsDivided new now
    imported_divided = record {
      owned = record {
        sound = sound;
        valid = (valid_so later regions.roots.roots new.homes new.covers).0 stand_now.valid;
        held = held_after (state_of new) new.caches (held_in now) (held_bound (state_of new) (length new.caches.used) regions.roots later stand_now) sound.none
            -- whoever had a fragment holds it
            (λ leaf a is. rw (homes_stay, covers_stay) ((holder_is later regions.roots.roots old.homes old.covers leaf (record { 0 = a.rank })).0
            (⊎_elim (λ there. subst (λ (n : ℕ). HasHolder later regions.roots.roots old.homes old.covers leaf (record { 0 = n })) (sym there.1) (hands.region leaf there.0))
            (λ was. hands.others leaf (record { 0 = a.rank }) was.0 ((holder_is regions.exports regions.roots.roots old.homes old.covers leaf (record { 0 = a.rank })).1 (divided.owned.held.cached leaf (lies_by a.rank was.1) was.2)))
            (takes.caches.came leaf a is))));
      };
      stand = stand_now;
    }

  -- each leaf outside the region keeps its holder
  pub imported_others : KeepsOutside (Some root) (state_of old) (state_of new) (held_in regions) (held_in now)
  imported_others leaf rank live still outside rules =
      rw (homes_stay, covers_stay) ((holder_is later regions.roots.roots old.homes old.covers leaf rank).0 (hands.others leaf rank (λ near. outside (near_to regions.exports regions.roots.roots old.homes old.covers leaf root near))
      ((holder_is regions.exports regions.roots.roots old.homes old.covers leaf rank).1 rules)))
