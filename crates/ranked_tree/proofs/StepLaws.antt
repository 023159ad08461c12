-- What the steps of an export leave of a tree that is divided among ranks.
use Rattle.ranked_tree.proofs.Common.{ArePlaced, AreRoots, CacheMap, Cancels, ComesTo, Core, Covers, EndsRegion, Err, ExportState, Finishes, FreezesSoundly, Frozen, Homes, IsDivided, IsFreeze, IsFrozen, IsFrozenLeaf, IsLive, IsOwned, IsSome, IsSoundCore, KeepsAuthorities, KeepsOutside, Leaf, NearestRoot, Ok, Option, Prepared, Preps, Rank, Ranked, Refusal, Regions, Result, Roots, Rules, Sent, Some, StandSoundly, Standing, StandingExport, Started, Starts, Subtrees, ap, cancel_holding, cancels_soundly, come_to, finish_holding, finishes_soundly, freezes_soundly, get_beside, get_put, held_in, holder_is, holding, is_freezing, is_some, leaf_cmp, length, not_none, prep_holding, prep_soundly, refl, rules, same_Some, same_or_apart, send_holding, send_soundly, start_holding, start_soundly, state_of, subst, sym, valid_so, ℕ, ⊎_elim, ◌<◌, ◌∙◌, ◌≡◌, ◌≢◌, State}
use Rattle.std.specs.FinMap as map
use Rattle.ranked_tree.proofs.HeldLaws.{held_after}
use Rattle.ranked_tree.proofs.StandLaws.{found_left, held_bound}

-- what is found where one is put
put_cases : {X : Type 0} (m : map.FinMap leaf_cmp X) (k : Leaf) (x : X) (q : Leaf) (P : Option X → Type 0) → (q ≡ k → P (Some x)) → (q ≢ k → P (map.get m q)) → P (map.get (map.insert m k x) q)
put_cases {X} m k x q P here beside =
    ⊎_elim (λ same. subst P (sym (ap (map.get (map.insert m k x)) same ∙ get_put m k x)) (here same)) (λ apart. subst P (sym (get_beside m k x q apart)) (beside apart)) (same_or_apart q k)

-- the ranks of each export have caches
abbrev HasCaches : ℕ → StandingExport → Type 0
HasCaches count export = (export.exporter.0 < count) × (export.importer.0 < count)

abbrev pub AreThere : ℕ → Standing → Type 0
AreThere count exports = (root : Leaf) (export : StandingExport) → map.get exports root ≡ Some export → HasCaches count export

put_there : (count : ℕ) (old new : Standing) (at : Leaf) (put : StandingExport) → new ≡ map.insert old at put → HasCaches count put → AreThere count old → AreThere count new
put_there count old new at put is its there root export stands =
    put_cases old at put root (λ o. o ≡ Some export → HasCaches count export) (λ same found. subst (HasCaches count) (same_Some put export found) its) (λ apart. there root export) (ap (λ (m : Standing). map.get m root) (sym is) ∙ stands)

taken_there : (count : ℕ) (old new : Standing) (at : Leaf) → new ≡ map.remove old at → AreThere count old → AreThere count new
taken_there count old new at is there root export stands = there root export (found_left old at root export (ap (λ (m : Standing). map.get m root) (sym is) ∙ stands))

pub step_there : (count : ℕ) (old new : Standing) (root : Leaf) (from to : ExportState) → ComesTo old new root from to → AreThere count old → AreThere count new
step_there count old new root from to is there = put_there count old new root (come_to to is.export) is.changed (there root is.export is.stood) there

-- ---- steps that leave the roots, the ranks that hold regions and what is frozen

pub record IsStill (count : ℕ) (old new : Standing) (was now : Subtrees) : Type 0 where
  pub roots : now.roots ≡ was.roots
  pub holds : holding new now.roots ≡ holding old was.roots
  pub there : AreThere count old → AreThere count new
  pub froze : (homes : Homes) (covers : Covers) (leaf : Leaf) → IsFrozen new now.roots homes covers leaf → IsFrozen old was.roots homes covers leaf

unmoved : (count : ℕ) (old new : Standing) (was now : Subtrees) → new ≡ old → now.roots ≡ was.roots → IsStill count old new was now
unmoved count old new was now exports roots = record {
  roots = roots;
  holds = rw (exports, roots) refl;
  there = λ there. rw exports there;
  froze = λ homes covers leaf. rw (exports, roots) (λ frozen. frozen);
}

pub step_divided : (core : Core) (was now : Regions) → IsDivided core was → IsStill (length core.caches.used) was.exports now.exports was.roots now.roots → ArePlaced now.exports now.roots → IsDivided core now
step_divided core was now divided still placed = record {
  owned = subst (IsOwned core) (sym still.holds) divided.owned;
  stand = record {
    valid = rw still.roots divided.stand.valid;
    placed = placed;
    ranked = rw still.roots divided.stand.ranked;
    there = still.there divided.stand.there;
    unbegun = λ leaf job is frozen. divided.stand.unbegun leaf job is (still.froze core.homes core.covers leaf frozen);
  };
}

module _ (count : ℕ) (old new : Standing) (was now : Subtrees) (root : Leaf) where
  pub start_still : (exporter importer : Rank) → exporter.0 < count → importer.0 < count → (result : Result (Unit {0}) Refusal) → Starts old new root exporter importer result → IsStill count old new was was
  start_still exporter importer first second (Ok done) is = record {
    roots = refl;
    holds = start_holding old new root exporter importer is was.roots;
    there = put_there count old new root (record { exporter = exporter; importer = importer; state = Started }) is.1 (first, second);
    froze = λ homes covers leaf. ((start_soundly old new root exporter importer is was.roots homes covers).frozen leaf).0;
  }
  start_still exporter importer first second (Err reason) is = unmoved count old new was was is.1 refl

  pub prep_still : (result : Result (Unit {0}) Refusal) → Preps old new was now root result → IsStill count old new was now
  prep_still (Ok done) is = record {
    roots = is.roots;
    holds = ap (holding new) is.roots ∙ prep_holding old new root is.step was.roots;
    there = step_there count old new root Frozen Prepared is.step;
    froze = λ homes covers leaf. rw is.roots ((prep_soundly old new root is.step was.roots homes covers).frozen leaf).0;
  }
  prep_still (Err reason) is = unmoved count old new was now is.1 is.2.roots

  pub send_still : ComesTo old new root Prepared Sent → IsStill count old new was was
  send_still is = record {
    roots = refl;
    holds = send_holding old new root is was.roots;
    there = step_there count old new root Prepared Sent is;
    froze = λ homes covers leaf. ((send_soundly old new root is was.roots homes covers).frozen leaf).0;
  }

  pub cancel_still : (result : Result (Unit {0}) Refusal) → Cancels old new was now root result → IsStill count old new was now
  cancel_still (Ok done) is = record {
    roots = is.roots;
    holds = cancel_holding old new was now root is;
    there = taken_there count old new root is.ended;
    froze = λ homes covers leaf frozen. (((cancels_soundly old new was now root is homes covers).frozen leaf).0 (subst (λ (r : Roots). IsFrozen new r homes covers leaf) is.roots frozen)).1;
  }
  cancel_still (Err reason) is = unmoved count old new was now is.2 (ap (λ (s : Subtrees). s.roots) is.3)

-- ---- a root of a live leaf is put: those that were roots are, and their ranks have caches

put_roots : (tree : State) (before after : Roots) (root : Leaf) (rank : Rank) → after ≡ map.insert before root rank → IsLive tree.homes tree.covers root → AreRoots tree before → AreRoots tree after
put_roots tree before after root rank is live valid = rw is (record {
  top = λ f here. put_cases before root rank _ IsSome (λ same. refl) (λ apart. valid.top f here);
  live = λ q. put_cases before root rank q (λ o. IsSome o → IsLive tree.homes tree.covers q) (λ same some. subst (IsLive tree.homes tree.covers) (sym same) live) (λ apart. valid.live q);
})

put_ranked : (count : ℕ) (before after : Roots) (root : Leaf) (rank : Rank) → after ≡ map.insert before root rank → rank.0 < count
    → ((leaf : Leaf) (r : Rank) → map.get before leaf ≡ Some r → r.0 < count) → (leaf : Leaf) (r : Rank) → map.get after leaf ≡ Some r → r.0 < count
put_ranked count before after root rank is less ranked leaf r at =
    put_cases before root rank leaf (λ o. o ≡ Some r → r.0 < count) (λ same found. subst (λ (x : Rank). x.0 < count) (same_Some rank r found) less) (λ apart. ranked leaf r) (ap (λ (m : Roots). map.get m leaf) (sym is) ∙ at)

-- ---- Freeze

-- what Freeze asks of a leaf
pub record MayFreeze (ranked : Ranked) (leaf : Leaf) : Type 0 where
  pub live : IsLive ranked.tree.homes ranked.tree.covers leaf
  pub thawed : IsFrozenLeaf ranked leaf → ⊥
  pub mine : (export : StandingExport) → map.get ranked.exports leaf ≡ Some export → Rules (state_of ranked.tree) ranked.subtrees.roots leaf export.exporter

module _ (old new : Core) (was now : Regions) (root : Leaf) (divided : IsDivided old was) (may : MayFreeze (record { tree = old; subtrees = was.roots; exports = was.exports }) root) (is : IsFreeze was.exports now.exports was.roots now.roots root)
    (ends : EndsRegion (state_of old) (state_of new) now.roots.roots root) where
  homes_stay : new.homes ≡ old.homes
  homes_stay = ap (λ (s : State). s.homes) ends.left

  covers_stay : new.covers ≡ old.covers
  covers_stay = ap (λ (s : State). s.covers) ends.left

  soundly : FreezesSoundly was.exports now.exports was.roots.roots now.roots.roots old.homes old.covers root
  soundly = freezes_soundly was.exports now.exports was.roots now.roots root is old.homes old.covers may.thawed (may.mine is.step.export is.step.stood)

  pub freeze_authorities : KeepsAuthorities (state_of old) (state_of new) was.roots.roots now.roots.roots
  freeze_authorities leaf rank stood stands rules = rw (homes_stay, covers_stay) (soundly.authorities leaf rank rules)

  -- live or not
  pub freeze_holders : (leaf : Leaf) (rank : Rank) → Rules (state_of old) (held_in was) leaf rank → Rules (state_of new) (held_in now) leaf rank
  freeze_holders leaf rank rules =
      rw (homes_stay, covers_stay) ((holder_is now.exports now.roots.roots old.homes old.covers leaf rank).0 (soundly.holders leaf rank ((holder_is was.exports was.roots.roots old.homes old.covers leaf rank).1 rules)))

  module _ (caches : new.caches ≡ old.caches) (sound : IsSoundCore new) (placed : ArePlaced now.exports now.roots) where
    freeze_stands : StandSoundly (state_of new) (length new.caches.used) now.roots now.exports
    freeze_stands =
        let its = divided.stand.there root is.step.export is.step.stood in
        let count : length new.caches.used ≡ length old.caches.used = ap (λ (k : CacheMap). length k.used) caches in
        record {
          valid = rw (homes_stay, covers_stay) (put_roots (state_of old) was.roots.roots now.roots.roots root is.step.export.exporter is.roots may.live divided.stand.valid);
          placed = placed;
          ranked = rw count (put_ranked (length old.caches.used) was.roots.roots now.roots.roots root is.step.export.exporter is.roots its.0 divided.stand.ranked);
          there = rw count (put_there (length old.caches.used) was.exports now.exports root (come_to Frozen is.step.export) is.step.changed its divided.stand.there);
          -- a job that stands stood, and its leaf isn't in the region
          unbegun = λ leaf job stands frozen.
              let outside : NearestRoot now.roots.roots old.homes old.covers leaf root → ⊥ = λ inside. not_none _ job (ends.ended leaf inside) stands in
              ⊎_elim outside (divided.stand.unbegun leaf job (sym (ends.others leaf outside) ∙ stands)) ((soundly.frozen leaf).0 (rw (← homes_stay, ← covers_stay) frozen));
        }

    pub freeze_divided : IsDivided new now
    freeze_divided = record {
      owned = record {
        sound = sound;
        valid = (valid_so now.exports now.roots.roots new.homes new.covers).0 freeze_stands.valid;
        held = held_after (state_of new) new.caches (held_in now) (held_bound (state_of new) (length new.caches.used) now.roots now.exports freeze_stands) sound.none
            (λ leaf a at. freeze_holders leaf (record { 0 = a.rank }) (divided.owned.held.cached leaf a (ap (λ (k : CacheMap). map.get k.held leaf) (sym caches) ∙ at)));
      };
      stand = freeze_stands;
    }

-- ---- Finish

pub finish_holds : (old new : Standing) (was now : Subtrees) (root : Leaf) (result : Result (Unit {0}) Refusal) → Finishes old new was now root result → ArePlaced old was → holding new now.roots ≡ holding old was.roots
finish_holds old new was now root (Ok done) is placed = finish_holding old new was now root is placed
finish_holds old new was now root (Err reason) is placed = rw (is.2, is.3) refl

module _ (core : Core) (was now : Regions) (root : Leaf) (divided : IsDivided core was) (placed : ArePlaced now.exports now.roots) where
  pub finish_divided : (result : Result (Unit {0}) Refusal) → Finishes was.exports now.exports was.roots now.roots root result → IsDivided core now
  finish_divided (Err reason) is = subst (IsDivided core) (λ i. record { roots = sym is.3 i; exports = sym is.2 i }) divided
  finish_divided (Ok done) is =
      let root_was : map.get was.roots.roots root ≡ Some is.export.exporter = divided.stand.placed.ranked root is.export is.stood (ap is_freezing is.imported) in
      record {
        owned = subst (IsOwned core) (sym (finish_holding was.exports now.exports was.roots now.roots root is divided.stand.placed)) divided.owned;
        stand = record {
          valid = put_roots (state_of core) was.roots.roots now.roots.roots root is.export.importer is.roots (divided.stand.valid.live root (ap is_some root_was)) divided.stand.valid;
          placed = placed;
          ranked = put_ranked (length core.caches.used) was.roots.roots now.roots.roots root is.export.importer is.roots (divided.stand.there root is.export is.stood).1 divided.stand.ranked;
          there = taken_there (length core.caches.used) was.exports now.exports root is.ended divided.stand.there;
          unbegun = λ leaf job stands frozen. divided.stand.unbegun leaf job stands (((finishes_soundly was.exports now.exports was.roots now.roots root is divided.stand.placed core.homes core.covers).frozen leaf).0 frozen).1;
        };
      }

  pub finish_others : (result : Result (Unit {0}) Refusal) → Finishes was.exports now.exports was.roots now.roots root result → KeepsOutside (Some root) (state_of core) (state_of core) was.roots.roots now.roots.roots
  finish_others (Ok done) is leaf rank stood stands outside rules = (finishes_soundly was.exports now.exports was.roots now.roots root is divided.stand.placed core.homes core.covers).others leaf rank outside rules
  finish_others (Err reason) is leaf rank stood stands outside rules = subst (λ (s : Subtrees). Rules (state_of core) s.roots leaf rank) (sym is.3) rules
