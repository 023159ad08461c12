-- A state once leaves were handed over: sound, and of the same tree.
use Rattle.mdcache.proofs.Common.{AreCaches, AreCleanAt, AreHanded, AreUncleanAt, At, CacheMap, Cached, Core, Err, GivenOverIsRight, HandsFragmentsOver, HaveNoJobs, HaveNoPlace, IfErr, IsCachedIn, IsCounted, IsFrom, IsGivenOver, IsSound, IsSoundCore, IsTabled, IsThere, IsTied, IsUnsaved, IsUntouched, IsWholeBut, Leaf, List, MayNotHandOver, Names, None, NoneEnds, Ok, Omap, OnErr, OnOk, Option, Refusal, Result, Some, State, Tree, Unsaved, UnsavedLeaves, [], all_from, all_of, ap, arith, by_keeping, cap_roomy, cond, cond_both, drop, false, false_from_ne_true, given_up, handed, handed_from, has_place, here, imported, inl, inr, kept_all, leaf_is, length, list_any, moved_all, moved_as, none_beside, object_of, option_map, ranks_handed, ranks_wants, refl, rules, same_Some, shown_at, shown_in, shown_tree, state_of, subst, sym, true, unclean, unclean_in, wants_from, whole_handed, whole_wants, without_all, ℕ, ⊎_elim, ◌+◌, ◌<◌, ◌∙◌, ◌∷◌, ◌≡◌, ◌≢◌, ◌⊎◌}
use Rattle.std.specs.FinMap as map
use Rattle.mdcache.specs.Shown.{names_of}
use Rattle.mdcache.proofs.TreeLaws.{tree_alike}

-- ---- states

module _ (old : State) (unsaved : UnsavedLeaves) (leaves : List Leaf) (sound : IsSound old) (jobless : HaveNoJobs old.jobs leaves) (given : AreHanded leaves old.unsaved unsaved) where
  abbrev now : State
  now = record old { unsaved = unsaved }

  -- what is unsaved now was so, but for its generation
  was : (leaf : Leaf) → (map.get unsaved leaf ≡ map.get old.unsaved leaf) ⊎ ((v : Unsaved) × (map.get old.unsaved leaf ≡ Some v) × (map.get unsaved leaf ≡ Some (record v { generation = 0 })))
  was leaf = cond_both (list_any (leaf_is leaf) leaves) (option_map (λ (v : Unsaved). record v { generation = 0 }) (map.get old.unsaved leaf)) (map.get old.unsaved leaf)
      (λ o. map.get unsaved leaf ≡ o → (map.get unsaved leaf ≡ map.get old.unsaved leaf) ⊎ ((v : Unsaved) × (map.get old.unsaved leaf ≡ Some v) × (map.get unsaved leaf ≡ Some (record v { generation = 0 }))))
      (λ among. elim (map.get old.unsaved leaf) as (λ o. map.get unsaved leaf ≡ option_map (λ (v : Unsaved). record v { generation = 0 }) o
      → (map.get unsaved leaf ≡ o) ⊎ ((v : Unsaved) × (o ≡ Some v) × (map.get unsaved leaf ≡ Some (record v { generation = 0 })))) [
        | None ↦ λ is. inl is
        | Some v ↦ λ is. inr (v, refl, is)
      ]) (λ apart is. inl is) (given leaf)

  pub same_names : (leaf : Leaf) → names_of unsaved old.objects leaf ≡ names_of old.unsaved old.objects leaf
  unfolding names_of
  same_names leaf =
      let shows = λ (o : Option Unsaved). shown_at o (object_of old.objects leaf.0 leaf.1) in
      ⊎_elim (ap shows) (λ w. ap shows w.2 ∙ sym (ap shows w.1)) (was leaf)

  pub tree_now : shown_tree now ≡ shown_tree old
  tree_now = tree_alike old.homes old.covers (names_of unsaved old.objects) (names_of old.unsaved old.objects) (λ leaf live. same_names leaf)

  pub sound_now : IsSound now
  sound_now = record {
    table = sound.table;
    numbered = sound.numbered;
    tabled = subst (λ (t : Tree). IsTabled t old.homes) (sym tree_now) sound.tabled;
    counted = subst (λ (t : Tree). IsCounted t old.counts old.pins) (sym tree_now) sound.counted;
    placed = λ leaf name inode live is. sound.placed leaf name inode live (ap (λ (names : Names). map.get names name) (sym (same_names leaf)) ∙ is);
    unsaved = λ leaf u is. ⊎_elim (λ same. let before = sound.unsaved leaf u (sym same ∙ is) in record { live = before.live; made = before.made; young = before.young })
        (λ w.
        let before = sound.unsaved leaf w.0 w.1 in
        subst (IsUnsaved now leaf) (same_Some (record w.0 { generation = 0 }) u (sym w.2 ∙ is)) (record { live = before.live; made = omega (arith, before.made); young = before.young })) (was leaf);
    saved = λ leaf live none. sound.saved leaf live (⊎_elim (λ same. sym same ∙ none) (λ w. let clash : None ≡ Some (record w.0 { generation = 0 }) = sym none ∙ w.2 in absurd cc) (was leaf));
    owned = sound.owned;
    listed = sound.listed;
    standing = λ leaf job is.
        let s = sound.standing leaf job is in
        let apart = false_from_ne_true (list_any (leaf_is leaf) leaves) (λ among. let clash : None ≡ Some job = sym (all_of (λ (l : Leaf). map.get old.jobs l ≡ None) leaf leaves jobless among) ∙ is in cc) in
        let same = given leaf ∙ ap (λ b. cond b (option_map (λ (v : Unsaved). record v { generation = 0 }) (map.get old.unsaved leaf)) (map.get old.unsaved leaf)) apart in
        record { mine = s.mine; given = s.given; young = s.young; unsaved = s.unsaved; beside = same ∙ s.beside; taken = s.taken };
    once = sound.once;
  }

pub given_right : GivenOverIsRight
given_right old new leaves sound jobless given =
    subst (λ (s : State). IsSound s × (shown_tree s ≡ shown_tree old) × ((leaf : Leaf) → IsUntouched old s leaf)) (sym given.beside) (
      sound_now old new.unsaved leaves sound jobless given.unsaved,
      tree_now old new.unsaved leaves sound jobless given.unsaved,
      λ leaf live. record { live = live; names = same_names old new.unsaved leaves sound jobless given.unsaved leaf },
    )

-- ---- each rank has as many places as before

cap_moved : (c : CacheMap) (from to : ℕ) (leaves : List Leaf) → (moved_all c from to leaves).cap ≡ c.cap
cap_moved c from to [] = refl
cap_moved c from to (leaf ∷ leaves) =
    let mid = moved_all c from to leaves in
    elim (here mid from leaf) as (λ o. (moved_as (given_up mid from leaf) to leaf o).cap ≡ mid.cap) [ None ↦ refl | Some f ↦ refl ] ∙ cap_moved c from to leaves

cap_without_all : (c : CacheMap) (r : ℕ) (leaves : List Leaf) → (without_all c r leaves).cap ≡ c.cap
cap_without_all c r [] = refl
cap_without_all c r (leaf ∷ leaves) = cap_without_all c r leaves

cap_kept : (c : CacheMap) (r : ℕ) (leaves : List Leaf) (new : CacheMap) → kept_all c r leaves ≡ Some new → new.cap ≡ c.cap
cap_kept c r leaves new kept =
    by_keeping c r (λ (leaf : Leaf). Unit {0}) (λ (k : CacheMap). k.cap ≡ c.cap) refl (λ before mid made so. cap_roomy before mid r None made ∙ so) (λ mid leaf named so. so) leaves (all_from (λ (leaf : Leaf). Unit {0}) leaves (λ q among. tt)) new kept

-- ---- the tree with its caches

-- what a call leaves
pub record IsHandedOver (from to : ℕ) (leaves clean : List Leaf) (res : Result (Unit {0}) Refusal) (old new : Core) : Type 0 where
  pub handed : OnOk res (HandsFragmentsOver from to leaves clean old.caches new.caches)
  pub given : OnOk res (IsGivenOver leaves (state_of old) (state_of new))
  pub shown : shown_in new ≡ shown_in old
  pub left : OnErr res (state_of new ≡ state_of old)
  pub beside : new ≡ record old { caches = new.caches }
  pub count : length new.caches.used ≡ length old.caches.used
  pub cap : new.caches.cap ≡ old.caches.cap
  pub sound : IsSoundCore new

-- a fragment that was taken over is tied as it was
tied_imported : (g : Cached) (object : Option Omap) → IsTied g object → IsTied (imported g) object
tied_imported g object is = search rules

module _ (c : Core) (sound : IsSoundCore c) (from to : ℕ) (apart : from ≢ to) (there : from < length c.caches.used) (other : to < length c.caches.used) (leaves clean : List Leaf) (cached : AreUncleanAt c.caches from leaves) where
  whole_first : IsWholeBut NoneEnds c.caches
  whole_first r q placed = inl (sound.none r q placed)

  -- these leaves have no place at the other rank
  pub no_places : HaveNoPlace c.caches to leaves
  no_places = all_from (λ (leaf : Leaf). has_place c.caches to leaf ≡ false) leaves (λ q among. false_from_ne_true _ (λ placed.
      subst IsThere (none_beside c.caches from to q apart (all_of (λ (l : Leaf). unclean_in (here c.caches from l) ≡ true) q leaves cached among)) (sound.none to q placed)))

  module _ (caches : CacheMap) (valid : AreCaches c.caches) where
    abbrev after : Core
    after = record c { caches = caches }

    module _ (each : (q : Leaf) (a : At) → map.get caches.held q ≡ Some a → IsFrom (map.get c.caches.held q) a) (whole : IsWholeBut NoneEnds caches) where
      core_sound : IsSound (state_of after) → IsSoundCore after
      core_sound state = record {
        sound = state;
        begun = sound.begun;
        cached = λ q a seen.
            let f = each q a seen in
            let was = sound.cached q f.was f.held in
            let w = ⊎_elim (λ same. subst (IsCachedIn (state_of c) q) (sym same) was)
            (λ same. subst (IsCachedIn (state_of c) q) (sym same) (record { live = was.live; tied = tied_imported f.was.frag (object_of c.objects q.0 q.1) was.tied; made = sound.begun })) f.frag in
            record { live = w.live; tied = w.tied; made = w.made };
        none = λ r q placed. ⊎_elim (λ is. is) (λ never. absurd never) (whole r q placed);
      }

    by : (res : Result (Unit {0}) Refusal) → HaveNoJobs c.jobs leaves → OnOk res (HandsFragmentsOver from to leaves clean c.caches caches) → IfErr res (MayNotHandOver to leaves c.caches caches) → OnOk res (AreHanded leaves (unclean c.caches) (unclean caches))
        → OnErr res (unclean caches ≡ unclean c.caches) → IsHandedOver from to leaves clean res c after
    by (Ok done) jobless h refused given left = record {
      handed = h;
      given = record { unsaved = given; beside = refl };
      shown = tree_now (state_of c) (unclean caches) leaves sound.sound jobless given;
      left = tt;
      beside = refl;
      count = ranks_handed from to apart leaves clean c.caches caches cached h valid there other NoneEnds whole_first;
      cap = ap (λ (k : CacheMap). k.cap) h.2 ∙ cap_without_all (moved_all h.0 from to leaves) from clean ∙ cap_moved h.0 from to leaves ∙ cap_kept c.caches to leaves h.0 h.1;
      sound = core_sound (handed_from from to apart leaves clean c.caches caches cached h) (whole_handed from to apart leaves clean c.caches caches cached h valid there other NoneEnds whole_first)
          (sound_now (state_of c) (unclean caches) leaves sound.sound jobless given);
    }
    by (Err reason) jobless h refused given left = let same : state_of after ≡ state_of c = λ i. record (state_of c) { unsaved = left i } in record {
      handed = tt;
      given = tt;
      shown = ap shown_tree same;
      left = same;
      beside = refl;
      count = ⊎_elim (λ none. ap (λ (k : CacheMap). length k.used) none.2) (λ wants. ranks_wants from to apart leaves c.caches caches cached wants.2 valid other NoneEnds whole_first) refused;
      cap = ⊎_elim (λ none. ap (λ (k : CacheMap). k.cap) none.2) (λ wants.
          let w = wants.2 in
          ap (λ (k : CacheMap). k.cap) w.6 ∙ cap_without_all w.4 to (drop (w.0 + 1) leaves) ∙ cap_roomy w.2 w.4 to None w.5 ∙ cap_kept c.caches to (drop (w.0 + 1) leaves) w.2 w.3) refused;
      sound = ⊎_elim (λ none. subst (λ (k : CacheMap). IsSoundCore (record c { caches = k })) (sym none.2) sound) (λ wants.
          core_sound (λ q a seen. record { was = a; held = wants_from from to apart leaves c.caches caches cached wants.2 q a seen; frag = inl refl }) (whole_wants from to apart leaves c.caches caches cached wants.2 valid other NoneEnds whole_first)
          (subst IsSound (sym same) sound.sound)) refused;
    }

-- so of what is seen of the parts that are there
pub called : (old view : Core) → view ≡ old → IsSoundCore old → (from to : ℕ) → from ≢ to → from < length old.caches.used → to < length old.caches.used → (leaves clean : List Leaf) → AreUncleanAt old.caches from leaves
    → AreCleanAt old.caches from clean → HaveNoJobs old.jobs leaves → (caches : CacheMap) → AreCaches view.caches → (res : Result (Unit {0}) Refusal) → OnOk res (HandsFragmentsOver from to leaves clean view.caches caches)
    → IfErr res (MayNotHandOver to leaves view.caches caches) → (AreCleanAt view.caches from clean → OnOk res (AreHanded leaves (unclean view.caches) (unclean caches))) → OnErr res (unclean caches ≡ unclean view.caches)
    → IsHandedOver from to leaves clean res old (record view { caches = caches })
called old view is sound from to apart there other leaves clean cached saved jobless caches valid res handed refused unsaved left =
    subst (λ (k : Core). IsSoundCore k → from < length k.caches.used → to < length k.caches.used → AreUncleanAt k.caches from leaves → AreCleanAt k.caches from clean → HaveNoJobs k.jobs leaves
    → IsHandedOver from to leaves clean res k (record view { caches = caches })) is
    (λ sound there other cached saved jobless. by view sound from to apart there other leaves clean cached caches valid res jobless handed refused (unsaved saved) left) sound there other cached saved jobless
