-- What holds once leaves were handed over from one rank to another, and where they weren't.
use Rattle.std.proofs.Common.{◌≡◌, ◌≢◌, ℕ, zero, suc, ◌+◌, ◌<◌, Bool, true, false, cond, ◌&&◌, ◌||◌, ◌⊎◌, inl, inr, List, [], ◌∷◌, drop, length, option_map, Option, Some, None, refl, sym, ap, subst, ◌∙◌}
use Rattle.std.specs.Prelude.{◌==◌}
use Rattle.std.specs.List.{AllByRecursion, list_any}
use Rattle.std.specs.FinMap as finmap
use Rattle.std.proofs.lemmas.Option.{same_Some}
use Rattle.sorted_map.proofs.NatKeys.{is_apart, is_same}
use Rattle.cached_frag.specs.Cached.{Cached, imported, is_clean}
use Rattle.dentry_cache.specs.Cache.{IsThere, Leaf, Unsaved, leaf_is, unsaved_of}
use Rattle.dentry_cache.specs.CacheCalls.{unclean_in}
use Rattle.dentry_cache.specs.CacheMap.{AreCaches, At, CacheMap, lies_by, at_rank, clean_in, given_up, has_place, here, roomy, unclean, unsaved_at, used_at, with_frag}
use Rattle.dentry_cache.specs.Handing.{AreCleanAt, AreHanded, AreUncleanAt, HandsFragmentsOver, WantsPlace, handed, kept_all, moved, moved_all, without_all}
use Rattle.dentry_cache.proofs.KeepingLaws.{all_from, all_of, by_keeping, kept_from, kept_held, kept_unclean, room_held}
use Rattle.dentry_cache.proofs.LacksLaws.{IsPlaced, caches_placed, placed_by_end, placed_by_frag, placed_by_use}
use Rattle.dentry_cache.proofs.LeafLaws.{one_leaf}
use Rattle.dentry_cache.proofs.MoveLaws.{all_left_at, all_moved_at, left_by, moved_none, moved_some, none_beside, none_left, sent}
use Rattle.dentry_cache.proofs.ReadsLaws.{here_is}
use Rattle.dentry_cache.proofs.StepLaws.{by_room, has_given_up, held_roomy, here_given_up, here_put, here_with_frag, placed_used, ranks_given_up, ranks_used, ranks_with_frag}
use Rattle.dentry_cache.proofs.UncleanLaws.{get_unclean, unclean_alike, unclean_roomy}

dirty_there : (o : Option Cached) → unclean_in o ≡ true → (f : Cached) × (o ≡ Some f)
dirty_there None is = let clash : false ≡ true = is in absurd cc
dirty_there (Some f) is = (f, refl)

clean_there : (o : Option Cached) → clean_in o ≡ true → (f : Cached) × (o ≡ Some f) × (is_clean f ≡ true)
clean_there None is = let clash : false ≡ true = is in absurd cc
clean_there (Some f) is = (f, refl, is)

-- a fragment was there before, or one that was is it but for its generation
pub record IsFrom (o : Option At) (a : At) : Type 0 where
  pub was : At
  pub held : o ≡ Some was
  pub frag : (a.frag ≡ was.frag) ⊎ (a.frag ≡ imported was.frag)

-- ---- where each is

module _ (from to : ℕ) (apart : from ≢ to) (leaves clean : List Leaf) (old new : CacheMap) (cached : AreUncleanAt old from leaves) (h : HandsFragmentsOver from to leaves clean old new) where
  abbrev mid : CacheMap
  mid = h.0

  abbrev went : Leaf → Option At
  went q = cond (list_any (leaf_is q) leaves) (sent from to (finmap.get mid.held q)) (finmap.get mid.held q)

  held_is : (q : Leaf) → finmap.get new.held q ≡ cond (list_any (leaf_is q) clean) (left_by from (went q)) (went q)
  held_is q =
      ap (λ (k : CacheMap). finmap.get k.held q) h.2 ∙ all_left_at (moved_all mid from to leaves) from clean q
      ∙ ap (λ (o : Option At). cond (list_any (leaf_is q) clean) (left_by from o) o) (all_moved_at mid from to apart leaves q)

  either : (b : Bool) (o : Option At) → left_by from o ≡ o → cond b (left_by from o) o ≡ o
  either true o same = same
  either false o same = refl

  -- a leaf that was handed over is at the other rank
  pub handed_held : (q : Leaf) → list_any (leaf_is q) leaves ≡ true → (f : Cached) → here old from q ≡ Some f → finmap.get new.held q ≡ Some (lies_by to (imported f))
  handed_held q among f seen =
      let none = none_beside old from to q apart (all_of (λ (l : Leaf). unclean_in (here old from l) ≡ true) q leaves cached among) in
      let there : finmap.get mid.held q ≡ Some (lies_by from f) = kept_held old to leaves mid h.1 q none ∙ here_is from (finmap.get old.held q) f seen in
      let moves : went q ≡ Some (lies_by to (imported f)) =
      ap (λ (b : Bool). cond b (sent from to (finmap.get mid.held q)) (finmap.get mid.held q)) among ∙ ap (sent from to) there ∙ ap (λ (b : Bool). cond b (Some (lies_by to (imported f))) (Some (lies_by from f))) (is_same from from refl) in
      held_is q ∙ ap (λ (o : Option At). cond (list_any (leaf_is q) clean) (left_by from o) o) moves
      ∙ either (list_any (leaf_is q) clean) (Some (lies_by to (imported f))) (ap (λ (b : Bool). cond b None (Some (lies_by to (imported f)))) (is_apart to from (λ (e : to ≡ from). apart (sym e))))

  -- ---- what isn't clean

  renewed : (f : Cached) → unsaved_of (imported f) ≡ option_map (λ (v : Unsaved). record v { generation = 0 }) (unsaved_of f)
  renewed f = go (is_clean f)
    where
      go : (b : Bool) → cond b None (Some (record { base = f.base; generation = 0; dirty = f.dirty })) ≡ option_map (λ (v : Unsaved). record v { generation = 0 }) (cond b None (Some (record { base = f.base; generation = f.generation; dirty = f.dirty })))
      go true = refl
      go false = refl

  clean_none : (f : Cached) → is_clean f ≡ true → unsaved_of f ≡ None
  clean_none f is = ap (λ (b : Bool). cond b None (Some (record { base = f.base; generation = f.generation; dirty = f.dirty }))) is

  pub handed_unclean : AreCleanAt old from clean → AreHanded leaves (unclean old) (unclean new)
  handed_unclean gone q = get_unclean new q ∙ go (list_any (leaf_is q) leaves) refl (list_any (leaf_is q) clean) refl ∙ ap (handed leaves q) (sym (get_unclean old q))
    where
      step : Bool → Option Unsaved → Option Unsaved
      step b u = cond b (option_map (λ (v : Unsaved). record v { generation = 0 }) u) u

      go : (a : Bool) → list_any (leaf_is q) leaves ≡ a → (b : Bool) → list_any (leaf_is q) clean ≡ b → unsaved_at (finmap.get new.held q) ≡ handed leaves q (unsaved_at (finmap.get old.held q))
      go true among b out =
          let d = dirty_there (here old from q) (all_of (λ (l : Leaf). unclean_in (here old from l) ≡ true) q leaves cached among) in
          ap unsaved_at (handed_held q among d.0 d.1) ∙ renewed d.0 ∙ sym (ap (λ (b : Bool). step b (unsaved_at (finmap.get old.held q))) among ∙ ap (λ (o : Option At). step true (unsaved_at o)) (here_is from (finmap.get old.held q) d.0 d.1))
      go false among true out =
          let d = clean_there (here old from q) (all_of (λ (l : Leaf). clean_in (here old from l) ≡ true) q clean gone out) in
          let was : finmap.get old.held q ≡ Some (lies_by from d.0) = here_is from (finmap.get old.held q) d.0 d.1 in
          let none : here old to q ≡ None = ap (at_rank to) was ∙ ap (λ (b : Bool). cond b (Some d.0) None) (is_apart from to apart) in
          let there : finmap.get mid.held q ≡ Some (lies_by from d.0) = kept_held old to leaves mid h.1 q none ∙ was in
          ap unsaved_at (held_is q ∙ ap (λ (b : Bool). cond b (left_by from (went q)) (went q)) out ∙ ap (left_by from) (ap (λ (b : Bool). cond b (sent from to (finmap.get mid.held q)) (finmap.get mid.held q)) among ∙ there)
          ∙ ap (λ (b : Bool). cond b None (Some (lies_by from d.0))) (is_same from from refl))
          ∙ sym (ap (λ (b : Bool). step b (unsaved_at (finmap.get old.held q))) among ∙ ap unsaved_at was ∙ clean_none d.0 d.2)
      go false among false out =
          ap unsaved_at (held_is q ∙ ap (λ (b : Bool). cond b (left_by from (went q)) (went q)) out ∙ ap (λ (b : Bool). cond b (sent from to (finmap.get mid.held q)) (finmap.get mid.held q)) among)
          ∙ sym (get_unclean mid q) ∙ ap (λ m. finmap.get m q) (kept_unclean old to leaves mid h.1) ∙ get_unclean old q ∙ sym (ap (λ (b : Bool). step b (unsaved_at (finmap.get old.held q))) among)

  -- ---- each fragment was there before

  left_some : (b : Bool) (o : Option At) (a : At) → cond b (left_by from o) o ≡ Some a → o ≡ Some a
  left_some false o a is = is
  left_some true None a is = let clash : None ≡ Some a = is in absurd cc
  left_some true (Some x) a is = on (x.rank == from) is
    where
      on : (b : Bool) → cond b None (Some x) ≡ Some a → Some x ≡ Some a
      on true is = let clash : None ≡ Some a = is in absurd cc
      on false is = is

  -- a fragment that is there is at the other rank, if its leaf was handed over, and otherwise was there as it is
  pub handed_where : (q : Leaf) (a : At) → finmap.get new.held q ≡ Some a → ((list_any (leaf_is q) leaves ≡ true) × (a.rank ≡ to)) ⊎ ((list_any (leaf_is q) leaves ≡ false) × (finmap.get old.held q ≡ Some a))
  handed_where q a is = go (list_any (leaf_is q) leaves) refl
    where
      go : (b : Bool) → list_any (leaf_is q) leaves ≡ b → ((list_any (leaf_is q) leaves ≡ true) × (a.rank ≡ to)) ⊎ ((list_any (leaf_is q) leaves ≡ false) × (finmap.get old.held q ≡ Some a))
      go true among =
          let d = dirty_there (here old from q) (all_of (λ (l : Leaf). unclean_in (here old from l) ≡ true) q leaves cached among) in
          inl (among, ap (λ (y : At). y.rank) (sym (same_Some (lies_by to (imported d.0)) a (sym (handed_held q among d.0 d.1) ∙ is))))
      go false among =
          inr (among, kept_from old to leaves mid h.1 q a (ap (λ (b : Bool). cond b (sent from to (finmap.get mid.held q)) (finmap.get mid.held q)) (sym among) ∙ left_some (list_any (leaf_is q) clean) (went q) a (sym (held_is q) ∙ is)))

  pub handed_from : (q : Leaf) (a : At) → finmap.get new.held q ≡ Some a → IsFrom (finmap.get old.held q) a
  handed_from q a is = go (handed_where q a is)
    where
      go : ((list_any (leaf_is q) leaves ≡ true) × (a.rank ≡ to)) ⊎ ((list_any (leaf_is q) leaves ≡ false) × (finmap.get old.held q ≡ Some a)) → IsFrom (finmap.get old.held q) a
      go (inr same) = record { was = a; held = same.1; frag = inl refl }
      go (inl gone) =
          let d = dirty_there (here old from q) (all_of (λ (l : Leaf). unclean_in (here old from l) ≡ true) q leaves cached gone.0) in
          record { was = lies_by from d.0; held = here_is from (finmap.get old.held q) d.0 d.1; frag = inr (ap (λ (y : At). y.frag) (sym (same_Some (lies_by to (imported d.0)) a (sym (handed_held q gone.0 d.0 d.1) ∙ is)))) }

-- ---- places in which there is a fragment

-- each place but some has its fragment
abbrev pub IsWholeBut : (Ex : ℕ → Leaf → Type 0) → CacheMap → Type 0
IsWholeBut Ex c = (r : ℕ) (q : Leaf) → has_place c r q ≡ true → IsThere (here c r q) ⊎ Ex r q

module _ (Ex : ℕ → Leaf → Type 0) (n : ℕ) where
  pub record IsFine (c : CacheMap) : Type 0 where
    pub ranks : length c.used ≡ n
    pub placed : IsPlaced c
    pub whole : IsWholeBut Ex c

  fine_end : (c : CacheMap) (r : ℕ) (leaf : Leaf) → r < n → IsFine c → IsFine (given_up c r leaf)
  fine_end c r leaf lt f = record { ranks = ranks_given_up c r leaf ∙ f.ranks; placed = placed_by_end c r leaf f.placed; whole = λ s q is. go s q (r == s) refl (leaf_is q leaf) refl (sym (has_given_up c r leaf s q (subst (λ (k : ℕ). r < k) (sym f.ranks) lt) (f.placed.distinct r)) ∙ is) }
    where
      there : (s : ℕ) (q : Leaf) → (leaf_is q leaf && (r == s)) ≡ false → IsThere (here c s q) ⊎ Ex s q → IsThere (here (given_up c r leaf) s q) ⊎ Ex s q
      there s q other (inl is) = inl (subst IsThere (sym (here_given_up c r leaf s q ∙ ap (λ (b : Bool). cond b None (here c s q)) other)) is)
      there s q other (inr ex) = inr ex

      go : (s : ℕ) (q : Leaf) (a : Bool) → (r == s) ≡ a → (b : Bool) → leaf_is q leaf ≡ b → cond (a && b) false (has_place c s q) ≡ true → IsThere (here (given_up c r leaf) s q) ⊎ Ex s q
      go s q true rank true one is = let clash : false ≡ true = is in absurd cc
      go s q true rank false one is = there s q (ap (λ (b : Bool). b && (r == s)) one) (f.whole s q is)
      go s q false rank b one is = there s q (ap (λ (a : Bool). leaf_is q leaf && a) rank ∙ no (leaf_is q leaf)) (f.whole s q is)
        where
          no : (b : Bool) → (b && false) ≡ false
          no true = refl
          no false = refl

  fine_room : (c mid : CacheMap) (r : ℕ) → r < n → roomy c r None ≡ Some mid → IsFine c → IsFine mid
  fine_room c mid r lt made f = by_room c mid r None made IsFine f (λ v passes. fine_end c r v lt f)

  fine_use : (c : CacheMap) (r : ℕ) (leaf : Leaf) → Ex r leaf → IsFine c → IsFine (used_at c r leaf)
  fine_use c r leaf ex f = record { ranks = ranks_used c r leaf ∙ f.ranks; placed = placed_by_use c r leaf f.placed; whole = λ s q is. go s q (placed_used c r leaf s q is) }
    where
      go : (s : ℕ) (q : Leaf) → (has_place c s q ≡ true) ⊎ ((s ≡ r) × (q ≡ leaf)) → IsThere (here c s q) ⊎ Ex s q
      go s q (inl is) = f.whole s q is
      go s q (inr same) = inr (subst (λ (k : ℕ). Ex k q) (sym same.0) (subst (Ex r) (sym same.1) ex))

  fine_frag : (c : CacheMap) (r : ℕ) (leaf : Leaf) (f : Cached) → r < n → finmap.get c.held leaf ≡ None → IsFine c → IsFine (with_frag c r leaf f)
  fine_frag c r leaf f lt none fine = record { ranks = ranks_with_frag c r leaf f ∙ fine.ranks; placed = placed_by_frag c r leaf f (subst (λ (k : ℕ). r < k) (sym fine.ranks) lt) fine.placed; whole = λ s q is. go s q (placed_used c r leaf s q is) }
    where
      there : (s : ℕ) (q : Leaf) → IsThere (here c s q) ⊎ Ex s q → (b : Bool) → leaf_is q leaf ≡ b → IsThere (here (with_frag c r leaf f) s q) ⊎ Ex s q
      there s q (inr ex) b one = inr ex
      there s q (inl is) true one = absurd (subst IsThere (ap (here c s) (one_leaf q leaf one) ∙ ap (at_rank s) none) is)
      there s q (inl is) false one = inl (subst IsThere (sym (here_with_frag c r leaf f s q ∙ ap (λ (b : Bool). cond b (cond (r == s) (Some f) None) (here c s q)) one)) is)

      go : (s : ℕ) (q : Leaf) → (has_place c s q ≡ true) ⊎ ((s ≡ r) × (q ≡ leaf)) → IsThere (here (with_frag c r leaf f) s q) ⊎ Ex s q
      go s q (inl is) = there s q (fine.whole s q is) (leaf_is q leaf) refl
      go s q (inr same) = inl (subst IsThere (sym (ap (λ (k : ℕ). here (with_frag c r leaf f) k q) same.0 ∙ ap (here (with_frag c r leaf f) r) same.1 ∙ here_put c r leaf f)) tt)

  fine_moved : (c : CacheMap) (from to : ℕ) (leaf : Leaf) → from < n → to < n → IsFine c → IsFine (moved c from to leaf)
  fine_moved c from to leaf there other f = go (here c from leaf) refl
    where
      go : (o : Option Cached) → here c from leaf ≡ o → IsFine (moved c from to leaf)
      go None seen = subst IsFine (sym (moved_none c from to leaf seen)) (fine_end c from leaf there f)
      go (Some x) seen = subst IsFine (sym (moved_some c from to leaf x seen)) (fine_frag (given_up c from leaf) to leaf (imported x) other (none_left c from to leaf x seen) (fine_end c from leaf there f))

  fine_moved_all : (c : CacheMap) (from to : ℕ) → from < n → to < n → IsFine c → (leaves : List Leaf) → IsFine (moved_all c from to leaves)
  fine_moved_all c from to there other f [] = f
  fine_moved_all c from to there other f (leaf ∷ leaves) = fine_moved (moved_all c from to leaves) from to leaf there other (fine_moved_all c from to there other f leaves)

  fine_without_all : (c : CacheMap) (r : ℕ) → r < n → IsFine c → (leaves : List Leaf) → IsFine (without_all c r leaves)
  fine_without_all c r lt f [] = f
  fine_without_all c r lt f (leaf ∷ leaves) = fine_end (without_all c r leaves) r leaf lt (fine_without_all c r lt f leaves)

  -- a place that was given up isn't there
  pub none_without : (c : CacheMap) (r : ℕ) → r < n → IsFine c → (leaves : List Leaf) (q : Leaf) → has_place (without_all c r leaves) r q ≡ true → list_any (leaf_is q) leaves ≡ false
  none_without c r lt f [] q is = refl
  none_without c r lt f (leaf ∷ leaves) q is =
      let before = fine_without_all c r lt f leaves in
      go (λ so. none_without c r lt f leaves q so) (leaf_is q leaf)
      (sym (has_given_up (without_all c r leaves) r leaf r q (subst (λ (k : ℕ). r < k) (sym before.ranks) lt) (before.placed.distinct r) ∙ ap (λ (b : Bool). cond (b && leaf_is q leaf) false (has_place (without_all c r leaves) r q)) (is_same r r refl)) ∙ is)
    where
      go : (has_place (without_all c r leaves) r q ≡ true → list_any (leaf_is q) leaves ≡ false) → (b : Bool) → cond b false (has_place (without_all c r leaves) r q) ≡ true → (b || list_any (leaf_is q) leaves) ≡ false
      go rest true is = let clash : false ≡ true = is in absurd cc
      go rest false is = rest is

  fine_kept : (c : CacheMap) (r : ℕ) → r < n → IsFine c → (leaves : List Leaf) → AllByRecursion (Ex r) leaves → (k : CacheMap) → kept_all c r leaves ≡ Some k → IsFine k
  fine_kept c r lt f leaves ex k kept = by_keeping c r (Ex r) IsFine f (λ before mid made so. fine_room before mid r lt made so) (λ mid leaf named so. fine_use mid r leaf named so) leaves ex k kept

-- ---- where leaves were handed over

module _ (from to : ℕ) (apart : from ≢ to) (leaves clean : List Leaf) (old new : CacheMap) (cached : AreUncleanAt old from leaves) (h : HandsFragmentsOver from to leaves clean old new) (valid : AreCaches old) (there : from < length old.used) (other : to < length old.used)
    (Kept : ℕ → Leaf → Type 0) (whole : IsWholeBut Kept old) where
  abbrev Ex : ℕ → Leaf → Type 0
  Ex r q = Kept r q ⊎ ((r ≡ to) × (list_any (leaf_is q) leaves ≡ true))

  first_fine : IsFine Ex (length old.used) old
  first_fine = record { ranks = refl; placed = caches_placed old valid; whole = λ r q is. go r q (whole r q is) }
    where
      go : (r : ℕ) (q : Leaf) → IsThere (here old r q) ⊎ Kept r q → IsThere (here old r q) ⊎ Ex r q
      go r q (inl is) = inl is
      go r q (inr kept) = inr (inl kept)

  last_fine : IsFine Ex (length old.used) new
  last_fine = subst (IsFine Ex (length old.used)) (sym h.2) (fine_without_all Ex (length old.used) (moved_all h.0 from to leaves) from there
      (fine_moved_all Ex (length old.used) h.0 from to there other (fine_kept Ex (length old.used) old to other first_fine leaves (all_from (Ex to) leaves (λ q among. inr (refl, among))) h.0 h.1) leaves) clean)

  -- each place has its fragment, but for those that hadn't before
  pub whole_handed : IsWholeBut Kept new
  whole_handed r q is = go (last_fine.whole r q is)
    where
      go : IsThere (here new r q) ⊎ Ex r q → IsThere (here new r q) ⊎ Kept r q
      go (inl is) = inl is
      go (inr (inl kept)) = inr kept
      go (inr (inr (rank, among))) =
          let d = dirty_there (here old from q) (all_of (λ (l : Leaf). unclean_in (here old from l) ≡ true) q leaves cached among) in
          inl (subst IsThere (sym (ap (λ (k : ℕ). here new k q) rank ∙ ap (at_rank to) (handed_held from to apart leaves clean old new cached h q among d.0 d.1) ∙ ap (λ (b : Bool). cond b (Some (imported d.0)) None) (is_same to to refl))) tt)

  pub ranks_handed : length new.used ≡ length old.used
  ranks_handed = last_fine.ranks

-- ---- where they weren't, for want of memory

module _ (from to : ℕ) (apart : from ≢ to) (leaves : List Leaf) (old new : CacheMap) (cached : AreUncleanAt old from leaves) (w : WantsPlace to leaves old new) where
  abbrev ends : List Leaf
  ends = drop (w.0 + 1) leaves

  ends_cached : AreUncleanAt old from ends
  ends_cached = dropped (w.0 + 1) leaves cached
    where
      dropped : (n : ℕ) (xs : List Leaf) → AreUncleanAt old from xs → AreUncleanAt old from (drop n xs)
      dropped zero xs all = all
      dropped (suc n) [] all = tt
      dropped (suc n) (x ∷ xs) all = dropped n xs all.1

  same_held : (q : Leaf) → finmap.get new.held q ≡ finmap.get w.4.held q
  same_held q = ap (λ (k : CacheMap). finmap.get k.held q) w.6 ∙ all_left_at w.4 to ends q ∙ go (list_any (leaf_is q) ends) refl
    where
      go : (b : Bool) → list_any (leaf_is q) ends ≡ b → cond b (left_by to (finmap.get w.4.held q)) (finmap.get w.4.held q) ≡ finmap.get w.4.held q
      go false among = refl
      go true among =
          let dirty = all_of (λ (l : Leaf). unclean_in (here old from l) ≡ true) q ends ends_cached among in
          let d = dirty_there (here old from q) dirty in
          let none : here old to q ≡ None = none_beside old from to q apart dirty in
          let kept : finmap.get w.2.held q ≡ finmap.get old.held q = kept_held old to ends w.2 w.3 q none in
          let is : finmap.get w.4.held q ≡ Some (lies_by from d.0) = room_held to q w.2 w.4 w.5 (ap (at_rank to) kept ∙ none) ∙ kept ∙ here_is from (finmap.get old.held q) d.0 d.1 in
          ap (left_by to) is ∙ ap (λ (b : Bool). cond b None (Some (lies_by from d.0))) (is_apart from to apart) ∙ sym is

  pub wants_unclean : unclean new ≡ unclean old
  wants_unclean = unclean_alike new w.4 (λ q. ap unsaved_at (same_held q)) ∙ unclean_roomy w.2 w.4 to None w.5 ∙ kept_unclean old to ends w.2 w.3

  pub wants_from : (q : Leaf) (a : At) → finmap.get new.held q ≡ Some a → finmap.get old.held q ≡ Some a
  wants_from q a is = kept_from old to ends w.2 w.3 q a (held_roomy w.2 w.4 to None q a w.5 (sym (same_held q) ∙ is))

  module _ (valid : AreCaches old) (other : to < length old.used) (Kept : ℕ → Leaf → Type 0) (whole : IsWholeBut Kept old) where
    abbrev Beside : ℕ → Leaf → Type 0
    Beside r q = Kept r q ⊎ ((r ≡ to) × (list_any (leaf_is q) ends ≡ true))

    start_fine : IsFine Beside (length old.used) old
    start_fine = record { ranks = refl; placed = caches_placed old valid; whole = λ r q is. go r q (whole r q is) }
      where
        go : (r : ℕ) (q : Leaf) → IsThere (here old r q) ⊎ Kept r q → IsThere (here old r q) ⊎ Beside r q
        go r q (inl is) = inl is
        go r q (inr kept) = inr (inl kept)

    then_fine : IsFine Beside (length old.used) w.4
    then_fine = fine_room Beside (length old.used) w.2 w.4 to other w.5 (fine_kept Beside (length old.used) old to other start_fine ends (all_from (Beside to) ends (λ q among. inr (refl, among))) w.2 w.3)

    end_fine : IsFine Beside (length old.used) new
    end_fine = subst (IsFine Beside (length old.used)) (sym w.6) (fine_without_all Beside (length old.used) w.4 to other then_fine ends)

    pub whole_wants : IsWholeBut Kept new
    whole_wants r q is = go (end_fine.whole r q is)
      where
        go : IsThere (here new r q) ⊎ Beside r q → IsThere (here new r q) ⊎ Kept r q
        go (inl is) = inl is
        go (inr (inl kept)) = inr kept
        go (inr (inr (rank, among))) =
            let none = none_without Beside (length old.used) w.4 to other then_fine ends q (ap (λ (k : CacheMap). has_place k to q) (sym w.6) ∙ ap (λ (k : ℕ). has_place new k q) (sym rank) ∙ is) in
            let clash : false ≡ true = sym none ∙ among in absurd cc

    pub ranks_wants : length new.used ≡ length old.used
    ranks_wants = end_fine.ranks
