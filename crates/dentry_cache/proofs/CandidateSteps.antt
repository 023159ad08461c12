-- The candidates of a cache, step by step.
use Rattle.dentry_cache.proofs.Common.{AreCandidates, AreSets, AreTold, Bool, Cached, Candidates, Fragment, HasRoomFor, Held, IsDistinct, IsFragment, IsLargeIn, IsNextLeaf, IsResized, IsSmallIn, IsSome, List, MayResize, None, Option, Place, Places, Rise, Sizes, Some, [], ap, are_few, arith, child, child_of, cond, false, flips, fragment_in, inl, inr, is_few, is_leaf_in, is_kept, is_large, keys_of, leaf_equivalence, leaf_is, leaf_itself, length, length-set_value, lookup, lookup-set_value, lru_cache, one_leaf, promoted, refl, remove_entry, same_Some, same_leaf, set_value, shown_names, size_in, sizes_of, subst, suc, sym, true, used_as, ℕ, ◌+◌, ◌<◌, ◌||◌, ◌∙◌, ◌∷◌, ◌≡◌, ◌≢◌, ◌≤◌, ◌⊎◌}
use Rattle.std.specs.FinMap as finmap
use Rattle.mds_types.specs.Leaf.{Leaf}
use Rattle.dentry_cache.proofs.CandidateLaws.{beside, large_from, large_now, large_to, none_changes, small_from, small_to}
use Rattle.dentry_cache.proofs.CacheLaws.{after_removal}
use Rattle.dentry_cache.proofs.LeafSetLaws.{next_as}
use Rattle.dentry_cache.proofs.UsedLaws.{after_use, not_promoted, promoted_is}

-- ---- the sets alone

-- nothing is cached
pub none_yet : (large small : List Leaf) → large ≡ [] → small ≡ [] → AreSets (λ leaf. None) large small
none_yet large small e f = subst (λ xs. AreSets (λ leaf. None) xs small) (sym e) (subst (λ ys. AreSets (λ leaf. None) [] ys) (sym f) (record {
  large_rise = tt;
  small_rise = tt;
  large_are = λ leaf. refl;
  small_are = λ whole fragment. refl;
  fragments = λ whole is. (let clash : false ≡ true = is in absurd cc);
}))

module _ (sizes : Sizes) (large small : List Leaf) (sets : AreSets sizes large small) (after r : Option Leaf) where
  pub next_large : IsNextLeaf (λ (leaf : Leaf). is_leaf_in leaf large ≡ true) after r → IsNextLeaf (IsLargeIn sizes) after r
  next_large next =
      next_as (λ (leaf : Leaf). is_leaf_in leaf large ≡ true) (IsLargeIn sizes) after r
      (λ leaf is. large_from sizes leaf (sym (sets.large_are leaf) ∙ is))
      (λ leaf is. sets.large_are leaf ∙ large_to sizes leaf is) next

  pub next_small : IsNextLeaf (λ (leaf : Leaf). is_leaf_in leaf small ≡ true) after r → IsNextLeaf (IsSmallIn sizes) after r
  next_small next =
      next_as (λ (leaf : Leaf). is_leaf_in leaf small ≡ true) (IsSmallIn sizes) after r
      (λ whole is. small_from sizes whole (sets.fragments whole is) (sym (sets.small_are whole (sets.fragments whole is)) ∙ is))
      (λ whole is. sets.small_are whole is.fragment ∙ small_to sizes whole is) next

or_none : (a b : Bool) → (a || b) ≡ false → (a ≡ false) × (b ≡ false)
or_none true b is = let clash : true ≡ false = is in absurd cc
or_none false b is = (refl, is)

-- one leaf has another size
module _ (leaf : Leaf) (was now : Option ℕ) (old new : Sizes) (r : IsResized leaf was now old new) (large small large_then : List Leaf) (sets : AreSets old large small)
    (rise : Rise large_then) (each : (q : Leaf) → is_leaf_in q large_then ≡ cond (leaf_is leaf q) (is_large leaf now) (is_leaf_in q large)) where
  large_so : (q : Leaf) → is_leaf_in q large_then ≡ is_large q (new q)
  large_so = large_now leaf was now old new r (λ q. is_leaf_in q large) (λ q. is_leaf_in q large_then) sets.large_are each

  pub sets_kept : (is_few was || is_few now) ≡ false → AreSets new large_then small
  sets_kept none =
      let both = or_none (is_few was) (is_few now) none in
      record {
        large_rise = rise;
        small_rise = sets.small_rise;
        large_are = large_so;
        small_are = λ q fragment. sets.small_are q fragment ∙ sym (none_changes leaf was now old new r both.0 both.1 q);
        fragments = sets.fragments;
      }

  pub sets_now : (small_then : List Leaf) → Rise small_then
      → ((q : Leaf) → IsFragment q.1 → (is_leaf_in q small_then ≡ are_few new q) ⊎ ((is_leaf_in q small_then ≡ is_leaf_in q small) × ((i : ℕ) → i < 8 → child q i ≢ leaf)))
      → ((q : Leaf) → is_leaf_in q small_then ≡ true → (is_leaf_in q small ≡ true) ⊎ IsFragment q.1) → AreSets new large_then small_then
  sets_now small_then rise_small each_small fragments = record {
    large_rise = rise;
    small_rise = rise_small;
    large_are = large_so;
    small_are = λ q fragment. go q fragment (each_small q fragment);
    fragments = λ q is. of q (fragments q is);
  }
    where
      go : (q : Leaf) → IsFragment q.1 → (is_leaf_in q small_then ≡ are_few new q) ⊎ ((is_leaf_in q small_then ≡ is_leaf_in q small) × ((i : ℕ) → i < 8 → child q i ≢ leaf)) → is_leaf_in q small_then ≡ are_few new q
      go q fragment (inl is) = is
      go q fragment (inr (same, apart)) = same ∙ sets.small_are q fragment ∙ sym (beside leaf was now old new r q apart)

      of : (q : Leaf) → (is_leaf_in q small ≡ true) ⊎ IsFragment q.1 → IsFragment q.1
      of q (inl is) = sets.fragments q is
      of q (inr is) = is

-- ---- the places

-- the same by other words for the sizes
pub may_so : (leaf : Leaf) (was before now after : Option ℕ) (places : Places) (c : Candidates) → was ≡ before → now ≡ after → MayResize leaf before after places c → MayResize leaf was now places c
may_so leaf was before now after places c first second may =
    subst (λ (o : Option ℕ). MayResize leaf o now places c) (sym first) (subst (λ (o : Option ℕ). MayResize leaf before o places c) (sym second) may)

-- a leaf's place is another one, or has another fragment in it
pub resized_so : (leaf : Leaf) (was now : Option Place) (old new : Places) (c : Candidates) → AreTold old c → length new ≤ length old → lookup (leaf_is leaf) old ≡ was → lookup (leaf_is leaf) new ≡ now
    → ((q : Leaf) → leaf_is leaf q ≡ false → lookup (leaf_is q) new ≡ lookup (leaf_is q) old)
    → MayResize leaf (size_in (fragment_in was)) (size_in (fragment_in now)) new c
resized_so leaf was now old new c told few before after others = record {
  sizes = sizes_of old;
  sets = told.sets;
  resized = record {
    before = ap (λ (o : Option Place). size_in (fragment_in o)) before;
    after = ap (λ (o : Option Place). size_in (fragment_in o)) after;
    others = λ q apart. ap (λ (o : Option Place). size_in (fragment_in o)) (others q apart);
  };
  room = record { large = omega (arith, few, told.room.large); small = omega (arith, few, told.room.small) };
}

-- each leaf has the size that it had
pub told_so : (old new : Places) (c : Candidates) → AreTold old c → length new ≤ length old → ((q : Leaf) → sizes_of new q ≡ sizes_of old q) → AreTold new c
told_so old new c told few same = record {
  sets = subst (λ (s : Sizes). AreCandidates s c) (λ i q. sym (same q) i) told.sets;
  room = record { large = omega (arith, few, told.room.large); small = omega (arith, few, told.room.small) };
}

-- a place that is written to
module _ (leaf : Leaf) (places : Places) (place now : Place) (c : Candidates) (told : AreTold places c) (is : Some place ≡ lookup (leaf_is leaf) places) where
  there : IsSome (lookup (leaf_is leaf) places)
  there = subst (λ (o : Option Place). IsSome o) is refl

  found : (q : Leaf) → lookup (leaf_is q) (set_value (leaf_is leaf) places now) ≡ cond (leaf_is leaf q) (Some now) (lookup (leaf_is q) places)
  found q = lookup-set_value leaf_equivalence (leaf_is leaf) (λ x y same. ap (λ (a : Leaf). leaf_is a y) (one_leaf leaf x same)) q now places there

  count : length (set_value (leaf_is leaf) places now) ≤ length places
  count = let e = length-set_value (leaf_is leaf) places now in omega (arith, e)

  pub resized_value : MayResize leaf (size_in (fragment_in (Some place))) (size_in (fragment_in (Some now))) (set_value (leaf_is leaf) places now) c
  resized_value =
      resized_so leaf (Some place) (Some now) places (set_value (leaf_is leaf) places now) c told count (sym is)
      (found leaf ∙ ap (λ b. cond b (Some now) (lookup (leaf_is leaf) places)) (leaf_itself leaf))
      (λ q apart. found q ∙ ap (λ b. cond b (Some now) (lookup (leaf_is q) places)) apart)

  pub told_value : size_in (fragment_in (Some now)) ≡ size_in (fragment_in (Some place)) → AreTold (set_value (leaf_is leaf) places now) c
  told_value same = told_so places (set_value (leaf_is leaf) places now) c told count (λ q. go q (leaf_is leaf q) refl)
    where
      go : (q : Leaf) (b : Bool) → leaf_is leaf q ≡ b → sizes_of (set_value (leaf_is leaf) places now) q ≡ sizes_of places q
      go q true is_q =
          ap (λ (o : Option Place). size_in (fragment_in o)) (found q ∙ ap (λ b. cond b (Some now) (lookup (leaf_is q) places)) is_q)
          ∙ same ∙ ap (λ (o : Option Place). size_in (fragment_in o)) (is ∙ ap (λ (l : Leaf). lookup (leaf_is l) places) (one_leaf leaf q is_q))
      go q false apart = ap (λ (o : Option Place). size_in (fragment_in o)) (found q ∙ ap (λ b. cond b (Some now) (lookup (leaf_is q) places)) apart)

-- a place that is used
length_removed : (leaf : Leaf) (places : Places) → length (remove_entry (leaf_is leaf) places) ≤ length places
length_removed leaf [] = omega arith
length_removed leaf (e ∷ es) = go (leaf_is leaf e.0) (length_removed leaf es)
  where
    go : (b : Bool) → length (remove_entry (leaf_is leaf) es) ≤ length es → length (cond b es (e ∷ remove_entry (leaf_is leaf) es)) ≤ suc (length es)
    go true few = omega arith
    go false few = omega (arith, few)

length_there : (leaf : Leaf) (places : Places) → IsSome (lookup (leaf_is leaf) places) → suc (length (remove_entry (leaf_is leaf) places)) ≤ length places
length_there leaf [] some = let clash : false ≡ true = some in absurd cc
length_there leaf (e ∷ es) some = go (length_there leaf es) (leaf_is leaf e.0) some
  where
    go : (IsSome (lookup (leaf_is leaf) es) → suc (length (remove_entry (leaf_is leaf) es)) ≤ length es) → (b : Bool) → IsSome (cond b (Some e.1) (lookup (leaf_is leaf) es)) → suc (length (cond b es (e ∷ remove_entry (leaf_is leaf) es))) ≤ suc (length es)
    go rest true some = omega arith
    go rest false some = omega (arith, rest some)

pub told_promoted : (leaf : Leaf) (old : Held) (c : Candidates) → AreTold old.entries c → AreTold (promoted (leaf_is leaf) old.entries) c
told_promoted leaf old c told = go (lookup (leaf_is leaf) old.entries) refl
  where
    go : (o : Option Place) → lookup (leaf_is leaf) old.entries ≡ o → AreTold (promoted (leaf_is leaf) old.entries) c
    go None is = subst (λ (es : Places). AreTold es c) (sym (not_promoted leaf old.entries is)) told
    go (Some place) is =
        subst (λ (es : Places). AreTold es c) (sym (promoted_is leaf place old.entries is))
        (told_so old.entries ((leaf, place) ∷ remove_entry (leaf_is leaf) old.entries) c told (length_there leaf old.entries (subst (λ (o : Option Place). IsSome o) (sym is) refl)) (λ q. ap (λ (o : Option Place). size_in (fragment_in o)) (after_use leaf q place old ∙ here q (leaf_is leaf q) refl)))
      where
        here : (q : Leaf) (b : Bool) → leaf_is leaf q ≡ b → cond (leaf_is leaf q) (Some place) (lookup (leaf_is q) old.entries) ≡ lookup (leaf_is q) old.entries
        here q true same = ap (λ b. cond b (Some place) (lookup (leaf_is q) old.entries)) same ∙ sym is ∙ ap (λ (l : Leaf). lookup (leaf_is l) old.entries) (one_leaf leaf q same)
        here q false apart = ap (λ b. cond b (Some place) (lookup (leaf_is q) old.entries)) apart

-- a kept place is filled
pub resized_filled : (leaf : Leaf) (was place : Place) (old : Held) (c : Candidates) → AreTold old.entries c → lookup (leaf_is leaf) old.entries ≡ Some was
    → MayResize leaf (size_in (fragment_in (Some was))) (size_in (fragment_in (Some place))) (used_as leaf place old).entries c
resized_filled leaf was place old c told is =
    resized_so leaf (Some was) (Some place) old.entries (used_as leaf place old).entries c told (length_there leaf old.entries (subst (λ (o : Option Place). IsSome o) (sym is) refl)) is
    (after_use leaf leaf place old ∙ ap (λ b. cond b (Some place) (lookup (leaf_is leaf) old.entries)) (leaf_itself leaf))
    (λ q apart. after_use leaf q place old ∙ ap (λ b. cond b (Some place) (lookup (leaf_is q) old.entries)) apart)

-- a place is given up
pub resized_without : (leaf : Leaf) (places : Places) (c : Candidates) → AreTold places c → IsDistinct leaf_is (keys_of places)
    → MayResize leaf (size_in (fragment_in (lookup (leaf_is leaf) places))) None (remove_entry (leaf_is leaf) places) c
resized_without leaf places c told distinct =
    resized_so leaf (lookup (leaf_is leaf) places) None places (remove_entry (leaf_is leaf) places) c told (length_removed leaf places) refl
    (after_removal leaf leaf places distinct ∙ ap (λ b. cond b None (lookup (leaf_is leaf) places)) (leaf_itself leaf))
    (λ q apart. after_removal leaf q places distinct ∙ ap (λ b. cond b None (lookup (leaf_is q) places)) apart)

-- a place is taken
pub resized_held : (leaf : Leaf) (place : Place) (places : Places) (c : Candidates) → AreCandidates (sizes_of places) c → HasRoomFor (suc (length places)) c → lookup (leaf_is leaf) places ≡ None
    → MayResize leaf None (size_in (fragment_in (Some place))) ((leaf, place) ∷ places) c
resized_held leaf place places c sets room none = record {
  sizes = sizes_of places;
  sets = sets;
  resized = record {
    before = ap (λ (o : Option Place). size_in (fragment_in o)) none;
    after = ap (λ b. size_in (fragment_in (cond b (Some place) (lookup (leaf_is leaf) places)))) (leaf_itself leaf);
    others = λ q apart. ap (λ b. size_in (fragment_in (cond b (Some place) (lookup (leaf_is q) places)))) (flips q leaf ∙ apart);
  };
  room = room;
}

-- ---- what the calls of a cache need

-- a fragment that shows what it showed
pub same_size : (place : Place) (f : Cached) → shown_names f ≡ shown_names place.frag → size_in (fragment_in (Some (record { frag = f; kept = place.kept }))) ≡ size_in (fragment_in (Some place))
same_size place f same = go place.kept
  where
    go : (b : Bool) → size_in (cond b None (Some f)) ≡ size_in (cond b None (Some place.frag))
    go true = refl
    go false = ap (λ m. Some (finmap.len m)) same

-- a place that was given up
pub resized_popped : (leaf : Leaf) (old new : Held) (c : Candidates) (was : Option ℕ) (o : Option Place) → AreTold old.entries c → IsDistinct leaf_is (keys_of old.entries)
    → new ≡ lru_cache (remove_entry (leaf_is leaf) old.entries) old.cap → was ≡ size_in (fragment_in o) → o ≡ lookup (leaf_is leaf) old.entries → MayResize leaf was None new.entries c
resized_popped leaf old new c was o told distinct is size found =
    subst (λ (h : Held). MayResize leaf was None h.entries c) (sym is)
    (may_so leaf was (size_in (fragment_in (lookup (leaf_is leaf) old.entries))) None None (remove_entry (leaf_is leaf) old.entries) c (size ∙ ap (λ (p : Option Place). size_in (fragment_in p)) found) refl (resized_without leaf old.entries c told distinct))

-- a kept place that was filled
pub resized_kept : (leaf : Leaf) (place : Place) (old new : Held) (c : Candidates) (now : Option ℕ) → AreTold old.entries c → is_kept (lookup (leaf_is leaf) old.entries) ≡ true → new ≡ used_as leaf place old
    → now ≡ size_in (fragment_in (Some place)) → MayResize leaf None now new.entries c
resized_kept leaf place old new c now told kept is size = go (lookup (leaf_is leaf) old.entries) refl kept
  where
    go : (o : Option Place) → lookup (leaf_is leaf) old.entries ≡ o → is_kept o ≡ true → MayResize leaf None now new.entries c
    go None found kept = let clash : false ≡ true = kept in absurd cc
    go (Some was) found kept =
        subst (λ (h : Held). MayResize leaf None now h.entries c) (sym is)
        (may_so leaf None (size_in (fragment_in (Some was))) now (size_in (fragment_in (Some place))) (used_as leaf place old).entries c
        (sym (ap (λ b. size_in (cond b None (Some was.frag))) kept)) size (resized_filled leaf was place old c told found))

-- a place that was taken
pub resized_taken : (leaf : Leaf) (place : Place) (old mid new : Held) (c d : Candidates) (now : Option ℕ) (count : ℕ) → mid ≡ old → AreCandidates (sizes_of mid.entries) d → HasRoomFor count d → count ≡ length mid.entries + 1
    → lookup (leaf_is leaf) old.entries ≡ None → new ≡ lru_cache ((leaf, place) ∷ old.entries) old.cap → now ≡ size_in (fragment_in (Some place)) → MayResize leaf None now new.entries d
resized_taken leaf place old mid new c d now count same sets room counted none is size =
    let here : AreCandidates (sizes_of old.entries) d = subst (λ (h : Held). AreCandidates (sizes_of h.entries) d) same sets in
    let one : count ≡ suc (length old.entries) = counted ∙ ap (λ (h : Held). length h.entries + 1) same ∙ omega arith in
    subst (λ (h : Held). MayResize leaf None now h.entries d) (sym is)
    (may_so leaf None None now (size_in (fragment_in (Some place))) ((leaf, place) ∷ old.entries) d refl size (resized_held leaf place old.entries d here (subst (λ n. HasRoomFor n d) one room) none))

-- which fragment is counted anew
pub small_each : (leaf whole : Leaf) (new old : Leaf → Bool) (sizes : Sizes) (is : Bool) (r : Option Fragment) → whole.0 ≡ leaf.0 → r ≡ Some whole.1
    → ((w : Fragment) (i : ℕ) → IsFragment w → i < 8 → child_of w i 3 ≡ leaf.1 → r ≡ Some w) → is ≡ are_few sizes whole → ((q : Leaf) → new q ≡ cond (leaf_is whole q) is (old q))
    → (q : Leaf) → IsFragment q.1 → (new q ≡ are_few sizes q) ⊎ ((new q ≡ old q) × ((i : ℕ) → i < 8 → child q i ≢ leaf))
small_each leaf whole new old sizes is r dir found only counted each q fragment = go (leaf_is whole q) refl
  where
    go : (b : Bool) → leaf_is whole q ≡ b → (new q ≡ are_few sizes q) ⊎ ((new q ≡ old q) × ((i : ℕ) → i < 8 → child q i ≢ leaf))
    go true same = inl (each q ∙ ap (λ b. cond b is (old q)) same ∙ counted ∙ ap (are_few sizes) (one_leaf whole q same))
    go false apart = inr (each q ∙ ap (λ b. cond b is (old q)) apart, λ i lt child_is. clash i lt child_is)
      where
        clash : (i : ℕ) → i < 8 → child q i ≡ leaf → ⊥
        clash i lt child_is =
            let frag : whole.1 ≡ q.1 = same_Some whole.1 q.1 (sym found ∙ only q.1 i fragment lt (ap (λ (l : Leaf). l.1) child_is)) in
            let home : whole.0 ≡ q.0 = dir ∙ sym (ap (λ (l : Leaf). l.0) child_is) in
            let both : true ≡ false = sym (same_leaf whole q (λ j. (home j, frag j))) ∙ apart in
            cc
