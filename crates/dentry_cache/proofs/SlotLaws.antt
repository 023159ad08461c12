-- Laws of places that stand in slots.
use Rattle.std.proofs.Common.{Bool, List, arith, slice_get, None, Option, Some, [], ap, cond, false, ap₂, eq-eqb, eqb-true, get_or, is_some, length, set, option_map, refl, subst, sym, true, ℕ, ◌+◌, ◌++◌, ◌<◌, ◌==◌, ◌∙◌, ◌≢◌, ◌∷◌, ◌≡◌}
use Rattle.std.specs.Option.{option_map_or}
use Rattle.std.specs.List.{AllByRecursion, IsDistinct}
use Rattle.std.specs.Map.{keys_of, lookup, lookup_entry, remove_entry, set_value}
use Rattle.lru.specs.LruCache.{lru_cache, promoted}
use Rattle.dentry_cache.specs.Cache.{HasCached, HasRoom, Held, Leaf, Places, fragment_in, leaf_is}
use Rattle.cached_frag.specs.Cached.{Cached}
use Rattle.dentry_cache.specs.Slots.{AreSlotted, places_in, slot_at}
use Rattle.dentry_cache.specs.declared.cache.Place.{Place}
use Rattle.dentry_cache.specs.declared.place_lru.Slot.{Slot}
use Rattle.std.proofs.lemmas.Bool.{eqb-false, false≢true}
use Rattle.std.proofs.lemmas.Grind.{get_or-set_at}
use Rattle.std.proofs.lemmas.List.{get_or-set_other, get_or_append_left, get_or_default, length-append, length-set}
use Rattle.std.proofs.Math.Seq.{get_or-append_seam}
use Rattle.std.proofs.lemmas.Option.{none-some}
use Rattle.dentry_cache.proofs.LeafLaws.{flips, leaf_itself, one_leaf}
use Rattle.dentry_cache.proofs.UsedLaws.{all_promoted}

module _ (slots : List Slot) where
  -- the place that stands in a slot
  abbrev pub place_in : ℕ → Place
  place_in i = (slot_at slots i).place

  -- a leaf's place stands in its slot
  pub placed_there : (test : Leaf → Bool) (entries : List (Leaf × ℕ)) → lookup test (places_in slots entries) ≡ option_map place_in (lookup test entries)
  placed_there test [] = refl
  placed_there test (e ∷ entries) = go (test e.0) (placed_there test entries)
    where
      go : (b : Bool) → lookup test (places_in slots entries) ≡ option_map place_in (lookup test entries) → cond b (Some (place_in e.1)) (lookup test (places_in slots entries)) ≡ option_map place_in (cond b (Some e.1) (lookup test entries))
      go true more = refl
      go false more = more

  pub is_placed : (o : Option ℕ) → is_some o ≡ is_some (option_map place_in o)
  is_placed None = refl
  is_placed (Some i) = refl

  pub placed_entry : (test : Leaf → Bool) (entries : List (Leaf × ℕ)) → lookup_entry test (places_in slots entries) ≡ option_map (λ e. (e.0, place_in e.1)) (lookup_entry test entries)
  placed_entry test [] = refl
  placed_entry test (e ∷ entries) = go (test e.0) (placed_entry test entries)
    where
      go : (b : Bool) → lookup_entry test (places_in slots entries) ≡ option_map (λ e. (e.0, place_in e.1)) (lookup_entry test entries)
          → cond b (Some (e.0, place_in e.1)) (lookup_entry test (places_in slots entries)) ≡ option_map (λ e. (e.0, place_in e.1)) (cond b (Some e) (lookup_entry test entries))
      go true more = refl
      go false more = more

  pub placed_without : (test : Leaf → Bool) (entries : List (Leaf × ℕ)) → remove_entry test (places_in slots entries) ≡ places_in slots (remove_entry test entries)
  placed_without test [] = refl
  placed_without test (e ∷ entries) = go (test e.0) (placed_without test entries)
    where
      go : (b : Bool) → remove_entry test (places_in slots entries) ≡ places_in slots (remove_entry test entries)
          → cond b (places_in slots entries) ((e.0, place_in e.1) ∷ remove_entry test (places_in slots entries)) ≡ places_in slots (cond b entries (e ∷ remove_entry test entries))
      go true more = refl
      go false more = ap (λ (l : Places). (e.0, place_in e.1) ∷ l) more

  pub placed_promoted : (test : Leaf → Bool) (entries : List (Leaf × ℕ)) → promoted test (places_in slots entries) ≡ places_in slots (promoted test entries)
  placed_promoted test entries =
      ap (λ (o : Option (Leaf × Place)). option_map_or (λ e. e ∷ remove_entry test (places_in slots entries)) o (places_in slots entries)) (placed_entry test entries) ∙ go (lookup_entry test entries)
    where
      go : (o : Option (Leaf × ℕ)) → option_map_or (λ e. e ∷ remove_entry test (places_in slots entries)) (option_map (λ e. (e.0, place_in e.1)) o) (places_in slots entries)
          ≡ places_in slots (option_map_or (λ e. e ∷ remove_entry test entries) o entries)
      go None = refl
      go (Some e) = ap (λ (l : Places). (e.0, place_in e.1) ∷ l) (placed_without test entries)

  -- the leaves are the order's, and as many
  pub placed_keys : (entries : List (Leaf × ℕ)) → keys_of (places_in slots entries) ≡ keys_of entries
  placed_keys [] = refl
  placed_keys (e ∷ entries) = ap (λ (l : List Leaf). e.0 ∷ l) (placed_keys entries)

  pub placed_count : (entries : List (Leaf × ℕ)) → length (places_in slots entries) ≡ length entries
  placed_count [] = refl
  placed_count (e ∷ entries) = omega (arith, placed_count entries)

  -- a use leaves each in its slot
  pub slotted_promoted : (leaf : Leaf) (entries : List (Leaf × ℕ)) → AreSlotted slots entries → AreSlotted slots (promoted (leaf_is leaf) entries)
  slotted_promoted leaf entries are = record {
    within = λ q i is. are.within q i (sym (all_promoted leaf q entries) ∙ is);
    owned = λ q i is. are.owned q i (sym (all_promoted leaf q entries) ∙ is);
    taken = λ i within. all_promoted leaf (slot_at slots i).leaf entries ∙ are.taken i within;
  }

  -- the slot that was read there
  pub read : (i : ℕ) (s : Slot) → i < length slots → s ≡ get_or slots i s → s ≡ slot_at slots i
  read i s within is = is ∙ get_or_default slots i s _ within

  pub first_within : (entries : List (Leaf × ℕ)) (leaf : Leaf) (i : ℕ) → AreSlotted slots entries → Some (leaf, i) ≡ slice_get entries 0 → i < length slots
  first_within [] leaf i are is = absurd (none-some _ (sym is))
  first_within (e ∷ entries) leaf i are is =
      let same : (leaf, i) ≡ e = cc in
      subst (λ (x : Leaf × ℕ). x.1 < length slots) (sym same) (are.within e.0 e.1 (ap (λ b. cond b (Some e.1) (lookup (leaf_is e.0) entries)) (leaf_itself e.0)))

  -- what is found for a leaf is no key's that all differ from
  apart_from : (key leaf : Leaf) (es : List (Leaf × ℕ)) (i : ℕ) → AllByRecursion (λ y. leaf_is key y ≡ false) (keys_of es) → lookup (leaf_is leaf) es ≡ Some i → leaf_is key leaf ≡ false
  apart_from key leaf [] i none is = absurd (none-some i is)
  apart_from key leaf (x ∷ es) i none is = go (apart_from key leaf es i none.1) (leaf_is leaf x.0) refl is
    where
      go : (lookup (leaf_is leaf) es ≡ Some i → leaf_is key leaf ≡ false) → (b : Bool) → leaf_is leaf x.0 ≡ b → cond b (Some x.1) (lookup (leaf_is leaf) es) ≡ Some i → leaf_is key leaf ≡ false
      go rest true same is = subst (λ (l : Leaf). leaf_is key l ≡ false) (sym (one_leaf leaf x.0 same)) none.0
      go rest false other is = rest is

  -- what holds of each leaf that is found holds of each entry, where no leaf stands twice
  pub each_found : (Holds : Leaf → ℕ → Type 0) (entries : List (Leaf × ℕ)) → IsDistinct leaf_is (keys_of entries) → ((leaf : Leaf) (i : ℕ) → lookup (leaf_is leaf) entries ≡ Some i → Holds leaf i)
      → AllByRecursion (λ e. Holds e.0 e.1) entries
  unfolding IsDistinct
  each_found Holds [] distinct found = tt
  each_found Holds (e ∷ entries) distinct found = (
    found e.0 e.1 (ap (λ b. cond b (Some e.1) (lookup (leaf_is e.0) entries)) (leaf_itself e.0)),
    each_found Holds entries distinct.1 (λ leaf i is. found leaf i (ap (λ b. cond b (Some e.1) (lookup (leaf_is leaf) entries)) (flips leaf e.0 ∙ apart_from e.0 leaf entries i distinct.0 is) ∙ is)),
  )

  pub owned_each : (entries : List (Leaf × ℕ)) → IsDistinct leaf_is (keys_of entries) → ((leaf : Leaf) (i : ℕ) → lookup (leaf_is leaf) entries ≡ Some i → (slot_at slots i).leaf ≡ leaf)
      → AllByRecursion (λ e. (slot_at slots e.1).leaf ≡ e.0) entries
  owned_each = each_found (λ leaf i. (slot_at slots i).leaf ≡ leaf)

  -- the slots with another place in one of them
  abbrev pub with_place : ℕ → Place → List Slot
  with_place i w = set slots i (record { leaf = (slot_at slots i).leaf; place = w })

  pub place_there : (i : ℕ) (w : Place) → i < length slots → (slot_at (with_place i w) i).place ≡ w
  place_there i w within = ap (λ (s : Slot). s.place) (get_or-set_at slots i i _ _ refl within)

  pub place_beside : (i j : ℕ) (w : Place) → j ≢ i → slot_at (with_place i w) j ≡ slot_at slots j
  place_beside i j w other = get_or-set_other slots i j _ _ other

  pub leaves_stay : (i j : ℕ) (w : Place) → i < length slots → (slot_at (with_place i w) j).leaf ≡ (slot_at slots j).leaf
  leaves_stay i j w within = go (j == i) refl
    where
      go : (b : Bool) → (j == i) ≡ b → (slot_at (with_place i w) j).leaf ≡ (slot_at slots j).leaf
      go true same = ap (λ (s : Slot). s.leaf) (get_or-set_at slots i j _ _ (eqb-true j i same) within) ∙ ap (λ n. (slot_at slots n).leaf) (sym (eqb-true j i same))
      go false other = ap (λ (s : Slot). s.leaf) (place_beside i j w (λ e. false≢true (sym other ∙ eq-eqb j i e)))

  untouched : (leaf key : Leaf) (i : ℕ) (w : Place) (es : List (Leaf × ℕ)) → (slot_at slots i).leaf ≡ leaf → leaf ≡ key → AllByRecursion (λ y. leaf_is key y ≡ false) (keys_of es)
      → AllByRecursion (λ x. (slot_at slots x.1).leaf ≡ x.0) es → places_in (with_place i w) es ≡ places_in slots es
  untouched leaf key i w [] its same apart mine = refl
  untouched leaf key i w (x ∷ es) its same apart mine =
      let other : x.1 ≢ i = λ at. false≢true (sym apart.0 ∙ ap (leaf_is key) (sym mine.0 ∙ ap (λ n. (slot_at slots n).leaf) at ∙ its ∙ same) ∙ leaf_itself key) in
      ap₂ (λ (p : Place) (l : Places). (x.0, p) ∷ l) (ap (λ (t : Slot). t.place) (place_beside i x.1 w other)) (untouched leaf key i w es its same apart.1 mine.1)

  -- a place that is written is that of its leaf alone
  pub written : (leaf : Leaf) (i : ℕ) (w : Place) (entries : List (Leaf × ℕ)) → i < length slots → (slot_at slots i).leaf ≡ leaf → IsDistinct leaf_is (keys_of entries)
      → AllByRecursion (λ e. (slot_at slots e.1).leaf ≡ e.0) entries → lookup (leaf_is leaf) entries ≡ Some i
      → places_in (with_place i w) entries ≡ set_value (leaf_is leaf) (places_in slots entries) w
  unfolding IsDistinct
  written leaf i w [] within its distinct owned found = refl
  written leaf i w (e ∷ entries) within its distinct owned found = go (written leaf i w entries within its distinct.1 owned.1) (leaf_is leaf e.0) refl found
    where
      go : (lookup (leaf_is leaf) entries ≡ Some i → places_in (with_place i w) entries ≡ set_value (leaf_is leaf) (places_in slots entries) w) → (b : Bool) → leaf_is leaf e.0 ≡ b
          → cond b (Some e.1) (lookup (leaf_is leaf) entries) ≡ Some i
          → (e.0, (slot_at (with_place i w) e.1).place) ∷ places_in (with_place i w) entries ≡ cond b ((e.0, w) ∷ places_in slots entries) ((e.0, place_in e.1) ∷ set_value (leaf_is leaf) (places_in slots entries) w)
      go rest true same is =
          let at : e.1 ≡ i = cc in
          ap₂ (λ (p : Place) (l : Places). (e.0, p) ∷ l) (ap (λ n. (slot_at (with_place i w) n).place) at ∙ place_there i w within) (untouched leaf e.0 i w entries its (one_leaf leaf e.0 same) distinct.0 owned.1)
      go rest false other is =
          let beside : e.1 ≢ i = λ at. false≢true (sym other ∙ ap (leaf_is leaf) (sym owned.0 ∙ ap (λ n. (slot_at slots n).leaf) at ∙ its) ∙ leaf_itself leaf) in
          ap₂ (λ (p : Place) (l : Places). (e.0, p) ∷ l) (ap (λ (t : Slot). t.place) (place_beside i e.1 w beside)) (rest is)

  -- and each leaf keeps its slot
  pub slotted_written : (i : ℕ) (w : Place) (entries : List (Leaf × ℕ)) → i < length slots → AreSlotted slots entries → AreSlotted (with_place i w) entries
  slotted_written i w entries within are = record {
    within = λ q j is. subst (λ n. j < n) (sym (length-set slots i _)) (are.within q j is);
    owned = λ q j is. leaves_stay i j w within ∙ are.owned q j is;
    taken = λ j less. subst (λ (l : Leaf). lookup (leaf_is l) entries ≡ Some j) (sym (leaves_stay i j w within)) (are.taken j (subst (λ n. j < n) (length-set slots i _) less));
  }

  -- one slot more leaves the others
  pub grown : (s : Slot) (entries : List (Leaf × ℕ)) → AllByRecursion (λ e. e.1 < length slots) entries → places_in (slots ++ s ∷ []) entries ≡ places_in slots entries
  grown s [] within = refl
  grown s (e ∷ entries) within =
      ap₂ (λ (t : Slot) (l : Places). (e.0, t.place) ∷ l) (get_or_append_left slots (s ∷ []) _ e.1 within.0) (grown s entries within.1)

  -- a leaf that had none has the new one
  pub slotted_more : (s : Slot) (entries : List (Leaf × ℕ)) → AreSlotted slots entries → lookup (leaf_is s.leaf) entries ≡ None → AreSlotted (slots ++ s ∷ []) ((s.leaf, length slots) ∷ entries)
  slotted_more s entries are none = record {
    within = λ q i is. rw (length-append slots (s ∷ [])) (in_range q i (leaf_is q s.leaf) is);
    owned = λ q i is. its q i (leaf_is q s.leaf) refl is;
    taken = λ i within. back i (i == length slots) refl (omega (arith, length-append slots (s ∷ []), within));
  }
    where
      in_range : (q : Leaf) (i : ℕ) (b : Bool) → cond b (Some (length slots)) (lookup (leaf_is q) entries) ≡ Some i → i < length slots + 1
      in_range q i true is = let same : length slots ≡ i = cc in omega (arith, same)
      in_range q i false is = let low = are.within q i is in omega (arith, low)

      its : (q : Leaf) (i : ℕ) (b : Bool) → leaf_is q s.leaf ≡ b → cond b (Some (length slots)) (lookup (leaf_is q) entries) ≡ Some i → (slot_at (slots ++ s ∷ []) i).leaf ≡ q
      its q i true same is =
          let at : length slots ≡ i = cc in
          ap (λ n. (slot_at (slots ++ s ∷ []) n).leaf) (sym at) ∙ ap (λ (t : Slot). t.leaf) (get_or-append_seam slots s [] _) ∙ sym (one_leaf q s.leaf same)
      its q i false other is = ap (λ (t : Slot). t.leaf) (get_or_append_left slots (s ∷ []) _ i (are.within q i is)) ∙ are.owned q i is

      apart : (q : Leaf) (i : ℕ) → lookup (leaf_is q) entries ≡ Some i → (b : Bool) → leaf_is q s.leaf ≡ b → leaf_is q s.leaf ≡ false
      apart q i found true same = absurd (none-some i (sym none ∙ ap (λ (l : Leaf). lookup (leaf_is l) entries) (sym (one_leaf q s.leaf same)) ∙ found))
      apart q i found false other = other

      back : (i : ℕ) (b : Bool) → (i == length slots) ≡ b → i < length slots + 1 → lookup (leaf_is (slot_at (slots ++ s ∷ []) i).leaf) ((s.leaf, length slots) ∷ entries) ≡ Some i
      back i true same less =
          let at = eqb-true i (length slots) same in
          let new : (slot_at (slots ++ s ∷ []) i).leaf ≡ s.leaf = ap (λ n. (slot_at (slots ++ s ∷ []) n).leaf) at ∙ ap (λ (t : Slot). t.leaf) (get_or-append_seam slots s [] _) in
          ap (λ (l : Leaf). lookup (leaf_is l) ((s.leaf, length slots) ∷ entries)) new
          ∙ ap (λ b. cond b (Some (length slots)) (lookup (leaf_is s.leaf) entries)) (leaf_itself s.leaf) ∙ ap (λ n. Some n) (sym at)
      back i false other less =
          let low : i < length slots = omega (arith, eqb-false i (length slots) other, less) in
          let old : (slot_at (slots ++ s ∷ []) i).leaf ≡ (slot_at slots i).leaf = ap (λ (t : Slot). t.leaf) (get_or_append_left slots (s ∷ []) _ i low) in
          let found = are.taken i low in
          ap (λ (l : Leaf). lookup (leaf_is l) ((s.leaf, length slots) ∷ entries)) old
          ∙ ap (λ b. cond b (Some (length slots)) (lookup (leaf_is (slot_at slots i).leaf) entries)) (apart (slot_at slots i).leaf i found (leaf_is (slot_at slots i).leaf s.leaf) refl) ∙ found

  -- a leaf with no place has no slot
  pub no_slot : (test : Leaf → Bool) (entries : List (Leaf × ℕ)) → lookup test (places_in slots entries) ≡ None → lookup test entries ≡ None
  no_slot test entries none = go (lookup test entries) (sym (placed_there test entries) ∙ none)
    where
      go : (o : Option ℕ) → option_map place_in o ≡ None → o ≡ None
      go None is = refl
      go (Some i) is = absurd (none-some _ (sym is))

  -- so the places are with one more
  pub more_places : (s : Slot) (entries : List (Leaf × ℕ)) → AllByRecursion (λ e. e.1 < length slots) entries
      → places_in (slots ++ s ∷ []) ((s.leaf, length slots) ∷ entries) ≡ (s.leaf, s.place) ∷ places_in slots entries
  more_places s entries within =
      ap₂ (λ (t : Slot) (l : Places). (s.leaf, t.place) ∷ l) (get_or-append_seam slots s [] _) (grown s entries within)

  -- the last
  pub last_placed : (es : List (Leaf × ℕ)) (e : Leaf × ℕ) → places_in slots (es ++ e ∷ []) ≡ places_in slots es ++ (e.0, place_in e.1) ∷ []
  last_placed [] e = refl
  last_placed (x ∷ es) e = ap (λ (l : Places). (x.0, place_in x.1) ∷ l) (last_placed es e)

  pub last_within : (es : List (Leaf × ℕ)) (e : Leaf × ℕ) → AllByRecursion (λ x. x.1 < length slots) (es ++ e ∷ []) → e.1 < length slots
  last_within [] e all = all.0
  last_within (x ∷ es) e all = last_within es e all.1

-- ---- the first place

-- the first one is first already
pub first_promoted : (leaf : Leaf) (slot : ℕ) (es : List (Leaf × ℕ)) → Some (leaf, slot) ≡ slice_get es 0 → promoted (leaf_is leaf) es ≡ es
first_promoted leaf slot [] is = absurd (none-some _ (sym is))
first_promoted leaf slot (e ∷ es) is =
    let same : leaf ≡ e.0 = cc in
    let mine : leaf_is leaf e.0 ≡ true = ap (leaf_is leaf) (sym same) ∙ leaf_itself leaf in
    ap (λ (b : Bool). option_map_or (λ x. x ∷ cond b es (e ∷ remove_entry (leaf_is leaf) es)) (cond b (Some e) (lookup_entry (leaf_is leaf) es)) (e ∷ es)) mine

pub first_found : (leaf : Leaf) (slot : ℕ) (es : List (Leaf × ℕ)) → Some (leaf, slot) ≡ slice_get es 0 → lookup (leaf_is leaf) es ≡ Some slot
first_found leaf slot [] is = absurd (none-some _ (sym is))
first_found leaf slot (e ∷ es) is =
    let same : leaf ≡ e.0 = cc in
    let its : slot ≡ e.1 = cc in
    ap (λ (b : Bool). cond b (Some e.1) (lookup (leaf_is leaf) es)) (ap (leaf_is leaf) (sym same) ∙ leaf_itself leaf) ∙ ap (λ (n : ℕ). Some n) (sym its)

-- a place that came, said of the cache that is seen
pub put_over : (leaf : Leaf) (place : Place) (old mid new : Held) → mid ≡ old → new ≡ lru_cache ((leaf, place) ∷ mid.entries) mid.cap → new ≡ lru_cache ((leaf, place) ∷ old.entries) old.cap
put_over leaf place old mid new same is = is ∙ ap (λ (h : Held). lru_cache ((leaf, place) ∷ h.entries) h.cap) same

pub never_gone : (leaf : Leaf) (old : Held) (there : Bool) → there ≡ is_some (lookup (leaf_is leaf) old.entries) → there ≡ true → None ≡ lookup (leaf_is leaf) old.entries → ⊥
never_gone leaf old there told is none = false≢true (ap is_some none ∙ sym told ∙ is)

pub room_in : (place : Place) → HasRoom (fragment_in (Some place)) → 0 < place.frag.room
room_in place = go place.kept
  where
    go : (b : Bool) → HasRoom (cond b None (Some place.frag)) → 0 < place.frag.room
    go true room = absurd room
    go false room = room

pub cached_in : (place : Place) (Holds : Cached → Type 0) → HasCached (fragment_in (Some place)) Holds → Holds place.frag
cached_in place Holds = go place.kept
  where
    go : (b : Bool) → HasCached (cond b None (Some place.frag)) Holds → Holds place.frag
    go true has = absurd has
    go false has = has
