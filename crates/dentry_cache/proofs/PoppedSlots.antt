-- Laws of places in slots, of which one was taken out: the last slot has its number then.
use Rattle.std.proofs.Common.{Bool, List, ◌≤◌, None, Option, Some, [], ap, ap₂, arith, cond, eq-eqb, eqb-true, false, get_or, is_some, length, refl, set, subst, sym, true, ℕ, ◌-◌, ◌<◌, ◌==◌, ◌∙◌, ◌∷◌, ◌≡◌, ◌≢◌}
use Rattle.std.specs.List.{AllByRecursion, IsDistinct, swap_remove}
use Rattle.std.specs.Map.{keys_of, lookup, remove_entry, set_value}
use Rattle.std.proofs.lemmas.Bool.{eqb-false, false≢true}
use Rattle.std.proofs.lemmas.Grind.{get_or-set_at}
use Rattle.std.proofs.lemmas.List.{get_or-set_other, get_or-take, get_or_default, length-set, length-take}
use Rattle.std.proofs.lemmas.Option.{none-some}
use Rattle.std.proofs.lemmas.Map.{lookup-set_value}
use Rattle.lru.specs.LruCache.{LruCache, lru_cache}
use Rattle.dentry_cache.specs.Cache.{Leaf, Places, leaf_is}
use Rattle.dentry_cache.specs.Slots.{AreSlotted, placed_by, places_in, slot_at}
use Rattle.dentry_cache.specs.declared.place_lru.Slot.{Slot}
use Rattle.dentry_cache.proofs.LeafLaws.{leaf_equivalence, leaf_itself, one_leaf}
use Rattle.dentry_cache.proofs.CacheLaws.{after_removal}
use Rattle.dentry_cache.proofs.SlotLaws.{each_found}

module _ (slots : List Slot) (entries : List (Leaf × ℕ)) (are : AreSlotted slots entries) (distinct : IsDistinct leaf_is (keys_of entries)) (leaf : Leaf) (i : ℕ) (found : lookup (leaf_is leaf) entries ≡ Some i) (d : Slot) where
  abbrev last : ℕ
  last = length slots - 1

  abbrev pub left : List Slot
  left = swap_remove slots i d

  abbrev pub rest : List (Leaf × ℕ)
  rest = remove_entry (leaf_is leaf) entries

  within : i < length slots
  within = are.within leaf i found

  its : (slot_at slots i).leaf ≡ leaf
  its = are.owned leaf i found

  there : last < length slots
  there = omega (arith, within)

  -- what stands in each slot
  at_number : i < last → slot_at left i ≡ slot_at slots last
  at_number less =
      get_or-take last (set slots i (get_or slots last d)) i _ less ∙ get_or-set_at slots i i _ _ refl within ∙ get_or_default slots last d _ there

  elsewhere : (j : ℕ) → j < last → j ≢ i → slot_at left j ≡ slot_at slots j
  elsewhere j less other = get_or-take last (set slots i (get_or slots last d)) j _ less ∙ get_or-set_other slots i j _ _ other

  pub count_left : length left ≡ last
  count_left = length-take last (set slots i (get_or slots last d)) ∙ omega (arith, length-set slots i (get_or slots last d), within)

  -- what an entry that is left is
  abbrev Holds : Leaf → ℕ → Type 0
  Holds q j = (lookup (leaf_is q) entries ≡ Some j) × (leaf_is leaf q ≡ false)

  holds : (q : Leaf) (j : ℕ) → lookup (leaf_is q) rest ≡ Some j → Holds q j
  holds q j is = go (leaf_is leaf q) refl (sym (after_removal leaf q entries distinct) ∙ is)
    where
      go : (b : Bool) → leaf_is leaf q ≡ b → cond b None (lookup (leaf_is q) entries) ≡ Some j → (lookup (leaf_is q) entries ≡ Some j) × (leaf_is leaf q ≡ false)
      go true same is = absurd (none-some j is)
      go false other is = (is, other)

  other_number : (q : Leaf) (j : ℕ) → Holds q j → j ≢ i
  other_number q j h at = false≢true (sym h.1 ∙ ap (leaf_is leaf) (sym (are.owned q j h.0) ∙ ap (λ n. (slot_at slots n).leaf) at ∙ its) ∙ leaf_itself leaf)

  below_last : (q : Leaf) (j : ℕ) → lookup (leaf_is q) entries ≡ Some j → j ≢ last → j < last
  below_last q j is other = let low = are.within q j is in omega (arith, other, low)

  number_of_last : (q : Leaf) (j : ℕ) → lookup (leaf_is q) entries ≡ Some j → j ≡ last → leaf_is (slot_at slots last).leaf q ≡ true
  number_of_last q j is at = ap (λ (l : Leaf). leaf_is l q) (ap (λ n. (slot_at slots n).leaf) (sym at) ∙ are.owned q j is) ∙ leaf_itself q

  last_has : (q : Leaf) → leaf_is (slot_at slots last).leaf q ≡ true → lookup (leaf_is q) entries ≡ Some last
  last_has q same = ap (λ (l : Leaf). lookup (leaf_is l) entries) (sym (one_leaf _ q same)) ∙ are.taken last there

  -- entries of other slots than the last one and the free one
  kept : (es : List (Leaf × ℕ)) → AllByRecursion (λ e. (e.1 < last) × (e.1 ≢ i)) es → places_in left es ≡ places_in slots es
  kept [] each = refl
  kept (e ∷ es) each = ap₂ (λ (s : Slot) (l : Places). (e.0, s.place) ∷ l) (elsewhere e.1 each.0.0 each.0.1) (kept es each.1)

  apart_later : (key : Leaf) (es : List (Leaf × ℕ)) → leaf_is (slot_at slots last).leaf key ≡ true → AllByRecursion (λ y. leaf_is key y ≡ false) (keys_of es) → AllByRecursion (λ e. Holds e.0 e.1) es
      → AllByRecursion (λ e. (e.1 < last) × (e.1 ≢ i)) es
  apart_later key [] mine apart each = tt
  apart_later key (e ∷ es) mine apart each =
      let other : e.1 ≢ last = λ at. false≢true (sym apart.0 ∙ ap (λ (l : Leaf). leaf_is l e.0) (sym (one_leaf _ key mine)) ∙ number_of_last e.0 e.1 each.0.0 at) in
      ((below_last e.0 e.1 each.0.0 other, other_number e.0 e.1 each.0), apart_later key es mine apart.1 each.1)

  -- the last slot's place has the free number
  moved_places : (es : List (Leaf × ℕ)) → i < last → IsDistinct leaf_is (keys_of es) → AllByRecursion (λ e. Holds e.0 e.1) es
      → places_in left (set_value (leaf_is (slot_at slots last).leaf) es i) ≡ places_in slots es
  unfolding IsDistinct
  moved_places [] less one each = refl
  moved_places (e ∷ es) less one each = go (moved_places es less one.1 each.1) (leaf_is (slot_at slots last).leaf e.0) refl
    where
      go : places_in left (set_value (leaf_is (slot_at slots last).leaf) es i) ≡ places_in slots es → (b : Bool) → leaf_is (slot_at slots last).leaf e.0 ≡ b
          → places_in left (cond b ((e.0, i) ∷ es) (e ∷ set_value (leaf_is (slot_at slots last).leaf) es i)) ≡ (e.0, (slot_at slots e.1).place) ∷ places_in slots es
      go more true same =
          let number : last ≡ e.1 = same_of (sym (last_has e.0 same) ∙ each.0.0) in
          ap₂ (λ (s : Slot) (l : Places). (e.0, s.place) ∷ l) (at_number less ∙ ap (slot_at slots) number) (kept es (apart_later e.0 es same one.0 each.1))
        where
          same_of : {a b : ℕ} → ◌≡◌ {A = Option ℕ} (Some a) (Some b) → a ≡ b
          same_of is = cc
      go more false other =
          let beside : e.1 ≢ last = λ at. false≢true (sym other ∙ number_of_last e.0 e.1 each.0.0 at) in
          ap₂ (λ (s : Slot) (l : Places). (e.0, s.place) ∷ l) (elsewhere e.1 (below_last e.0 e.1 each.0.0 beside) (other_number e.0 e.1 each.0)) more

  -- where the last slot was the free one
  ended_places : (es : List (Leaf × ℕ)) → last ≡ i → AllByRecursion (λ e. Holds e.0 e.1) es → places_in left es ≡ places_in slots es
  ended_places [] same each = refl
  ended_places (e ∷ es) same each =
      let other : e.1 ≢ i = other_number e.0 e.1 each.0 in
      let less : e.1 < last = below_last e.0 e.1 each.0.0 (λ at. other (at ∙ same)) in
      ap₂ (λ (s : Slot) (l : Places). (e.0, s.place) ∷ l) (elsewhere e.1 less other) (ended_places es same each.1)

  rest_has : (q : Leaf) (j : ℕ) → Holds q j → lookup (leaf_is q) rest ≡ Some j
  rest_has q j h = after_removal leaf q entries distinct ∙ ap (λ b. cond b None (lookup (leaf_is q) entries)) h.1 ∙ h.0

  apart_from_last : (q : Leaf) (j : ℕ) → lookup (leaf_is q) entries ≡ Some j → j ≢ last → leaf_is (slot_at slots last).leaf q ≡ false
  apart_from_last q j is other = go (leaf_is (slot_at slots last).leaf q) refl
    where
      go : (b : Bool) → leaf_is (slot_at slots last).leaf q ≡ b → leaf_is (slot_at slots last).leaf q ≡ false
      go true same = let at : last ≡ j = one_of (sym (last_has q same) ∙ is) in absurd (other (sym at))
        where
          one_of : {a b : ℕ} → ◌≡◌ {A = Option ℕ} (Some a) (Some b) → a ≡ b
          one_of is = cc
      go false apart = apart

  apart_from_taken : (q : Leaf) (j : ℕ) → lookup (leaf_is q) entries ≡ Some j → j ≢ i → leaf_is leaf q ≡ false
  apart_from_taken q j is other = go (leaf_is leaf q) refl
    where
      go : (b : Bool) → leaf_is leaf q ≡ b → leaf_is leaf q ≡ false
      go true same = let at : i ≡ j = one_of (sym found ∙ ap (λ (l : Leaf). lookup (leaf_is l) entries) (one_leaf leaf q same) ∙ is) in absurd (other (sym at))
        where
          one_of : {a b : ℕ} → ◌≡◌ {A = Option ℕ} (Some a) (Some b) → a ≡ b
          one_of is = cc
      go false apart = apart

  pub slotted_ended : last ≡ i → AreSlotted left rest
  slotted_ended same = record {
    within = λ q j is. let h = holds q j is in subst (λ n. j < n) (sym count_left) (below_last q j h.0 (λ at. other_number q j h (at ∙ same)));
    owned = λ q j is. let h = holds q j is in ap (λ (s : Slot). s.leaf) (elsewhere j (below_last q j h.0 (λ at. other_number q j h (at ∙ same))) (other_number q j h)) ∙ are.owned q j h.0;
    taken = λ j less. taken j (subst (λ n. j < n) count_left less);
  }
    where
      taken : (j : ℕ) → j < last → lookup (leaf_is (slot_at left j).leaf) rest ≡ Some j
      taken j less =
          let other : j ≢ i = λ at. absurd (omega (arith, at, same, less)) in
          let old : (slot_at left j).leaf ≡ (slot_at slots j).leaf = ap (λ (s : Slot). s.leaf) (elsewhere j less other) in
          let its : lookup (leaf_is (slot_at slots j).leaf) entries ≡ Some j = are.taken j (omega (arith, less, within)) in
          ap (λ (l : Leaf). lookup (leaf_is l) rest) old ∙ rest_has _ j (its, apart_from_taken _ j its other)

  module _ (less : i < last) where
    mine : lookup (leaf_is (slot_at slots last).leaf) rest ≡ Some last
    mine = rest_has _ last (are.taken last there, apart_from_taken _ last (are.taken last there) (λ at. absurd (omega (arith, at, less))))

    finds : (q : Leaf) → lookup (leaf_is q) (set_value (leaf_is (slot_at slots last).leaf) rest i) ≡ cond (leaf_is (slot_at slots last).leaf q) (Some i) (lookup (leaf_is q) rest)
    finds q = lookup-set_value leaf_equivalence (leaf_is (slot_at slots last).leaf) (λ x y same. ap (λ (a : Leaf). leaf_is a y) (one_leaf (slot_at slots last).leaf x same)) q i rest (ap is_some mine)

    pub slotted_moved : AreSlotted left (set_value (leaf_is (slot_at slots last).leaf) rest i)
    slotted_moved = record {
      within = λ q j is. subst (λ n. j < n) (sym count_left) (in_range q j (leaf_is (slot_at slots last).leaf q) refl (sym (finds q) ∙ is));
      owned = λ q j is. whose q j (leaf_is (slot_at slots last).leaf q) refl (sym (finds q) ∙ is);
      taken = λ j low. back j (j == i) refl (subst (λ n. j < n) count_left low);
    }
      where
        in_range : (q : Leaf) (j : ℕ) (b : Bool) → leaf_is (slot_at slots last).leaf q ≡ b → cond b (Some i) (lookup (leaf_is q) rest) ≡ Some j → j < last
        in_range q j true same is = let at : i ≡ j = cc in omega (arith, at, less)
        in_range q j false apart is = let h = holds q j is in below_last q j h.0 (λ at. false≢true (sym apart ∙ number_of_last q j h.0 at))

        whose : (q : Leaf) (j : ℕ) (b : Bool) → leaf_is (slot_at slots last).leaf q ≡ b → cond b (Some i) (lookup (leaf_is q) rest) ≡ Some j → (slot_at left j).leaf ≡ q
        whose q j true same is = let at : i ≡ j = cc in ap (λ n. (slot_at left n).leaf) (sym at) ∙ ap (λ (s : Slot). s.leaf) (at_number less) ∙ one_leaf _ q same
        whose q j false apart is =
            let h = holds q j is in
            ap (λ (s : Slot). s.leaf) (elsewhere j (below_last q j h.0 (λ at. false≢true (sym apart ∙ number_of_last q j h.0 at))) (other_number q j h)) ∙ are.owned q j h.0

        back : (j : ℕ) (b : Bool) → (j == i) ≡ b → j < last → lookup (leaf_is (slot_at left j).leaf) (set_value (leaf_is (slot_at slots last).leaf) rest i) ≡ Some j
        back j true same low =
            let at = eqb-true j i same in
            ap (λ n. lookup (leaf_is (slot_at left n).leaf) (set_value (leaf_is (slot_at slots last).leaf) rest i)) at
            ∙ ap (λ (s : Slot). lookup (leaf_is s.leaf) (set_value (leaf_is (slot_at slots last).leaf) rest i)) (at_number less)
            ∙ finds (slot_at slots last).leaf ∙ ap (λ b. cond b (Some i) (lookup (leaf_is (slot_at slots last).leaf) rest)) (leaf_itself (slot_at slots last).leaf) ∙ ap (λ n. Some n) (sym at)
        back j false apart low =
            let other : j ≢ i = λ e. false≢true (sym apart ∙ eq-eqb j i e) in
            let its : lookup (leaf_is (slot_at slots j).leaf) entries ≡ Some j = are.taken j (omega (arith, low, within)) in
            ap (λ (s : Slot). lookup (leaf_is s.leaf) (set_value (leaf_is (slot_at slots last).leaf) rest i)) (elsewhere j low other)
            ∙ finds (slot_at slots j).leaf
            ∙ ap (λ b. cond b (Some i) (lookup (leaf_is (slot_at slots j).leaf) rest)) (apart_from_last _ j its (λ at. absurd (omega (arith, at, low))))
            ∙ rest_has _ j (its, apart_from_taken _ j its other)

  -- what is left once the moved leaf, if there is one, has its number
  pub popped : (cap : ℕ) (final : LruCache Leaf ℕ) → IsDistinct leaf_is (keys_of rest) → (length left ≤ i → final ≡ lru_cache rest cap)
      → (i < length left → final ≡ lru_cache (set_value (leaf_is (slot_at left i).leaf) rest i) cap) → AreSlotted left final.entries × (placed_by final left ≡ lru_cache (places_in slots rest) cap)
  popped cap final one past moves = go (i == last) refl
    where
      each : AllByRecursion (λ e. Holds e.0 e.1) rest
      each = each_found slots Holds rest one holds

      go : (b : Bool) → (i == last) ≡ b → AreSlotted left final.entries × (placed_by final left ≡ lru_cache (places_in slots rest) cap)
      go true same =
          let at = eqb-true i last same in
          let f : final ≡ lru_cache rest cap = past (subst (λ n. n ≤ i) (sym count_left) (omega (arith, at))) in (
            subst (λ (o : LruCache Leaf ℕ). AreSlotted left o.entries) (sym f) (slotted_ended (sym at)),
            ap (λ (o : LruCache Leaf ℕ). placed_by o left) f ∙ ap (λ (l : Places). lru_cache l cap) (ended_places rest (sym at) each),
          )
      go false other =
          let less : i < last = omega (arith, eqb-false i last other, within) in
          let f : final ≡ lru_cache (set_value (leaf_is (slot_at slots last).leaf) rest i) cap =
          moves (subst (λ n. i < n) (sym count_left) less) ∙ ap (λ (s : Slot). lru_cache (set_value (leaf_is s.leaf) rest i) cap) (at_number less) in (
            subst (λ (o : LruCache Leaf ℕ). AreSlotted left o.entries) (sym f) (slotted_moved less),
            ap (λ (o : LruCache Leaf ℕ). placed_by o left) f ∙ ap (λ (l : Places). lru_cache l cap) (moved_places rest less one each),
          )

-- what isn't there changes nothing
pub none_removed : {X : Type 0} (test : Leaf → Bool) (es : List (Leaf × X)) → lookup test es ≡ None → remove_entry test es ≡ es
none_removed test [] none = refl
none_removed {X} test (e ∷ es) none = go (none_removed test es) (test e.0) none
  where
    go : (lookup test es ≡ None → remove_entry test es ≡ es) → (b : Bool) → cond b (Some e.1) (lookup test es) ≡ None → cond b es (e ∷ remove_entry test es) ≡ e ∷ es
    go more true none = cc
    go more false none = ap (λ (l : List (Leaf × X)). e ∷ l) (more none)

pub none_set : {X : Type 0} (test : Leaf → Bool) (es : List (Leaf × X)) (w : X) → lookup test es ≡ None → set_value test es w ≡ es
none_set test [] w none = refl
none_set {X} test (e ∷ es) w none = go (none_set test es w) (test e.0) none
  where
    go : (lookup test es ≡ None → set_value test es w ≡ es) → (b : Bool) → cond b (Some e.1) (lookup test es) ≡ None → cond b ((e.0, w) ∷ es) (e ∷ set_value test es w) ≡ e ∷ es
    go more true none = cc
    go more false none = ap (λ (l : List (Leaf × X)). e ∷ l) (more none)
