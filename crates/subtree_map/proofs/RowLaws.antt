-- One row of one list, and the turns over all lists.
use Rattle.subtree_map.proofs.Common.{AreEach, Claim, Corrects, Entry, HasGrown, HasHints, HasLearnt, HasSame, HaveRoom, Hears, Hint, IsCorrected, IsPut, Known, Leaf, List, News, None, Nothing, Option, Rank, ListRows, Some, [], ap, arith, cases_eq, cases_lt, claim_of, claimed, contents, corrected, entry_at, entry_or_nothing, false, get_beside, get_left, get_or, get_or-set_other, get_or-set_same, get_put, get_removed, heard, hinted, if◌then◌else◌, inl, inr, is_some, knows, leaf_cmp, learnt, length, length-set, adds_row, no_rows, promised, refl, rows_at, said, same_or_apart, set, subst, suc, sym, true, zero, ℕ, ◌+◌, ◌-◌, ◌<◌, ◌==◌, ◌∙◌, ◌∷◌, ◌≡◌, ◌≢◌, ◌≤◌, ◌⊎◌}
use Rattle.std.specs.FinMap as map
use Rattle.subtree_map.proofs.ChildRows.{room_left}
use Rattle.subtree_map.proofs.Heard.{claims_entry, promises_entry}

there : (was : Option Entry) (e : Entry) (room left : ℕ) → (if is_some was then room else room - 1) ≤ left → adds_row was (Some e) ≡ false → room ≤ left
there None e room left is made = let clash : true ≡ false = made in cc
there (Some w) e room left is made = is

pub put_in : (old new : ListRows) (leaf : Leaf) (e : Entry) (was : Option Entry) → was ≡ entry_at old leaf → contents leaf_cmp new ≡ map.insert (contents leaf_cmp old) leaf e → (if is_some was then old.room else old.room - 1) ≤ new.room → IsPut leaf (Some e) old new
put_in old new leaf e was has is room = record {
  here = ap (λ m. map.get m leaf) is ∙ get_put (contents leaf_cmp old) leaf e;
  others = λ other apart. ap (λ m. map.get m other) is ∙ get_beside (contents leaf_cmp old) leaf e other apart;
  room = room_left was old.room new.room room;
  kept = λ made. there was e old.room new.room room (ap (λ o. adds_row o (Some e)) has ∙ made);
}

pub put_out : (old new : ListRows) (leaf : Leaf) → contents leaf_cmp new ≡ map.remove (contents leaf_cmp old) leaf → old.room ≤ new.room → IsPut leaf None old new
put_out old new leaf is room = record {
  here = ap (λ m. map.get m leaf) is ∙ get_removed (contents leaf_cmp old) leaf;
  others = λ other apart. ap (λ m. map.get m other) is ∙ get_left (contents leaf_cmp old) leaf other apart;
  room = omega (arith, room);
  kept = λ made. room;
}

-- the lists before a place became what they may, the others not yet
pub record IsTurn (Becomes : ℕ → ListRows → ListRows → Type 0) (old now : List ListRows) (at : ℕ) : Type 0 where
  pub many : length now ≡ length old
  pub done : (i : ℕ) → i < at → Becomes i (rows_at old i) (rows_at now i)
  pub rest : (i : ℕ) → at ≤ i → rows_at now i ≡ rows_at old i

module _ (Becomes : ℕ → ListRows → ListRows → Type 0) where
  pub turn_starts : (old : List ListRows) → IsTurn Becomes old old 0
  turn_starts old = record { many = refl; done = λ i low. absurd (omega (arith, low)); rest = λ i high. refl }

  pub turn_goes : (old now next : List ListRows) (at : ℕ) (rows : ListRows) → at < length now → IsTurn Becomes old now at → Becomes at (rows_at now at) rows → next ≡ set now at rows → IsTurn Becomes old next (at + 1)
  turn_goes old now next at rows within so_far become is = record { many = ap length is ∙ length-set now at rows ∙ so_far.many; done = done; rest = rest }
    where
      mine : Becomes at (rows_at old at) (rows_at next at)
      mine =
          subst (λ (x : ListRows). Becomes at (rows_at old at) x) (sym (ap (λ (ls : List ListRows). rows_at ls at) is ∙ get_or-set_same now at rows no_rows within))
          (subst (λ (x : ListRows). Becomes at x rows) (so_far.rest at (omega arith)) become)

      beside : (i : ℕ) → i ≢ at → rows_at next i ≡ rows_at now i
      beside i apart = ap (λ (ls : List ListRows). rows_at ls i) is ∙ get_or-set_other now at i rows no_rows apart

      rest : (i : ℕ) → at + 1 ≤ i → rows_at next i ≡ rows_at old i
      rest i high = beside i (λ (e : i ≡ at). omega (arith, e, high)) ∙ so_far.rest i (omega (arith, high))

      done : (i : ℕ) → i < at + 1 → Becomes i (rows_at old i) (rows_at next i)
      done i low = go (cases_lt i at)
        where
          go : (i < at) ⊎ (at ≤ i) → Becomes i (rows_at old i) (rows_at next i)
          go (inl less) = subst (λ (x : ListRows). Becomes i (rows_at old i) x) (sym (beside i (λ (e : i ≡ at). omega (arith, e, less)))) (so_far.done i less)
          go (inr more) =
              let here : at ≡ i = omega (arith, low, more) in
              subst (λ (k : ℕ). Becomes k (rows_at old k) (rows_at next k)) here mine

  pub turn_ends : (old now : List ListRows) (at : ℕ) → length old ≤ at → IsTurn Becomes old now at → AreEach Becomes old now
  turn_ends old now at all so_far = record { many = so_far.many; each = λ i low. so_far.done i (omega (arith, all, low)) }

-- the list at a place that there is
pub at_index : (lists : List ListRows) (i : ℕ) (rows : ListRows) → i < length lists → rows ≡ get_or lists i rows → rows ≡ rows_at lists i
at_index lists i rows within is = is ∙ any lists i within
  where
    any : (ls : List ListRows) (k : ℕ) → k < length ls → get_or ls k rows ≡ get_or ls k no_rows
    any [] k low = absurd (omega (arith, low))
    any (x ∷ more) zero low = refl
    any (x ∷ more) (suc k) low = any more k (omega (arith, low))

-- in each turn there is room for the row, if one comes in
pub telling_room : (leaf : Leaf) (home : ℕ) (news : News) (old now : List ListRows) (at : ℕ) (rows : ListRows) (row : Option Entry) → at < length now → IsTurn (Hears leaf home news) old now at → rows ≡ rows_at now at
    → row ≡ heard (entry_at rows leaf) (at == home) news → HaveRoom leaf home news old → adds_row (entry_at rows leaf) row ≡ true → 0 < rows.room
telling_room leaf home news old now at rows row within so_far here is room made =
    let same : rows ≡ rows_at old at = here ∙ so_far.rest at (omega arith) in
    subst (λ (x : ListRows). 0 < x.room) (sym same)
    (room at (subst (λ n. at < n) so_far.many within)
    (subst (λ (x : ListRows). adds_row (entry_at x leaf) (heard (entry_at x leaf) (at == home) news) ≡ true) same (ap (adds_row (entry_at rows leaf)) (sym is) ∙ made)))

-- ---- hints

pub hints_same : (rows : ListRows) → HasHints rows rows
hints_same rows = record { claims = λ q. refl; promises = λ q. refl; more = omega arith }

-- whatever a hint says, claims and promises stay
corrected_claims : (o : Option Entry) (rank : Rank) → said claimed (corrected o rank) ≡ said claimed o
corrected_claims None rank = refl
corrected_claims (Some e) rank = go e.known
  where
    go : (known : Known) → claim_of (hinted known rank) ≡ claim_of known
    go Nothing = refl
    go (Claim was) = refl
    go (Hint was) = refl

corrected_promises : (o : Option Entry) (rank : Rank) → said promised (corrected o rank) ≡ said promised o
corrected_promises None rank = refl
corrected_promises (Some e) rank = refl

pub hinted_row : (old new : ListRows) (leaf : Leaf) (rank : Rank) (was now : Entry) → entry_at old leaf ≡ Some was → corrected (Some was) rank ≡ Some now → contents leaf_cmp new ≡ map.insert (contents leaf_cmp old) leaf now → old.room ≤ new.room → IsCorrected leaf rank old new
hinted_row old new leaf rank was now there turns is room = record {
  here = ap (λ m. map.get m leaf) is ∙ get_put (contents leaf_cmp old) leaf now ∙ sym turns ∙ ap (λ o. corrected o rank) (sym there);
  others = λ q apart. ap (λ m. map.get m q) is ∙ get_beside (contents leaf_cmp old) leaf now q apart;
  more = room;
}

pub corrected_hints : (old new : ListRows) (leaf : Leaf) (rank : Rank) → IsCorrected leaf rank old new → HasHints old new
corrected_hints old new leaf rank is = record {
  claims = λ q. elim (same_or_apart q leaf) [
    | inl same ↦ subst (λ (l : Leaf). said claimed (entry_at new l) ≡ said claimed (entry_at old l)) (sym same) (ap (said claimed) is.here ∙ corrected_claims (entry_at old leaf) rank)
    | inr apart ↦ ap (said claimed) (is.others q apart)
  ];
  promises = λ q. elim (same_or_apart q leaf) [
    | inl same ↦ subst (λ (l : Leaf). said promised (entry_at new l) ≡ said promised (entry_at old l)) (sym same) (ap (said promised) is.here ∙ corrected_promises (entry_at old leaf) rank)
    | inr apart ↦ ap (said promised) (is.others q apart)
  ];
  more = is.more;
}

-- one list is another, and the rest stay
pub one_list : (Becomes : ℕ → ListRows → ListRows → Type 0) (old now : List ListRows) (at : ℕ) (rows : ListRows) → at < length old → Becomes at (rows_at old at) rows → ((i : ℕ) (x : ListRows) → i ≢ at → Becomes i x x) → now ≡ set old at rows → AreEach Becomes old now
one_list Becomes old now at rows within become same is = record { many = ap length is ∙ length-set old at rows; each = λ i low. go i (cases_eq i at) }
  where
    go : (i : ℕ) → (i ≡ at) ⊎ (i ≢ at) → Becomes i (rows_at old i) (rows_at now i)
    go i (inl here) =
        subst (λ (k : ℕ). Becomes k (rows_at old k) (rows_at now k)) (sym here)
        (subst (λ (x : ListRows). Becomes at (rows_at old at) x) (sym (ap (λ (ls : List ListRows). rows_at ls at) is ∙ get_or-set_same old at rows no_rows within)) become)
    go i (inr apart) = subst (λ (x : ListRows). Becomes i (rows_at old i) x) (sym (ap (λ (ls : List ListRows). rows_at ls i) is ∙ get_or-set_other old at i rows no_rows apart)) (same i (rows_at old i) apart)

pub corrects_one : (leaf : Leaf) (rank : Rank) (old now : List ListRows) (at : ℕ) (rows : ListRows) → at < length old → IsCorrected leaf rank (rows_at old at) rows → now ≡ set old at rows → AreEach (Corrects leaf rank at) old now
corrects_one leaf rank old now at rows within is set_is =
    one_list (Corrects leaf rank at) old now at rows within (λ here. is, λ apart. absurd (apart refl)) (λ i x apart. (λ here. absurd (apart here), λ other. refl)) set_is

pub corrects_hints : (leaf : Leaf) (rank : Rank) (home : ℕ) (old now : List ListRows) → AreEach (Corrects leaf rank home) old now → AreEach (λ i. HasHints) old now
corrects_hints leaf rank home old now is = record { many = is.many; each = λ i low. go i low (cases_eq i home) }
  where
    go : (i : ℕ) → i < length old → (i ≡ home) ⊎ (i ≢ home) → HasHints (rows_at old i) (rows_at now i)
    go i low (inl here) = corrected_hints (rows_at old i) (rows_at now i) leaf rank ((is.each i low).0 here)
    go i low (inr apart) = subst (λ (x : ListRows). HasHints (rows_at old i) x) (sym ((is.each i low).1 apart)) (hints_same (rows_at old i))

-- ---- what a rank is told

learnt_claims : (o : Option Entry) (rank : Rank) → claimed (learnt o rank) ≡ said claimed o
learnt_claims o rank = go (entry_or_nothing o).known ∙ claims_entry o
  where
    go : (known : Known) → claim_of (knows known rank) ≡ claim_of known
    go Nothing = refl
    go (Claim was) = refl
    go (Hint was) = refl

pub learnt_row : (old new : ListRows) (leaf : Leaf) (rank : Rank) (was : Option Entry) → was ≡ entry_at old leaf → contents leaf_cmp new ≡ map.insert (contents leaf_cmp old) leaf (learnt (entry_at old leaf) rank) → (if is_some was then old.room else old.room - 1) ≤ new.room → HasLearnt 1 old new
learnt_row old new leaf rank was has is room = record {
  claims = λ q. elim (same_or_apart q leaf) [
    | inl same ↦ subst (λ (l : Leaf). said claimed (entry_at new l) ≡ said claimed (entry_at old l)) (sym same) (ap (said claimed) here ∙ learnt_claims (entry_at old leaf) rank)
    | inr apart ↦ ap (said claimed) (beside q apart)
  ];
  promises = λ q. elim (same_or_apart q leaf) [
    | inl same ↦ subst (λ (l : Leaf). said promised (entry_at new l) ≡ said promised (entry_at old l)) (sym same) (ap (said promised) here ∙ promises_entry (entry_at old leaf))
    | inr apart ↦ ap (said promised) (beside q apart)
  ];
  less = room_left was old.room new.room room;
}
  where
    here : entry_at new leaf ≡ Some (learnt (entry_at old leaf) rank)
    here = ap (λ m. map.get m leaf) is ∙ get_put (contents leaf_cmp old) leaf (learnt (entry_at old leaf) rank)

    beside : (q : Leaf) → (q ≡ leaf → ⊥) → entry_at new q ≡ entry_at old q
    beside q apart = ap (λ m. map.get m q) is ∙ get_beside (contents leaf_cmp old) leaf (learnt (entry_at old leaf) rank) q apart

pub learnt_none : (count : ℕ) (rows : ListRows) → HasLearnt count rows rows
learnt_none count rows = record { claims = λ q. refl; promises = λ q. refl; less = omega arith }

pub learnt_one : (old now : List ListRows) (at : ℕ) (rows : ListRows) → at < length old → HasLearnt 1 (rows_at old at) rows → now ≡ set old at rows → AreEach (λ i. HasLearnt 1) old now
learnt_one old now at rows within has is = one_list (λ i. HasLearnt 1) old now at rows within has (λ i x apart. learnt_none 1 x) is
