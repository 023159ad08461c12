-- What an edit of one chunk does to a row of chunks.
use Rattle.sorted_map.proofs.Common.{AllFew, AreLengths, List, [], ap, arith, drop, flat, get_or, get_or-remove_below, insert, length, length-append, length-drop, length-insert, length-remove, length-set, length-take-le, over, refl, remove, set, subst, suc, take, total, zero, ℕ, ◌*◌, ◌++◌, ◌+◌, ◌-◌, ◌<◌, ◌∙◌, ◌∷◌, ◌≡◌, ◌≤◌}

module _ {A : Type 0} where
  pub flat_length : (cs : List (List A)) → length (flat cs) ≡ total length cs
  flat_length [] = refl
  flat_length (c ∷ cs) = length-append c (flat cs) ∙ ap (λ n. length c + n) (flat_length cs)

  pub total_set : (f : List A → ℕ) (cs : List (List A)) (i : ℕ) (c : List A) → i < length cs → total f (set cs i c) + f (get_or cs i []) ≡ total f cs + f c
  total_set f [] i c lt = absurd (omega (arith, lt))
  total_set f (x ∷ cs) zero c lt = omega arith
  total_set f (x ∷ cs) (suc i) c lt = omega (arith, total_set f cs i c (omega (arith, lt)))

  pub total_insert : (f : List A → ℕ) (cs : List (List A)) (i : ℕ) (c : List A) → i ≤ length cs → total f (insert cs i c) ≡ total f cs + f c
  total_insert f [] zero c le = omega arith
  total_insert f [] (suc i) c le = absurd (omega (arith, le))
  total_insert f (x ∷ cs) zero c le = omega arith
  total_insert f (x ∷ cs) (suc i) c le = omega (arith, total_insert f cs i c (omega (arith, le)))

  pub total_remove : (f : List A → ℕ) (cs : List (List A)) (i : ℕ) → i < length cs → total f (remove cs i) + f (get_or cs i []) ≡ total f cs
  total_remove f [] i lt = absurd (omega (arith, lt))
  total_remove f (x ∷ cs) zero lt = omega arith
  total_remove f (x ∷ cs) (suc i) lt = omega (arith, total_remove f cs i (omega (arith, lt)))

  pub total_end : (f : List A → ℕ) (cs : List (List A)) (c : List A) → total f (cs ++ c ∷ []) ≡ total f cs + f c
  total_end f [] c = omega arith
  total_end f (x ∷ cs) c = omega (arith, total_end f cs c)

  -- one chunk has no more than all
  pub total_part : (f : List A → ℕ) (cs : List (List A)) (i : ℕ) → i < length cs → f (get_or cs i []) ≤ total f cs
  total_part f [] i lt = absurd (omega (arith, lt))
  total_part f (x ∷ cs) zero lt = omega arith
  total_part f (x ∷ cs) (suc i) lt = omega (arith, total_part f cs i (omega (arith, lt)))

  pub few_set : (cs : List (List A)) (i : ℕ) (c : List A) → AllFew cs → length c ≤ 64 → AllFew (set cs i c)
  few_set [] i c all few = tt
  few_set (x ∷ cs) zero c all few = (few, all.1)
  few_set (x ∷ cs) (suc i) c all few = (all.0, few_set cs i c all.1 few)

  pub few_insert : (cs : List (List A)) (i : ℕ) (c : List A) → AllFew cs → length c ≤ 64 → AllFew (insert cs i c)
  few_insert [] zero c all few = (few, tt)
  few_insert [] (suc i) c all few = (few, tt)
  few_insert (x ∷ cs) zero c all few = (few, all)
  few_insert (x ∷ cs) (suc i) c all few = (all.0, few_insert cs i c all.1 few)

  pub few_remove : (cs : List (List A)) (i : ℕ) → AllFew cs → AllFew (remove cs i)
  few_remove [] zero all = tt
  few_remove [] (suc i) all = tt
  few_remove (x ∷ cs) zero all = all.1
  few_remove (x ∷ cs) (suc i) all = (all.0, few_remove cs i all.1)

  pub few_end : (cs : List (List A)) (c : List A) → AllFew cs → length c ≤ 64 → AllFew (cs ++ c ∷ [])
  few_end [] c all few = (few, tt)
  few_end (x ∷ cs) c all few = (all.0, few_end cs c all.1 few)

  pub few_at : (cs : List (List A)) (i : ℕ) → i < length cs → AllFew cs → length (get_or cs i []) ≤ 64
  few_at [] i lt all = absurd (omega (arith, lt))
  few_at (x ∷ cs) zero lt all = all.0
  few_at (x ∷ cs) (suc i) lt all = few_at cs i (omega (arith, lt)) all.1

  -- so the numbers of a row stay small
  pub few_total : (cs : List (List A)) → AllFew cs → total length cs ≤ 64 * length cs
  few_total [] all = omega arith
  few_total (c ∷ cs) all = omega (arith, all.0, few_total cs all.1)

  pub over_total : (cs : List (List A)) → over cs ≤ total length cs
  over_total [] = omega arith
  over_total (c ∷ cs) = omega (arith, over_total cs)

  -- two parts of a list by the length of the first
  pub front_of : (n : ℕ) (a b whole : List A) → length a ≡ n → a ++ b ≡ whole → a ≡ take n whole
  front_of zero [] b whole len is = refl
  front_of zero (x ∷ a) b whole len is = absurd (omega (arith, len))
  front_of (suc n) [] b whole len is = absurd (omega (arith, len))
  front_of (suc n) (x ∷ a) b whole len is = ap (λ l. x ∷ l) (front_of n a b (a ++ b) (omega (arith, len)) refl) ∙ ap (take (suc n)) is

  pub back_of : (n : ℕ) (a b whole : List A) → length a ≡ n → a ++ b ≡ whole → b ≡ drop n whole
  back_of zero [] b whole len is = is
  back_of zero (x ∷ a) b whole len is = absurd (omega (arith, len))
  back_of (suc n) [] b whole len is = absurd (omega (arith, len))
  back_of (suc n) (x ∷ a) b whole len is = back_of n a b (a ++ b) (omega (arith, len)) refl ∙ ap (drop (suc n)) is

  module _ {cs : List (List A)} {len extra : ℕ} (counted : AreLengths cs len extra) where
    -- the numbers fit a machine's word
    pub small_len : length cs ≤ 1099511627776 → len ≤ 70368744177664
    small_len few = omega (arith, counted.whole, few_total cs counted.few)

    pub small_extra : length cs ≤ 1099511627776 → extra ≤ 70368744177664
    small_extra few = omega (arith, counted.beyond, over_total cs, few_total cs counted.few)

    -- what is one chunk's is part of them
    pub part_len : (i : ℕ) → i < length cs → length (get_or cs i []) ≤ len
    part_len i lt = omega (arith, counted.whole, total_part length cs i lt)

    pub part_extra : (i : ℕ) → i < length cs → length (get_or cs i []) - 32 ≤ extra
    part_extra i lt = omega (arith, counted.beyond, total_part (λ c. length c - 32) cs i lt)

    -- one chunk is another
    pub counted_set : (i : ℕ) (c : List A) (len2 extra2 : ℕ) → i < length cs → length c ≤ 64 → len2 + length (get_or cs i []) ≡ len + length c → extra2 + (length (get_or cs i []) - 32) ≡ extra + (length c - 32) → AreLengths (set cs i c) len2 extra2
    counted_set i c len2 extra2 lt few lens extras = record {
      whole = omega (arith, counted.whole, lens, total_set length cs i c lt);
      beyond = omega (arith, counted.beyond, extras, total_set (λ c. length c - 32) cs i c lt);
      few = few_set cs i c counted.few few;
    }

    pub counted_insert : (i : ℕ) (c : List A) (len2 extra2 : ℕ) → i ≤ length cs → length c ≤ 64 → len2 ≡ len + length c → extra2 ≡ extra + (length c - 32) → AreLengths (insert cs i c) len2 extra2
    counted_insert i c len2 extra2 le few lens extras = record {
      whole = omega (arith, counted.whole, lens, total_insert length cs i c le);
      beyond = omega (arith, counted.beyond, extras, total_insert (λ c. length c - 32) cs i c le);
      few = few_insert cs i c counted.few few;
    }

    pub counted_end : (c : List A) (len2 extra2 : ℕ) → length c ≤ 64 → len2 ≡ len + length c → extra2 ≡ extra + (length c - 32) → AreLengths (cs ++ c ∷ []) len2 extra2
    counted_end c len2 extra2 few lens extras = record {
      whole = omega (arith, counted.whole, lens, total_end length cs c);
      beyond = omega (arith, counted.beyond, extras, total_end (λ c. length c - 32) cs c);
      few = few_end cs c counted.few few;
    }

    pub counted_remove : (i : ℕ) (len2 extra2 : ℕ) → i < length cs → len2 + length (get_or cs i []) ≡ len → extra2 + (length (get_or cs i []) - 32) ≡ extra → AreLengths (remove cs i) len2 extra2
    counted_remove i len2 extra2 lt lens extras = record {
      whole = omega (arith, counted.whole, lens, total_remove length cs i lt);
      beyond = omega (arith, counted.beyond, extras, total_remove (λ c. length c - 32) cs i lt);
      few = few_remove cs i counted.few;
    }

-- an element of a list, whatever stands for one that isn't there
pub got_default : {X : Type 0} (cs : List X) (i : ℕ) (o d : X) → i < length cs → get_or cs i o ≡ get_or cs i d
got_default [] i o d lt = absurd (omega (arith, lt))
got_default (x ∷ cs) zero o d lt = refl
got_default (x ∷ cs) (suc i) o d lt = got_default cs i o d (omega (arith, lt))

pub got : {X : Type 0} (cs : List X) (i : ℕ) (o d : X) → i < length cs → o ≡ get_or cs i o → o ≡ get_or cs i d
got cs i o d lt is = is ∙ got_default cs i o d lt

-- an item of a list that has some
pub one_of : {A : Type 0} (xs : List A) (i : ℕ) → i < length xs → A
one_of [] i lt = absurd (omega (arith, lt))
one_of (x ∷ xs) i lt = x

module _ {A : Type 0} {cs : List (List A)} {len extra : ℕ} (counted : AreLengths cs len extra) (i : ℕ) (lt : i < length cs) where
  -- the edits of a chunk that is read twice: its length first, and then the chunk
  pub counted_put : (read old new : List A) (at : ℕ) (x : A) (n more less : ℕ) → read ≡ get_or cs i read → old ≡ get_or cs i old → at ≤ length (get_or cs i []) → length (get_or cs i []) < 64
      → new ≡ insert old at x → n ≡ length read → more ≡ n + 1 - 32 → less ≡ n - 32 → AreLengths (set cs i new) (len + 1) (extra + more - less)
  counted_put read old new at x n more less is_read is_old within few is counts most least =
      let lr : length read ≡ length (get_or cs i []) = ap length (got cs i read [] lt is_read) in
      let lo : length old ≡ length (get_or cs i []) = ap length (got cs i old [] lt is_old) in
      let ln : length new ≡ length old + 1 = ap length is ∙ length-insert old at x (omega (arith, lo, within)) in
      counted_set counted i new (len + 1) (extra + more - less) lt (omega (arith, lr, lo, ln, counts, few)) (omega (arith, lr, lo, ln, counts)) (omega (arith, lr, lo, ln, counts, most, least, part_extra counted i lt))

  pub counted_take : (read old new : List A) (at : ℕ) (n more less : ℕ) → read ≡ get_or cs i read → old ≡ get_or cs i old → at < length (get_or cs i []) → n ≤ 64
      → new ≡ remove old at → n ≡ length read → more ≡ n - 1 - 32 → less ≡ n - 32 → AreLengths (set cs i new) (len - 1) (extra + more - less)
  counted_take read old new at n more less is_read is_old within few is counts most least =
      let lr : length read ≡ length (get_or cs i []) = ap length (got cs i read [] lt is_read) in
      let lo : length old ≡ length (get_or cs i []) = ap length (got cs i old [] lt is_old) in
      let ln : length new + 1 ≡ length old = ap (λ l. length l + 1) is ∙ length-remove old at (omega (arith, lo, within)) in
      counted_set counted i new (len - 1) (extra + more - less) lt (omega (arith, lr, lo, ln, counts, few)) (omega (arith, lr, lo, ln, counts, part_len counted i lt)) (omega (arith, lr, lo, ln, counts, most, least, part_extra counted i lt))

  pub counted_replace : (old new : List A) (at : ℕ) (by : A → A) → old ≡ get_or cs i old → at < length (get_or cs i []) → ((d : A) → new ≡ set old at (by d)) → AreLengths (set cs i new) len extra
  counted_replace old new at by is_old within is =
      let x = by (one_of (get_or cs i []) at within) in
      let lo : length old ≡ length (get_or cs i []) = ap length (got cs i old [] lt is_old) in
      let ln : length new ≡ length old = ap length (is (one_of (get_or cs i []) at within)) ∙ length-set old at x in
      counted_set counted i new len extra lt (omega (arith, ln, lo, few_at cs i lt counted.few)) (omega (arith, lo, ln)) (omega (arith, lo, ln))

  -- a full chunk leaves its later half to a new one
  pub counted_split : (old front back : List A) → old ≡ get_or cs i old → length (get_or cs i []) ≡ 64 → front ≡ take 32 old → back ≡ drop 32 old → AreLengths (insert (set cs i front) (i + 1) back) len (extra - 32)
  counted_split old front back is_old full is_front is_back =
      let lo : length old ≡ length (get_or cs i []) = ap length (got cs i old [] lt is_old) in
      let lf : length front ≡ 32 = ap length is_front ∙ length-take-le 32 old (omega (arith, lo, full)) in
      let lb : length back ≡ 32 = ap length is_back ∙ length-drop 32 old ∙ (omega (arith, lo, full)) in
      let half = counted_set counted i front (len - 32) (extra - 32) lt (omega (arith, lf)) (omega (arith, lo, lf, full, part_len counted i lt)) (omega (arith, lo, lf, full, part_extra counted i lt)) in
      counted_insert half (i + 1) back len (extra - 32) (omega (arith, lt, length-set cs i front)) (omega (arith, lb)) (omega (arith, lb, lo, full, part_len counted i lt)) (omega (arith, lb))

  -- an empty chunk goes
  pub counted_without : get_or cs i [] ≡ [] → AreLengths (remove cs i) len extra
  counted_without none = let l : length (get_or cs i []) ≡ 0 = ap length none in counted_remove counted i len extra lt (omega (arith, l)) (omega (arith, l))

module _ {A : Type 0} where
  pub part_removed : (cs : List (List A)) (i : ℕ) → i + 1 < length cs → get_or (remove cs (i + 1)) i [] ≡ get_or cs i []
  part_removed cs i lt = get_or-remove_below cs (i + 1) [] i (omega arith) lt

  -- a chunk's items go to the end of the one before it
  pub counted_joined : {cs : List (List A)} {len extra : ℕ} → AreLengths cs len extra → (i : ℕ) (next read old new : List A) (more less least : ℕ) → i + 1 < length cs → next ≡ get_or cs (i + 1) next
      → read ≡ get_or (remove cs (i + 1)) i read → old ≡ get_or (remove cs (i + 1)) i old → new ≡ old ++ next → length (get_or cs i []) + length (get_or cs (i + 1) []) ≤ 64
      → more ≡ (length read + length next) - 32 → less ≡ length read - 32 → least ≡ length next - 32 → AreLengths (set (remove cs (i + 1)) i new) len (extra + more - less - least)
  counted_joined {cs} {len} {extra} counted i next read old new more less least lt is_next is_read is_old is few most lesser last =
      let rest = remove cs (i + 1) in
      let lx : length next ≡ length (get_or cs (i + 1) []) = ap length (got cs (i + 1) next [] lt is_next) in
      let count : length rest + 1 ≡ length cs = length-remove cs (i + 1) lt in
      let here : i < length rest = omega (arith, count, lt) in
      let lr : length read ≡ length (get_or rest i []) = ap length (got rest i read [] here is_read) in
      let lo : length old ≡ length (get_or rest i []) = ap length (got rest i old [] here is_old) in
      let lp : length (get_or rest i []) ≡ length (get_or cs i []) = ap length (part_removed cs i lt) in
      let ln : length new ≡ length old + length next = ap length is ∙ length-append old next in
      let none = counted_remove counted (i + 1) (len - length next) (extra - least) lt (omega (arith, lx, part_len counted (i + 1) lt)) (omega (arith, lx, last, part_extra counted (i + 1) lt)) in
      counted_set none i new len (extra + more - less - least) here (omega (arith, ln, lo, lp, lx, few)) (omega (arith, ln, lo, part_len counted (i + 1) lt, lx))
      (omega (arith, ln, lo, lr, most, lesser, last, lx, part_extra counted (i + 1) lt, part_extra none i here))

-- a chunk that is still to come
pub part_left : {A : Type 0} (cs : List (List A)) (i : ℕ) (c : List A) → i < length cs → c ≡ get_or cs i c → length c ≤ total length (drop i cs)
part_left [] i c lt is = absurd (omega (arith, lt))
part_left (x ∷ cs) zero c lt is = omega (arith, ap length is)
part_left (x ∷ cs) (suc i) c lt is = part_left cs i c (omega (arith, lt)) is

-- a chunk and those behind it have no more than all
pub total_drop : {A : Type 0} (cs : List (List A)) (i : ℕ) → i < length cs → length (get_or cs i []) + total length (drop (i + 1) cs) ≤ total length cs
total_drop [] i lt = absurd (omega (arith, lt))
total_drop (x ∷ cs) zero lt = omega arith
total_drop (x ∷ cs) (suc i) lt = subst (λ n. length (get_or cs i []) + total length (drop n (x ∷ cs)) ≤ length x + total length cs) {x = suc (i + 1)} (omega arith) (omega (arith, total_drop cs i (omega (arith, lt))))
