-- What an edit of a row of chunks does to its room.
use Rattle.sorted_map.proofs.Common.{AllSome, List, [], ap, arith, drop, flat, get_or, insert, length, length-append, length-drop, length-insert, length-remove, length-set, length-take-le, load, over, refl, remove, room_by, set, items_before, subst, suc, sym, take, take-append-drop, zero, ℕ, ◌++◌, ◌+◌, ◌-◌, ◌<◌, ◌∙◌, ◌∷◌, ◌≡◌, ◌≤◌}
use Rattle.sorted_map.proofs.FlatLaws.{flat_split, start_split, start_split_next, get_split, get_split_next, some_set, some_insert}

-- what is lost by so much more load, and by so many spare chunks less
pub room_less : (s t a b : ℕ) → s ≡ t → b ≤ a + 1 → room_by s a ≤ room_by t b + 1
room_less s t a b same more = omega (arith, same, more)

pub room_kept : (s t a b : ℕ) → s ≡ t → b ≤ a → room_by s a ≤ room_by t b
room_kept s t a b same less = omega (arith, same, less)

pub room_joined : (s t a b : ℕ) → t ≡ s + 1 → b ≤ a + 32 → room_by s a ≤ room_by t b
room_joined s t a b more loads = omega (arith, more, loads)

-- a split takes a spare chunk, and halves a full one
pub room_apart : (s t a b : ℕ) → t + 1 ≡ s → b + 32 ≤ a + 1 → room_by s a ≤ room_by t b + 1
room_apart s t a b less loads = omega (arith, less, loads)

module _ {A : Type 0} where
  load_more : (c : List A) (cs : List (List A)) → 0 < length cs → load (c ∷ cs) ≡ (length c - 32) + load cs
  load_more c [] some = absurd (omega (arith, some))
  load_more c (d ∷ cs) some = refl

  -- what a row tells of itself: what it has beyond its halves, and what the half of its last chunk has
  pub load_is : (cs : List (List A)) (i : ℕ) → i + 1 ≡ length cs → load cs ≡ over cs + (length (get_or cs i []) - (length (get_or cs i []) - 32))
  load_is [] i last = absurd (omega (arith, last))
  load_is (c ∷ []) zero last = omega arith
  load_is (c ∷ []) (suc i) last = absurd (omega (arith, last))
  load_is (c ∷ d ∷ cs) zero last = absurd (omega (arith, last))
  load_is (c ∷ d ∷ cs) (suc i) last = omega (arith, load_is (d ∷ cs) i (omega (arith, last)))

  pub none_load : (cs : List (List A)) → length cs ≡ 0 → load cs ≡ 32
  none_load [] none = refl
  none_load (c ∷ cs) none = absurd (omega (arith, none))

  -- a chunk becomes one with so many items more
  set_load : (cs : List (List A)) (i : ℕ) (c : List A) (n : ℕ) → length c ≤ length (get_or cs i []) + n → load (set cs i c) ≤ load cs + n
  set_load [] i c n more = omega arith
  set_load (x ∷ []) zero c n more = more
  set_load (x ∷ []) (suc i) c n more = omega arith
  set_load (x ∷ y ∷ cs) zero c n more = omega (arith, more)
  set_load (x ∷ y ∷ cs) (suc i) c n more =
      omega (arith, load_more x (set (y ∷ cs) i c) (omega (arith, length-set (y ∷ cs) i c)), set_load (y ∷ cs) i c n more)

  pub same_load : (cs : List (List A)) (i : ℕ) (c : List A) → length c ≡ length (get_or cs i []) → load (set cs i c) ≡ load cs
  same_load [] i c same = refl
  same_load (x ∷ []) zero c same = same
  same_load (x ∷ []) (suc i) c same = refl
  same_load (x ∷ y ∷ cs) zero c same = ap (λ n. (n - 32) + load (y ∷ cs)) same
  same_load (x ∷ y ∷ cs) (suc i) c same =
      load_more x (set (y ∷ cs) i c) (omega (arith, length-set (y ∷ cs) i c)) ∙ ap (λ n. (length x - 32) + n) (same_load (y ∷ cs) i c same)

  pub put_load : (cs : List (List A)) (i at : ℕ) (x : A) → i < length cs → at ≤ length (get_or cs i []) → load (set cs i (insert (get_or cs i []) at x)) ≤ load cs + 1
  put_load cs i at x lt within = set_load cs i (insert (get_or cs i []) at x) 1 (omega (arith, length-insert (get_or cs i []) at x within))

  pub take_load : (cs : List (List A)) (i at : ℕ) → i < length cs → at < length (get_or cs i []) → load (set cs i (remove (get_or cs i []) at)) ≤ load cs
  take_load cs i at lt within = omega (arith, set_load cs i (remove (get_or cs i []) at) 0 (omega (arith, length-remove (get_or cs i []) at within)))

  pub full_load : (cs : List (List A)) (i : ℕ) → i < length cs → length (get_or cs i []) ≡ 64 → 32 ≤ load cs
  full_load [] i lt full = absurd (omega (arith, lt))
  full_load (x ∷ []) zero lt full = omega (arith, full)
  full_load (x ∷ []) (suc i) lt full = absurd (omega (arith, lt))
  full_load (x ∷ y ∷ cs) zero lt full = omega (arith, full)
  full_load (x ∷ y ∷ cs) (suc i) lt full = omega (arith, full_load (y ∷ cs) i (omega (arith, lt)) full)

  -- where a chunk is full there is room only by a spare one
  pub full_spare : (s : ℕ) (cs : List (List A)) (i : ℕ) → i < length cs → length (get_or cs i []) ≡ 64 → 0 < room_by s (load cs) → 0 < s
  full_spare s cs i lt full some = omega (arith, full_load cs i lt full, some)

  -- and so it is where the last chunk is more than half full
  last_load : (cs : List (List A)) (i : ℕ) → i + 1 ≡ length cs → 32 ≤ length (get_or cs i []) → 32 ≤ load cs
  last_load [] i last half = absurd (omega (arith, last))
  last_load (x ∷ []) zero last half = omega (arith, half)
  last_load (x ∷ []) (suc i) last half = absurd (omega (arith, last))
  last_load (x ∷ y ∷ cs) zero last half = absurd (omega (arith, last))
  last_load (x ∷ y ∷ cs) (suc i) last half = omega (arith, last_load (y ∷ cs) i (omega (arith, last)) half)

  pub last_spare : (s : ℕ) (cs : List (List A)) (i : ℕ) → i + 1 ≡ length cs → 32 ≤ length (get_or cs i []) → 0 < room_by s (load cs) → 0 < s
  last_spare s cs i last half some = omega (arith, last_load cs i last half, some)

  halved_load : (cs : List (List A)) (i j : ℕ) (a b : List A) → j ≡ i + 1 → i < length cs → length (get_or cs i []) ≡ 64 → length a ≡ 32 → length b ≡ 32 → load (insert (set cs i a) j b) + 32 ≡ load cs
  halved_load [] i j a b next lt full la lb = absurd (omega (arith, lt))
  halved_load cs i zero a b next lt full la lb = absurd (omega (arith, next))
  halved_load (x ∷ cs) zero (suc (suc j)) a b next lt full la lb = absurd (omega (arith, next))
  halved_load (x ∷ []) zero (suc zero) a b next lt full la lb = omega (arith, full, la, lb)
  halved_load (x ∷ y ∷ cs) zero (suc zero) a b next lt full la lb = omega (arith, full, la, lb)
  halved_load (x ∷ []) (suc i) (suc j) a b next lt full la lb = absurd (omega (arith, lt))
  halved_load (x ∷ y ∷ cs) (suc i) (suc j) a b next lt full la lb =
      let within : j ≤ length (set (y ∷ cs) i a) = omega (arith, next, lt, length-set (y ∷ cs) i a) in
      let some : 0 < length (insert (set (y ∷ cs) i a) j b) = omega (arith, length-insert (set (y ∷ cs) i a) j b within) in
      omega (arith, load_more x (insert (set (y ∷ cs) i a) j b) some, halved_load (y ∷ cs) i j a b (omega (arith, next)) (omega (arith, lt)) full la lb)

  pub split_load : (cs : List (List A)) (i : ℕ) → i < length cs → length (get_or cs i []) ≡ 64 → load (insert (set cs i (take 32 (get_or cs i []))) (i + 1) (drop 32 (get_or cs i []))) + 32 ≡ load cs
  split_load cs i lt full =
      let a = take 32 (get_or cs i []) in
      let b = drop 32 (get_or cs i []) in
      let la : length a ≡ 32 = length-take-le 32 (get_or cs i []) (omega (arith, full)) in
      let lb : length b ≡ 32 = length-drop 32 (get_or cs i []) ∙ omega (arith, full) in
      halved_load cs i (i + 1) a b refl lt full la lb

  joined_load : (cs : List (List A)) (i j : ℕ) (c : List A) → j ≡ i + 1 → j < length cs → length c ≡ length (get_or cs i []) + length (get_or cs j []) → load (set (remove cs j) i c) ≤ load cs + 32
  joined_load [] i j c next lt both = absurd (omega (arith, lt))
  joined_load cs i zero c next lt both = absurd (omega (arith, next))
  joined_load (x ∷ []) i (suc j) c next lt both = absurd (omega (arith, lt))
  joined_load (x ∷ y ∷ cs) zero (suc (suc j)) c next lt both = absurd (omega (arith, next))
  joined_load (x ∷ y ∷ []) zero (suc zero) c next lt both = omega (arith, both)
  joined_load (x ∷ y ∷ z ∷ cs) zero (suc zero) c next lt both = omega (arith, both)
  joined_load (x ∷ y ∷ cs) (suc i) (suc j) c next lt both =
      let rest = remove (y ∷ cs) j in
      let within : j < length (y ∷ cs) = omega (arith, lt) in
      let some : 0 < length (set rest i c) = omega (arith, next, lt, length-set rest i c, length-remove (y ∷ cs) j within) in
      omega (arith, load_more x (set rest i c) some, joined_load (y ∷ cs) i j c (omega (arith, next)) within both)

  pub join_load : (cs : List (List A)) (i : ℕ) → i + 1 < length cs → load (set (remove cs (i + 1)) i (get_or cs i [] ++ get_or cs (i + 1) [])) ≤ load cs + 32
  join_load cs i lt =
      joined_load cs i (i + 1) (get_or cs i [] ++ get_or cs (i + 1) []) refl lt (length-append (get_or cs i []) (get_or cs (i + 1) []))

  pub aside_load : (cs : List (List A)) (i : ℕ) → i < length cs → load (remove cs i) ≤ load cs + 32
  aside_load [] i lt = absurd (omega (arith, lt))
  aside_load (x ∷ []) zero lt = omega arith
  aside_load (x ∷ []) (suc i) lt = absurd (omega (arith, lt))
  aside_load (x ∷ y ∷ cs) zero lt = omega arith
  aside_load (x ∷ y ∷ []) (suc zero) lt = omega arith
  aside_load (x ∷ y ∷ []) (suc (suc i)) lt = absurd (omega (arith, lt))
  aside_load (x ∷ y ∷ z ∷ cs) (suc i) lt =
      let within : i < length (y ∷ z ∷ cs) = omega (arith, lt) in
      omega (arith, load_more x (remove (y ∷ z ∷ cs) i) (omega (arith, length-remove (y ∷ z ∷ cs) i within)), aside_load (y ∷ z ∷ cs) i within)

  -- an item in a new chunk, behind one that is half full
  behind_load : (cs : List (List A)) (i : ℕ) (x : A) → i + 1 ≡ length cs → 32 ≤ length (get_or cs i []) → load (cs ++ (x ∷ []) ∷ []) + 31 ≡ load cs
  behind_load [] i x last half = absurd (omega (arith, last))
  behind_load (c ∷ []) zero x last half = omega (arith, half)
  behind_load (c ∷ []) (suc i) x last half = absurd (omega (arith, last))
  behind_load (c ∷ d ∷ cs) zero x last half = absurd (omega (arith, last))
  behind_load (c ∷ d ∷ cs) (suc i) x last half = omega (arith, behind_load (d ∷ cs) i x (omega (arith, last)) half)

  pub new_load : (cs new : List (List A)) (i : ℕ) (x : A) → i + 1 ≡ length cs → 32 ≤ length (get_or cs i []) → new ≡ cs ++ (x ∷ []) ∷ [] → load new + 31 ≡ load cs
  new_load cs new i x last half is = ap (λ l. load l + 31) is ∙ behind_load cs i x last half

-- what a split leaves
pub record SplitFacts {A : Type 0} (cs new : List (List A)) (i : ℕ) : Type 0 where
  pub home : i < length new
  pub next : i + 1 < length new
  pub front : length (get_or new i []) ≡ 32
  pub back : length (get_or new (i + 1) []) ≡ 32
  pub some : AllSome new
  pub same : flat new ≡ flat cs
  pub start_front : items_before new i ≡ items_before cs i
  pub start_back : items_before new (i + 1) ≡ items_before cs i + 32
  pub loads : load new + 32 ≡ load cs

pub split_facts : {A : Type 0} (cs new : List (List A)) (i : ℕ) → AllSome cs → i < length cs → length (get_or cs i []) ≡ 64 → new ≡ insert (set cs i (take 32 (get_or cs i []))) (i + 1) (drop 32 (get_or cs i [])) → SplitFacts cs new i
split_facts {A} cs new i some lt full is =
    let c = get_or cs i [] in
    let a = take 32 c in
    let b = drop 32 c in
    let la : length a ≡ 32 = length-take-le 32 c (omega (arith, full)) in
    let lb : length b ≡ 32 = length-drop 32 c ∙ omega (arith, full) in
    let count : length (set cs i a) ≡ length cs = length-set cs i a in
    let le : i + 1 ≤ length (set cs i a) = omega (arith, count, lt) in
    let ln : length new ≡ length (set cs i a) + 1 = ap length is ∙ length-insert (set cs i a) (i + 1) b le in
    record {
      home = omega (arith, ln, count, lt);
      next = omega (arith, ln, count, lt);
      front = ap (λ r. length (get_or r i [])) is ∙ ap length (get_split cs i a b lt) ∙ la;
      back = ap (λ r. length (get_or r (i + 1) [])) is ∙ ap length (get_split_next cs i a b lt) ∙ lb;
      some = subst AllSome (sym is) (some_insert (set cs i a) (i + 1) b (some_set cs i a some (omega (arith, la))) (omega (arith, lb)));
      same = ap flat is ∙ flat_split cs i a b lt (take-append-drop 32 c);
      start_front = ap (λ r. items_before r i) is ∙ start_split cs i a b lt;
      start_back = ap (λ r. items_before r (i + 1)) is ∙ start_split_next cs i a b lt ∙ ap (λ n. items_before cs i + n) la;
      loads = ap (λ r. load r + 32) is ∙ split_load cs i lt full;
    }
