-- Names with their inodes that are read, and items that are written, one after another.
use Rattle.reply_codec.proofs.Common.{AllByRecursion, Inode, IsBytes, IsListed, List, None, Option, Some, Takes, Takes-then, [], ap, append_assoc, arith, bind_some, drop, drop-cons, flat_map, flat_map-cons, get_or, length, length-append, list_at, listed_at, listed_bytes, refl, same_Some, subst, suc, sym, zero, ℕ, ◌++◌, ◌+◌, ◌-◌, ◌<◌, ◌>>=◌, ◌∙◌, ◌∷◌, ◌≡◌}

abbrev pub Listed : Type 0
Listed = List ℕ × Inode

-- what was read, with more in front of it
abbrev pub preceded : List Listed → Option (List Listed × List ℕ) → Option (List Listed × List ℕ)
preceded front None = None
preceded front (Some (more, rest)) = Some (front ++ more, rest)

one_behind : (front : List Listed) (x : Listed) (more : Option (List Listed × List ℕ)) → preceded front (more >>= λ m. Some (x ∷ m.0, m.1)) ≡ preceded (front ++ x ∷ []) more
one_behind front x None = refl
one_behind front x (Some (xs, rest)) = ap (λ (ys : List Listed). Some (ys, rest)) (sym (append_assoc front (x ∷ []) xs))

next_left : (count : ℕ) (front : List Listed) (x : Listed) → length front < count → count - length front ≡ suc (count - length (front ++ x ∷ []))
next_left count front x less = omega (arith, length-append front (x ∷ []))

-- one name more is read
pub one_more : (count : ℕ) (total : Option (List Listed × List ℕ)) (front : List Listed) (rest after : List ℕ) (x : Listed) → length front < count → listed_at rest ≡ Some (x, after)
    → total ≡ preceded front (list_at (count - length front) rest) → total ≡ preceded (front ++ x ∷ []) (list_at (count - length (front ++ x ∷ [])) after)
one_more count total front rest after x less read parts =
    let left = count - length (front ++ x ∷ []) in
    parts ∙ ap (λ (n : ℕ). preceded front (list_at n rest)) (next_left count front x less)
    ∙ ap (λ (r : Option (Listed × List ℕ)). preceded front (r >>= λ first. list_at left first.1 >>= λ more. Some (first.0 ∷ more.0, more.1))) read
    ∙ one_behind front x (list_at left after)

-- names that are written are read again
pub list_again : ((x : Listed) (rest : List ℕ) → IsListed x → listed_at (listed_bytes x ++ rest) ≡ Some (x, rest)) → (xs : List Listed) (rest : List ℕ) → AllByRecursion IsListed xs
    → list_at (length xs) (flat_map listed_bytes xs ++ rest) ≡ Some (xs, rest)
list_again again [] rest all = refl
list_again again (x ∷ xs) rest (known, all) =
    let others = flat_map listed_bytes xs ++ rest in
    let parts : flat_map listed_bytes (x ∷ xs) ++ rest ≡ listed_bytes x ++ others = ap (λ (t : List ℕ). t ++ rest) (flat_map-cons listed_bytes x xs) ∙ append_assoc (listed_bytes x) (flat_map listed_bytes xs) rest in
    let first : listed_at (flat_map listed_bytes (x ∷ xs) ++ rest) ≡ Some (x, others) = ap listed_at parts ∙ again x others known in
    ap (λ (r : Option (Listed × List ℕ)). r >>= λ first. list_at (length xs) first.1 >>= λ more. Some (first.0 ∷ more.0, more.1)) first
    ∙ ap (λ (r : Option (List Listed × List ℕ)). r >>= λ more. Some (x ∷ more.0, more.1)) (list_again again xs rest all)

-- what was read of a list
abbrev pub ListTaken : ℕ → List ℕ → List Listed × List ℕ → Type 0
ListTaken n bytes p = (length p.0 ≡ n) × AllByRecursion IsListed p.0 × Takes bytes (flat_map listed_bytes p.0) p.1

-- names that are read are those that the bytes spell
pub list_takes : ((bytes : List ℕ) (x : Listed) (rest : List ℕ) → IsBytes bytes → listed_at bytes ≡ Some (x, rest) → IsListed x × Takes bytes (listed_bytes x) rest)
    → (n : ℕ) (bytes : List ℕ) (xs : List Listed) (rest : List ℕ) → IsBytes bytes → list_at n bytes ≡ Some (xs, rest) → ListTaken n bytes (xs, rest)
list_takes takes zero bytes xs rest fits read = subst (ListTaken 0 bytes) (same_Some ([], bytes) (xs, rest) read) (refl, tt, record { parts = refl; rest_fits = fits })
list_takes takes (suc n) bytes xs rest fits read =
    let a = bind_some (listed_at bytes) (λ first. list_at n first.1 >>= λ more. Some (first.0 ∷ more.0, more.1)) (xs, rest) read in
    let b = bind_some (list_at n a.0.1) (λ more. Some (a.0.0 ∷ more.0, more.1)) (xs, rest) a.2 in
    let one = takes bytes a.0.0 a.0.1 fits a.1 in
    let others = list_takes takes n a.0.1 b.0.0 b.0.1 one.1.rest_fits b.1 in
    let both_taken = Takes-then bytes (listed_bytes a.0.0) a.0.1 (flat_map listed_bytes b.0.0) b.0.1 one.1 others.2 in
    subst (ListTaken (suc n) bytes) (same_Some (a.0.0 ∷ b.0.0, b.0.1) (xs, rest) b.2)
    (ap (λ (k : ℕ). suc k) others.0, (one.0, others.1), subst (λ (t : List ℕ). Takes bytes t b.0.1) (sym (flat_map-cons listed_bytes a.0.0 b.0.0)) both_taken)

-- ---- items that are written one after another

module _ {A : Type 0} (xs : List A) (i : ℕ) (x : A) (within : i < length xs) (is : x ≡ get_or xs i x) where
  -- the item at a place, and what follows it
  item_first : drop i xs ≡ x ∷ drop (i + 1) xs
  item_first =
      let next : suc i ≡ i + 1 = omega arith in
      drop-cons xs i x within ∙ (λ k. sym is k ∷ drop (next k) xs)

-- what holds of an item and of those after it holds of all from that item on
pub one_known : {A : Type 0} (Fits : A → Type 0) (xs : List A) (i : ℕ) (x : A) → i < length xs → x ≡ get_or xs i x → Fits x → AllByRecursion Fits (drop (i + 1) xs) → AllByRecursion Fits (drop i xs)
one_known Fits xs i x within is fits all = subst (AllByRecursion Fits) (sym (item_first xs i x within is)) (fits, all)

pub one_put : {A : Type 0} (spell : A → List ℕ) (xs : List A) (i : ℕ) (x : A) → i < length xs → x ≡ get_or xs i x → (old new total : List ℕ) → old ++ flat_map spell (drop i xs) ≡ total → new ≡ old ++ spell x
    → new ++ flat_map spell (drop (i + 1) xs) ≡ total
one_put spell xs i x within is old new total parts put =
    let rest = flat_map spell (drop (i + 1) xs) in
    ap (λ (t : List ℕ). t ++ rest) put ∙ append_assoc old (spell x) rest
    ∙ ap (λ (t : List ℕ). old ++ t) (sym (ap (flat_map spell) (item_first xs i x within is) ∙ flat_map-cons spell x (drop (i + 1) xs))) ∙ parts
