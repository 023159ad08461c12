-- Bytes compare as the numbers that their first ones spell.
use Rattle.std.proofs.Common.{◌≡◌, ℕ, zero, suc, ◌+◌, ◌-◌, ◌*◌, ◌<◌, ◌≤◌, min, List, [], ◌∷◌, length, get_or, take, drop, nat_cmp, Ordering, Less, Equal, Greater, sym, refl, ap, ◌∙◌, subst, arith, length-drop, get_or-drop, Fits, w8}
use Rattle.std.specs.Cmp.{ranks}
use Rattle.std.specs.Cmp.Lexicographic.{slice_cmp}
use Rattle.std.specs.Ordering.{MatchOrdering, ordering_then}
use Rattle.mds_types.specs.ByteOrder.{Alike, Settles, spelt, word_at}

-- ---- how two numbers lie

by_less : (x y : ℕ) (r : Ordering) → MatchOrdering r (x < y) (x ≡ y) (y < x) → x < y → r ≡ Less
by_less x y Less h l = refl
by_less x y Equal h l = let e : x ≡ y = h in absurd (omega arith)
by_less x y Greater h l = let e : y < x = h in absurd (omega arith)

by_equal : (x y : ℕ) (r : Ordering) → MatchOrdering r (x < y) (x ≡ y) (y < x) → x ≡ y → r ≡ Equal
by_equal x y Less h l = let e : x < y = h in absurd (omega arith)
by_equal x y Equal h l = refl
by_equal x y Greater h l = let e : y < x = h in absurd (omega arith)

by_greater : (x y : ℕ) (r : Ordering) → MatchOrdering r (x < y) (x ≡ y) (y < x) → y < x → r ≡ Greater
by_greater x y Less h l = let e : x < y = h in absurd (omega arith)
by_greater x y Equal h l = let e : x ≡ y = h in absurd (omega arith)
by_greater x y Greater h l = refl

pub less : {x y : ℕ} → x < y → nat_cmp x y ≡ Less
less {x} {y} = by_less x y _ (ranks x y)

pub equal : {x y : ℕ} → x ≡ y → nat_cmp x y ≡ Equal
equal {x} {y} = by_equal x y _ (ranks x y)

pub greater : {x y : ℕ} → y < x → nat_cmp x y ≡ Greater
greater {x} {y} = by_greater x y _ (ranks x y)

-- one more of each
pub longer : (m n : ℕ) (r : Ordering) → MatchOrdering r (m < n) (m ≡ n) (n < m) → r ≡ nat_cmp (suc m) (suc n)
longer m n Less l = let e : m < n = l in sym (less {x = suc m} {y = suc n} (omega arith))
longer m n Equal l = let e : m ≡ n = l in sym (equal {x = suc m} {y = suc n} (omega arith))
longer m n Greater l = let e : n < m = l in sym (greater {x = suc m} {y = suc n} (omega arith))

-- ---- the order of bytes

-- what is alike in front decides nothing
past : (n : ℕ) (xs ys : List ℕ) → n ≤ length xs → n ≤ length ys → Alike xs ys n → slice_cmp nat_cmp xs ys ≡ slice_cmp nat_cmp (drop n xs) (drop n ys)
past zero xs ys a b h = refl
past (suc n) [] ys a b h = absurd (omega arith)
past (suc n) (x ∷ xs) [] a b h = absurd (omega arith)
past (suc n) (x ∷ xs) (y ∷ ys) a b h =
    ap (λ r. ordering_then r (slice_cmp nat_cmp xs ys)) (equal {x = x} {y = y} (h 0 (omega arith))) ∙ past n xs ys (omega arith) (omega arith) (λ k l. h (suc k) (omega arith))

-- where one is the front of the other, the shorter is less
pub by_lengths : (xs ys : List ℕ) → Alike xs ys (min (length xs) (length ys)) → slice_cmp nat_cmp xs ys ≡ nat_cmp (length xs) (length ys)
by_lengths [] [] h = sym (equal {x = 0} {y = 0} refl)
by_lengths [] (y ∷ ys) h = sym (less {x = 0} {y = suc (length ys)} (omega arith))
by_lengths (x ∷ xs) [] h = sym (greater {x = suc (length xs)} {y = 0} (omega arith))
by_lengths (x ∷ xs) (y ∷ ys) h =
    ap (λ r. ordering_then r (slice_cmp nat_cmp xs ys)) (equal {x = x} {y = y} (h 0 (omega arith)))
    ∙ by_lengths xs ys (λ k l. h (suc k) (omega arith))
    ∙ longer (length xs) (length ys) (nat_cmp (length xs) (length ys)) (ranks (length xs) (length ys))

-- ---- bytes as a number

abbrev AreBytes : List ℕ → Type 0
AreBytes xs = (k : ℕ) → Fits w8 (get_or xs k 0)

-- a front that is less stays so, whatever comes behind it
rises : (n a b : ℕ) (us vs : List ℕ) → n ≤ length us → n ≤ length vs → AreBytes us → a < b → spelt a (take n us) < spelt b (take n vs)
rises zero a b us vs p q h l = l
rises (suc n) a b [] vs p q h l = absurd (omega arith)
rises (suc n) a b (u ∷ us) [] p q h l = absurd (omega arith)
rises (suc n) a b (u ∷ us) (v ∷ vs) p q h l =
    let small : u < 256 = (h 0).fits in
    rises n (a * 256 + u) (b * 256 + v) us vs (omega arith) (omega arith) (λ k. h (suc k)) (omega arith)

spells : (n a : ℕ) (us vs : List ℕ) → n ≤ length us → n ≤ length vs → AreBytes us → AreBytes vs → Settles us vs n (spelt a (take n us)) (spelt a (take n vs))
spells zero a us vs p q g h = record { apart = λ f. absurd (f refl); alike = λ _ k l. absurd (omega arith) }
spells (suc n) a [] vs p q g h = absurd (omega arith)
spells (suc n) a (u ∷ us) [] p q g h = absurd (omega arith)
spells (suc n) a (u ∷ us) (v ∷ vs) p q g h = by (spells n (a * 256 + u) us vs (omega arith) (omega arith) (λ k. g (suc k)) (λ k. h (suc k))) (nat_cmp u v) refl (ranks u v)
  where
    then_ : {r : Ordering} → nat_cmp u v ≡ r → slice_cmp nat_cmp (u ∷ us) (v ∷ vs) ≡ ordering_then r (slice_cmp nat_cmp us vs)
    then_ e = ap (λ r. ordering_then r (slice_cmp nat_cmp us vs)) e

    by : Settles us vs n (spelt (a * 256 + u) (take n us)) (spelt (a * 256 + u) (take n vs)) → (r : Ordering) → nat_cmp u v ≡ r → MatchOrdering r (u < v) (u ≡ v) (v < u) → Settles (u ∷ us) (v ∷ vs) (suc n) (spelt (a * 256 + u) (take n us)) (spelt (a * 256 + v) (take n vs))
    by rest Less e l =
        let under : u < v = l in
        let t = rises n (a * 256 + u) (a * 256 + v) us vs (omega arith) (omega arith) (λ k. g (suc k)) (omega arith) in
        record { apart = λ _. then_ e ∙ sym (less t); alike = λ s. absurd (omega arith) }
    by rest Greater e l =
        let over : v < u = l in
        let t = rises n (a * 256 + v) (a * 256 + u) vs us (omega arith) (omega arith) (λ k. h (suc k)) (omega arith) in
        record { apart = λ _. then_ e ∙ sym (greater t); alike = λ s. absurd (omega arith) }
    by rest Equal e l =
        let level : u ≡ v = l in
        let t = subst (λ z. Settles us vs n (spelt (a * 256 + u) (take n us)) (spelt (a * 256 + z) (take n vs))) level rest in
        record { apart = λ f. then_ e ∙ t.apart f; alike = λ s. both (t.alike s) }
      where
        both : Alike us vs n → Alike (u ∷ us) (v ∷ vs) (suc n)
        both t zero m = l
        both t (suc k) m = t k (omega arith)

-- what is read from a place on settles, where all before it is alike
pub word : (xs ys : List ℕ) → AreBytes xs → AreBytes ys → (i n x y : ℕ) → i + n ≤ length xs → i + n ≤ length ys → x ≡ word_at xs i n → y ≡ word_at ys i n → Alike xs ys i → Settles xs ys (i + n) x y
word xs ys bx by i n x y p q a b h =
    let t = spells n 0 (drop i xs) (drop i ys) (omega (arith, length-drop i xs)) (omega (arith, length-drop i ys))
    (λ k. subst (Fits w8) (sym (get_or-drop i xs k 0)) (bx (i + k))) (λ k. subst (Fits w8) (sym (get_or-drop i ys k 0)) (by (i + k))) in
    let is : Settles xs ys (i + n) (word_at xs i n) (word_at ys i n) = record { apart = λ f. past i xs ys (omega arith) (omega arith) h ∙ t.apart f; alike = λ s k l. later k (t.alike s) l (nat_cmp k i) (ranks k i) } in
    subst (Settles xs ys (i + n) x) (sym b) (subst (λ z. Settles xs ys (i + n) z (word_at ys i n)) (sym a) is)
  where
    from : Alike (drop i xs) (drop i ys) n → (k j : ℕ) → k ≡ i + j → j < n → get_or xs k 0 ≡ get_or ys k 0
    from t k j e l = ap (λ m. get_or xs m 0) e ∙ sym (get_or-drop i xs j 0) ∙ t j l ∙ get_or-drop i ys j 0 ∙ sym (ap (λ m. get_or ys m 0) e)

    later : (k : ℕ) → Alike (drop i xs) (drop i ys) n → k < i + n → (r : Ordering) → MatchOrdering r (k < i) (k ≡ i) (i < k) → get_or xs k 0 ≡ get_or ys k 0
    later k t m Less l = h k l
    later k t m Equal l = let e : k ≡ i = l in from t k (k - i) (omega arith) (omega arith)
    later k t m Greater l = let e : i < k = l in from t k (k - i) (omega arith) (omega arith)

-- where two numbers differ, they settle all
pub at_once : (xs ys : List ℕ) (i j x y : ℕ) → Settles xs ys i x y → (x ≡ y → ⊥) → Settles xs ys j x y
at_once xs ys i j x y t f = record { apart = t.apart; alike = λ s. absurd (f s) }

-- what settles more settles fewer
pub fewer : (xs ys : List ℕ) (i j x y : ℕ) → j ≤ i → Settles xs ys i x y → Settles xs ys j x y
fewer xs ys i j x y le t = record { apart = t.apart; alike = λ s k l. t.alike s k (omega arith) }
