-- Bytes with zeros behind them, to one length, lie as the bytes alone, but for those that are alike so: the shorter is
-- less then.
use Rattle.std.proofs.Common.{◌≡◌, ℕ, zero, suc, ◌+◌, ◌-◌, ◌<◌, List, [], ◌∷◌, ◌++◌, length, replicate, take, nat_cmp, Ordering, Less, Equal, Greater, sym, refl, ap, ◌∙◌, arith}
use Rattle.std.specs.Cmp.{ranks}
use Rattle.std.specs.Cmp.Lexicographic.{slice_cmp}
use Rattle.std.specs.Ordering.{MatchOrdering, ordering_then}
use Rattle.std.proofs.lemmas.List.{length-append, length-replicate, length-take-le, take-append-drop}
use Rattle.mds_types.specs.ByteOrder.{Alike, Settles}
use Rattle.mds_types.specs.ShortBytes.{IsPadded}
use Rattle.mds_types.proofs.ByteOrderLaws.{by_lengths, equal, greater, less, longer}

abbrev zeros : ℕ → List ℕ
zeros n = replicate n 0

then_less : (r : Ordering) → (r ≡ Greater → ⊥) → Less ≡ ordering_then r Less
then_less Less f = refl
then_less Equal f = refl
then_less Greater f = absurd (f refl)

then_greater : (r : Ordering) → (r ≡ Less → ⊥) → Greater ≡ ordering_then r Greater
then_greater Less f = absurd (f refl)
then_greater Equal f = refl
then_greater Greater f = refl

then_then : (a b c : Ordering) → ordering_then a (ordering_then b c) ≡ ordering_then (ordering_then a b) c
then_then Less b c = refl
then_then Equal b c = refl
then_then Greater b c = refl

alike : (zs : List ℕ) → slice_cmp nat_cmp zs zs ≡ Equal
alike zs = by_lengths zs zs (λ k l. refl) ∙ equal {x = length zs} {y = length zs} refl

-- nothing is less than zeros of its length, nor are they greater
least : (n : ℕ) (bs : List ℕ) → length bs ≡ n → slice_cmp nat_cmp (zeros n) bs ≡ Greater → ⊥
least zero [] e h = absurd cc
least zero (b ∷ bs) e h = absurd (omega (arith, e))
least (suc n) [] e h = absurd (omega (arith, e))
least (suc n) (b ∷ bs) e h = go (least n bs (omega (arith, e))) (nat_cmp 0 b) (ranks 0 b) h
  where
    go : (slice_cmp nat_cmp (zeros n) bs ≡ Greater → ⊥) → (r : Ordering) → MatchOrdering r (0 < b) (0 ≡ b) (b < 0) → ordering_then r (slice_cmp nat_cmp (zeros n) bs) ≡ Greater → ⊥
    go rest Less l h = absurd cc
    go rest Equal l h = rest h
    go rest Greater l h = let below : b < 0 = l in absurd (omega (arith, below))

greatest : (n : ℕ) (bs : List ℕ) → length bs ≡ n → slice_cmp nat_cmp bs (zeros n) ≡ Less → ⊥
greatest zero [] e h = absurd cc
greatest zero (b ∷ bs) e h = absurd (omega (arith, e))
greatest (suc n) [] e h = absurd (omega (arith, e))
greatest (suc n) (b ∷ bs) e h = go (greatest n bs (omega (arith, e))) (nat_cmp b 0) (ranks b 0) h
  where
    go : (slice_cmp nat_cmp bs (zeros n) ≡ Less → ⊥) → (r : Ordering) → MatchOrdering r (b < 0) (b ≡ 0) (0 < b) → ordering_then r (slice_cmp nat_cmp bs (zeros n)) ≡ Less → ⊥
    go rest Less l h = let below : b < 0 = l in absurd (omega (arith, below))
    go rest Equal l h = rest h
    go rest Greater l h = absurd cc

-- bytes with zeros behind them, to one length
padded : (xs ys : List ℕ) (p q : ℕ) → length xs + p ≡ length ys + q
    → slice_cmp nat_cmp xs ys ≡ ordering_then (slice_cmp nat_cmp (xs ++ zeros p) (ys ++ zeros q)) (nat_cmp (length xs) (length ys))
padded [] [] p q e =
    let same : p ≡ q = omega (arith, e) in
    sym (ap (λ r. ordering_then r (nat_cmp 0 0)) (ap (λ n. slice_cmp nat_cmp (zeros p) (zeros n)) (sym same) ∙ alike (zeros p)) ∙ equal {x = 0} {y = 0} refl)
padded [] (y ∷ ys) p q e =
    then_less _ (least p (y ∷ ys ++ zeros q) (omega (arith, e, length-append (y ∷ ys) (zeros q), length-replicate {A = ℕ} q 0)))
    ∙ sym (ap (ordering_then (slice_cmp nat_cmp (zeros p) (y ∷ ys ++ zeros q))) (less {x = 0} {y = suc (length ys)} (omega arith)))
padded (x ∷ xs) [] p q e =
    then_greater _ (greatest q (x ∷ xs ++ zeros p) (omega (arith, e, length-append (x ∷ xs) (zeros p), length-replicate {A = ℕ} p 0)))
    ∙ sym (ap (ordering_then (slice_cmp nat_cmp (x ∷ xs ++ zeros p) (zeros q))) (greater {x = suc (length xs)} {y = 0} (omega arith)))
padded (x ∷ xs) (y ∷ ys) p q e =
    ap (ordering_then (nat_cmp x y)) (padded xs ys p q (omega (arith, e)))
    ∙ then_then (nat_cmp x y) (slice_cmp nat_cmp (xs ++ zeros p) (ys ++ zeros q)) (nat_cmp (length xs) (length ys))
    ∙ ap (ordering_then (ordering_then (nat_cmp x y) (slice_cmp nat_cmp (xs ++ zeros p) (ys ++ zeros q)))) (longer (length xs) (length ys) (nat_cmp (length xs) (length ys)) (ranks (length xs) (length ys)))

-- the order of two texts of 22 bytes each, of which only the first so many count
module _ (a b : List ℕ) (n m : ℕ) (first : IsPadded n a) (second : IsPadded m b) (wide : length a ≡ 22) (broad : length b ≡ 22) where
  whole : slice_cmp nat_cmp (take n a) (take m b) ≡ ordering_then (slice_cmp nat_cmp a b) (nat_cmp n m)
  whole =
      padded (take n a) (take m b) (22 - n) (22 - m) (omega (arith, front, back, first.few, second.few))
      ∙ ap (λ (xs : List ℕ). ordering_then (slice_cmp nat_cmp xs (take m b ++ zeros (22 - m))) (nat_cmp (length (take n a)) (length (take m b)))) (ap (λ zs. take n a ++ zs) (sym first.zeros) ∙ take-append-drop n a)
      ∙ ap (λ (ys : List ℕ). ordering_then (slice_cmp nat_cmp a ys) (nat_cmp (length (take n a)) (length (take m b)))) (ap (λ zs. take m b ++ zs) (sym second.zeros) ∙ take-append-drop m b)
      ∙ ap (λ k. ordering_then (slice_cmp nat_cmp a b) (nat_cmp k (length (take m b)))) front
      ∙ ap (λ k. ordering_then (slice_cmp nat_cmp a b) (nat_cmp n k)) back
    where
      front : length (take n a) ≡ n
      front = length-take-le n a (omega (arith, first.few, wide))

      back : length (take m b) ≡ m
      back = length-take-le m b (omega (arith, second.few, broad))

  -- two numbers that differ settle it
  pub by_numbers : (i x y : ℕ) → Settles a b i x y → (x ≡ y → ⊥) → nat_cmp x y ≡ slice_cmp nat_cmp (take n a) (take m b)
  by_numbers i x y settles apart =
      decided (nat_cmp x y) (ranks x y)
      ∙ ap (λ r. ordering_then r (nat_cmp n m)) (sym (settles.apart apart)) ∙ sym whole
    where
      decided : (r : Ordering) → MatchOrdering r (x < y) (x ≡ y) (y < x) → r ≡ ordering_then r (nat_cmp n m)
      decided Less l = refl
      decided Equal l = let same : x ≡ y = l in absurd (apart same)
      decided Greater l = refl

  -- and where all are alike, how many count
  pub by_counts : Alike a b 22 → nat_cmp n m ≡ slice_cmp nat_cmp (take n a) (take m b)
  by_counts alike =
      sym (whole ∙ ap (λ r. ordering_then r (nat_cmp n m)) (by_lengths a b (λ k l. alike k (omega (arith, wide, broad, l))) ∙ equal {x = length a} {y = length b} (wide ∙ sym broad)))
