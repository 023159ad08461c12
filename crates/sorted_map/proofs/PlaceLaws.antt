-- What the place of a key says of look-ups and edits of pairs in order.
use Rattle.std.proofs.Common.{◌≡◌, ℕ, zero, suc, ◌<◌, ◌≤◌, add-one, Bool, true, false, not, T, List, [], ◌∷◌, length, get_or, set, drop, insert, remove, Some, None, Result, Ok, Err, Ordering, Less, Equal, Greater, is_lt, is_gt, refl, sym, ap, ◌∙◌, subst, arith}
use Rattle.std.proofs.lemmas.Bool.{false≢true}
use Rattle.std.specs.List.{IsAllAdjacentAnswer}
use Rattle.std.specs.Cmp.{IsTotalOrder, tied_itself, tied_back, alike_right}
use Rattle.std.specs.Ordering.{ordering_index, ordering_reverse, eq_by_cmp}
use Rattle.std.specs.List.Sorted.{IsSearchInRange, IsBinarySearchResult, IsNonDecreasingBy}
use Rattle.std.specs.FinMap.Entries.{find, put, where_key, is_sorted, below_all}
use Rattle.sorted_map.proofs.Bools.{left_of, right_of, both_of, true_of, false_of}
use Rattle.sorted_map.specs.SortedMap.{after, is_from}
use Rattle.sorted_map.specs.Homes.{starts_above}
use Rattle.sorted_map.specs.Places.{IsKeyAt, IsGap, IsPlace}

pub less : (r : Ordering) → T (is_lt r) → r ≡ Less
less Less p = refl
less Equal p = absurd p
less Greater p = absurd p

pub greater : (r : Ordering) → is_gt r ≡ true → r ≡ Greater
greater Less h = cc
greater Equal h = cc
greater Greater h = refl

-- ---- what follows from a place, in any order

module _ {K V : Type 0} (R : K → K → Ordering) (k : K) where
  pub find_gap : (es : List (K × V)) (i : ℕ) → IsGap R k es i → find R k es ≡ None
  find_gap [] i h = refl
  find_gap (e ∷ es) zero h = rw h.0 (find_gap es zero h.1)
  find_gap (e ∷ es) (suc i) h = rw h.0 (find_gap es i h.1)

  pub find_at : (es : List (K × V)) (i : ℕ) (d : K × V) → IsKeyAt R k es i → find R k es ≡ Some (get_or es i d).1
  find_at [] i d h = absurd h
  find_at (e ∷ es) zero d h = rw h.0
  find_at (e ∷ es) (suc i) d h = rw h.0 (find_at es i d h.1)

  pub tied_at : (es : List (K × V)) (i : ℕ) (d : K × V) → IsKeyAt R k es i → R k (get_or es i d).0 ≡ Equal
  tied_at [] i d h = absurd h
  tied_at (e ∷ es) zero d h = h.0
  tied_at (e ∷ es) (suc i) d h = tied_at es i d h.1

  pub put_gap : (v : V) (es : List (K × V)) (i : ℕ) → IsGap R k es i → put R k v es ≡ insert es i (k, v)
  put_gap v [] zero h = refl
  put_gap v [] (suc i) h = absurd h
  put_gap v (e ∷ es) zero h = rw h.0
  put_gap v (e ∷ es) (suc i) h = rw h.0 (ap (λ t. e ∷ t) (put_gap v es i h.1))

  pub put_at : (v : V) (es : List (K × V)) (i : ℕ) (d : K × V) → IsKeyAt R k es i → put R k v es ≡ set es i ((get_or es i d).0, v)
  put_at v [] i d h = absurd h
  put_at v (e ∷ es) zero d h = rw h.0
  put_at v (e ∷ es) (suc i) d h = rw h.0 (ap (λ t. e ∷ t) (put_at v es i d h.1))

  pub others_gap : (es : List (K × V)) (i : ℕ) → IsGap R k es i → where_key R (λ x. not (eq_by_cmp R k x)) es ≡ es
  others_gap [] i h = refl
  others_gap (e ∷ es) zero h = rw h.0 (ap (λ t. e ∷ t) (others_gap es zero h.1))
  others_gap (e ∷ es) (suc i) h = rw h.0 (ap (λ t. e ∷ t) (others_gap es i h.1))

  pub others_at : (es : List (K × V)) (i : ℕ) → IsKeyAt R k es i → where_key R (λ x. not (eq_by_cmp R k x)) es ≡ remove es i
  others_at [] i h = absurd h
  others_at (e ∷ es) zero h = rw h.0 (others_gap es zero h.1)
  others_at (e ∷ es) (suc i) h = rw h.0 (ap (λ t. e ∷ t) (others_at es i h.1))

  pub after_gap : (es : List (K × V)) (i : ℕ) → IsGap R k es i → after R k es ≡ drop i es
  after_gap [] zero h = refl
  after_gap [] (suc i) h = refl
  after_gap (e ∷ es) zero h = rw h.0 (ap (λ t. e ∷ t) (after_gap es zero h.1))
  after_gap (e ∷ es) (suc i) h = rw h.0 (after_gap es i h.1)

  pub after_at : (es : List (K × V)) (i : ℕ) → IsKeyAt R k es i → after R k es ≡ drop (suc i) es
  after_at [] i h = absurd h
  after_at (e ∷ es) zero h = rw h.0 (after_gap es zero h.1)
  after_at (e ∷ es) (suc i) h = rw h.0 (after_at es i h.1)

  pub from_gap : (es : List (K × V)) (i : ℕ) → IsGap R k es i → where_key R (is_from R k) es ≡ drop i es
  from_gap [] zero h = refl
  from_gap [] (suc i) h = refl
  from_gap (e ∷ es) zero h = rw h.0 (ap (λ t. e ∷ t) (from_gap es zero h.1))
  from_gap (e ∷ es) (suc i) h = rw h.0 (from_gap es i h.1)

  pub from_at : (es : List (K × V)) (i : ℕ) → IsKeyAt R k es i → where_key R (is_from R k) es ≡ drop i es
  from_at [] i h = absurd h
  from_at (e ∷ es) zero h = rw h.0 (ap (λ t. e ∷ t) (from_gap es zero h.1))
  from_at (e ∷ es) (suc i) h = rw h.0 (from_at es i h.1)

  -- the pairs from one on that are above the key, and that one is too
  pub gap_more : (es : List (K × V)) (i : ℕ) (d : K × V) → i < length es → R k (get_or es i d).0 ≡ Less → IsGap R k (drop (suc i) es) zero → IsGap R k (drop i es) zero
  gap_more [] i d lt above rest = absurd (omega (arith, lt))
  gap_more (e ∷ es) zero d lt above rest = (above, rest)
  gap_more (e ∷ es) (suc i) d lt above rest = gap_more es i d (omega (arith, lt)) above rest

-- ---- where a binary search ends, in a total order

module _ {K : Type 0} {R : K → K → Ordering} (o : IsTotalOrder R) where
  -- a lower key compares no higher with k
  lower : (a b k : K) (r : Ordering) → R b k ≡ r → R a b ≡ Less → ordering_index (R a k) ≤ ordering_index r
  lower a b k Less p q = rw (o.trans a b k q p) (omega arith)
  lower a b k Equal p q = rw (sym (alike_right o b k a p) ∙ q) (omega arith)
  lower a b k Greater p q = elim (R a k) as (λ s. ordering_index s ≤ 2) [ Less ↦ omega arith | Equal ↦ omega arith | Greater ↦ omega arith ]

  pub turned : (x k : K) (r : Ordering) → R x k ≡ r → R k x ≡ ordering_reverse r
  turned x k r e = o.antisymm k x ∙ ap ordering_reverse e

module _ {K V : Type 0} {R : K → K → Ordering} (o : IsTotalOrder R) where
  -- each key of a list is above one that is below all of them
  below_at : (x : K) (es : List (K × V)) (i : ℕ) (d : K × V) → T (below_all R x es) → i < length es → R x (get_or es i d).0 ≡ Less
  below_at x [] i d h lt = absurd (omega arith)
  below_at x (e ∷ es) zero d h lt = less _ (left_of _ _ h)
  below_at x (e ∷ es) (suc i) d h lt = below_at x es i d (right_of _ _ h) (omega arith)

  -- a key above one of a list, where the pairs behind that one are above the key
  pub gap_behind : (k : K) (es : List (K × V)) (i : ℕ) (d : K × V) → T (is_sorted R es) → i < length es → R k (get_or es i d).0 ≡ Greater → IsGap R k (drop (suc i) es) zero → IsGap R k es (suc i)
  gap_behind k [] i d s lt above rest = absurd (omega (arith, lt))
  gap_behind k (x ∷ es) zero d s lt above rest = (above, rest)
  gap_behind k (x ∷ es) (suc i) d s lt above rest =
      let next = get_or es i d in
      let below : R x.0 next.0 ≡ Less = below_at x.0 es i d (left_of _ _ s) (omega (arith, lt)) in
      (turned o x.0 k Less (o.trans x.0 next.0 k below (turned o k next.0 Greater above)), gap_behind k es i d (right_of _ _ s) (omega (arith, lt)) above rest)

  -- a list that has a pair below a key doesn't start above it
  pub starts_below : (k : K) (es : List (K × V)) (i : ℕ) → IsGap R k es (suc i) → starts_above R k es ≡ false
  starts_below k [] i gap = refl
  starts_below k (e ∷ es) i gap = ap is_lt gap.0

  -- a key that ties with one of a list
  pub at_tied : (k : K) (es : List (K × V)) (i : ℕ) (d : K × V) → T (is_sorted R es) → i < length es → R k (get_or es i d).0 ≡ Equal → IsGap R k (drop (suc i) es) zero → IsKeyAt R k es i
  at_tied k [] i d s lt tied rest = absurd (omega (arith, lt))
  at_tied k (x ∷ es) zero d s lt tied rest = (tied, rest)
  at_tied k (x ∷ es) (suc i) d s lt tied rest =
      let next = get_or es i d in
      let below : R x.0 next.0 ≡ Less = below_at x.0 es i d (left_of _ _ s) (omega (arith, lt)) in
      (turned o x.0 k Less (sym (alike_right o next.0 k x.0 (tied_back o k next.0 tied)) ∙ below), at_tied k es i d (right_of _ _ s) (omega (arith, lt)) tied rest)

  -- a key that ties with one that is below all of a list would go before it
  pub gap_tied : (x k : K) (es : List (K × V)) → R x k ≡ Equal → T (below_all R x es) → IsGap R k es zero
  gap_tied x k [] t h = tt
  gap_tied x k (e ∷ es) t h = (sym (o.congr x k e.0 t) ∙ less _ (left_of _ _ h), gap_tied x k es t (right_of _ _ h))

  -- the first key stands at the first place
  pub first_at : (es : List (K × V)) (x : K × V) → T (is_sorted R es) → 0 < length es → x ≡ get_or es 0 x → IsKeyAt R x.0 es zero
  first_at [] x s some e = absurd (omega arith)
  first_at (y ∷ es) x s some e =
      subst (λ (z : K × V). IsKeyAt R z.0 (y ∷ es) zero) (sym e) (tied_itself o y.0, gap_tied y.0 y.0 es (tied_itself o y.0) (left_of _ _ s))

  rises : (k : K) (es : List (K × V)) → T (is_sorted R es) → IsNonDecreasingBy (λ y. ordering_index (R y.0 k)) es
  rises k [] s i j d le lt = absurd (omega arith)
  rises k (e ∷ es) s zero zero d le lt = omega arith
  rises k (e ∷ es) s zero (suc j) d le lt = lower o e.0 _ k _ refl (below_at e.0 es j d (left_of _ _ s) (omega arith))
  rises k (e ∷ es) s (suc i) zero d le lt = absurd (omega arith)
  rises k (e ∷ es) s (suc i) (suc j) d le lt = rises k es (right_of _ _ s) i j d (omega arith) (omega arith)

  at_found : (k : K) (es : List (K × V)) (i : ℕ) → T (is_sorted R es) → i < length es → ((d : K × V) → R (get_or es i d).0 k ≡ Equal) → IsKeyAt R k es i
  at_found k [] i s lt tied = absurd (omega arith)
  at_found k (e ∷ es) zero s lt tied = (tied_back o e.0 k (tied e), gap_tied e.0 k es (tied e) (left_of _ _ s))
  at_found k (e ∷ es) (suc i) s lt tied = (
    turned o e.0 k Less (sym (alike_right o (get_or es i e).0 k e.0 (tied e)) ∙ below_at e.0 es i e (left_of _ _ s) (omega arith)),
    at_found k es i (right_of _ _ s) (omega arith) tied,
  )

  gap_found : (k : K) (es : List (K × V)) (i : ℕ) → i ≤ length es → ((j : ℕ) (d : K × V) → j < i → R (get_or es j d).0 k ≡ Less) → ((j : ℕ) (d : K × V) → i ≤ j → j < length es → R (get_or es j d).0 k ≡ Greater) → IsGap R k es i
  gap_found k [] zero le below above = tt
  gap_found k [] (suc i) le below above = absurd (omega arith)
  gap_found k (e ∷ es) zero le below above = (
    turned o e.0 k Greater (above zero e (omega arith) (omega arith)),
    gap_found k es zero (omega arith) (λ j d lt. absurd (omega arith)) (λ j d le lt. above (suc j) d (omega arith) (omega arith)),
  )
  gap_found k (e ∷ es) (suc i) le below above = (
    turned o e.0 k Less (below zero e (omega arith)),
    gap_found k es i (omega arith) (λ j d lt. below (suc j) d (omega arith)) (λ j d le lt. above (suc j) d (omega arith) (omega arith)),
  )

  -- a binary search ends at the key, or at its gap
  ends_at : (k : K) (es : List (K × V)) (r : Result ℕ ℕ) → T (is_sorted R es) → IsSearchInRange r (length es) → IsBinarySearchResult (λ y. R y.0 k) es r → IsPlace R k es r
  ends_at k es (Ok i) s within found = at_found k es i s within found
  ends_at k es (Err i) s within parted =
      let parts = parted (rises k es s) in
      gap_found k es i within (λ j d lt. parts.0 j d (omega arith) lt) (λ j d le lt. parts.1 j d le lt)

  -- so does one that turns what k compares as
  pub searched : (k : K) (es : List (K × V)) (r : Result ℕ ℕ) → T (is_sorted R es) → IsSearchInRange r (length es) → IsBinarySearchResult (λ y. ordering_reverse (R k y.0)) es r → IsPlace R k es r
  searched k es r s within h =
      ends_at k es r s within (subst (λ (by : K × V → Ordering). IsBinarySearchResult by es r) (λ i y. sym (o.antisymm y.0 k) i) h)

-- ---- a list whose neighbours rise is in order

module _ {K V : Type 0} {R : K → K → Ordering} (o : IsTotalOrder R) where
  pub below_less : (x y : K) (es : List (K × V)) → R x y ≡ Less → T (below_all R y es) → T (below_all R x es)
  below_less x y [] p h = tt
  below_less x y (e ∷ es) p h = both_of _ _ (subst (λ r. T (is_lt r)) (sym (o.trans x y e.0 p (less _ (left_of _ _ h)))) tt) (below_less x y es p (right_of _ _ h))

  adjacent : (es : List (K × V)) → ((j : ℕ) (d : K × V) → suc j < length es → true ≡ is_lt (R (get_or es j d).0 (get_or es (suc j) d).0)) → T (is_sorted R es)
  adjacent [] h = tt
  adjacent (e ∷ []) h = tt
  adjacent (e ∷ f ∷ es) h =
      let rest = adjacent (f ∷ es) (λ j d lt. h (suc j) d (omega arith)) in
      let lower : T (is_lt (R e.0 f.0)) = subst T (h zero e (omega arith)) tt in
      both_of _ _ (both_of _ _ lower (below_less e.0 f.0 es (less _ lower) (left_of _ _ rest))) rest

  -- so says a test of the neighbours
  pub rises_by : (es : List (K × V)) (r : Bool) → IsAllAdjacentAnswer (λ x y b. b ≡ is_lt (R x.0 y.0)) es r → r ≡ true → T (is_sorted R es)
  rises_by es true h e = adjacent es (λ j d lt. rw add-one at (h j d (omega arith)))
  rises_by es false h e = absurd (false≢true e)

  rising : (es : List (K × V)) (j : ℕ) (d : K × V) → T (is_sorted R es) → suc j < length es → T (is_lt (R (get_or es j d).0 (get_or es (suc j) d).0))
  rising [] j d s lt = absurd (omega arith)
  rising (e ∷ []) j d s lt = absurd (omega arith)
  rising (e ∷ f ∷ es) zero d s lt = left_of _ _ (left_of _ _ s)
  rising (e ∷ f ∷ es) (suc j) d s lt = rising (f ∷ es) j d (right_of _ _ s) (omega arith)

  falls : (es : List (K × V)) → IsAllAdjacentAnswer (λ x y b. b ≡ is_lt (R x.0 y.0)) es false → T (is_sorted R es) → ⊥
  falls [] h s = absurd (omega arith)
  falls (e ∷ es) h s = subst T (sym (h.2 e)) (subst (λ n. T (is_lt (R (get_or (e ∷ es) h.0 e).0 (get_or (e ∷ es) n e).0))) (sym (add-one h.0)) (rising (e ∷ es) h.0 e s (omega arith)))

  -- the test of the neighbours is exact
  pub rises_as : (es : List (K × V)) (r : Bool) → IsAllAdjacentAnswer (λ x y b. b ≡ is_lt (R x.0 y.0)) es r → r ≡ is_sorted R es
  rises_as es true h = sym (true_of _ (rises_by es true h refl))
  rises_as es false h = sym (false_of _ (falls es h))
