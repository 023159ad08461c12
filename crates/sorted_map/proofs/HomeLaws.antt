-- The chunk of a key, and what a place in it is among all the pairs.
use Rattle.sorted_map.proofs.Common.{AllSome, Equal, Err, Greater, IsBelowKey, IsKeyAt, IsGap, IsHome, IsPlace, IsTotalOrder, Less, List, Ok, Ordering, Result, T, [], alike_right, ap, arith, below_all, false, false≢true, flat, get_or, inl, inr, is_lt, length, place_in, refl, items_before, starts_above, subst, suc, sym, true, zero, ℕ, ◌++◌, ◌+◌, ◌<◌, ◌∙◌, ◌∷◌, ◌≡◌, ◌⊎◌}
use Rattle.std.specs.FinMap.Entries.{is_sorted}
use Rattle.sorted_map.proofs.Bools.{left_of, right_of, both_of}
use Rattle.sorted_map.proofs.FlatLaws.{some_at}
use Rattle.sorted_map.proofs.PlaceLaws.{less, turned}

-- ---- a place in the chunk of a key is its place among all

module _ {K V : Type 0} (R : K → K → Ordering) (k : K) where
  gap_before : (c fs : List (K × V)) → IsGap R k c zero → IsGap R k fs zero → IsGap R k (c ++ fs) zero
  gap_before [] fs h rest = rest
  gap_before (e ∷ c) fs h rest = (h.0, gap_before c fs h.1 rest)

  gap_front : (c fs : List (K × V)) (i : ℕ) → IsGap R k c i → IsGap R k fs zero → IsGap R k (c ++ fs) i
  gap_front [] fs zero h rest = rest
  gap_front [] fs (suc i) h rest = absurd h
  gap_front (e ∷ c) fs zero h rest = (h.0, gap_before c fs h.1 rest)
  gap_front (e ∷ c) fs (suc i) h rest = (h.0, gap_front c fs i h.1 rest)

  at_front : (c fs : List (K × V)) (i : ℕ) → IsKeyAt R k c i → IsGap R k fs zero → IsKeyAt R k (c ++ fs) i
  at_front [] fs i h rest = absurd h
  at_front (e ∷ c) fs zero h rest = (h.0, gap_before c fs h.1 rest)
  at_front (e ∷ c) fs (suc i) h rest = (h.0, at_front c fs i h.1 rest)

  gap_behind : (c fs : List (K × V)) (i n : ℕ) → n ≡ length c + i → IsBelowKey R k c → IsGap R k fs i → IsGap R k (c ++ fs) n
  gap_behind [] fs i n is above h = subst (IsGap R k fs) (omega (arith, is)) h
  gap_behind (e ∷ c) fs i zero is above h = absurd (omega (arith, is))
  gap_behind (e ∷ c) fs i (suc n) is above h = (above.0, gap_behind c fs i n (omega (arith, is)) above.1 h)

  at_behind : (c fs : List (K × V)) (i n : ℕ) → n ≡ length c + i → IsBelowKey R k c → IsKeyAt R k fs i → IsKeyAt R k (c ++ fs) n
  at_behind [] fs i n is above h = subst (IsKeyAt R k fs) (omega (arith, is)) h
  at_behind (e ∷ c) fs i zero is above h = absurd (omega (arith, is))
  at_behind (e ∷ c) fs i (suc n) is above h = (above.0, at_behind c fs i n (omega (arith, is)) above.1 h)

  at_home : (cs : List (List (K × V))) (i at : ℕ) → IsHome R k cs i → IsKeyAt R k (get_or cs i []) at → IsKeyAt R k (flat cs) (items_before cs i + at)
  at_home [] i at home h = absurd home
  at_home (c ∷ cs) zero at home h = subst (IsKeyAt R k (c ++ flat cs)) (omega arith) (at_front c (flat cs) at h home)
  at_home (c ∷ cs) (suc i) at home h = at_behind c (flat cs) (items_before cs i + at) (items_before (c ∷ cs) (suc i) + at) (omega arith) home.0 (at_home cs i at home.1 h)

  gap_home : (cs : List (List (K × V))) (i at : ℕ) → IsHome R k cs i → IsGap R k (get_or cs i []) at → IsGap R k (flat cs) (items_before cs i + at)
  gap_home [] i at home h = absurd home
  gap_home (c ∷ cs) zero at home h = subst (IsGap R k (c ++ flat cs)) (omega arith) (gap_front c (flat cs) at h home)
  gap_home (c ∷ cs) (suc i) at home h = gap_behind c (flat cs) (items_before cs i + at) (items_before (c ∷ cs) (suc i) + at) (omega arith) home.0 (gap_home cs i at home.1 h)

  -- a place among the first pairs, where the key is less than the others
  pub place_front : (c fs : List (K × V)) (r : Result ℕ ℕ) → IsPlace R k c r → IsGap R k fs zero → IsPlace R k (c ++ fs) r
  place_front c fs (Ok at) h rest = at_front c fs at h rest
  place_front c fs (Err at) h rest = gap_front c fs at h rest

  pub place_home : (cs : List (List (K × V))) (i : ℕ) (r : Result ℕ ℕ) → IsHome R k cs i → IsPlace R k (get_or cs i []) r → IsPlace R k (flat cs) (place_in cs i r)
  place_home cs i (Ok at) home h = at_home cs i at home h
  place_home cs i (Err at) home h = gap_home cs i at home h

  -- no chunks, and the first gap
  pub place_none : (cs : List (List (K × V))) → length cs ≡ 0 → IsPlace R k (flat cs) (place_in cs 0 (Err 0))
  place_none [] none = tt
  place_none (c ∷ cs) none = absurd (omega (arith, none))

-- ---- the parts of pairs in order

module _ {K V : Type 0} (R : K → K → Ordering) where
  pub below_front : (x : K) (c fs : List (K × V)) → T (below_all R x (c ++ fs)) → T (below_all R x c)
  below_front x [] fs h = tt
  below_front x (e ∷ c) fs h = both_of _ _ (left_of _ _ h) (below_front x c fs (right_of _ _ h))

  pub below_back : (x : K) (c fs : List (K × V)) → T (below_all R x (c ++ fs)) → T (below_all R x fs)
  below_back x [] fs h = h
  below_back x (e ∷ c) fs h = below_back x c fs (right_of _ _ h)

  pub sorted_front : (c fs : List (K × V)) → T (is_sorted R (c ++ fs)) → T (is_sorted R c)
  sorted_front [] fs s = tt
  sorted_front (e ∷ c) fs s = both_of _ _ (below_front e.0 c fs (left_of _ _ s)) (sorted_front c fs (right_of _ _ s))

  pub sorted_back : (c fs : List (K × V)) → T (is_sorted R (c ++ fs)) → T (is_sorted R fs)
  sorted_back [] fs s = s
  sorted_back (e ∷ c) fs s = sorted_back c fs (right_of _ _ s)

  pub sorted_part : (cs : List (List (K × V))) (i : ℕ) → T (is_sorted R (flat cs)) → T (is_sorted R (get_or cs i []))
  sorted_part [] i s = tt
  sorted_part (c ∷ cs) zero s = sorted_front c (flat cs) s
  sorted_part (c ∷ cs) (suc i) s = sorted_part cs i (sorted_back c (flat cs) s)

  below_part : (x : K) (cs : List (List (K × V))) (i : ℕ) → T (below_all R x (flat cs)) → T (below_all R x (get_or cs i []))
  below_part x [] i h = tt
  below_part x (c ∷ cs) zero h = below_front x c (flat cs) h
  below_part x (c ∷ cs) (suc i) h = below_part x cs i (below_back x c (flat cs) h)

-- ---- where the search for a chunk ends

module _ {K : Type 0} {R : K → K → Ordering} (o : IsTotalOrder R) (k : K) where
  -- a key below one that k isn't below
  past : (x y : K) → R x y ≡ Less → is_lt (R k y) ≡ false → R k x ≡ Greater
  past x y p not_less = go (R k y) refl not_less
    where
      go : (r : Ordering) → R k y ≡ r → is_lt r ≡ false → R k x ≡ Greater
      go Less e n = absurd (false≢true (sym n))
      go Equal e n = turned o x k Less (alike_right o k y x e ∙ p)
      go Greater e n = turned o x k Less (o.trans x y k p (turned o k y Greater e))

module _ {K V : Type 0} {R : K → K → Ordering} (o : IsTotalOrder R) (k : K) where
  pub gap_less : (x : K) (fs : List (K × V)) → R k x ≡ Less → T (below_all R x fs) → IsGap R k fs zero
  gap_less x [] p h = tt
  gap_less x (e ∷ fs) p h = (o.trans k x e.0 p (less _ (left_of _ _ h)), gap_less x fs p (right_of _ _ h))

  past_first : (x : K) (c : List (K × V)) → 0 < length c → T (below_all R x c) → starts_above R k c ≡ false → R k x ≡ Greater
  past_first x [] some h n = absurd (omega (arith, some))
  past_first x (e ∷ c) some h n = past o k x e.0 (less _ (left_of _ _ h)) n

  above_found : (c : List (K × V)) (cs : List (List (K × V))) (i : ℕ) → T (is_sorted R (c ++ flat cs)) → 0 < length (get_or cs i []) → starts_above R k (get_or cs i []) ≡ false → IsBelowKey R k c
  above_found [] cs i s some n = tt
  above_found (e ∷ c) cs i s some n =
      (past_first e.0 (get_or cs i []) some (below_part R e.0 cs i (below_back R e.0 c (flat cs) (left_of _ _ s))) n, above_found c cs i (right_of _ _ s) some n)

  gap_found : (cs : List (List (K × V))) → T (is_sorted R (flat cs)) → starts_above R k (get_or cs 0 []) ≡ true → IsGap R k (flat cs) zero
  gap_found [] s n = tt
  gap_found ([] ∷ cs) s n = absurd (false≢true n)
  gap_found ((e ∷ c) ∷ cs) s n = let p : R k e.0 ≡ Less = less _ (subst T (sym n) tt) in (p, gap_less e.0 (c ++ flat cs) p (left_of _ _ s))

  -- the search ends between a chunk that doesn't start above the key and one that does
  pub home_found : (cs : List (List (K × V))) (i : ℕ) → T (is_sorted R (flat cs)) → AllSome cs → i < length cs
      → (i ≡ 0) ⊎ (starts_above R k (get_or cs i []) ≡ false) → (i + 1 ≡ length cs) ⊎ (starts_above R k (get_or cs (i + 1) []) ≡ true) → IsHome R k cs i
  home_found [] i s some lt low high = absurd (omega (arith, lt))
  home_found (c ∷ cs) zero s some lt low (inl last) = last_gap cs (omega (arith, last))
    where
      last_gap : (fs : List (List (K × V))) → length fs ≡ 0 → IsGap R k (flat fs) zero
      last_gap [] none = tt
      last_gap (f ∷ fs) none = absurd (omega (arith, none))
  home_found (c ∷ cs) zero s some lt low (inr above) = gap_found cs (sorted_back R c (flat cs) s) above
  home_found (c ∷ cs) (suc i) s some lt (inl none) high = absurd (omega (arith, none))
  home_found (c ∷ cs) (suc i) s some lt (inr from) high =
      let within : i < length cs = omega (arith, lt) in
      (above_found c cs i s (some_at cs i within some.1) from, home_found cs i (sorted_back R c (flat cs) s) some.1 within (inr from) (next high))
    where
      next : (suc i + 1 ≡ length (c ∷ cs)) ⊎ (starts_above R k (get_or (c ∷ cs) (suc i + 1) []) ≡ true) → (i + 1 ≡ length cs) ⊎ (starts_above R k (get_or cs (i + 1) []) ≡ true)
      next (inl last) = inl (omega (arith, last))
      next (inr above) = inr (ap (λ n. starts_above R k (get_or (c ∷ cs) n [])) {x = suc (i + 1)} (omega arith) ∙ above)
