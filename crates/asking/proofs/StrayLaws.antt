-- How many wait, and how many aren't at their master.
use Rattle.asking.proofs.Common.{Inboxes, List, Op, Request, Some, [], ap, arith, first_of, first_waiting, get_or, inl, inr, length, option_or, refl, set, suc, subst, zero, ℕ, ◌++◌, ◌+◌, ◌-◌, ◌<◌, ◌∙◌, ◌∷◌, ◌≡◌, ◌≢◌, ◌≤◌, Bool, cond, is_of, true, and_from, is_same}
use Rattle.asking.specs.Drain.{FewStray, FewStrayFrom, waiting_in_all}

-- ---- how many wait

-- with another list at a rank
pub waiting_set : (xs : Inboxes) (n : ℕ) (w : List Request) → n < length xs → waiting_in_all (set xs n w) + length (get_or xs n []) ≡ waiting_in_all xs + length w
waiting_set [] n w there = absurd (omega (arith, there))
waiting_set (x ∷ xs) zero w there = omega arith
waiting_set (x ∷ xs) (suc n) w there = omega (arith, waiting_set xs n w (omega (arith, there)))

-- none has more than all
pub waiting_at_most : (xs : Inboxes) (n : ℕ) → length (get_or xs n []) ≤ waiting_in_all xs
waiting_at_most [] n = omega arith
waiting_at_most (x ∷ xs) zero = omega arith
waiting_at_most (x ∷ xs) (suc n) = omega (arith, waiting_at_most xs n)

-- nor have two
pub waiting_of_two : (xs : Inboxes) (n m : ℕ) → n ≢ m → length (get_or xs n []) + length (get_or xs m []) ≤ waiting_in_all xs
waiting_of_two [] n m apart = omega arith
waiting_of_two (x ∷ xs) zero zero apart = absurd (apart refl)
waiting_of_two (x ∷ xs) zero (suc m) apart = omega (arith, waiting_at_most xs m)
waiting_of_two (x ∷ xs) (suc n) zero apart = omega (arith, waiting_at_most xs n)
waiting_of_two (x ∷ xs) (suc n) (suc m) apart = omega (arith, waiting_of_two xs n m (λ same. apart (ap suc same)))

-- ---- strays at a rank

module _ (Home : Op → Type 0) where
  all_stray : (w : List Request) → FewStray Home w (length w)
  all_stray [] = tt
  all_stray (q ∷ qs) = inr (length qs, refl, all_stray qs)

  -- one that is at home comes
  home_comes : (w : List Request) (n : ℕ) (q : Request) → Home q.op → FewStray Home w n → FewStray Home (w ++ q ∷ []) n
  home_comes [] n q home few = inl (home, tt)
  home_comes (x ∷ xs) n q home (inl (its, few)) = inl (its, home_comes xs n q home few)
  home_comes (x ∷ xs) n q home (inr (fewer, is, few)) = inr (fewer, is, home_comes xs fewer q home few)

-- ---- at all ranks

module _ (Home : ℕ → Op → Type 0) where
  pub all_stray_from : (rank : ℕ) (xs : Inboxes) → FewStrayFrom Home rank xs (waiting_in_all xs)
  all_stray_from rank [] = tt
  all_stray_from rank (x ∷ xs) = (length x, waiting_in_all xs, omega arith, all_stray (Home rank) x, all_stray_from (suc rank) xs)

  -- a stray at the front leaves
  pub stray_leaves : (rank n : ℕ) (xs : Inboxes) (i : ℕ) (q : Request) (rest : List Request) → get_or xs i [] ≡ q ∷ rest → (Home (rank + i) q.op → ⊥) → FewStrayFrom Home rank xs n → (k : ℕ) × (n ≡ suc k) × FewStrayFrom Home rank (set xs i rest) k
  stray_leaves rank n [] i q rest front stray few = let clash : [] ≡ q ∷ rest = front in absurd cc
  stray_leaves rank n (x ∷ xs) zero q rest front stray (here, there, sum, w, ws) = go (subst (λ (l : List Request). FewStray (Home rank) l here) front w)
    where
      not_home : Home rank q.op → ⊥
      not_home home = stray (subst (λ (r : ℕ). Home r q.op) (omega arith) home)

      go : FewStray (Home rank) (q ∷ rest) here → (k : ℕ) × (n ≡ suc k) × FewStrayFrom Home rank (rest ∷ xs) k
      go (inl (home, few)) = absurd (not_home home)
      go (inr (fewer, is, few)) = (n - 1, omega (arith, sum, is), (fewer, there, omega (arith, sum, is), few, ws))
  stray_leaves rank n (x ∷ xs) (suc i) q rest front stray (here, there, sum, w, ws) =
      let its = stray_leaves (suc rank) there xs i q rest front (λ home. stray (subst (λ (r : ℕ). Home r q.op) (omega arith) home)) ws in
      (n - 1, omega (arith, sum, its.1), (here, its.0, omega (arith, sum, its.1), w, its.2))

  -- one comes where it is at home
  pub comes_home : (rank n : ℕ) (xs : Inboxes) (i : ℕ) (q : Request) → i < length xs → Home (rank + i) q.op → FewStrayFrom Home rank xs n → FewStrayFrom Home rank (set xs i (get_or xs i [] ++ q ∷ [])) n
  comes_home rank n [] i q there home few = tt
  comes_home rank n (x ∷ xs) zero q is_there home (here, there, sum, w, ws) = (here, there, sum, home_comes (Home rank) x here q (subst (λ (r : ℕ). Home r q.op) (omega arith) home) w, ws)
  comes_home rank n (x ∷ xs) (suc i) q is_there home (here, there, sum, w, ws) =
      (here, there, sum, w, comes_home (suc rank) there xs i q (omega (arith, is_there)) (subst (λ (r : ℕ). Home r q.op) (omega arith) home) ws)

-- ---- what is first

-- nothing waits at the lower ranks
pub lowest_first : (xs : Inboxes) (n : ℕ) (request : Request) (rest : List Request) → ((k : ℕ) → k < n → get_or xs k [] ≡ []) → get_or xs n [] ≡ request ∷ rest → first_waiting request.client request.tid xs ≡ Some request
lowest_first [] n request rest none front = let clash : [] ≡ request ∷ rest = front in absurd cc
lowest_first (x ∷ xs) zero request rest none front =
    ap (λ (w : List Request). option_or (first_of request.client request.tid w) (first_waiting request.client request.tid xs)) front
    ∙ ap (λ (b : Bool). option_or (cond b (Some request) (first_of request.client request.tid rest)) (first_waiting request.client request.tid xs)) self
  where
    self : is_of request.client request.tid request ≡ true
    self = and_from _ _ (is_same request.client request.client refl) (is_same request.tid request.tid refl)
lowest_first (x ∷ xs) (suc n) request rest none front =
    ap (λ (w : List Request). option_or (first_of request.client request.tid w) (first_waiting request.client request.tid xs)) (none zero (omega arith))
    ∙ lowest_first xs n request rest (λ k below. none (suc k) (omega (arith, below))) front
