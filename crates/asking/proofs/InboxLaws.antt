-- Inboxes where one request waits alone.
use Rattle.asking.specs.Ask.{NewAreIdle}
use Rattle.std.proofs.Common.{replicate}
use Rattle.asking.proofs.Common.{Bool, Inboxes, List, None, NoneWaits, Option, Rank, Request, Some, [], and_from, ap, arith, cond, first_of, first_waiting, get_or, get_or-set_same, get_or_past, is_of, is_same, length, option_or, refl, set, set-get_or, set-set, suc, sym, true, waiting_at, with_last, with_waiting, zero, ℕ, ◌++◌, ◌<◌, ◌∙◌, ◌∷◌, ◌≡◌, ◌⊎◌, ◌≤◌, inl, inr}
use Rattle.std.proofs.lemmas.Bool.{cases_lt}

-- what waited alone has left
pub emptied : (xs : Inboxes) (rank : Rank) (waiting : List Request) → NoneWaits xs → with_waiting (with_waiting xs rank waiting) rank [] ≡ xs
emptied xs rank waiting none = set-set xs rank.0 waiting [] ∙ ap (set xs rank.0) (sym (none rank)) ∙ set-get_or xs rank.0 []

-- where nothing waits, nothing leaves
pub still_empty : (xs : Inboxes) (rank : Rank) → NoneWaits xs → with_waiting xs rank [] ≡ xs
still_empty xs rank none = ap (set xs rank.0) (sym (none rank)) ∙ set-get_or xs rank.0 []

-- a request comes where nothing waits
pub came : (xs : Inboxes) (rank : Rank) (request : Request) → NoneWaits xs → with_last xs rank request ≡ with_waiting xs rank (request ∷ [])
came xs rank request none = ap (λ (w : List Request). set xs rank.0 (w ++ request ∷ [])) (none rank)

-- a request that waits alone goes to another rank
pub went : (xs : Inboxes) (from to : Rank) (request : Request) → NoneWaits xs → with_last (with_waiting (with_waiting xs from (request ∷ [])) from []) to request ≡ with_waiting xs to (request ∷ [])
went xs from to request none = ap (λ (ys : Inboxes). with_last ys to request) (emptied xs from (request ∷ []) none) ∙ came xs to request none

-- it stands at the front
pub at_front : (xs : Inboxes) (rank : Rank) (request : Request) → rank.0 < length xs → waiting_at (with_waiting xs rank (request ∷ [])) rank ≡ request ∷ []
at_front xs rank request there = get_or-set_same xs rank.0 (request ∷ []) [] there

-- a rank where something waits is there
pub is_there : (xs : Inboxes) (rank : Rank) (request : Request) (rest : List Request) → waiting_at xs rank ≡ request ∷ rest → rank.0 < length xs
is_there xs rank request rest waits = go (cases_lt rank.0 (length xs))
  where
    go : (rank.0 < length xs) ⊎ (length xs ≤ rank.0) → rank.0 < length xs
    go (inl there) = there
    go (inr past) = let clash : [] ≡ request ∷ rest = sym (get_or_past xs rank.0 [] past) ∙ waits in absurd cc

-- it is the first waiting copy of its pair
found : (request : Request) → first_of request.client request.tid (request ∷ []) ≡ Some request
found request =
    let self : is_of request.client request.tid request ≡ true = and_from _ _ (is_same request.client request.client refl) (is_same request.tid request.tid refl) in
    ap (λ (b : Bool). cond b (Some request) None) self

alone_first : (request : Request) (xs : Inboxes) (n : ℕ) → ((k : ℕ) → get_or xs k [] ≡ []) → n < length xs → first_waiting request.client request.tid (set xs n (request ∷ [])) ≡ Some request
alone_first request [] n none there = absurd (omega (arith, there))
alone_first request (x ∷ xs) zero none there = ap (λ (o : Option Request). option_or o (first_waiting request.client request.tid xs)) (found request)
alone_first request (x ∷ xs) (suc n) none there =
    ap (λ (w : List Request). option_or (first_of request.client request.tid w) (first_waiting request.client request.tid (set xs n (request ∷ [])))) (none zero)
    ∙ alone_first request xs n (λ k. none (suc k)) (omega (arith, there))

pub is_first : (xs : Inboxes) (rank : Rank) (request : Request) → NoneWaits xs → rank.0 < length xs → first_waiting request.client request.tid (with_waiting xs rank (request ∷ [])) ≡ Some request
is_first xs rank request none there = alone_first request xs rank.0 (λ k. none (record { 0 = k })) there

empty_at : (n k : ℕ) → get_or {A = List Request} (replicate n []) k [] ≡ []
empty_at zero k = refl
empty_at (suc n) zero = refl
empty_at (suc n) (suc k) = empty_at n k

pub new_are_idle : NewAreIdle
new_are_idle ranks rank = empty_at ranks rank.0
