-- Laws of the request at the front of a rank's inbox.
use Rattle.cluster_core.proofs.Common.{AreSetAside, AtFront, Entry, IsTableOf, List, None, Request, Some, Table, [], same_Some, slice_get, subst, ◌++◌, ◌∷◌, ◌≡◌}

-- what holds wherever the front is this request
pub at_front : (P : List Request → Type 0) (q : Request) (w : List Request) → Some q ≡ slice_get w 0 → ((rest : List Request) → P (q ∷ rest)) → P w
at_front P q [] is go = let clash : Some q ≡ None = is in absurd cc
at_front P q (request ∷ rest) is go = subst (λ (r : Request). P (r ∷ rest)) (same_Some q request is) (go rest)

-- what is known of this request
pub of_front : (Known : Request → List Request → Type 0) (q : Request) (w : List Request) → Some q ≡ slice_get w 0 → AtFront Known w → (rest : List Request) × Known q rest
of_front Known q w is = at_front (λ (l : List Request). AtFront Known l → (rest : List Request) × Known q rest) q w is (λ rest h. (rest, h))

-- what follows from what is known of it, be it said of it or of something else
pub in_front : (Known Holds : Request → List Request → Type 0) (w : List Request) → ((q : Request) (rest : List Request) → Known q rest → Holds q rest) → AtFront Known w → AtFront Holds w
in_front Known Holds [] go known = absurd known
in_front Known Holds (q ∷ rest) go known = go q rest known

pub by_front : (P : Type 0) (Known : Request → List Request → Type 0) (w : List Request) → ((q : Request) (rest : List Request) → Known q rest → P) → AtFront Known w → P
by_front P Known [] go known = absurd known
by_front P Known (q ∷ rest) go known = go q rest known

-- what follows from two things that are known of it
pub both_front : (Known More Holds : Request → List Request → Type 0) (w : List Request) → ((q : Request) (rest : List Request) → Known q rest → More q rest → Holds q rest) → AtFront Known w → AtFront More w → AtFront Holds w
both_front Known More Holds [] go known more = absurd known
both_front Known More Holds (q ∷ rest) go known more = go q rest known more

-- what was seen of it behind any past, over a slice of the entries that aren't forgotten
pub seen_behind : (Seen : List Entry → Type 0) (sessions : Table) (slice items : List Entry) → slice ≡ items → ((past : List Entry) → IsTableOf (past ++ slice) sessions → AreSetAside past slice sessions → Seen (past ++ slice))
    → (past : List Entry) → IsTableOf (past ++ items) sessions → AreSetAside past items sessions → Seen (past ++ items)
seen_behind Seen sessions slice items same seen = subst (λ (h : List Entry). (past : List Entry) → IsTableOf (past ++ h) sessions → AreSetAside past h sessions → Seen (past ++ h)) same seen
