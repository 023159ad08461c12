-- The inboxes of all ranks: one list for each, rank 0 first.
use Rattle.std.specs.Prelude.{◌≡◌, ◌⊎◌, ◌<◌, ◌≤◌, ◌+◌, ◌++◌, ◌∷◌, [], ℕ, List, length, get_or, set, Option, Some, None, Result, Ok, Err}
use Rattle.std.specs.Option.{option_or}
use Rattle.mds_types.specs.declared.ids.Rank.{Rank}
use Rattle.mds_types.specs.declared.requests.Request.{Request}
use Rattle.mds_types.specs.declared.refusals.Refusal.{Refusal}
use Rattle.mds_types.specs.declared.refusals.Refusal.TheVariants.{InboxEmpty, InboxFull, NotAuthority}
use Rattle.inboxes.specs.Inbox.{first_of}

abbrev pub Inboxes : Type 0
Inboxes = List (List Request)

-- what waits at a rank: nothing where there is no such rank
abbrev pub waiting_at : Inboxes → Rank → List Request
waiting_at inboxes rank = get_or inboxes rank.0 []

-- how many requests wait, at all ranks together
abbrev pub waiting_in_all : Inboxes → ℕ
waiting_in_all [] = 0
waiting_in_all (waiting ∷ others) = length waiting + waiting_in_all others

-- with this list at a rank in place of its own
abbrev pub with_waiting : Inboxes → Rank → List Request → Inboxes
with_waiting inboxes rank waiting = set inboxes rank.0 waiting

-- with a request at the back of a rank's inbox
abbrev pub with_last : Inboxes → Rank → Request → Inboxes
with_last inboxes rank request = with_waiting inboxes rank (waiting_at inboxes rank ++ request ∷ [])

-- an inbox takes no more: there is no such rank, or 1024 requests wait there
abbrev pub TakesNoMore : Inboxes → Rank → Refusal → Type 0
TakesNoMore inboxes rank reason =
    ((reason ≡ NotAuthority) × (length inboxes ≤ rank.0))
    ⊎ ((reason ≡ InboxFull) × (rank.0 < length inboxes) × (length (waiting_at inboxes rank) ≡ 1024))

-- a request comes to the back of a rank's inbox
abbrev pub Arrives : (old new : Inboxes) → Rank → Request → Result (Unit {0}) Refusal → Type 0
Arrives old new rank request (Ok done) =
    (rank.0 < length old) × (length (waiting_at old rank) < 1024) × (new ≡ with_last old rank request)
Arrives old new rank request (Err reason) = TakesNoMore old rank reason × (new ≡ old)

-- the front of a rank's inbox is taken
abbrev pub TakesAt : (old new : Inboxes) → Rank → Option Request → List Request → Type 0
TakesAt old new rank result [] = (result ≡ None) × (new ≡ old)
TakesAt old new rank result (request ∷ rest) = (result ≡ Some request) × (new ≡ with_waiting old rank rest)

-- the front of one rank's inbox goes to the back of another's, or of its own
abbrev pub ForwardsOne : (old new : Inboxes) → (from to : Rank) → Request → List Request → Result (Unit {0}) Refusal
    → Type 0
ForwardsOne old new from to request rest (Ok done) =
    (to.0 < length old) × (length (waiting_at old to) < 1024)
    × (new ≡ with_last (with_waiting old from rest) to request)
ForwardsOne old new from to request rest (Err reason) = TakesNoMore old to reason × (new ≡ old)

-- forwarding is refused InboxEmpty exactly where nothing waits at the rank
abbrev pub Forwards : (old new : Inboxes) → (from to : Rank) → Result (Unit {0}) Refusal → List Request → Type 0
Forwards old new from to result [] = (result ≡ Err InboxEmpty) × (new ≡ old)
Forwards old new from to result (request ∷ rest) = ForwardsOne old new from to request rest result

-- the first waiting copy of a request: ranks upwards, each inbox from its front
abbrev pub first_waiting : (client tid : ℕ) → Inboxes → Option Request
first_waiting client tid [] = None
first_waiting client tid (waiting ∷ others) = option_or (first_of client tid waiting) (first_waiting client tid others)
