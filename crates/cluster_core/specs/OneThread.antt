-- One plain tree, served by one thread: all that whoever sends requests may rely on, in words of that tree alone. To
-- read it one needs the plain tree, the shapes of operations, the operation table, and histories. It has no word of
-- ranks, fragments, caches or objects.
use Rattle.std.specs.Prelude.{◌≡◌, ◌≤◌, ◌<◌, ◌+◌, ◌-◌, ◌++◌, ◌∷◌, [], ℕ, nat_eq, cond, false, MatchBool, List, length, take, Contains, flat_map, Result, Ok, Err}
use Rattle.std.specs.List.{AllByRecursion, list_any, slice_index_or}
use Rattle.mds_types.specs.declared.entries.Entry.{Entry}
use Rattle.mds_types.specs.declared.refusals.Refusal.{Refusal}
use Rattle.mds_types.specs.declared.replies.Reply.{Reply as Replied}
use Rattle.mds_types.specs.declared.requests.Request.{Request}
use Rattle.cluster_core.specs.Opening.{Opening, IsLegalFrom}
use Rattle.cluster_core.specs.declared.events.Answer.{Answer}
use Rattle.cluster_core.specs.declared.events.Answer.TheVariants.{Deferred, Forwarded, Job, Nothing, Reply, Sent}
use Rattle.cluster_core.specs.declared.events.Event.{Event}
use Rattle.cluster_core.specs.declared.events.Event.TheVariants.{Arrive}
use Rattle.cluster_core.specs.declared.receipts.Receipt.{Receipt}

-- ---- what was sent

-- the request that an event brings, if it brings one
abbrev pub arrival : Event → List Request
arrival (Arrive rank request) = request ∷ []
arrival other = []

-- the requests that events bring
abbrev pub arrivals : List Event → List Request
arrivals events = flat_map arrival events

-- the requests that wait, at all ranks
abbrev pub waiting_in : List (List Request) → List Request
waiting_in inboxes = flat_map (λ inbox. inbox) inboxes

-- an entry is of one of these requests, as it was sent: its client, its two numbers, its operation
abbrev pub IsSent : List Request → Entry → Type 0
IsSent sent e = Contains sent (record { client = e.client; tid = e.tid; oldest = e.oldest; op = e.op })

-- ---- the replies

-- the receipt of a result, if it is a reply
abbrev pub receipt_of : Result Answer Refusal → List Receipt
receipt_of (Ok (Reply client tid place first reply)) =
    record { client = client; tid = tid; place = place; first = first; reply = reply } ∷ []
receipt_of (Ok Nothing) = []
receipt_of (Ok (Job job)) = []
receipt_of (Ok (Sent bytes)) = []
receipt_of (Ok (Forwarded rank)) = []
receipt_of (Ok Deferred) = []
receipt_of (Err reason) = []

-- the receipts of the replies among results, in their order
abbrev pub receipts_of : List (Result Answer Refusal) → List Receipt
receipts_of [] = []
receipts_of (result ∷ results) = receipt_of result ++ receipts_of results

-- a reply was asked for: one of these requests has its client and its transaction number
abbrev pub IsAskedFor : List Request → Receipt → Type 0
IsAskedFor sent r = (request : Request) × Contains sent request × (request.client ≡ r.client) × (request.tid ≡ r.tid)

-- the entry at a place is that of this client and transaction number, with this reply
pub record StandsInHistory (history : List Entry) (client tid place : ℕ) (reply : Replied) : Type 0 where
  pub in_range : place < length history
  pub client_is : (e : Entry) → (slice_index_or history place e).client ≡ client
  pub tid_is : (e : Entry) → (slice_index_or history place e).tid ≡ tid
  pub reply_is : (e : Entry) → (slice_index_or history place e).reply ≡ reply

-- the place that a receipt names holds its client, transaction number and reply
abbrev pub IsHeld : List Entry → Receipt → Type 0
IsHeld history r = StandsInHistory history r.client r.tid r.place r.reply

-- the places that receipts marked first name
abbrev pub first_places : List Receipt → List ℕ
first_places [] = []
first_places (r ∷ rs) = cond r.first (r.place ∷ first_places rs) (first_places rs)

-- no place is named twice
abbrev pub NoneTwice : List ℕ → Type 0
NoneTwice [] = Unit {0}
NoneTwice (place ∷ places) = (list_any (nat_eq place) places ≡ false) × NoneTwice places

-- each receipt names a place of the history that holds it; those marked first name distinct places from this one on
pub record Stand (history : List Entry) (from : ℕ) (receipts : List Receipt) : Type 0 where
  pub held : AllByRecursion (IsHeld history) receipts
  pub newer : AllByRecursion (λ place. from ≤ place) (first_places receipts)
  pub apart : NoneTwice (first_places receipts)

-- receipts agree with a history from a place on: the history holds them, and those marked first are as many as the
-- history has places from there on
pub record Agree (history : List Entry) (from : ℕ) (receipts : List Receipt) : Type 0 where
  pub stand : Stand history from receipts
  pub as_many : length (first_places receipts) ≡ length history - from

-- ---- one thread

-- one plain tree served by one thread. Behind the entries applied before, some of the requests that were sent were
-- applied one after the other, each as it was sent. The whole history is legal from the opening tree. Each reply that
-- was handed out was asked for by one of those requests, and the history holds it at its place. For each new place
-- exactly one reply marked first was handed out, and no other reply is marked so
pub record IsOneThread (limit : ℕ) (opening : Opening) (past history : List Entry) (sent : List Request)
    (told : List Receipt) : Type 0 where
  pub more : List Entry
  pub grows : history ≡ past ++ more
  pub legal : IsLegalFrom limit opening history
  pub asked : AllByRecursion (IsSent sent) more
  pub asked_for : AllByRecursion (IsAskedFor sent) told
  pub agree : Agree history (length past) told

-- the same in the order of the replies, where that is known: before the first of them so many requests were applied; a
-- reply marked first names the next place, any other reply an earlier place; and at the end so many are applied
abbrev pub InOrder : ℕ → List Receipt → ℕ → Type 0
InOrder count [] end = end ≡ count
InOrder count (r ∷ rs) end =
    MatchBool r.first ((r.place ≡ count) × InOrder (count + 1) rs end) ((r.place < count) × InOrder count rs end)

-- the same at each moment of a run: after any number of its events, the replies so far are those of one thread that
-- serves the requests that waited before the run or have arrived since. So no request is applied before it is sent
abbrev pub IsOneThreadThroughout : ℕ → Opening → (past history : List Entry) → (waited : List Request) → List Event
    → List (Result Answer Refusal) → Type 0
IsOneThreadThroughout limit opening past history waited events results =
    (n : ℕ) → IsOneThread limit opening past
    (take (length past + length (first_places (receipts_of (take n results)))) history)
    (waited ++ arrivals (take n events)) (receipts_of (take n results))
