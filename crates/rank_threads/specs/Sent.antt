-- The requests that a run on many threads is asked, and what its book keeps of them.
use Rattle.std.specs.Prelude.{◌≡◌, ℕ, List, [], Contains, drop, flat_map, length}
use Rattle.std.specs.List.{AllByRecursion}
use Rattle.mds_types.specs.declared.entries.Entry.{Entry}
use Rattle.mds_types.specs.declared.requests.Request.{Request}
use Rattle.cluster_core.specs.OneThread.{IsSent, arrival, waiting_in}
use Rattle.cluster_core.specs.State.{KeptState}
use Rattle.rank_threads.specs.declared.plans.Turn.{Turn}
use Rattle.rank_threads.specs.declared.plans.Turn.TheVariants.{Step, Commit, Own, Keep}

-- the request that a turn brings, if it brings one
abbrev pub turn_arrival : Turn → List Request
turn_arrival (Step event) = arrival event
turn_arrival (Commit ino frag) = []
turn_arrival Own = []
turn_arrival (Keep ino frag bytes) = []

-- the requests that the turns of a plan bring, and those of all plans
abbrev pub plan_arrivals : List Turn → List Request
plan_arrivals turns = flat_map turn_arrival turns

abbrev pub plans_arrivals : List (List Turn) → List Request
plans_arrivals plans = flat_map plan_arrivals plans

-- each request that a plan brings is among those sent
abbrev pub EachIsSent : List Request → List (List Turn) → Type 0
EachIsSent sent plans = AllByRecursion (λ turns. AllByRecursion (Contains sent) (plan_arrivals turns)) plans

-- a book of this limit serves these requests, behind the history that was handed in: each request that was applied
-- since then, and each that waits, is one of them
pub record Serves (limit : ℕ) (sent : List Request) (begun : List Entry) (book : KeptState) : Type 0 where
  pub limited : book.core.state.tree.limit ≡ limit
  pub asked : AllByRecursion (IsSent sent) (drop (length begun) book.history)
  pub waits : AllByRecursion (Contains sent) (waiting_in book.core.state.inboxes)
