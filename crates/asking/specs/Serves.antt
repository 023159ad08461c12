-- The results of serving the request at the front of a rank's inbox.
use Rattle.std.specs.Prelude.{◌≡◌, ◌⊎◌, ◌∷◌, [], ℕ, List, Result, Ok, Err}
use Rattle.mds_types.specs.declared.entries.Entry.{Entry}
use Rattle.mds_types.specs.declared.ids.Rank.{Rank}
use Rattle.mds_types.specs.declared.refusals.Refusal.{Refusal}
use Rattle.mds_types.specs.declared.requests.Request.{Request}
use Rattle.inboxes.specs.Inboxes.{Inboxes, waiting_at}
use Rattle.dentry_cache.specs.CacheMap.{unclean_of}
use Rattle.cluster_core.specs.Serve.{IsApplied, IsDeferred, IsForwarded, IsRepeated, RefusesRequest}
use Rattle.cluster_core.specs.OneThread.{StandsInHistory}
use Rattle.cluster_core.specs.State.{Core}
use Rattle.cluster_core.specs.Steps.{TreeMayRefuse}
use Rattle.cluster_core.specs.declared.events.Answer.{Answer}
use Rattle.cluster_core.specs.declared.events.Answer.TheVariants.{Deferred, Forwarded, Job, Nothing, Reply, Sent}
use Rattle.cluster_core.specs.declared.receipts.Receipt.{Receipt}
use Rattle.asking.specs.declared.serves.Served.{Served}
use Rattle.asking.specs.declared.serves.Served.TheVariants.{Replied, Goes, Waits}

-- at least one request waits at a rank
abbrev pub SomeWaits : Inboxes → Rank → Type 0
SomeWaits inboxes rank = (request : Request) × (rest : List Request) × (waiting_at inboxes rank ≡ request ∷ rest)

-- the answer of the step that gave this receipt
abbrev pub told_as : Receipt → Answer
told_as receipt = Reply receipt.client receipt.tid receipt.place receipt.first receipt.reply

-- each rank has the same unclean fragments as before, and as many places
pub record KeepsUnclean (old new : Core) : Type 0 where
  pub unclean : (rank : ℕ) → unclean_of new.caches rank ≡ unclean_of old.caches rank
  pub cap : new.caches.cap ≡ old.caches.cap

-- what serving does with the request at the front; a step that forwards or defers it changes no unclean fragment
abbrev pub ServesTo : (old new : Core) → (past now : List Entry) → Rank → Request → List Request
    → Result Served Refusal → Type 0
ServesTo old new past now rank request rest (Ok (Replied receipt)) =
    IsApplied old.state new.state past now rank request rest (told_as receipt)
    ⊎ IsRepeated old.state new.state past now rank request rest (told_as receipt)
ServesTo old new past now rank request rest (Ok (Goes master)) =
    IsForwarded old.state new.state past now rank request rest (Forwarded master) × KeepsUnclean old new
ServesTo old new past now rank request rest (Ok Waits) =
    IsDeferred old.state new.state past now rank request rest Deferred × KeepsUnclean old new
ServesTo old new past now rank request rest (Err reason) =
    RefusesRequest old.state new.state past now (TreeMayRefuse old new) rank request rest reason

-- ---- words of this crate's own contracts

-- the history holds the receipt that was told, at its place
abbrev pub StandsFor : List Entry → Result Served Refusal → Type 0
StandsFor history (Ok (Replied receipt)) =
    StandsInHistory history receipt.client receipt.tid receipt.place receipt.reply
StandsFor history (Ok (Goes master)) = Unit {0}
StandsFor history (Ok Waits) = Unit {0}
StandsFor history (Err reason) = Unit {0}

-- the receipt of a request that was served, if it got its reply
abbrev pub receipts_in : Result Served Refusal → List Receipt
receipts_in (Ok (Replied receipt)) = receipt ∷ []
receipts_in (Ok (Goes master)) = []
receipts_in (Ok Waits) = []
receipts_in (Err reason) = []

-- the answer of a step that served with this result
abbrev pub told_of : Served → Answer
told_of (Replied receipt) = told_as receipt
told_of (Goes master) = Forwarded master
told_of Waits = Deferred

-- an answer that serving may give
abbrev pub IsOfServe : Answer → Type 0
IsOfServe Nothing = ⊥
IsOfServe (Reply client tid place first reply) = Unit {0}
IsOfServe (Job job) = ⊥
IsOfServe (Sent bytes) = ⊥
IsOfServe (Forwarded master) = Unit {0}
IsOfServe Deferred = Unit {0}
