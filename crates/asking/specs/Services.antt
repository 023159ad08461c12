-- A service asks its book, and keeps only the end of its history.
use Rattle.std.specs.Prelude.{◌++◌, ℕ, Bool, List, IfOk, Result}
use Rattle.cluster_core.specs.Opening.{Opening}
use Rattle.mds_types.specs.declared.entries.Entry.{Entry}
use Rattle.mds_types.specs.declared.ids.Rank.{Rank}
use Rattle.mds_types.specs.declared.refusals.Refusal.{Refusal}
use Rattle.mds_types.specs.declared.requests.Request.{Request}
use Rattle.cluster_core.specs.Forgetting.{Forgets}
use Rattle.cluster_core.specs.OneThread.{IsOneThread, StandsInHistory}
use Rattle.cluster_core.specs.SentBytes.{SentBytes}
use Rattle.cluster_core.specs.Sound.{StandsBehind}
use Rattle.cluster_core.specs.State.{KeptState, whole_of}
use Rattle.cluster_core.specs.declared.receipts.Receipt.{Receipt}
use Rattle.asking.specs.Once.{AsksOnce}
use Rattle.asking.specs.Reached.{receipt_in}
use Rattle.asking.specs.Through.{AsksThrough}

-- a book that went on from this opening tree and past still goes on from this tree; its whole history, with the entries
-- that are forgotten now, is that of one thread, and holds the reply at its place
pub record GoesOnAsOne (opening : Opening) (past : List Entry) (old new : KeptState) (sent : List Request)
    (result : Result Receipt Refusal) : Type 0 where
  pub forgotten : List Entry
  pub behind : StandsBehind opening forgotten new
  pub one : IsOneThread old.core.state.tree.limit opening (past ++ old.history) (forgotten ++ new.history) sent
      (receipt_in result)
  pub stands : IfOk result
      (λ receipt. StandsInHistory (forgotten ++ new.history) receipt.client receipt.tid receipt.place receipt.reply)

-- a request was asked once; then, in bulk, all but so many of the last entries were forgotten
pub record AsksAndForgets (keep : ℕ) (old new : KeptState) (rank : Rank) (request : Request)
    (result : Result Receipt Refusal) : Type 0 where
  pub middle : KeptState
  pub asked : (opening : Opening) (past : List Entry) → StandsBehind opening past old
      → AsksOnce old.core middle.core (past ++ old.history) (past ++ middle.history) rank request result
  pub goes_on : (opening : Opening) (past : List Entry) → StandsBehind opening past old → StandsBehind opening past middle
  pub forgets : Forgets keep middle new

-- the same for a request that was asked through exports
pub record AsksThroughAndForgets (cancel : Bool) (keep : ℕ) (rank : Rank) (request : Request) (old new : KeptState)
    (before after : SentBytes) (result : Result Receipt Refusal) : Type 0 where
  pub middle : KeptState
  pub asked : (opening : Opening) (past : List Entry) → StandsBehind opening past old
      → AsksThrough cancel rank request (whole_of opening past old) (whole_of opening past middle) before after result
  pub goes_on : (opening : Opening) (past : List Entry) → StandsBehind opening past old → StandsBehind opening past middle
  pub forgets : Forgets keep middle new
