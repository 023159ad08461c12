-- The book after a script or a load.
use Rattle.std.specs.Prelude.{◌≡◌, ◌⊎◌, ℕ, ◌++◌, [], List, filter, flat_map, map, Option, IfOk, IfSome, Result}
use Rattle.std.specs.Io.KnownBytes.{Appends}
use Rattle.cluster_core.specs.declared.receipts.Receipt.{Receipt}
use Rattle.cluster_core.specs.OneThread.{InOrder, IsOneThread, waiting_in}
use Rattle.cluster_core.specs.Runs.{GoesOnFrom}
use Rattle.cluster_core.specs.Sound.{StandsBehind}
use Rattle.cluster_core.specs.State.{KeptState, places_of}
use Rattle.mds_types.specs.declared.entries.Entry.{Entry}
use Rattle.cluster_core.specs.Opening.{Opening}
use Rattle.sessions.specs.Table.{mark_in}
use Rattle.script_text.specs.Input.{lines_of}
use Rattle.admin_cli.specs.Admin.{Admin, begun}
use Rattle.admin_cli.specs.declared.faults.ScriptFault.{ScriptFault}
use Rattle.admin_cli.specs.Printed.{ended_line, is_reply, receipt_line, requests_of}
use Rattle.admin_cli.specs.Scripts.{Doing, LacksMemory, OfFirst, RunsLines}

-- ---- in words of lines

-- the administrator after a script: its lines were done one after the other, printed or not. If memory of the script's
-- own was refused for the next line, that line may have been done in part. A script that ended well did and wrote all
-- lines
pub record LeavesAdmin (Does : Doing) (old new : Admin) (known before after : Option (List ℕ))
    (result : Result (Unit {0}) ScriptFault) : Type 0 where
  pub lines : List (List ℕ)
  pub read : IfSome known (λ bytes. lines ≡ lines_of bytes)
  pub done : List (List ℕ)
  pub left : List (List ℕ)
  pub whole : lines ≡ done ++ left
  pub reached : Admin
  pub text : List ℕ
  pub runs : RunsLines Does old reached done text
  pub last : (new ≡ reached) ⊎ OfFirst (λ bytes. LacksMemory Does reached new bytes) left
  pub all : IfOk result (λ ended. (left ≡ []) × Appends before after text)

-- this is the book after a script over the old one
pub record LeavesBook (Does : Doing) (old new : KeptState) (known before after : Option (List ℕ))
    (result : Result (Unit {0}) ScriptFault) : Type 0 where
  pub admin : Admin
  pub leaves : LeavesAdmin Does (begun old) admin known before after result
  pub book_is : new ≡ admin.book

-- ---- in words of one plain tree served by one thread

-- lines were written, and those that begin with `reply ` are these replies
pub record PrintsReplies (told : List Receipt) (before after : Option (List ℕ)) : Type 0 where
  pub printed : List (List ℕ)
  pub written : Appends before after (flat_map ended_line printed)
  pub replies : filter is_reply printed ≡ map receipt_line told

-- a script over a book that went on from this opening tree and past left a book that still goes on from this tree. Its
-- whole history, with the entries that are forgotten now, is that of one thread, which served the requests that waited
-- and those that the script's lines make. A script that ended well printed each of the replies
pub record LeavesOneThread (opening : Opening) (past : List Entry) (old new : KeptState) (known before after : Option (List ℕ))
    (result : Result (Unit {0}) ScriptFault) : Type 0 where
  pub lines : List (List ℕ)
  pub read : IfSome known (λ bytes. lines ≡ lines_of bytes)
  pub told : List Receipt
  pub forgotten : List Entry
  pub behind : StandsBehind opening forgotten new
  pub one : IsOneThread old.core.state.tree.limit opening (past ++ old.history) (forgotten ++ new.history)
      (waiting_in old.core.state.inboxes ++ requests_of (mark_in old.core.state.sessions 0) lines) told
  pub in_order : InOrder (places_of old) told (places_of new)
  pub same_limit : new.core.state.tree.limit ≡ old.core.state.tree.limit
  pub printed : IfOk result (λ ended. PrintsReplies told before after)

-- ---- of a load

-- a book that went on from this opening tree and past still goes on from this tree, and its whole history, with the
-- entries that are forgotten now, begins with the whole history from before
pub record GrowsBehind (opening : Opening) (past : List Entry) (old new : KeptState) : Type 0 where
  pub forgotten : List Entry
  pub behind : StandsBehind opening forgotten new
  pub grows : GoesOnFrom (forgotten ++ new.history) (past ++ old.history)

abbrev pub BookGrows : (old new : KeptState) → Type 0
BookGrows old new =
    (opening : Opening) (past : List Entry) → StandsBehind opening past old → GrowsBehind opening past old new
