-- The output of a script, in words of one plain tree served by one thread.
use Rattle.std.specs.Prelude.{◌≡◌, ◌⊎◌, ◌+◌, ◌++◌, ◌∷◌, [], ℕ, nat_eq, Bool, List, filter, flat_map, length, map, codes, Option, IfSome, Result, Err}
use Rattle.std.specs.List.{starts_with}
use Rattle.std.specs.Io.KnownBytes.{Appends}
use Rattle.cluster_core.specs.Opening.{Opening}
use Rattle.mds_types.specs.declared.entries.Entry.{Entry}
use Rattle.mds_types.specs.declared.requests.Request.{Request}
use Rattle.cluster_core.specs.declared.receipts.Receipt.{Receipt}
use Rattle.cluster_core.specs.OneThread.{InOrder, IsOneThread}
use Rattle.script_text.specs.declared.commands.Command.TheVariants.{Operation, Request as Asks}
use Rattle.script_text.specs.declared.lines.Line.{Line}
use Rattle.script_text.specs.declared.lines.Line.TheVariants as line
use Rattle.script_text.specs.Input.{lines_of}
use Rattle.script_text.specs.Script.{line_of}
use Rattle.script_output.specs.Texts.{reply_line}
use Rattle.admin_cli.specs.declared.faults.ScriptFault.{ScriptFault}
use Rattle.admin_cli.specs.declared.faults.FaultKind.TheVariants.{WriteFault}

-- the request that a line makes, if it makes one, after an operation alone of this number. An operation alone is client
-- 0's; its transaction number is the next one, which is also its oldest
abbrev pub request_of : ℕ → Line → List Request
request_of count (line.Command (Operation op)) =
    record { client = 0; tid = count + 1; oldest = count + 1; op = op } ∷ []
request_of count (line.Command (Asks rank request)) = request ∷ []
request_of count other = []

-- the number of the last operation alone, with this line
abbrev pub counted_with : ℕ → Line → ℕ
counted_with count (line.Command (Operation op)) = count + 1
counted_with count other = count

-- the requests that lines make, after an operation alone of this number
abbrev pub requests_of : ℕ → List (List ℕ) → List Request
requests_of count [] = []
requests_of count (bytes ∷ lines) = request_of count (line_of bytes) ++ requests_of (counted_with count (line_of bytes)) lines

-- the line of a reply
abbrev pub receipt_line : Receipt → List ℕ
receipt_line r = reply_line r.client r.tid r.place r.first r.reply

-- whether a line begins as those of replies do, and no others
abbrev pub is_reply : List ℕ → Bool
is_reply text = starts_with nat_eq text (codes "reply ")

-- a line with its LF
abbrev pub ended_line : List ℕ → List ℕ
ended_line text = text ++ codes "\n"

-- the text written for a script of these lines, over a book that opened with this tree, had this history, in which these
-- requests waited, and client 0 had this mark. It is whole lines, and at a write fault a beginning of the next one. The
-- lines that begin with `reply ` are, in their order, the replies of one thread that serves one plain tree those
-- requests and the ones that the script's lines make
pub record PrintsOneThread (limit : ℕ) (opening : Opening) (past : List Entry) (waited : List Request)
    (marked : ℕ) (known before after : Option (List ℕ)) (result : Result (Unit {0}) ScriptFault) : Type 0 where
  pub lines : List (List ℕ)
  pub read : IfSome known (λ bytes. lines ≡ lines_of bytes)
  pub printed : List (List ℕ)
  pub front : List ℕ
  pub written : Appends before after (flat_map ended_line printed ++ front)
  pub broken : (front ≡ []) ⊎ ((number : ℕ) × (result ≡ Err (record { line = number; kind = WriteFault })))
  pub told : List Receipt
  pub replies : filter is_reply printed ≡ map receipt_line told
  pub history : List Entry
  pub one : IsOneThread limit opening past history (waited ++ requests_of marked lines) told
  pub in_order : InOrder (length past) told (length history)
