-- What contracts see of an administrator.
use Rattle.std.specs.Prelude.{ℕ}
use Rattle.std.specs.FinMap as map
use Rattle.std.specs.Ordering.{nat_cmp}
use Rattle.cached_frag.specs.declared.jobs.Job.{Job}
use Rattle.cluster_core.specs.SentBytes.{SentBytes, none_sent}
use Rattle.cluster_core.specs.State.{KeptState}
use Rattle.sessions.specs.Table.{mark_in}
use Rattle.admin_cli.specs.declared.commands.Admin as declared

-- a book, the number of the last line with an operation alone, or client 0's mark before the first, the jobs that were
-- begun, by their numbers, and the bytes that exports sent
pub record Admin : Type 0 where
  pub book : KeptState
  pub operations : ℕ
  pub jobs : map.FinMap nat_cmp Job
  pub sent : SentBytes

-- an administrator of a book, who has read no line yet. Client 0's requests are operations alone, and the oldest number
-- of each is its own, so that client 0's mark is the last number that was used
abbrev pub begun : KeptState → Admin
begun book = record { book = book; operations = mark_in book.core.state.sessions 0; jobs = map.empty; sent = none_sent }

-- an administrator as contracts see it, whatever store its book is over
abbrev pub seen : {S : Type 0} → declared.Admin S → Admin
seen a = record { book = a.book; operations = a.operations; jobs = a.jobs; sent = a.sent }
