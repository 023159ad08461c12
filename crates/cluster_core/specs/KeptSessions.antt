-- What the rows that a store keeps tell of a book, so that another book can go on from it after a restart.
use Rattle.std.specs.Prelude.{◌≡◌, ◌⊎◌, ℕ, ◌<◌, ◌≤◌, ◌++◌, List, [], get_or, length, Result}
use Rattle.std.specs.FinMap as map
use Rattle.mds_types.specs.declared.entries.Entry.{Entry}
use Rattle.mds_types.specs.declared.refusals.Refusal.{Refusal}
use Rattle.inode_table.specs.Numbers.{Supply, end_number, first_number}
use Rattle.keeping.specs.declared.rows.RowEdit.{RowEdit}
use Rattle.keeping.specs.Rows.{SessionRows, rows_after_edits}
use Rattle.sessions.specs.Replies.{AnswerAlike, ArePairsOnce}
use Rattle.sessions.specs.Restored.{IsRestored, IsStoredBut, IsStoredOf}
use Rattle.sessions.specs.Stored.{Stored, stand_ins}
use Rattle.sessions.specs.Table.{Table, all_stored, no_table}
use Rattle.session_rows.specs.Sessions.{SpellsSessions, WritesSessions}
use Rattle.cluster_core.specs.Opening.{IsGiven, IsLegalFrom, IsUsedFrom, Opening, after_from, fresh}
use Rattle.cluster_core.specs.Resumed.{resumes, supplies_from}
use Rattle.cluster_core.specs.Sound.{StandsBehind}
use Rattle.cluster_core.specs.State.{Core, KeptState, no_supply, shown, with_sessions}
use Rattle.cluster_core.specs.Steps.{Steps}
use Rattle.cluster_core.specs.declared.events.Answer.{Answer}
use Rattle.cluster_core.specs.declared.events.Event.{Event}

-- a number is of the range of one of so many ranks
abbrev pub IsOfRanks : ℕ → ℕ → Type 0
IsOfRanks ranks n = (rank : ℕ) × (rank < ranks) × (first_number rank ≤ n) × (n < end_number rank)

-- no book that resumes with these next numbers gives the number: it is the root's, or below its rank's next number
abbrev pub IsSpent : (nexts : List ℕ) → ℕ → Type 0
IsSpent nexts n = (n ≡ 1) ⊎ IsGiven (supplies_from 0 nexts) n

-- rows tell what a history keeps of each client, and which numbers it used
pub record RowsTell (rows : SessionRows) (opening : Opening) (history : List Entry) : Type 0 where
  pub stored : List Stored
  pub nexts : List ℕ
  pub spelled : SpellsSessions rows stored nexts
  pub once : ArePairsOnce history
  pub clients : IsStoredOf history stored
  pub numbers : (n : ℕ) → IsUsedFrom opening history n → IsSpent nexts n

-- rows tell this but for the clients that changed since they were written, and for the numbers of the ranks that a
-- cluster has
pub record TellsBut (rows : SessionRows) (opening : Opening) (history : List Entry) (core : Core) : Type 0 where
  pub stored : List Stored
  pub nexts : List ℕ
  pub spelled : SpellsSessions rows stored nexts
  pub once : ArePairsOnce history
  pub clients : IsStoredBut history core.state.sessions.changed stored
  pub numbers : (n : ℕ) → IsUsedFrom opening history n → IsOfRanks (length core.state.numbers) n ⊎ IsSpent nexts n

-- from rows that tell all but what changed, edits make rows that tell all
abbrev pub Updates : KeptState → List RowEdit → Type 0
Updates book edits = (opening : Opening) (past : List Entry) → StandsBehind opening past book → (rows : SessionRows)
    → TellsBut rows opening (past ++ book.history) book.core → RowsTell (rows_after_edits edits rows) opening (past ++ book.history)

-- a book's sessions are kept by edits that a store takes
pub record KeepsSessions (book : KeptState) (takes : List RowEdit → Type 0) : Type 0 where
  pub edits : List RowEdit
  pub taken : takes edits
  pub updates : Updates book edits

-- a book whose sessions are kept: no client is changed any more
abbrev pub with_stored : KeptState → KeptState
with_stored book = record book { core = with_sessions book.core (all_stored book.core.state.sessions) }

-- stand-ins continue a history: each request is to them what it is to the history, one that the history keeps has the
-- same reply, and what is legal behind them is legal behind the history
pub record Continue (limit : ℕ) (opening : Opening) (history : List Entry) (next : Opening) (told : List Entry) : Type 0 where
  pub alike : AnswerAlike history told
  pub legal : (more : List Entry) → IsLegalFrom limit next (told ++ more) → IsLegalFrom limit opening (history ++ more)

-- a book goes on from rows: with the stand-ins of what they store, which continue each history of which the rows tell
-- all, if the book's tree is the one after it. Then the rows tell all of the stand-ins too
pub record GoesOnFromRows (rows : SessionRows) (book : KeptState) : Type 0 where
  pub stored : List Stored
  pub nexts : List ℕ
  pub spelled : SpellsSessions rows stored nexts
  pub stands : StandsBehind (resumes (shown book.core.state) (stand_ins stored) nexts) (stand_ins stored) book
  pub continues : (opening : Opening) (history : List Entry)
      → IsLegalFrom book.core.state.tree.limit opening history
      → shown book.core.state ≡ after_from book.core.state.tree.limit opening history
      → RowsTell rows opening history → Continue book.core.state.tree.limit opening history
      (resumes (shown book.core.state) (stand_ins stored) nexts) (stand_ins stored)
  pub told : (opening : Opening) (history : List Entry) → IsLegalFrom book.core.state.tree.limit opening history
      → shown book.core.state ≡ after_from book.core.state.tree.limit opening history → RowsTell rows opening history
      → TellsBut rows (resumes (shown book.core.state) (stand_ins stored) nexts) (stand_ins stored) book.core

-- rows that tell all of a history, and stored sessions that they spell: the stand-ins of these continue the history
abbrev pub StoredSessionsGoOn : Type 0
StoredSessionsGoOn =
    (limit : ℕ) (opening : Opening) (history : List Entry) (rows : SessionRows) (stored : List Stored) (nexts : List ℕ)
    (table : Table) → IsLegalFrom limit opening history → RowsTell rows opening history → SpellsSessions rows stored nexts → IsRestored stored table → Continue limit opening history
    (resumes (after_from limit opening history) (stand_ins stored) nexts) (stand_ins stored)

-- and the rows tell all of the stand-ins, whichever cluster has them
abbrev pub ToldOfStandIns : Type 0
ToldOfStandIns =
    (limit : ℕ) (opening : Opening) (history : List Entry) (rows : SessionRows) (stored : List Stored) (nexts : List ℕ)
    (table : Table) → IsLegalFrom limit opening history → RowsTell rows opening history → SpellsSessions rows stored nexts
    → IsRestored stored table → (core : Core)
    → TellsBut rows (resumes (after_from limit opening history) (stand_ins stored) nexts) (stand_ins stored) core

-- a store that keeps no rows tells all of a new book
abbrev pub NoRowsTellOfANewBook : Type 0
NoRowsTellOfANewBook = (core : Core) → core.state.sessions ≡ no_table → TellsBut map.empty (fresh map.empty) [] core

-- whatever a step does, rows that told all but what changed do so still
abbrev pub StepsStayTold : Type 0
StepsStayTold =
    (rows : SessionRows) (opening : Opening) (past : List Entry) (old new : KeptState) (result : Result Answer Refusal)
    (event : Event) → StandsBehind opening past old → StandsBehind opening past new
    → Steps old.core new.core (past ++ old.history) (past ++ new.history) result event
    → TellsBut rows opening (past ++ old.history) old.core → TellsBut rows opening (past ++ new.history) new.core

-- and so once the sessions were kept by rows that tell all
abbrev pub KeptStaysTold : Type 0
KeptStaysTold = (rows : SessionRows) (opening : Opening) (past : List Entry) (book : KeptState)
    → RowsTell rows opening (past ++ book.history) → TellsBut rows opening (past ++ book.history) (with_stored book).core

-- the next numbers of the first of these ranks
pub record AreNextOf (count : ℕ) (numbers : List Supply) (nexts : List ℕ) : Type 0 where
  pub as_many : length nexts ≡ count
  pub each : (rank : ℕ) → rank < count → get_or nexts rank 0 ≡ (get_or numbers rank no_supply).next

-- edits make the rows of all that a cluster keeps of sessions and next numbers
pub record WritesAll (history : List Entry) (core : Core) (edits : List RowEdit) : Type 0 where
  pub nexts : List ℕ
  pub are : AreNextOf (length core.state.numbers) core.state.numbers nexts
  pub writes : WritesSessions history core.state.sessions core.state.sessions.changed nexts edits
