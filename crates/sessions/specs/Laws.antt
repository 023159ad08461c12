-- The laws of sessions that `src/laws.rt` states.
use Rattle.std.specs.Prelude.{◌≡◌, ◌++◌, ◌∷◌, [], ℕ, false, is_some, List, length}
use Rattle.std.specs.List.{list_any}
use Rattle.mds_types.specs.History.{is_pair}
use Rattle.mds_types.specs.declared.entries.Entry.{Entry as Applied}
use Rattle.mds_types.specs.declared.replies.Reply.{Reply}
use Rattle.sessions.specs.Aside.{AreSetAside, forget_all}
use Rattle.sessions.specs.Replies.{AnswerAlike, ArePairsOnce, kept_replies, kept_reply}
use Rattle.sessions.specs.Restored.{AreRowsOf, IsRestored, IsStoredBut, IsStoredOf, IsStoredAnew, TakesClient, TakesReply}
use Rattle.sessions.specs.Rooms.{with_changed}
use Rattle.sessions.specs.Stored.{Stored, of_mark, reply_in, reply_stored, stand_ins, with_reply}
use Rattle.sessions.specs.Table.{IsTableOf, Table, kept_in, noted, trimmed}

-- the table of a history with one more entry is the table with that entry noted
abbrev pub TableFollowsHistory : Type 0
TableFollowsHistory =
    (history : List Applied) (table : Table) (entry : Applied) → IsTableOf history table
    → IsTableOf (history ++ entry ∷ [])
    (trimmed (noted table entry.client entry.tid entry.oldest (length history)) entry.client)

-- an applied request leaves the replies of forgotten entries set aside
abbrev pub ApplyingKeepsAside : Type 0
ApplyingKeepsAside =
    (past history : List Applied) (table : Table) (entry : Applied) → IsTableOf (past ++ history) table
    → AreSetAside past history table → list_any (is_pair entry.client entry.tid) (past ++ history) ≡ false
    → AreSetAside past (history ++ entry ∷ [])
    (trimmed (noted table entry.client entry.tid entry.oldest (length (past ++ history))) entry.client)

-- the replies of entries that are forgotten are set aside, and the table is still that of the whole history
abbrev pub ForgettingSetsAside : Type 0
ForgettingSetsAside =
    (past first rest : List Applied) (table : Table) → IsTableOf (past ++ (first ++ rest)) table
    → AreSetAside past (first ++ rest) table → IsTableOf (past ++ (first ++ rest)) (forget_all table first)
    × AreSetAside (past ++ first) rest (forget_all table first)

-- a restored client has the mark that its row says
abbrev pub RestoringClientFollows : Type 0
RestoringClientFollows =
    (stored : List Stored) (old new : Table) (client mark : ℕ) → IsRestored stored old
    → TakesClient old new client mark → IsRestored (stored ++ of_mark client mark ∷ []) new

-- a restored reply is kept as its row says
abbrev pub RestoringReplyFollows : Type 0
RestoringReplyFollows =
    (stored : List Stored) (s : Stored) (old new : Table) (tid : ℕ) (reply : Reply)
    → IsRestored (stored ++ s ∷ []) old → TakesReply old new s.client tid reply
    → IsRestored (stored ++ with_reply s tid reply ∷ []) new

-- what is kept of a restored table is what its rows tell
abbrev pub RestoredRepliesAreKept : Type 0
RestoredRepliesAreKept =
    (stored : List Stored) (table : Table) (client tid : ℕ) → IsRestored stored table
    → is_some (kept_in table client tid) ≡ is_some (reply_stored stored client tid)

-- a restored table answers each request as the history did
abbrev pub RestoredAnswerAlike : Type 0
RestoredAnswerAlike =
    (history : List Applied) (stored : List Stored) (table : Table) → IsStoredOf history stored → ArePairsOnce history
    → IsRestored stored table → AnswerAlike history (stand_ins stored)

-- a kept reply is that of the whole history
abbrev pub KeptRepliesAreHistorys : Type 0
KeptRepliesAreHistorys =
    (past history : List Applied) (table : Table) (client tid : ℕ) → IsTableOf (past ++ history) table
    → AreSetAside past history table → ArePairsOnce (past ++ history)
    → reply_in (kept_replies history table client) tid ≡ kept_reply (past ++ history) client tid

-- the rows of a table tell all that is kept of every client
abbrev pub RowsTellHistory : Type 0
RowsTellHistory =
    (past history : List Applied) (table : Table) (stored : List Stored) → IsTableOf (past ++ history) table
    → AreSetAside past history table → ArePairsOnce (past ++ history) → AreRowsOf history table stored
    → IsStoredOf (past ++ history) stored

-- an applied request leaves the rows of all clients but its own right
abbrev pub ApplyingKeepsStored : Type 0
ApplyingKeepsStored =
    (history : List Applied) (changed : List ℕ) (stored : List Stored) (entry : Applied)
    → IsStoredBut history changed stored
    → IsStoredBut (history ++ entry ∷ []) (with_changed changed entry.client) stored

-- rows written anew for the clients that changed tell all that is kept of every client
abbrev pub WritingStoresChanged : Type 0
WritingStoresChanged =
    (past history : List Applied) (table : Table) (changed : List ℕ) (stored new : List Stored)
    → IsTableOf (past ++ history) table → AreSetAside past history table → ArePairsOnce (past ++ history)
    → IsStoredBut (past ++ history) changed stored → IsStoredAnew history table changed stored new
    → IsStoredOf (past ++ history) new
