-- The rows of stored sessions and of the ranks' next inode numbers (this project's own profile).
use Rattle.std.specs.Prelude.{◌≡◌, ◌⊎◌, ℕ, ◌==◌, ◌^◌, ◌<◌, ◌≤◌, ◌++◌, cond, List, length, get_or, drop, map, option_map, Option, Some, None}
use Rattle.std.specs.FinMap as finmap
use Rattle.byteorder.specs.Endian.{little_bytes}
use Rattle.mds_types.specs.declared.entries.Entry.{Entry}
use Rattle.mds_types.specs.declared.ids.Rank.{Rank as RankNumber}
use Rattle.mds_types.specs.declared.replies.Reply.{Reply}
use Rattle.keeping.specs.declared.rows.RowEdit.{RowEdit}
use Rattle.keeping.specs.Rows.{SessionRows, rows_after_edits}
use Rattle.sessions.specs.Restored.{IsStoredAnew, row_stored}
use Rattle.sessions.specs.Stored.{Stored, stored_of}
use Rattle.sessions.specs.Table.{Table}
use Rattle.session_rows.specs.ClientRows.{IsRow, StoredClient, row_bytes}
use Rattle.session_rows.specs.Keys.{SpellsRowKey, client_bytes, rank_bytes}
use Rattle.session_rows.specs.RankRows.{IsNextIno}
use Rattle.session_rows.specs.declared.keys.Key.{Key}
use Rattle.session_rows.specs.declared.told.Told.{Told}

-- ---- rows

-- a reply as a client's row keeps it
abbrev pub told_entry : ℕ × Reply → Told
told_entry reply = record { tid = reply.0; reply = reply.1 }

-- the row of a client as it is stored
abbrev pub row_of : Stored → StoredClient
row_of stored = record { mark = stored.mark; replies = map told_entry stored.replies }

-- the value of a client's row; none, where the client isn't stored
abbrev pub client_value : Option Stored → Option (List ℕ)
client_value None = None
client_value (Some stored) = Some (row_bytes (row_of stored))

-- a client that is stored has a row: its number has 64 bits, no reply is below its mark, and transaction numbers ascend
abbrev pub IsStorable : (client : ℕ) → Option Stored → Type 0
IsStorable client None = Unit {0}
IsStorable client (Some stored) = (client < 2 ^ 64) × IsRow (row_of stored)

-- a rank's next number; 0, where none is stored
abbrev pub next_of : (nexts : List ℕ) → RankNumber → ℕ
next_of nexts rank = get_or nexts rank.0 0

-- the value of a rank's row; none, where its next number isn't stored
abbrev pub rank_value : (next : ℕ) → Option (List ℕ)
rank_value next = cond (next == 0) None (Some (little_bytes 8 next))

-- a rank's next number, as it is stored: none, a number of the rank's range, or the end of that range
abbrev pub IsStoredNext : RankNumber → (next : ℕ) → Type 0
IsStoredNext rank next = (next ≡ 0) ⊎ IsNextIno rank (record { 0 = next })

-- bytes are the key of no client and of no rank
abbrev pub IsNoKey : List ℕ → Type 0
IsNoKey bytes = (key : Key) → SpellsRowKey bytes key → ⊥

-- the rows of stored clients and of the next numbers of 16 ranks: each client and each rank whose number is stored has
-- its row, and there is no other row
pub record SpellsSessions (rows : SessionRows) (stored : List Stored) (nexts : List ℕ) : Type 0 where
  pub clients : (client : ℕ) → client < 2 ^ 64
      → finmap.get rows (client_bytes client) ≡ client_value (stored_of stored client)
  pub ranks : (rank : RankNumber) → rank.0 < 16
      → finmap.get rows (rank_bytes rank) ≡ rank_value (next_of nexts rank)
  pub others : (key : List ℕ) → IsNoKey key → finmap.get rows key ≡ None
  pub storable : (client : ℕ) → IsStorable client (stored_of stored client)
  pub ranged : (rank : RankNumber) → rank.0 < 16 → IsStoredNext rank (next_of nexts rank)
  pub long : length nexts ≡ 16

-- ---- edits

-- a client's session as it is stored; none, where the client isn't there
abbrev pub kept_row : List Entry → Table → (client : ℕ) → Option Stored
kept_row history table client = option_map (λ _. row_stored history table client) (finmap.get table.rows client)

-- next numbers of the first ranks: each is a number of its rank's range or the end of that range
pub record AreNextInos (nexts : List ℕ) : Type 0 where
  pub few : length nexts ≤ 16
  pub ranged : (rank : RankNumber) → rank.0 < length nexts → IsNextIno rank (record { 0 = next_of nexts rank })

-- the next numbers of ranks, with these in place of the first ones
abbrev pub with_nexts : (nexts old : List ℕ) → List ℕ
with_nexts nexts old = nexts ++ drop (length nexts) old

-- rows in which the sessions of the changed clients are stored anew, and all others as before
pub record WritesClients (history : List Entry) (table : Table) (changed : List ℕ) (stored : List Stored)
    (rows : SessionRows) (nexts : List ℕ) : Type 0 where
  pub new : List Stored
  pub spelled : SpellsSessions rows new nexts
  pub anew : IsStoredAnew history table changed stored new

-- edits that store the sessions of the changed clients and these next numbers, whatever rows they are made in, and leave
-- the rows of all other clients and ranks
abbrev pub WritesSessions : List Entry → Table → (changed nexts : List ℕ) → List RowEdit → Type 0
WritesSessions history table changed nexts edits = (rows : SessionRows) (stored : List Stored) (before : List ℕ)
    → SpellsSessions rows stored before
    → WritesClients history table changed stored (rows_after_edits edits rows) (with_nexts nexts before)
