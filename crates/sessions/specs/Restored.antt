-- The sessions that begin again from what was stored.
use Rattle.std.specs.Prelude.{◌≡◌, ℕ, ◌<◌, ◌≤◌, ◌+◌, cond, false, true, List, [], is_some, length, None, option_map}
use Rattle.std.specs.FinMap as map
use Rattle.mds_types.specs.declared.entries.Entry.{Entry}
use Rattle.mds_types.specs.declared.replies.Reply.{Reply}
use Rattle.mds_types.specs.History.{mark}
use Rattle.sessions.specs.Aside.{AreSetAside}
use Rattle.sessions.specs.Replies.{ArePairsOnce, kept_replies, kept_reply}
use Rattle.sessions.specs.Rooms.{is_among}
use Rattle.sessions.specs.Stored.{AreClientsOnce, Stored, mark_stored, reply_stored, stored_of, stand_ins, mark_stand_in}
use Rattle.sessions.specs.Table.{IsTableOf, Row, Table, aside_in, kept_in, mark_in, row_in}
use Rattle.sessions.specs.declared.restoring.Unfit.{Unfit}
use Rattle.sessions.specs.declared.restoring.Unfit.TheVariants.{BelowMark, ClientTwice, NoClient, NoMemory, ReplyTwice}

-- the row of a client of which the mark alone is known
abbrev pub marked_row : ℕ → Row
marked_row mark = record { mark = mark; kept = map.empty; aside = map.empty }

-- the table with one more client
abbrev pub with_client : Table → (client mark : ℕ) → Table
with_client table client mark = record table {
  forgotten = table.forgotten + length (mark_stand_in client mark);
  rows = map.insert table.rows client (marked_row mark);
}

-- a row with one more reply, whose entry had this place and is forgotten
abbrev pub row_with_told : Row → (tid place : ℕ) → Reply → Row
row_with_told row tid place reply = record {
  mark = row.mark;
  kept = map.insert row.kept tid place;
  aside = map.insert row.aside tid reply;
}

-- the table with one more reply to a client
abbrev pub with_told : Table → (client tid : ℕ) → Reply → Table
with_told table client tid reply = record table {
  forgotten = table.forgotten + 1;
  rows = map.insert table.rows client (row_with_told (row_in table client) tid table.forgotten reply);
}

-- a reply was taken into a client's row: its number is at or above the mark, and wasn't there
pub record TakesToldReply (old new : Row) (tid place : ℕ) (reply : Reply) : Type 0 where
  pub marked : old.mark ≤ tid
  pub absent : map.get old.kept tid ≡ None
  pub row : new ≡ row_with_told old tid place reply

-- a client was taken: it wasn't there
pub record TakesClient (old new : Table) (client mark : ℕ) : Type 0 where
  pub unknown : map.get old.rows client ≡ None
  pub table : new ≡ with_client old client mark

-- a reply was taken: its client is there, and its number is at or above the mark, and wasn't there
pub record TakesReply (old new : Table) (client tid : ℕ) (reply : Reply) : Type 0 where
  pub known : is_some (map.get old.rows client) ≡ true
  pub marked : mark_in old client ≤ tid
  pub absent : kept_in old client tid ≡ None
  pub table : new ≡ with_told old client tid reply

-- why a client isn't taken,
abbrev pub IsUnfitClient : Table → (client : ℕ) → Unfit → Type 0
IsUnfitClient table client ClientTwice = is_some (map.get table.rows client) ≡ true
IsUnfitClient table client NoClient = ⊥
IsUnfitClient table client BelowMark = ⊥
IsUnfitClient table client ReplyTwice = ⊥
IsUnfitClient table client NoMemory = Unit {0}

-- why a reply isn't taken into a client's row,
abbrev pub IsUnfitFor : Row → (tid : ℕ) → Unfit → Type 0
IsUnfitFor row tid ClientTwice = ⊥
IsUnfitFor row tid NoClient = ⊥
IsUnfitFor row tid BelowMark = tid < row.mark
IsUnfitFor row tid ReplyTwice = is_some (map.get row.kept tid) ≡ true
IsUnfitFor row tid NoMemory = Unit {0}

-- and why it isn't taken at all
abbrev pub IsUnfitReply : Table → (client tid : ℕ) → Unfit → Type 0
IsUnfitReply table client tid ClientTwice = ⊥
IsUnfitReply table client tid NoClient = map.get table.rows client ≡ None
IsUnfitReply table client tid BelowMark = tid < mark_in table client
IsUnfitReply table client tid ReplyTwice = is_some (kept_in table client tid) ≡ true
IsUnfitReply table client tid NoMemory = Unit {0}

-- what is kept of a client, as it is stored,
abbrev pub row_stored : List Entry → Table → (client : ℕ) → Stored
row_stored history table client =
    record { client = client; mark = mark_in table client; replies = kept_replies history table client }

-- and so of each client that is there
abbrev pub AreRowsOf : List Entry → Table → List Stored → Type 0
AreRowsOf history table stored = (client : ℕ)
    → stored_of stored client ≡ option_map (λ _. row_stored history table client) (map.get table.rows client)

-- what was stored is what a history keeps of each client
pub record IsStoredOf (history : List Entry) (stored : List Stored) : Type 0 where
  pub marks : (client : ℕ) → mark_stored stored client ≡ mark history client
  pub replies : (client tid : ℕ) → reply_stored stored client tid ≡ kept_reply history client tid

-- and so of each client that isn't changed
pub record IsStoredBut (history : List Entry) (changed : List ℕ) (stored : List Stored) : Type 0 where
  pub marks : (client : ℕ) → is_among changed client ≡ false → mark_stored stored client ≡ mark history client
  pub replies : (client tid : ℕ) → is_among changed client ≡ false
      → reply_stored stored client tid ≡ kept_reply history client tid

-- what is kept of the changed clients was stored, and what was stored of the others stays
abbrev pub IsStoredAnew : List Entry → Table → (changed : List ℕ) → (stored new : List Stored) → Type 0
IsStoredAnew history table changed stored new = (client : ℕ) → stored_of new client
    ≡ cond (is_among changed client) (option_map (λ _. row_stored history table client) (map.get table.rows client))
    (stored_of stored client)

-- the table is that of what was stored: it has each client with its mark and its replies, and is the table of the
-- stand-in entries, all of which are forgotten
pub record IsRestored (stored : List Stored) (table : Table) : Type 0 where
  pub clients : AreClientsOnce stored
  pub known : (client : ℕ) → is_some (map.get table.rows client) ≡ is_some (stored_of stored client)
  pub marks : (client : ℕ) → mark_in table client ≡ mark_stored stored client
  pub replies : (client tid : ℕ) → aside_in table client tid ≡ reply_stored stored client tid
  pub tabled : IsTableOf (stand_ins stored) table
  pub aside : AreSetAside (stand_ins stored) [] table
  pub once : ArePairsOnce (stand_ins stored)
