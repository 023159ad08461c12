-- The session table, without a word of memory, and what it says of a history.
use Rattle.std.specs.Prelude.{◌≡◌, ℕ, ◌≤◌, ◌++◌, ◌==◌, Bool, cond, max, false, List, [], ◌∷◌, Option, Some, None}
use Rattle.std.specs.List.{list_any}
use Rattle.std.specs.Ordering.{nat_cmp}
use Rattle.std.specs.FinMap as map
use Rattle.sorted_map.specs.SortedMap.{is_from}
use Rattle.mds_types.specs.declared.entries.Entry.{Entry}
use Rattle.mds_types.specs.declared.replies.Reply.{Reply}
use Rattle.mds_types.specs.History.{mark, is_pair, IsPairAt}

-- what is known of a client: its mark, and by transaction number the places of the entries whose replies are kept, and
-- those of these replies that were set aside, since their entries are forgotten
pub record Row : Type 0 where
  pub mark : ℕ
  pub kept : map.FinMap nat_cmp ℕ
  pub aside : map.FinMap nat_cmp Reply

-- the rows by client
abbrev pub Rows : Type 0
Rows = map.FinMap nat_cmp Row

-- how many entries are forgotten, the first of the history; the rows by client; and the clients that are changed, in the
-- order in which they became so
pub record Table : Type 0 where
  pub forgotten : ℕ
  pub rows : Rows
  pub changed : List ℕ

-- the table of no history
abbrev pub no_table : Table
no_table = record { forgotten = 0; rows = map.empty; changed = [] }

-- whether a client is one of these
abbrev pub is_among : List ℕ → (client : ℕ) → Bool
is_among clients client = list_any (λ c. c == client) clients

-- the clients, with one more if it isn't there
abbrev pub with_changed : List ℕ → (client : ℕ) → List ℕ
with_changed clients client = cond (is_among clients client) clients (clients ++ client ∷ [])

-- the table once what is kept of the changed clients is stored: none is changed any more
abbrev pub all_stored : Table → Table
all_stored table = record table { changed = [] }

-- the row of a client of which nothing is known
abbrev pub no_row : Row
no_row = record { mark = 0; kept = map.empty; aside = map.empty }

-- the row that was found, or else that one
abbrev pub row_or_none : Option Row → Row
row_or_none None = no_row
row_or_none (Some row) = row

-- what is known of this client,
abbrev pub row_in : Table → ℕ → Row
row_in table client = row_or_none (map.get table.rows client)

-- its mark,
abbrev pub mark_in : Table → ℕ → ℕ
mark_in table client = (row_in table client).mark

-- what is kept for its transaction number,
abbrev pub kept_in : Table → ℕ → ℕ → Option ℕ
kept_in table client tid = map.get (row_in table client).kept tid

-- and what is set aside for it
abbrev pub aside_in : Table → ℕ → ℕ → Option Reply
aside_in table client tid = map.get (row_in table client).aside tid

-- a row with one more reply: the mark rises to the request's oldest
abbrev pub noted_row : Row → ℕ → ℕ → ℕ → Row
noted_row row tid oldest place =
    record { mark = max row.mark oldest; kept = map.insert row.kept tid place; aside = row.aside }

-- a row without the replies below its mark
abbrev pub trimmed_row : Row → Row
trimmed_row row = record {
  mark = row.mark;
  kept = map.retain_keys row.kept (is_from nat_cmp row.mark);
  aside = map.retain_keys row.aside (is_from nat_cmp row.mark);
}

-- the table with one more reply to a client, which is changed then
abbrev pub noted : Table → ℕ → ℕ → ℕ → ℕ → Table
noted table client tid oldest place = record {
  forgotten = table.forgotten;
  rows = map.insert table.rows client (noted_row (row_in table client) tid oldest place);
  changed = with_changed table.changed client;
}

-- the rows with the row that was found trimmed
abbrev pub trimmed_found : Rows → ℕ → Option Row → Rows
trimmed_found rows client None = rows
trimmed_found rows client (Some row) = map.insert rows client (trimmed_row row)

-- the table without a client's replies below its mark
abbrev pub trimmed : Table → ℕ → Table
trimmed table client = record table { rows = trimmed_found table.rows client (map.get table.rows client) }

-- what is kept for a pair: the place of its entry if it stands in the history and isn't below the mark, and else
-- nothing
abbrev pub IsReplyPlace : List Entry → ℕ → ℕ → Option ℕ → Type 0
IsReplyPlace history client tid (Some place) = (mark history client ≤ tid) × IsPairAt history client tid place
IsReplyPlace history client tid None = mark history client ≤ tid → list_any (is_pair client tid) history ≡ false

-- the table is that of the history: each client's mark, and where the replies at or above it are
pub record IsTableOf (history : List Entry) (table : Table) : Type 0 where
  pub marks : (client : ℕ) → mark_in table client ≡ mark history client
  pub replies : (client tid : ℕ) → IsReplyPlace history client tid (kept_in table client tid)
