-- What is kept of the beginning of a history, once it is forgotten.
use Rattle.std.specs.Prelude.{◌≡◌, ℕ, ◌<◌, ◌≤◌, ◌+◌, ◌^◌, ◌++◌, ◌==◌, ◌⊎◌, Bool, true, false, cond, List, [], ◌∷◌, length, Option, Some, None}
use Rattle.std.specs.FinMap as map
use Rattle.mds_types.specs.declared.entries.Entry.{Entry}
use Rattle.mds_types.specs.declared.replies.Reply.{Reply}
use Rattle.sessions.specs.Seen.{IsReplyAt}
use Rattle.sessions.specs.Table.{Row, Rows, Table, aside_in, kept_in, row_or_none}

-- what is set aside for a pair: the reply of its place, if that is forgotten, and else nothing
abbrev pub IsAsideFor : List Entry → ℕ → (kept : Option ℕ) → Option Reply → Type 0
IsAsideFor history forgotten None None = Unit {0}
IsAsideFor history forgotten None (Some reply) = ⊥
IsAsideFor history forgotten (Some place) None = forgotten ≤ place
IsAsideFor history forgotten (Some place) (Some reply) = (place < forgotten) × IsReplyAt history place reply

-- this past of a history is forgotten: of its replies those that are kept are set aside
pub record AreSetAside (past history : List Entry) (table : Table) : Type 0 where
  pub before : length past ≡ table.forgotten
  pub aside : (client tid : ℕ)
      → IsAsideFor (past ++ history) table.forgotten (kept_in table client tid) (aside_in table client tid)

-- what is kept for a pair is at this place
abbrev pub is_kept_at : ℕ → Option ℕ → Bool
is_kept_at place None = false
is_kept_at place (Some kept) = kept == place

-- whether the reply is kept of the first entry that isn't forgotten, which is this one
abbrev pub keeps_first : Table → Entry → Bool
keeps_first table e = is_kept_at table.forgotten (kept_in table e.client e.tid)

-- nothing more is forgotten: the reply of the first entry that isn't forgotten is kept, or so many are forgotten that
-- their number is at its end
abbrev pub StopsForgetting : Table → Entry → Type 0
StopsForgetting table e = (keeps_first table e ≡ true) ⊎ (table.forgotten ≡ 2 ^ 62)

-- a row with a reply that was set aside
abbrev pub row_with_aside : Row → ℕ → Reply → Row
row_with_aside row tid reply = record { mark = row.mark; kept = row.kept; aside = map.insert row.aside tid reply }

-- the rows with an entry's reply set aside
abbrev pub rows_with_aside : Rows → Entry → Rows
rows_with_aside rows e =
    map.insert rows e.client (row_with_aside (row_or_none (map.get rows e.client)) e.tid e.reply)

-- the table with the reply of the first entry that isn't forgotten set aside, if it's kept
abbrev pub released : Table → Entry → Table
released table e = record table { rows = cond (keeps_first table e) (rows_with_aside table.rows e) table.rows }

-- the table, once that entry is forgotten
abbrev pub forget_first : Table → Entry → Table
forget_first table e = record (released table e) { forgotten = table.forgotten + 1 }

-- and once these are
abbrev pub forget_all : Table → List Entry → Table
forget_all table [] = table
forget_all table (e ∷ es) = forget_all (forget_first table e) es
