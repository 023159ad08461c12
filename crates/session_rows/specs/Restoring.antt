-- Sessions and next inode numbers that are restored from rows (this project's own profile).
use Rattle.std.specs.Prelude.{◌≡◌, ◌⊎◌, ℕ, ◌++◌, List, [], ◌∷◌, map, Result, Ok, Err, Some, None}
use Rattle.std.specs.FinMap as finmap
use Rattle.keeping.specs.Rows.{SessionRows}
use Rattle.sessions.specs.Restored.{IsRestored}
use Rattle.sessions.specs.Rooms.{table}
use Rattle.sessions.specs.Stored.{Stored, stored_of}
use Rattle.sessions.specs.Table.{Table}
use Rattle.session_rows.specs.ClientRows.{IsNoRow, StoredClient, SpellsRow, WantsMemory}
use Rattle.session_rows.specs.Keys.{SpellsRowKey}
use Rattle.session_rows.specs.RankRows.{ReadsRank}
use Rattle.session_rows.specs.Sessions.{IsNoKey, SpellsSessions}
use Rattle.session_rows.specs.declared.keys.Key.TheVariants.{Client, Rank}
use Rattle.session_rows.specs.declared.restoring.Restored.{Restored}
use Rattle.session_rows.specs.declared.rows_faults.RowsFault.{RowsFault}
use Rattle.session_rows.specs.declared.rows_faults.RowsFault.TheVariants.{Key, Client as DamagedClient, Rank as DamagedRank, NoMemory}

-- a value of a client for which memory may be wanting: to read its replies, or to take over the row that it spells
abbrev pub RowTakesMemory : (value : List ℕ) → Type 0
RowTakesMemory value = WantsMemory value ⊎ ((row : StoredClient) × SpellsRow value row)

-- why a row is refused: its key is no key, or its value no value of that key, or memory is wanting for a client
abbrev pub RefusesRow : (key value : List ℕ) → RowsFault → Type 0
RefusesRow key value Key = IsNoKey key
RefusesRow key value (DamagedClient client fault) = SpellsRowKey key (Client client) × IsNoRow value fault
RefusesRow key value (DamagedRank rank fault) = SpellsRowKey key (Rank rank) × ReadsRank rank value (Err fault)
RefusesRow key value NoMemory = (client : ℕ) × SpellsRowKey key (Client client) × RowTakesMemory value

-- why rows are refused: a row of them is
pub record RefusesRows (rows : SessionRows) (fault : RowsFault) : Type 0 where
  pub key : List ℕ
  pub value : List ℕ
  pub found : finmap.get rows key ≡ Some value
  pub refused : RefusesRow key value fault

-- these are the rows of the restored sessions and next numbers; no client counts as changed
pub record IsRestoredOf (rows : SessionRows) (read : Restored) : Type 0 where
  pub stored : List Stored
  pub spelled : SpellsSessions rows stored read.nexts
  pub restored : IsRestored stored (table read.sessions)
  pub unchanged : read.sessions.changed ≡ []

-- the answer of `restore`: the sessions and next numbers of these rows, or why the rows are refused
abbrev pub RestoresRows : SessionRows → Result Restored RowsFault → Type 0
RestoresRows rows (Ok read) = IsRestoredOf rows read
RestoresRows rows (Err fault) = RefusesRows rows fault

-- ---- words of the crate's own contracts

-- a row of this key may be read next: no row of the key was read before
pub record MayRead (key : List ℕ) (read : Restored) : Type 0 where
  pub rows : SessionRows
  pub known : IsRestoredOf rows read
  pub absent : finmap.get rows key ≡ None

-- a row more was read
abbrev pub ReadsMore : (key value : List ℕ) → (old new : Restored) → Type 0
ReadsMore key value old new = (rows : SessionRows) → IsRestoredOf rows old → IsRestoredOf (finmap.insert rows key value) new

-- a client may be taken over: it isn't among the clients that were taken over before
pub record MayTake (client : ℕ) (now : Table) : Type 0 where
  pub stored : List Stored
  pub known : IsRestored stored now
  pub absent : stored_of stored client ≡ None

-- a client's row, as it is stored
abbrev pub stored_from : (client : ℕ) → StoredClient → Stored
stored_from client row =
    record { client = client; mark = row.mark; replies = map (λ t. (t.tid, t.reply)) row.replies }

-- a client was taken over, with its replies
abbrev pub RestoresRow : (client : ℕ) → StoredClient → (old new : Table) → Type 0
RestoresRow client row old new = (stored : List Stored) → IsRestored stored old
    → IsRestored (stored ++ stored_from client row ∷ []) new
