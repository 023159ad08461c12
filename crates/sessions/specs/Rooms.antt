-- The session table as it is kept, with the room that was reserved in it.
use Rattle.std.specs.Prelude.{◌≡◌, ℕ, ◌<◌, ◌++◌, ◌==◌, Bool, false, true, cond, List, [], ◌∷◌, length, get_or, Option, Some, None, IsSome, map}
use Rattle.std.specs.List.{list_any}
use Rattle.std.specs.Ordering.{nat_cmp}
use Rattle.std.specs.FinMap as map
use Rattle.sessions.specs.declared.found.SessionAt.{SessionAt}
use Rattle.sessions.specs.declared.clients.Seen.{Seen}
use Rattle.sessions.specs.declared.clients.Seen.TheVariants.{New, Kept, Trimmed}
pub use Rattle.sessions.specs.Table.{is_among, with_changed}
use Rattle.sessions.specs.Table.{Row, Rows, Table, no_row}

-- a client's row, how many more replies fit with no growth, and whether the client is changed
pub record Session : Type 0 where
  pub row : Row
  pub room : ℕ
  pub changed : Bool

-- how many entries are forgotten, the index of each client's session, the sessions, how many more clients fit, the
-- session that was made ready for the next, the clients that are changed, in the order in which they became so, and
-- whether one more of them fits
pub record HeldSessions : Type 0 where
  pub forgotten : ℕ
  pub indices : map.FinMap nat_cmp ℕ
  pub sessions : List Session
  pub room : ℕ
  pub spare : Option Session
  pub changed : List ℕ
  pub changed_fits : Bool

-- the session of a client of which nothing is known
abbrev pub no_session : Session
no_session = record { row = no_row; room = 0; changed = false }

-- the session at an index, and its row
abbrev pub session_at : List Session → ℕ → Session
session_at sessions i = get_or sessions i no_session

abbrev pub row_at : List Session → ℕ → Row
row_at sessions i = (session_at sessions i).row

-- the sessions without their rooms, by client
unfoldable pub rows : map.FinMap nat_cmp ℕ → List Session → Rows
rows indices sessions = map.from_sorted (map (λ e. (e.0, row_at sessions e.1)) (map.entries indices))

-- the table alone
abbrev pub table : HeldSessions → Table
table held = record { forgotten = held.forgotten; rows = rows held.indices held.sessions; changed = held.changed }

-- each client has a session of its own
pub record AreIndexed (indices : map.FinMap nat_cmp ℕ) (sessions : List Session) : Type 0 where
  pub in_range : (client i : ℕ) → map.get indices client ≡ Some i → i < length sessions
  pub apart : (one other i : ℕ) → map.get indices one ≡ Some i → map.get indices other ≡ Some i → one ≡ other

-- whether the session that was found is that of a changed client
abbrev pub changed_at : List Session → Option ℕ → Bool
changed_at sessions None = false
changed_at sessions (Some i) = (session_at sessions i).changed

-- a client is in the list just where its session says that it's changed
abbrev pub AreListed : map.FinMap nat_cmp ℕ → List Session → (changed : List ℕ) → Type 0
AreListed indices sessions changed =
    (client : ℕ) → is_among changed client ≡ changed_at sessions (map.get indices client)

-- room for one more reply: in the session that was found, or for a client more and its session, made ready
abbrev pub HasReplyRoom : HeldSessions → Option ℕ → Type 0
HasReplyRoom held (Some i) = 0 < (session_at held.sessions i).room
HasReplyRoom held None = (0 < held.room) × IsSome held.spare

-- one more reply to the client can be kept with no growth, and the client be listed
abbrev pub IsReady : HeldSessions → ℕ → Type 0
IsReady held client = HasReplyRoom held (map.get held.indices client) × (held.changed_fits ≡ true)

-- a client's session is there, or nowhere, since nothing is known of the client
abbrev pub IsSessionAt : HeldSessions → SessionAt → Type 0
IsSessionAt held at = map.get held.indices at.client ≡ at.session

-- with a request that is new comes where its client's session is
abbrev pub TellsSession : HeldSessions → ℕ → Seen → Type 0
TellsSession held client Trimmed = Unit {0}
TellsSession held client (Kept place reply) = Unit {0}
TellsSession held client (New at) = (at.client ≡ client) × IsSessionAt held at
