-- What a request is to a client's row, and what to a history.
use Rattle.std.specs.Prelude.{◌≡◌, ℕ, ◌<◌, ◌≤◌, ◌-◌, ◌⊎◌, List, Option, Some, None}
use Rattle.std.specs.List.{slice_index_or}
use Rattle.std.specs.FinMap as map
use Rattle.mds_types.specs.declared.entries.Entry.{Entry}
use Rattle.mds_types.specs.declared.replies.Reply.{Reply}
use Rattle.mds_types.specs.History.{IsTrimmed, IsKeptAt, IsNew}
use Rattle.sessions.specs.declared.clients.Seen.{Seen}
use Rattle.sessions.specs.declared.clients.Seen.TheVariants.{New, Kept, Trimmed}
use Rattle.sessions.specs.Table.{Row}

-- the reply of the entry at a place
abbrev pub IsReplyAt : List Entry → ℕ → Reply → Type 0
IsReplyAt history place reply = (e : Entry) → reply ≡ (slice_index_or history place e).reply

-- the reply that was set aside, or else that of the entry at a place, where so many before these are forgotten
abbrev pub IsReplyIn : List Entry → (forgotten place : ℕ) → Option Reply → Reply → Type 0
IsReplyIn history forgotten place (Some aside) reply = reply ≡ aside
IsReplyIn history forgotten place None reply = IsReplyAt history (place - forgotten) reply

-- trimmed below the row's mark and below the request's own oldest, otherwise kept if its number is, otherwise new
abbrev pub SeesInRow : List Entry → (forgotten : ℕ) → Row → ℕ → ℕ → Seen → Type 0
SeesInRow history forgotten row tid oldest Trimmed = (tid < row.mark) ⊎ (tid < oldest)
SeesInRow history forgotten row tid oldest (Kept place reply) =
    (row.mark ≤ tid) × (oldest ≤ tid) × (map.get row.kept tid ≡ Some place)
    × IsReplyIn history forgotten place (map.get row.aside tid) reply.now
SeesInRow history forgotten row tid oldest (New at) =
    (row.mark ≤ tid) × (oldest ≤ tid) × (map.get row.kept tid ≡ None)

-- what the request is to a history, and where it is kept the reply of the entry at its place
abbrev pub IsSeen : List Entry → ℕ → ℕ → ℕ → Seen → Type 0
IsSeen history client tid oldest Trimmed = IsTrimmed history client tid oldest
IsSeen history client tid oldest (Kept place reply) =
    IsKeptAt history client tid oldest place × IsReplyAt history place reply.now
IsSeen history client tid oldest (New at) = IsNew history client tid oldest
