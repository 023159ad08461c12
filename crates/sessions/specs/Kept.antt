-- What is kept of a client.
use Rattle.std.specs.Prelude.{◌≡◌, ℕ, true, List, is_some, Option, Some, None}
use Rattle.std.specs.FinMap as map
use Rattle.mds_types.specs.declared.entries.Entry.{Entry}
use Rattle.sessions.specs.Replies.{kept_replies}
use Rattle.sessions.specs.Table.{Table, mark_in}
use Rattle.sessions.specs.declared.kept.ClientKept.{ClientKept}

-- what is kept of a client: nothing, where it isn't there; else its mark and its replies
abbrev pub IsKept : List Entry → Table → (client : ℕ) → Option ClientKept → Type 0
IsKept history table client None = map.get table.rows client ≡ None
IsKept history table client (Some kept) = (is_some (map.get table.rows client) ≡ true)
    × (kept.mark ≡ mark_in table client) × (kept.replies ≡ kept_replies history table client)
