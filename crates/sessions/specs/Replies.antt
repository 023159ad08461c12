-- What a history says that its clients were told.
use Rattle.std.specs.Prelude.{◌≡◌, ℕ, ◌<◌, ◌≤◌, ◌-◌, ◌↔◌, cond, false, List, [], ◌∷◌, length, map, take, Option, Some, None}
use Rattle.std.specs.List.{list_any, slice_index_or}
use Rattle.std.specs.Ordering.{nat_cmp}
use Rattle.std.specs.FinMap as map
use Rattle.sorted_map.specs.SortedMap.{is_from}
use Rattle.mds_types.specs.declared.entries.Entry.{Entry}
use Rattle.mds_types.specs.declared.replies.Reply.{Reply}
use Rattle.mds_types.specs.declared.replies.Reply.TheVariants.{Done}
use Rattle.mds_types.specs.History.{IsKeptAt, IsNew, IsTrimmed, is_pair, mark}
use Rattle.sessions.specs.Stored.{stand_in}
use Rattle.sessions.specs.Table.{Table, row_in}

-- no pair of client and transaction number stands twice, as in each legal history
abbrev pub ArePairsOnce : List Entry → Type 0
ArePairsOnce history = (k : ℕ) (e : Entry) → k < length history
    → list_any (is_pair (slice_index_or history k e).client (slice_index_or history k e).tid) (take k history) ≡ false

-- the reply of a pair's first entry
abbrev pub reply_to : List Entry → (client tid : ℕ) → Option Reply
reply_to [] client tid = None
reply_to (e ∷ es) client tid = cond (is_pair client tid e) (Some e.reply) (reply_to es client tid)

-- the reply that is kept for a pair: that of its entry, if it isn't below the client's mark
abbrev pub kept_reply : List Entry → (client tid : ℕ) → Option Reply
kept_reply history client tid = cond (is_from nat_cmp (mark history client) tid) (reply_to history client tid) None

-- the reply that was set aside, or else that of the entry at a place, where so many before these are forgotten
abbrev pub told_reply : List Entry → (forgotten place : ℕ) → Option Reply → Reply
told_reply history forgotten place (Some aside) = aside
told_reply history forgotten place None = (slice_index_or history (place - forgotten) (stand_in 0 0 0 Done)).reply

-- the replies at these places, with their transaction numbers
abbrev pub replies_at : List Entry → (forgotten : ℕ) → map.FinMap nat_cmp Reply → List (ℕ × ℕ) → List (ℕ × Reply)
replies_at history forgotten aside places =
    map (λ k. (k.0, told_reply history forgotten k.1 (map.get aside k.0))) places

-- the replies that are kept of a client, in the order of their transaction numbers
abbrev pub kept_replies : List Entry → Table → (client : ℕ) → List (ℕ × Reply)
kept_replies history table client =
    replies_at history table.forgotten (row_in table client).aside (map.entries (row_in table client).kept)

-- the reply of a place is there: it is set aside, or its entry isn't forgotten
abbrev pub IsInReach : List Entry → (forgotten : ℕ) → map.FinMap nat_cmp Reply → ℕ × ℕ → Type 0
IsInReach history forgotten aside k =
    map.get aside k.0 ≡ None → (forgotten ≤ k.1) × (k.1 - forgotten < length history)

-- each request is to one history what it is to the other, and one that is kept has the same reply
pub record AnswerAlike (one other : List Entry) : Type 0 where
  pub trimmed : (client tid oldest : ℕ) → IsTrimmed one client tid oldest ↔ IsTrimmed other client tid oldest
  pub is_new : (client tid oldest : ℕ) → IsNew one client tid oldest ↔ IsNew other client tid oldest
  pub kept : (client tid oldest place there : ℕ) (e : Entry) → IsKeptAt one client tid oldest place
      → IsKeptAt other client tid oldest there
      → (slice_index_or one place e).reply ≡ (slice_index_or other there e).reply
