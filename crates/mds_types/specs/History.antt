-- Histories: which lists of applied requests are those of one plain tree served by one thread.
use Rattle.std.specs.Prelude.{◌≡◌, ℕ, ◌<◌, ◌≤◌, Bool, true, false, ◌&&◌, ◌==◌, max, if◌then◌else◌, is_some, ◌⊎◌, List, [], ◌∷◌, take, length, Option, Some, None, Contains, Any}
use Rattle.std.specs.List.{list_any, slice_index_or}
use Rattle.mds_types.specs.declared.ids.Ino.{Ino}
use Rattle.mds_types.specs.declared.entries.Entry.{Entry}
use Rattle.mds_types.specs.Tree.{Tree, numbers}
use Rattle.mds_types.specs.Step.{step, number_or}

-- the tree after a history, from an opening tree, where a directory may have so many entries
abbrev pub after : ℕ → Tree → List Entry → Tree
after limit opening [] = opening
after limit opening (e ∷ es) = after limit (step limit opening e.op (number_or e.number)).tree es

-- the entry is that of the pair of client and transaction number
abbrev pub is_pair : ℕ → ℕ → Entry → Bool
is_pair client tid e = (e.client == client) && (e.tid == tid)

-- a client's mark: the greatest `oldest` among its entries, 0 if there is none
abbrev pub mark : List Entry → ℕ → ℕ
mark [] client = 0
mark (e ∷ es) client = if e.client == client then max e.oldest (mark es client) else mark es client

-- an entry of the past took the number
abbrev pub IsTaken : List Entry → ℕ → Type 0
IsTaken past n = Any (λ e. e.number ≡ Some (record { 0 = n })) past

-- a number was given before: it is 1, stands in the opening tree, or was taken
abbrev pub IsUsed : Tree → List Entry → ℕ → Type 0
IsUsed opening past n = (n ≡ 1) ⊎ (Contains (numbers opening) n ⊎ IsTaken past n)

-- a number is lawful if it wasn't given before
abbrev pub IsLawful : Tree → List Entry → Option Ino → Type 0
IsLawful opening past None = Unit {0}
IsLawful opening past (Some number) = IsUsed opening past number.0 → ⊥

-- an entry may come next after the past
pub record IsNext (limit : ℕ) (opening : Tree) (past : List Entry) (e : Entry) : Type 0 where
  -- no pair of client and transaction number stands twice
  pub once : list_any (is_pair e.client e.tid) past ≡ false
  -- its tid is at least its own oldest, and every earlier one of its client
  pub own : e.oldest ≤ e.tid
  pub marked : mark past e.client ≤ e.tid
  -- a number stands exactly where the table takes one, and is lawful
  pub number : is_some e.number ≡ (step limit (after limit opening past) e.op (number_or e.number)).takes
  pub lawful : IsLawful opening past e.number
  -- the reply is the table's, on the tree so far
  pub reply : e.reply ≡ (step limit (after limit opening past) e.op (number_or e.number)).reply

-- a legal history: each entry may come next after those before it
abbrev pub IsLegal : ℕ → Tree → List Entry → Type 0
IsLegal limit opening history =
    (k : ℕ) (e : Entry) → k < length history → IsNext limit opening (take k history) (slice_index_or history k e)

-- what a request with this client, tid and oldest is to a history: trimmed, if its tid is below the client's mark or
-- its own oldest;
abbrev pub IsTrimmed : List Entry → ℕ → ℕ → ℕ → Type 0
IsTrimmed history client tid oldest = (tid < mark history client) ⊎ (tid < oldest)

-- otherwise kept at the place where its pair stands,
pub record IsPairAt (history : List Entry) (client tid place : ℕ) : Type 0 where
  pub in_range : place < length history
  pub pair : (e : Entry) → is_pair client tid (slice_index_or history place e) ≡ true

pub record IsKeptAt (history : List Entry) (client tid oldest place : ℕ) : Type 0 where
  pub marked : mark history client ≤ tid
  pub own : oldest ≤ tid
  pub at : IsPairAt history client tid place

-- and otherwise new
pub record IsNew (history : List Entry) (client tid oldest : ℕ) : Type 0 where
  pub marked : mark history client ≤ tid
  pub own : oldest ≤ tid
  pub absent : list_any (is_pair client tid) history ≡ false
