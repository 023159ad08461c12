-- The beginning of a history: a tree, and what was answered before. A history that goes on after a restart begins with
-- stand-in entries. Each stands in for a reply that a client was given before, or for a client's mark. They are no
-- steps of the tree, so a history is legal from behind them; but no request that they answer is new.
use Rattle.std.specs.Prelude.{◌≡◌, ℕ, ◌<◌, ◌≤◌, ◌++◌, ◌⊎◌, false, is_some, List, [], take, drop, length, Contains, Option, Some, None}
use Rattle.std.specs.List.{list_any, slice_index_or}
use Rattle.mds_types.specs.declared.ids.Ino.{Ino}
use Rattle.mds_types.specs.declared.entries.Entry.{Entry}
use Rattle.mds_types.specs.Tree.{Tree}
use Rattle.mds_types.specs.History.{after, IsLegal, IsUsed, is_pair, mark}
use Rattle.mds_types.specs.Step.{step, number_or}
use Rattle.inode_table.specs.Numbers.{Supply, first_number, end_number}

-- the tree; how many entries at the front of the history are stand-ins; and for each of some ranks the number that it
-- would give next
pub record Opening : Type 0 where
  pub tree : Tree
  pub told : ℕ
  pub given : List Supply

-- the opening of a history with nothing before it
abbrev pub fresh : Tree → Opening
fresh tree = record { tree = tree; told = 0; given = [] }

-- the entries behind the stand-ins
abbrev pub since : Opening → List Entry → List Entry
since opening history = drop opening.told history

-- the tree after a history: that of the opening, after the entries behind the stand-ins
abbrev pub after_from : ℕ → Opening → List Entry → Tree
after_from limit opening history = after limit opening.tree (since opening history)

-- a number of a rank's range was given before: it is below the rank's next
abbrev pub IsGiven : List Supply → ℕ → Type 0
IsGiven given n =
    (s : Supply) × Contains given s × (first_number s.rank ≤ n) × (n < end_number s.rank) × (n < s.next)

-- a number was given before the opening or in this history
abbrev pub IsUsedFrom : Opening → List Entry → ℕ → Type 0
IsUsedFrom opening past n = IsGiven opening.given n ⊎ IsUsed opening.tree (since opening past) n

-- a number is lawful if it wasn't given so
abbrev pub IsLawfulFrom : Opening → List Entry → Option Ino → Type 0
IsLawfulFrom opening past None = Unit {0}
IsLawfulFrom opening past (Some number) = IsUsedFrom opening past number.0 → ⊥

-- an entry may come next after the past; `IsNext` says the same for plain histories
pub record IsNextFrom (limit : ℕ) (opening : Opening) (past : List Entry) (e : Entry) : Type 0 where
  pub once : list_any (is_pair e.client e.tid) past ≡ false
  pub own : e.oldest ≤ e.tid
  pub marked : mark past e.client ≤ e.tid
  pub number : is_some e.number ≡ (step limit (after_from limit opening past) e.op (number_or e.number)).takes
  pub lawful : IsLawfulFrom opening past e.number
  pub reply : e.reply ≡ (step limit (after_from limit opening past) e.op (number_or e.number)).reply

-- a legal history: it begins with the stand-ins, and each entry behind them may come next after those before it
pub record IsLegalFrom (limit : ℕ) (opening : Opening) (history : List Entry) : Type 0 where
  pub begins : opening.told ≤ length history
  pub next : (k : ℕ) (e : Entry) → opening.told ≤ k → k < length history
      → IsNextFrom limit opening (take k history) (slice_index_or history k e)

-- a history that is legal from an opening is, behind its stand-ins, legal from the opening's tree; and a history that
-- is legal from a tree is legal from the opening that has nothing before it
abbrev pub BeginsAfresh : Type 0
BeginsAfresh =
    (limit : ℕ) (opening : Opening) (history : List Entry)
    → ((IsLegalFrom limit opening history → IsLegal limit opening.tree (since opening history))
    × (IsLegal limit opening.tree history → IsLegalFrom limit (fresh opening.tree) history))

-- stand-ins tell as much as a history. Each client's mark is the same. A request at or above its client's mark that no
-- stand-in answers has no entry in the history. Each number that was given counts as given
pub record StandIn (opening : Opening) (history : List Entry) (next : Opening) (told : List Entry) : Type 0 where
  pub marks : (client : ℕ) → mark told client ≡ mark history client
  pub pairs : (client tid : ℕ) → mark told client ≤ tid → list_any (is_pair client tid) told ≡ false
      → list_any (is_pair client tid) history ≡ false
  pub numbers : (n : ℕ) → IsUsedFrom opening history n → IsUsedFrom next told n

-- if stand-ins tell as much as the history before them, and their tree is the one after it, then entries that are legal
-- behind the stand-ins are legal behind that history: each request is applied once, and no number is given twice
abbrev pub RestartsAreOneHistory : Type 0
RestartsAreOneHistory =
    (limit : ℕ) (opening next : Opening) (history told more : List Entry) → IsLegalFrom limit opening history
    → next.told ≡ length told → next.tree ≡ after_from limit opening history → StandIn opening history next told
    → IsLegalFrom limit next (told ++ more) → IsLegalFrom limit opening (history ++ more)
