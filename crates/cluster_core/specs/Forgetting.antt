-- Forgetting a beginning of the history, and what stays true.
use Rattle.std.specs.Prelude.{◌≡◌, ℕ, ◌<◌, ◌≤◌, ◌-◌, ◌⊎◌, ◌++◌, List, None, drop, length, take}
use Rattle.std.specs.List.{slice_index_or}
use Rattle.mds_types.specs.declared.entries.Entry.{Entry}
use Rattle.mds_types.specs.History.{IsKeptAt, IsTrimmed}
use Rattle.cluster_core.specs.Opening.{Opening, after_from, IsLegalFrom}
use Rattle.sessions.specs.Aside.{StopsForgetting, forget_all}
use Rattle.cluster_core.specs.Sound.{StandsBehind, IsSoundBehind}
use Rattle.cluster_core.specs.State.{Core, KeptState, shown, with_sessions}

-- a book forgets so many entries from the front of its history, and keeps at least so many of the last, by all that the
-- contract of `Book::forget` says. The kept replies of these entries move to the sessions; nothing else changes
pub record Forgets (keep : ℕ) (old new : KeptState) : Type 0 where
  pub count : ℕ
  pub few : count ≤ length old.history - keep
  pub waits : length old.history - keep < keep → count ≡ 0
  pub stops : (e : Entry) → keep ≤ length old.history - keep → count < length old.history - keep
      → StopsForgetting new.core.state.sessions (slice_index_or old.history count e)
  pub left : new.history ≡ drop count old.history
  pub core : new.core ≡ with_sessions old.core (forget_all old.core.state.sessions (take count old.history))
  pub nothing : count ≡ 0 → new ≡ old
  pub opening : 0 < count → new.opening ≡ None
  pub goes_on : (opening : Opening) (past : List Entry) → StandsBehind opening past old
      → StandsBehind opening (past ++ take count old.history) new

-- the forgotten entries and those behind them are one legal history, and the shown tree is the tree after it
abbrev pub AllIsOneHistory : Type 0
AllIsOneHistory =
    (opening : Opening) (past : List Entry) (book : KeptState) → StandsBehind opening past book
    → IsLegalFrom book.core.state.tree.limit opening (past ++ book.history)
    × (shown book.core.state ≡ after_from book.core.state.tree.limit opening (past ++ book.history))

-- any beginning of the history may be forgotten, if its kept replies are set aside
abbrev pub ABeginningMayGo : Type 0
ABeginningMayGo =
    (opening : Opening) (past history : List Entry) (core : Core) (n : ℕ) → IsSoundBehind opening past history core
    → IsSoundBehind opening (past ++ take n history) (drop n history)
    (with_sessions core (forget_all core.state.sessions (take n history)))

-- no request that was applied is new again: it is too old, or has its reply at its place
abbrev pub NoneIsNewAgain : Type 0
NoneIsNewAgain =
    (history : List Entry) (place oldest : ℕ) (e : Entry) → place < length history → e ≡ slice_index_or history place e
    → IsTrimmed history e.client e.tid oldest ⊎ IsKeptAt history e.client e.tid oldest place
