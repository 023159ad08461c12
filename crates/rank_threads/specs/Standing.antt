-- Receipts against the entries that aren't forgotten, one receipt after the other.
use Rattle.std.specs.Prelude.{◌≡◌, ◌≤◌, ◌-◌, ℕ, Bool, true, false, List, cond, get_or, set}
use Rattle.std.specs.List.{AllByRecursion}
use Rattle.mds_types.specs.declared.entries.Entry.{Entry}
use Rattle.cluster_core.specs.declared.receipts.Receipt.{Receipt}
use Rattle.cluster_core.specs.OneThread.{NoneTwice, StandsInHistory, first_places}

-- the entry of a receipt isn't forgotten, where so many are: its place isn't one of the first so many
abbrev pub HasEntry : ℕ → Receipt → Type 0
HasEntry forgotten r = forgotten ≤ r.place

-- the entry of a receipt isn't forgotten, and holds it; the kept entries begin at the place behind the forgotten ones
abbrev pub IsHeldAmong : ℕ → List Entry → Receipt → Type 0
IsHeldAmong forgotten history r =
    HasEntry forgotten r × StandsInHistory history r.client r.tid (r.place - forgotten) r.reply

-- the kept entries hold each receipt; those marked first name distinct places from this one on
pub record StandAmong (forgotten : ℕ) (history : List Entry) (from : ℕ) (receipts : List Receipt) : Type 0 where
  pub held : AllByRecursion (IsHeldAmong forgotten history) receipts
  pub newer : AllByRecursion (λ place. from ≤ place) (first_places receipts)
  pub apart : NoneTwice (first_places receipts)

-- the history holds a receipt, and if it is marked first, its place is a new one that isn't named yet
pub record Fits (forgotten : ℕ) (history : List Entry) (from : ℕ) (named : List Bool) (r : Receipt) : Type 0 where
  pub held : IsHeldAmong forgotten history r
  pub first : r.first ≡ true → (from ≤ r.place) × (get_or named (r.place - forgotten) false ≡ false)

-- the named places after a receipt: its own is named too, if it is marked first
abbrev pub places_marked : ℕ → List Bool → Receipt → List Bool
places_marked forgotten named r = cond r.first (set named (r.place - forgotten) true) named
