-- A useless server that gives legal answers can't do this.
use Rattle.std.specs.Prelude.{◌≡◌, ℕ, List, []}
use Rattle.mds_types.specs.declared.entries.Entry.{Entry}
use Rattle.mds_types.specs.declared.requests.Request.{Request}
use Rattle.cluster_core.specs.Opening.{Opening}
use Rattle.cluster_core.specs.declared.receipts.Receipt.{Receipt}
use Rattle.cluster_core.specs.OneThread.{IsOneThread, first_places}

-- if nothing was sent, nothing is applied and no reply is given: no operation is invented
abbrev pub OneThreadInventsNothing : Type 0
OneThreadInventsNothing =
    (limit : ℕ) (opening : Opening) (past history : List Entry) (told : List Receipt)
    → IsOneThread limit opening past history [] told → (history ≡ past) × (told ≡ [])

-- if no reply is marked first, nothing was applied: nothing is applied in silence, and not all replies are called
-- repeats
abbrev pub OneThreadTellsAll : Type 0
OneThreadTellsAll =
    (limit : ℕ) (opening : Opening) (past history : List Entry) (sent : List Request) (told : List Receipt)
    → IsOneThread limit opening past history sent told → first_places told ≡ [] → history ≡ past
