-- What each event makes of the history.
use Rattle.cluster_core.proofs.Common.{AddsAtServe, Administers, Answer, Arrive, ArrivesAt, BeginsAt, Bool, Cancel, CancelsAt, CommitBegin, CommitDrop, CommitEnd, CommitTree, Core, Does, Drops, EndsJobOf, Entry, Err, Event, Evict, EvictsOne, Exports, Finish, FinishesIn, Freeze, FreezesIn, Grant, GrantsFirst, Import, ImportsExport, Leaf, List, MatchBool, TreeMayRefuse, Merge, MergesLeaves, None, NotAuthority, Ok, Op, Option, Prep, PrepsIn, Purge, Purges, Rank, Records, Refusal, Request, Result, SavesTree, Send, SendsExport, Serve, Some, Split, SplitsLeaf, Start, StartsIn, State, Steps, ap, false, first_waiting, length, nat_lt, told_nothing, told_job, true, ℕ, ◌≡◌}
use Rattle.cluster_core.proofs.RunLaws.{step_of}

module _ (old new : State) (past now : List Entry) where
  arrived : (rank : Rank) (request : Request) (result : Result Answer Refusal) → ArrivesAt old new past now rank request result → now ≡ past
  arrived rank request (Ok answer) h = h.3
  arrived rank request (Err reason) h = h.2.same

  granted : (TreeMayRefuse : Op → Refusal → Type 0) (rank : Rank) (client tid : ℕ) (result : Result Answer Refusal) (found : Option Request) → GrantsFirst old new past now TreeMayRefuse rank client tid result found → now ≡ past
  granted TreeMayRefuse rank client tid result None h = h.1.same
  granted TreeMayRefuse rank client tid (Ok answer) (Some request) h = h.same
  granted TreeMayRefuse rank client tid (Err reason) (Some request) h = h.1.same

  administered : {X : Type 0} (told : X → Answer) (Did : Result X Refusal → Type 0) (result : Result Answer Refusal) → Administers old new past now told Did result → now ≡ past
  administered told Did (Ok answer) h = h.3.same
  administered told Did (Err reason) h = h.1.same

  exported : (was is : Core) (Did : Result (Unit {0}) Refusal → Type 0) (result : Result Answer Refusal) → Exports was is past now Did result → now ≡ past
  exported was is Did (Ok answer) h = h.2.same
  exported was is Did (Err reason) h = h.1.same

  sent : (was is : Core) (leaf : Leaf) (result : Result Answer Refusal) → SendsExport was is past now leaf result → now ≡ past
  sent was is leaf (Ok answer) h = h.3.same
  sent was is leaf (Err reason) h = h.1.same

  imported : (was is : Core) (leaf : Leaf) (bytes : List ℕ) (result : Result Answer Refusal) → ImportsExport was is past now leaf bytes result → now ≡ past
  imported was is leaf bytes (Ok answer) h = h.2.same
  imported was is leaf bytes (Err reason) h = h.1.same

  at_rank : (here : Bool) (result : Result Answer Refusal) {done Same : Type 0} → (Same → new ≡ old) → (done → now ≡ past) → MatchBool here done ((result ≡ Err NotAuthority) × Same × (now ≡ past)) → now ≡ past
  at_rank true result still go h = go h
  at_rank false result still go h = h.2

state_stays : (old new : Core) → new ≡ old → new.state ≡ old.state
state_stays old new same = ap (λ (c : Core). c.state) same

adds_at_serve : (old new : Core) (past now : List Entry) (result : Result Answer Refusal) (event : Event) → Does old new past now result event → AddsAtServe event past now
adds_at_serve old new past now result (Arrive rank request) h = at_rank old.state new.state past now (nat_lt rank.0 (length old.state.inboxes)) result (state_stays old new) (λ w. arrived old.state new.state past now rank request result w) h
adds_at_serve old new past now result (Serve rank) h = tt
adds_at_serve old new past now result (Grant rank client tid) h =
    at_rank old.state new.state past now (nat_lt rank.0 (length old.state.inboxes)) result (state_stays old new) (λ w. granted old.state new.state past now (TreeMayRefuse old new) rank client tid result (first_waiting client tid old.state.inboxes) w) h
adds_at_serve old new past now result (Split rank dir f nb) h =
    at_rank old.state new.state past now (nat_lt rank.0 (length old.state.inboxes)) result (state_stays old new) (λ w. administered old.state new.state past now told_nothing (SplitsLeaf old new rank dir f nb) result w) h
adds_at_serve old new past now result (Merge rank dir f) h =
    at_rank old.state new.state past now (nat_lt rank.0 (length old.state.inboxes)) result (state_stays old new) (λ w. administered old.state new.state past now told_nothing (MergesLeaves old new rank dir f) result w) h
adds_at_serve old new past now result (CommitBegin rank dir f) h =
    at_rank old.state new.state past now (nat_lt rank.0 (length old.state.inboxes)) result (state_stays old new) (λ w. administered old.state new.state past now told_job (BeginsAt old.state new.state rank (dir, f)) result w.0) h
adds_at_serve old new past now result (CommitEnd encoded) h = administered old.state new.state past now told_nothing (EndsJobOf old.state.tree new.state.tree old.faults new.faults encoded.job) result h.0
adds_at_serve old new past now result (CommitDrop number) h = administered old.state new.state past now told_nothing (Drops old.state.tree new.state.tree number) result h.0
adds_at_serve old new past now result (CommitTree dir) h = administered old.state new.state past now told_nothing (SavesTree old.state.tree new.state.tree old.faults new.faults dir) result h.0
adds_at_serve old new past now result Purge h = administered old.state new.state past now told_nothing (Purges old.state.tree new.state.tree old.faults new.faults) result h.0
adds_at_serve old new past now result (Evict rank) h =
    at_rank old.state new.state past now (nat_lt rank.0 (length old.state.inboxes)) result (state_stays old new) (λ w. administered old.state new.state past now told_nothing (EvictsOne old new rank) result w.0) h
adds_at_serve old new past now result (Start from dir f to) h =
    at_rank old.state new.state past now (nat_lt from.0 (length old.state.inboxes)) result (state_stays old new)
    (λ w. at_rank old.state new.state past now (nat_lt to.0 (length old.state.inboxes)) result (state_stays old new) (λ d. exported old.state new.state past now old new (StartsIn old.state new.state from (dir, f) to) result d) w) h
adds_at_serve old new past now result (Freeze dir f) h = exported old.state new.state past now old new (FreezesIn old.state new.state (dir, f)) result h
adds_at_serve old new past now result (Prep dir f) h = exported old.state new.state past now old new (PrepsIn old.state new.state (dir, f)) result h
adds_at_serve old new past now result (Send dir f) h = sent old.state new.state past now old new (dir, f) result h
adds_at_serve old new past now result (Import dir f bytes) h = imported old.state new.state past now old new (dir, f) bytes result h
adds_at_serve old new past now result (Finish dir f) h = exported old.state new.state past now old new (FinishesIn old.state new.state (dir, f)) result h
adds_at_serve old new past now result (Cancel dir f) h = exported old.state new.state past now old new (CancelsAt old.state new.state (dir, f)) result h

-- what one step makes of the history
pub records_of : (old new : Core) (past now : List Entry) (result : Result Answer Refusal) (event : Event) → Steps old new past now result event → Records event past now result
records_of old new past now result event h =
    let w = step_of old new past now result event h.does in
    record { adds = w.adds; at_serve = adds_at_serve old new past now result event h.does; told = w.told }
