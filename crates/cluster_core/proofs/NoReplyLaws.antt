-- Of all events a rank's serving alone is answered with a reply.
use Rattle.cluster_core.proofs.Common.{Administers, Answer, Arrive, ArrivesAt, BeginsAt, Bool, Cancel, CancelsAt, CommitBegin, CommitDrop, CommitEnd, CommitTree, Core, Does, Drops, EndsJobOf, Entry, Err, Event, Evict, EvictsOne, Exports, Finish, FinishesIn, Freeze, FreezesIn, Grant, GrantsFirst, Import, ImportsExport, Leaf, List, MatchBool, TreeMayRefuse, Merge, MergesLeaves, None, NotAuthority, Nothing, Ok, Op, Option, Prep, PrepsIn, Purge, Purges, Rank, Refusal, Request, Result, SavesTree, Send, SendsExport, Sent, Serve, Some, Split, SplitsLeaf, Start, StartsIn, State, [], ap, false, first_waiting, length, nat_lt, receipt_of, refl, told_job, told_nothing, true, ℕ, ◌∙◌, ◌≡◌}
use Rattle.cached_frag.specs.declared.jobs.Job.{Job as Begun}

abbrev NoReply : Result Answer Refusal → Type 0
NoReply result = receipt_of result ≡ []

-- what is told of an event: no reply, unless it is a rank's serving
abbrev pub TellsNone : Event → Result Answer Refusal → Type 0
TellsNone (Serve rank) result = Unit {0}
TellsNone other result = receipt_of result ≡ []

none_of : (answer is : Answer) → answer ≡ is → receipt_of (Ok is) ≡ [] → NoReply (Ok answer)
none_of answer is same none = ap (λ (a : Answer). receipt_of (Ok a)) same ∙ none

module _ (old new : State) (past now : List Entry) where
  arrived : (rank : Rank) (request : Request) (result : Result Answer Refusal) → ArrivesAt old new past now rank request result → NoReply result
  arrived rank request (Ok answer) h = none_of answer Nothing h.0 refl
  arrived rank request (Err reason) h = refl

  granted : (MayRefuse : Op → Refusal → Type 0) (rank : Rank) (client tid : ℕ) (result : Result Answer Refusal) (found : Option Request) → GrantsFirst old new past now MayRefuse rank client tid result found → NoReply result
  granted MayRefuse rank client tid result None h = ap receipt_of h.0
  granted MayRefuse rank client tid (Ok answer) (Some request) h = none_of answer Nothing h.answered refl
  granted MayRefuse rank client tid (Err reason) (Some request) h = refl

  administered : {X : Type 0} (told : X → Answer) (Did : Result X Refusal → Type 0) → ((given : X) → receipt_of (Ok (told given)) ≡ []) → (result : Result Answer Refusal) → Administers old new past now told Did result → NoReply result
  administered told Did none (Ok answer) h = none_of answer (told h.0) h.1 (none h.0)
  administered told Did none (Err reason) h = refl

  done : (Did : Result (Unit {0}) Refusal → Type 0) (result : Result Answer Refusal) → Administers old new past now told_nothing Did result → NoReply result
  done Did result h = administered told_nothing Did (λ given. refl) result h

  no_job : (job : Option Begun) → receipt_of (Ok (told_job job)) ≡ []
  no_job None = refl
  no_job (Some job) = refl

  begun : (Did : Result (Option Begun) Refusal → Type 0) (result : Result Answer Refusal) → Administers old new past now told_job Did result → NoReply result
  begun Did result h = administered told_job Did no_job result h

module _ (old new : Core) (past now : List Entry) where
  exported : (Did : Result (Unit {0}) Refusal → Type 0) (result : Result Answer Refusal) → Exports old new past now Did result → NoReply result
  exported Did (Ok answer) h = none_of answer Nothing h.0 refl
  exported Did (Err reason) h = refl

  sent : (leaf : Leaf) (result : Result Answer Refusal) → SendsExport old new past now leaf result → NoReply result
  sent leaf (Ok answer) h = none_of answer (Sent h.0) h.1 refl
  sent leaf (Err reason) h = refl

  imported : (leaf : Leaf) (bytes : List ℕ) (result : Result Answer Refusal) → ImportsExport old new past now leaf bytes result → NoReply result
  imported leaf bytes (Ok answer) h = none_of answer Nothing h.0 refl
  imported leaf bytes (Err reason) h = refl

  at_rank : (here : Bool) (result : Result Answer Refusal) {done : Type 0} → (done → NoReply result) → MatchBool here done ((result ≡ Err NotAuthority) × (new ≡ old) × (now ≡ past)) → NoReply result
  at_rank true result go h = go h
  at_rank false result go h = ap receipt_of h.0

  pub tells_none : (result : Result Answer Refusal) (event : Event) → Does old new past now result event → TellsNone event result
  tells_none result (Arrive rank request) h = at_rank (nat_lt rank.0 (length old.state.inboxes)) result (λ w. arrived old.state new.state past now rank request result w) h
  tells_none result (Serve rank) h = tt
  tells_none result (Grant rank client tid) h =
      at_rank (nat_lt rank.0 (length old.state.inboxes)) result (λ w. granted old.state new.state past now (TreeMayRefuse old new) rank client tid result (first_waiting client tid old.state.inboxes) w) h
  tells_none result (Split rank dir f nb) h = at_rank (nat_lt rank.0 (length old.state.inboxes)) result (λ w. done old.state new.state past now (SplitsLeaf old new rank dir f nb) result w) h
  tells_none result (Merge rank dir f) h = at_rank (nat_lt rank.0 (length old.state.inboxes)) result (λ w. done old.state new.state past now (MergesLeaves old new rank dir f) result w) h
  tells_none result (CommitBegin rank dir f) h =
      at_rank (nat_lt rank.0 (length old.state.inboxes)) result (λ w. begun old.state new.state past now (BeginsAt old.state new.state rank (dir, f)) result w.0) h
  tells_none result (CommitEnd encoded) h = done old.state new.state past now (EndsJobOf old.state.tree new.state.tree old.faults new.faults encoded.job) result h.0
  tells_none result (CommitDrop number) h = done old.state new.state past now (Drops old.state.tree new.state.tree number) result h.0
  tells_none result (CommitTree dir) h = done old.state new.state past now (SavesTree old.state.tree new.state.tree old.faults new.faults dir) result h.0
  tells_none result Purge h = done old.state new.state past now (Purges old.state.tree new.state.tree old.faults new.faults) result h.0
  tells_none result (Evict rank) h = at_rank (nat_lt rank.0 (length old.state.inboxes)) result (λ w. done old.state new.state past now (EvictsOne old new rank) result w.0) h
  tells_none result (Start from dir f to) h =
      at_rank (nat_lt from.0 (length old.state.inboxes)) result
      (λ w. at_rank (nat_lt to.0 (length old.state.inboxes)) result (λ d. exported (StartsIn old.state new.state from (dir, f) to) result d) w) h
  tells_none result (Freeze dir f) h = exported (FreezesIn old.state new.state (dir, f)) result h
  tells_none result (Prep dir f) h = exported (PrepsIn old.state new.state (dir, f)) result h
  tells_none result (Send dir f) h = sent (dir, f) result h
  tells_none result (Import dir f bytes) h = imported (dir, f) bytes result h
  tells_none result (Finish dir f) h = exported (FinishesIn old.state new.state (dir, f)) result h
  tells_none result (Cancel dir f) h = exported (CancelsAt old.state new.state (dir, f)) result h
