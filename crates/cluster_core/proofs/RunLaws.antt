-- Whole runs: the history grows, and each reply that was handed out stands in it.
use Rattle.cluster_core.proofs.Common.{AddsTo, Administers, Answer, Arrive, ArrivesAt, BeginsAt, Bool, Cancel, CancelsAt, CommitBegin, CommitDrop, CommitEnd, CommitTree, Core, Deferred, Does, Drops, EndsJobOf, Entry, Err, Event, Evict, EvictsOne, Exports, Finish, FinishesIn, Forwarded, Freeze, FreezesIn, Grant, GrantsFirst, Import, ImportsExport, InboxEmpty, IsApplied, IsLeft, IsOfHistory, IsRepeated, IsRun, IsSoundBook, BookState, Leaf, List, MatchBool, TreeMayRefuse, Merge, MergesLeaves, None, NotAuthority, Nothing, Ok, Op, Option, Prep, PrepsIn, Purge, Purges, Rank, Refusal, Reply, Request, Result, Runs, SavesTree, Send, SendsExport, Sent, Serve, ServesInbox, ServesRequest, Some, Split, SplitsLeaf, StandsInHistory, Start, StartsIn, State, StepsBook, [], and_parts, ap, append-nil, append_assoc, arith, drop, drop_more, entry_of, eqb-true, false, first_waiting, get_or, get_or-append_seam, get_or_append_left, inl, inr, length, length-append, length-drop, nat_lt, told_nothing, refl, slice_index_or, subst, suc, sym, take, take_all, take_more, told_job, true, waiting_at, ℕ, ◌++◌, ◌+◌, ◌-◌, ◌<◌, ◌∙◌, ◌∷◌, ◌≡◌, ◌≤◌}
use Rattle.mds_types.specs.declared.replies.Reply.{Reply as Replied}
use Rattle.cached_frag.specs.declared.jobs.Job.{Job as Begun}
use Rattle.cluster_core.specs.Runs.{GoesOnFrom}

-- what one step leaves of the history, and what its answer says of it
pub record IsStepOf (past now : List Entry) (result : Result Answer Refusal) : Type 0 where
  pub grows : GoesOnFrom now past
  pub adds : AddsTo past now result
  pub told : IsOfHistory now result

unchanged : (past now : List Entry) → now ≡ past → GoesOnFrom now past
unchanged past now same = ([], same ∙ sym (append-nil past))

refused : (past now : List Entry) (reason : Refusal) → now ≡ past → IsStepOf past now (Err reason)
refused past now reason same = record { grows = unchanged past now same; adds = same; told = tt }

applied : (old new : State) (past now : List Entry) (rank : Rank) (request : Request) (rest : List Request) (answer : Answer) → IsApplied old new past now rank request rest answer → IsStepOf past now (Ok answer)
applied old new past now rank request rest answer h =
    let entry = entry_of old rank request in
    let last : (e : Entry) → slice_index_or now (length past) e ≡ entry = λ e. rw h.appended (get_or-append_seam past entry [] e) in
    record {
      grows = (entry ∷ [], h.appended);
      adds = subst (λ a. AddsTo past now (Ok a)) (sym h.answered) (entry, refl, h.appended);
      told =
          subst (λ a. IsOfHistory now (Ok a)) (sym h.answered) (record {
            in_range = rw h.appended (omega (arith, length-append past (entry ∷ [])));
            client_is = λ e. ap (λ (x : Entry). x.client) (last e);
            tid_is = λ e. ap (λ (x : Entry). x.tid) (last e);
            reply_is = λ e. ap (λ (x : Entry). x.reply) (last e);
          });
    }

-- one reply is told of a place, whatever stands for a place that isn't there
one_reply : (answer : Answer) (client tid place : ℕ) (r s : Replied) → answer ≡ Reply client tid place false r → answer ≡ Reply client tid place false s → r ≡ s
one_reply answer client tid place r s p q = let both : Reply client tid place false r ≡ Reply client tid place false s = sym p ∙ q in cc

repeated : (old new : State) (past now : List Entry) (rank : Rank) (request : Request) (rest : List Request) (answer : Answer) → IsRepeated old new past now rank request rest answer → IsStepOf past now (Ok answer)
repeated old new past now rank request rest answer h =
    let pair = λ (e : Entry). and_parts _ _ (h.kept.at.pair e) in
    record {
      grows = unchanged past now h.out.same;
      adds = subst (λ a. AddsTo past now (Ok a)) (sym (h.answered (entry_of old rank request))) h.out.same;
      told = subst (λ a. IsOfHistory now (Ok a)) (sym (h.answered (entry_of old rank request))) (rw h.out.same (record {
        in_range = h.kept.at.in_range;
        client_is = λ e. eqb-true _ _ (pair e).0;
        tid_is = λ e. eqb-true _ _ (pair e).1;
        reply_is = λ e. one_reply answer _ _ _ _ _ (h.answered e) (h.answered (entry_of old rank request));
      }));
    }

module _ (old new : State) (past now : List Entry) where
  left : (reason : Refusal) → IsLeft old new past now → IsStepOf past now (Err reason)
  left reason h = refused past now reason h.same

  -- an answer that is no reply
  quiet : (answer is : Answer) → answer ≡ is → AddsTo past now (Ok is) → IsOfHistory now (Ok is) → now ≡ past → IsStepOf past now (Ok answer)
  quiet answer is same adds told kept = record {
    grows = unchanged past now kept;
    adds = subst (λ a. AddsTo past now (Ok a)) (sym same) adds;
    told = subst (λ a. IsOfHistory now (Ok a)) (sym same) told;
  }

  arrived : (rank : Rank) (request : Request) (result : Result Answer Refusal) → ArrivesAt old new past now rank request result → IsStepOf past now result
  arrived rank request (Ok answer) h = quiet answer Nothing h.0 h.3 tt h.3
  arrived rank request (Err reason) h = left reason h.2

  module _ (TreeMayRefuse : Op → Refusal → Type 0) (rank : Rank) where
    served : (request : Request) (rest : List Request) (result : Result Answer Refusal) → ServesRequest old new past now TreeMayRefuse rank request rest result → IsStepOf past now result
    served request rest (Ok answer) (inl h) = applied old new past now rank request rest answer h
    served request rest (Ok answer) (inr (inl h)) = repeated old new past now rank request rest answer h
    served request rest (Ok answer) (inr (inr (inl h))) = quiet answer (Forwarded h.master) h.answered h.same tt h.same
    served request rest (Ok answer) (inr (inr (inr h))) = quiet answer Deferred h.answered h.same tt h.same
    served request rest (Err reason) (inl h) = refused past now reason h.2.same
    served request rest (Err reason) (inr (inl h)) = refused past now reason h.3.same
    served request rest (Err reason) (inr (inr (inl h))) = left reason h.2
    served request rest (Err reason) (inr (inr (inr (inl h)))) = left reason h.2
    served request rest (Err reason) (inr (inr (inr (inr h)))) = left reason h.3

    served_inbox : (result : Result Answer Refusal) (inbox : List Request) → ServesInbox old new past now TreeMayRefuse rank result inbox → IsStepOf past now result
    served_inbox result [] h = subst (IsStepOf past now) (sym h.0) (left InboxEmpty h.1)
    served_inbox result (request ∷ rest) h = served request rest result h

  granted : (TreeMayRefuse : Op → Refusal → Type 0) (rank : Rank) (client tid : ℕ) (result : Result Answer Refusal) (found : Option Request) → GrantsFirst old new past now TreeMayRefuse rank client tid result found → IsStepOf past now result
  granted TreeMayRefuse rank client tid result None h = subst (IsStepOf past now) (sym h.0) (left InboxEmpty h.1)
  granted TreeMayRefuse rank client tid (Ok answer) (Some request) h = quiet answer Nothing h.answered h.same tt h.same
  granted TreeMayRefuse rank client tid (Err reason) (Some request) h = left reason h.1

  -- an administrator's step adds told_nothing to the history, and what it tells is no reply
  administered : {X : Type 0} (told : X → Answer) (Did : Result X Refusal → Type 0) → ((given : X) → now ≡ past → AddsTo past now (Ok (told given)) × IsOfHistory now (Ok (told given)))
      → (result : Result Answer Refusal) → Administers old new past now told Did result → IsStepOf past now result
  administered told Did quiet_told (Ok answer) h =
      let w = quiet_told h.0 h.3.same in quiet answer (told h.0) h.1 w.0 w.1 h.3.same
  administered told Did quiet_told (Err reason) h = left reason h.1

  done : (Did : Result (Unit {0}) Refusal → Type 0) (result : Result Answer Refusal) → Administers old new past now told_nothing Did result → IsStepOf past now result
  done Did result h = administered told_nothing Did (λ given same. (same, tt)) result h

  -- so does a step of an export
  export_done : (old_core new_core : Core) → new_core.state ≡ new → old_core.state ≡ old → (Did : Result (Unit {0}) Refusal → Type 0) (result : Result Answer Refusal) → Exports old_core new_core past now Did result → IsStepOf past now result
  export_done old_core new_core is was Did (Ok answer) h = quiet answer Nothing h.0 h.2.same tt h.2.same
  export_done old_core new_core is was Did (Err reason) h = left reason (record { same = h.1.same; left = sym is ∙ h.1.left ∙ was })

  sent_done : (old_core new_core : Core) → new_core.state ≡ new → old_core.state ≡ old → (leaf : Leaf) (result : Result Answer Refusal) → SendsExport old_core new_core past now leaf result → IsStepOf past now result
  sent_done old_core new_core is was leaf (Ok answer) h = quiet answer (Sent h.0) h.1 h.3.same tt h.3.same
  sent_done old_core new_core is was leaf (Err reason) h = left reason (record { same = h.1.same; left = sym is ∙ h.1.left ∙ was })

  imported_done : (old_core new_core : Core) → new_core.state ≡ new → old_core.state ≡ old → (leaf : Leaf) (bytes : List ℕ) (result : Result Answer Refusal) → ImportsExport old_core new_core past now leaf bytes result → IsStepOf past now result
  imported_done old_core new_core is was leaf bytes (Ok answer) h = quiet answer Nothing h.0 h.2.same tt h.2.same
  imported_done old_core new_core is was leaf bytes (Err reason) h = left reason (record { same = h.1.same; left = sym is ∙ h.1.left ∙ was })

  job_is_no_reply : (job : Option Begun) → now ≡ past → AddsTo past now (Ok (told_job job)) × IsOfHistory now (Ok (told_job job))
  job_is_no_reply None same = (same, tt)
  job_is_no_reply (Some job) same = (same, tt)

  begun : (Did : Result (Option Begun) Refusal → Type 0) (result : Result Answer Refusal) → Administers old new past now told_job Did result → IsStepOf past now result
  begun Did result h = administered told_job Did job_is_no_reply result h

  at_rank : (here : Bool) (result : Result Answer Refusal) {done Same : Type 0} → (Same → new ≡ old) → (done → IsStepOf past now result) → MatchBool here done ((result ≡ Err NotAuthority) × Same × (now ≡ past)) → IsStepOf past now result
  at_rank true result still go h = go h
  at_rank false result still go h = subst (IsStepOf past now) (sym h.0) (left NotAuthority (record { same = h.2; left = still h.1 }))

state_stays : (old new : Core) → new ≡ old → new.state ≡ old.state
state_stays old new same = ap (λ (c : Core). c.state) same

-- one step adds to the history alone, and a reply that it hands out stands there
pub step_of : (old new : Core) (past now : List Entry) (result : Result Answer Refusal) (event : Event) → Does old new past now result event → IsStepOf past now result
step_of old new past now result (Arrive rank request) h = at_rank old.state new.state past now (nat_lt rank.0 (length old.state.inboxes)) result (state_stays old new) (λ w. arrived old.state new.state past now rank request result w) h
step_of old new past now result (Serve rank) h =
    at_rank old.state new.state past now (nat_lt rank.0 (length old.state.inboxes)) result (state_stays old new) (λ w. served_inbox old.state new.state past now (TreeMayRefuse old new) rank result (waiting_at old.state.inboxes rank) w) h
step_of old new past now result (Grant rank client tid) h =
    at_rank old.state new.state past now (nat_lt rank.0 (length old.state.inboxes)) result (state_stays old new) (λ w. granted old.state new.state past now (TreeMayRefuse old new) rank client tid result (first_waiting client tid old.state.inboxes) w) h
step_of old new past now result (Split rank dir f nb) h = at_rank old.state new.state past now (nat_lt rank.0 (length old.state.inboxes)) result (state_stays old new) (λ w. done old.state new.state past now (SplitsLeaf old new rank dir f nb) result w) h
step_of old new past now result (Merge rank dir f) h = at_rank old.state new.state past now (nat_lt rank.0 (length old.state.inboxes)) result (state_stays old new) (λ w. done old.state new.state past now (MergesLeaves old new rank dir f) result w) h
step_of old new past now result (CommitBegin rank dir f) h =
    at_rank old.state new.state past now (nat_lt rank.0 (length old.state.inboxes)) result (state_stays old new) (λ w. begun old.state new.state past now (BeginsAt old.state new.state rank (dir, f)) result w.0) h
step_of old new past now result (CommitEnd encoded) h = done old.state new.state past now (EndsJobOf old.state.tree new.state.tree old.faults new.faults encoded.job) result h.0
step_of old new past now result (CommitDrop number) h = done old.state new.state past now (Drops old.state.tree new.state.tree number) result h.0
step_of old new past now result (CommitTree dir) h = done old.state new.state past now (SavesTree old.state.tree new.state.tree old.faults new.faults dir) result h.0
step_of old new past now result Purge h = done old.state new.state past now (Purges old.state.tree new.state.tree old.faults new.faults) result h.0
step_of old new past now result (Evict rank) h = at_rank old.state new.state past now (nat_lt rank.0 (length old.state.inboxes)) result (state_stays old new) (λ w. done old.state new.state past now (EvictsOne old new rank) result w.0) h
step_of old new past now result (Start from dir f to) h =
    at_rank old.state new.state past now (nat_lt from.0 (length old.state.inboxes)) result (state_stays old new)
    (λ w. at_rank old.state new.state past now (nat_lt to.0 (length old.state.inboxes)) result (state_stays old new) (λ d. export_done old.state new.state past now old new refl refl (StartsIn old.state new.state from (dir, f) to) result d) w) h
step_of old new past now result (Freeze dir f) h = export_done old.state new.state past now old new refl refl (FreezesIn old.state new.state (dir, f)) result h
step_of old new past now result (Prep dir f) h = export_done old.state new.state past now old new refl refl (PrepsIn old.state new.state (dir, f)) result h
step_of old new past now result (Send dir f) h = sent_done old.state new.state past now old new refl refl (dir, f) result h
step_of old new past now result (Import dir f bytes) h = imported_done old.state new.state past now old new refl refl (dir, f) bytes result h
step_of old new past now result (Finish dir f) h = export_done old.state new.state past now old new refl refl (FinishesIn old.state new.state (dir, f)) result h
step_of old new past now result (Cancel dir f) h = export_done old.state new.state past now old new refl refl (CancelsAt old.state new.state (dir, f)) result h

-- what stands in a history stands in each that begins with it
pub still_stands : (past now : List Entry) (client tid place : ℕ) (reply : Replied) → GoesOnFrom now past → StandsInHistory past client tid place reply → StandsInHistory now client tid place reply
still_stands past now client tid place reply (rest, grown) h =
    let same : (e : Entry) → slice_index_or now place e ≡ slice_index_or past place e = λ e. rw grown (get_or_append_left past rest e place h.in_range) in
    record {
      in_range = rw grown (omega (arith, length-append past rest, h.in_range));
      client_is = λ e. ap (λ (x : Entry). x.client) (same e) ∙ h.client_is e;
      tid_is = λ e. ap (λ (x : Entry). x.tid) (same e) ∙ h.tid_is e;
      reply_is = λ e. ap (λ (x : Entry). x.reply) (same e) ∙ h.reply_is e;
    }

grown_twice : (a b c : List Entry) → GoesOnFrom b a → GoesOnFrom c b → GoesOnFrom c a
grown_twice a b c (p, e) (q, f) = (p ++ q, f ∙ ap (λ xs. xs ++ q) e ∙ append_assoc a p q)

-- a run keeps the opening
pub run_of : (start : BookState) (events : List Event) (results : List (Result Answer Refusal)) (end : BookState) → Runs start events results end → IsRun start events results end
run_of start [] [] end h = record { ran = h; same_opening = ap (λ (k : BookState). k.opening) h }
run_of start [] (result ∷ results) end h = absurd h
run_of start (event ∷ events) [] end h = absurd h
run_of start (event ∷ events) (result ∷ results) end (next, one, sound, more) =
    let others = run_of next events results end more in
    record { ran = (next, one, sound, more); same_opening = others.same_opening ∙ one.same_opening }

-- and its history begins with that of its start
pub run_grows : (start : BookState) (events : List Event) (results : List (Result Answer Refusal)) (end : BookState) → Runs start events results end → GoesOnFrom end.history start.history
run_grows start [] [] end h = unchanged start.history end.history (ap (λ (k : BookState). k.history) h)
run_grows start [] (result ∷ results) end h = absurd h
run_grows start (event ∷ events) [] end h = absurd h
run_grows start (event ∷ events) (result ∷ results) end (next, one, sound, more) =
    let first = step_of start.core next.core start.history next.history result event one.stepped.does in
    grown_twice start.history next.history end.history first.grows (run_grows next events results end more)

-- one event more
pub runs-push : (start middle end : BookState) (events : List Event) (results : List (Result Answer Refusal)) (result : Result Answer Refusal) (event : Event)
    → Runs start events results middle → StepsBook middle end result event → IsSoundBook end → Runs start (events ++ event ∷ []) (results ++ result ∷ []) end
runs-push start middle end [] [] result event h one sound = (end, subst (λ k. StepsBook k end result event) h one, sound, refl)
runs-push start middle end [] (r ∷ results) result event h one sound = absurd h
runs-push start middle end (e ∷ events) [] result event h one sound = absurd h
runs-push start middle end (e ∷ events) (r ∷ results) result event (next, first, good, more) one sound =
    (next, first, good, runs-push next middle end events results result event more one sound)

-- the first of what is left of a list
split_next : {A : Type 0} (n : ℕ) (xs : List A) (x : A) (rest : List A) → x ∷ rest ≡ drop n xs → (take (n + 1) xs ≡ take n xs ++ x ∷ []) × (rest ≡ drop (n + 1) xs)
split_next n xs x rest left =
    let long : suc (length rest) ≡ length xs - n = ap length left ∙ length-drop n xs in
    let below : n < length xs = omega arith in
    let e : x ∷ rest ≡ get_or xs n x ∷ drop (n + 1) xs = left ∙ drop_more xs n x below in
    let head : x ≡ get_or xs n x = cc in
    let tail : rest ≡ drop (n + 1) xs = cc in
    (take_more xs n x below ∙ ap (λ y. take n xs ++ y ∷ []) (sym head), tail)

-- one event more of those that are left
pub run_more : (start middle end : BookState) (events rest : List Event) (results new_results : List (Result Answer Refusal)) (result : Result Answer Refusal) (event : Event) (n m : ℕ)
    → Runs start (take n events) results middle → event ∷ rest ≡ drop n events → StepsBook middle end result event → IsSoundBook end → m ≡ n + 1 → new_results ≡ results ++ result ∷ []
    → Runs start (take m events) new_results end × (rest ≡ drop m events)
run_more start middle end events rest results new_results result event n m h left one sound more grown =
    let s = split_next n events event rest left in
    rw (more, grown) (rw s.0 (runs-push start middle end (take n events) results result event h one sound), s.1)

-- no event is left
pub run_all : (start end : BookState) (events : List Event) (results : List (Result Answer Refusal)) (n : ℕ) → Runs start (take n events) results end → length events ≤ n → Runs start events results end
run_all start end events results n h few = subst (λ es. Runs start es results end) (take_all n events few) h
