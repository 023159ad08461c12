-- What waits, what is applied and what is answered is of what was sent.
use Rattle.cluster_core.proofs.Common.{Administers, Answer, Arrive, ArrivesAt, BeginsAt, Bool, Cancel, CancelsAt, CommitBegin, CommitDrop, CommitEnd, CommitTree, Contains, Core, Deferred, Does, Drops, EndsJobOf, Entry, Err, Event, Evict, EvictsOne, Exports, Finish, FinishesIn, Forwarded, Freeze, FreezesIn, Grant, GrantsFirst, Import, ImportsExport, Inboxes, InboxEmpty, IsApplied, IsAskedFor, IsDeferred, IsForwarded, IsLeft, IsRepeated, IsSent, IsTakenOut, Leaf, List, MatchBool, TreeMayRefuse, Merge, MergesLeaves, None, NotAuthority, Nothing, Ok, Op, Option, Prep, PrepsIn, Purge, Purges, Rank, Refusal, Reply, Request, Result, SavesTree, Send, SendsExport, Sent, Serve, ServesInbox, ServesRequest, Some, Split, SplitsLeaf, Start, StartsIn, State, [], ap, append-nil, arrival, entry_of, false, first_waiting, get_or, inl, inr, length, nat_lt, outcome_of, receipt_of, refl, set, slice_index_or, subst, suc, sym, told_job, told_nothing, true, waiting_at, waiting_in, with_waiting, zero, ℕ, ◌++◌, ◌∙◌, ◌∷◌, ◌≡◌}
use Rattle.std.specs.List.{AllByRecursion}
use Rattle.mds_types.specs.declared.replies.Reply.{Reply as Replied}
use Rattle.cached_frag.specs.declared.jobs.Job.{Job as Begun}
use Rattle.cluster_core.proofs.ListLaws.{all_append, all_back, all_front}

-- each request that waits is one of these
abbrev pub AreAmong : List Request → Inboxes → Type 0
AreAmong sent inboxes = AllByRecursion (λ inbox. AllByRecursion (Contains sent) inbox) inboxes

waits_at : (sent : List Request) (inboxes : Inboxes) (n : ℕ) → AreAmong sent inboxes → AllByRecursion (Contains sent) (get_or inboxes n [])
waits_at sent [] n h = tt
waits_at sent (inbox ∷ inboxes) zero h = h.0
waits_at sent (inbox ∷ inboxes) (suc n) h = waits_at sent inboxes n h.1

set_among : (sent : List Request) (inboxes : Inboxes) (n : ℕ) (inbox : List Request) → AreAmong sent inboxes → AllByRecursion (Contains sent) inbox → AreAmong sent (set inboxes n inbox)
set_among sent [] n inbox h has = tt
set_among sent (other ∷ inboxes) zero inbox h has = (has, h.1)
set_among sent (other ∷ inboxes) (suc n) inbox h has = (h.0, set_among sent inboxes n inbox h.1 has)

last_among : (sent : List Request) (inboxes : Inboxes) (rank : Rank) (request : Request) → AreAmong sent inboxes → Contains sent request → AreAmong sent (with_waiting inboxes rank (waiting_at inboxes rank ++ request ∷ []))
last_among sent inboxes rank request h has =
    set_among sent inboxes rank.0 (waiting_at inboxes rank ++ request ∷ []) h (all_append (Contains sent) (waiting_at inboxes rank) (request ∷ []) (waits_at sent inboxes rank.0 h) (has, tt))

-- inbox by inbox, and all in one list
pub nested : (sent : List Request) (inboxes : Inboxes) → AllByRecursion (Contains sent) (waiting_in inboxes) → AreAmong sent inboxes
nested sent [] h = tt
nested sent (inbox ∷ inboxes) h = (all_front (Contains sent) inbox (waiting_in inboxes) h, nested sent inboxes (all_back (Contains sent) inbox (waiting_in inboxes) h))

pub in_one : (sent : List Request) (inboxes : Inboxes) → AreAmong sent inboxes → AllByRecursion (Contains sent) (waiting_in inboxes)
in_one sent [] h = tt
in_one sent (inbox ∷ inboxes) h = all_append (Contains sent) inbox (waiting_in inboxes) h.0 (in_one sent inboxes h.1)

-- what a step leaves, where all that waited and what it brings are of these requests: what waits is, so is the entry that
-- it adds, and what it answers
pub record IsOfSent (sent : List Request) (past now : List Entry) (inboxes : Inboxes) (result : Result Answer Refusal) : Type 0 where
  pub waits : AreAmong sent inboxes
  pub more : List Entry
  pub grows : now ≡ past ++ more
  pub asked : AllByRecursion (IsSent sent) more
  pub asked_for : AllByRecursion (IsAskedFor sent) (receipt_of result)

module _ (sent : List Request) (old new : Core) (past now : List Entry) (among : AreAmong sent old.state.inboxes) where
  abbrev Leaves : Result Answer Refusal → Type 0
  Leaves result = IsOfSent sent past now new.state.inboxes result

  told_none : (answer is : Answer) → answer ≡ is → receipt_of (Ok answer) ≡ receipt_of (Ok is)
  told_none answer is same = ap (λ (a : Answer). receipt_of (Ok a)) same

  -- nothing is applied, and nothing answered
  quiet : (result : Result Answer Refusal) → now ≡ past → AreAmong sent new.state.inboxes → receipt_of result ≡ [] → Leaves result
  quiet result same waits none = record {
    waits = waits;
    more = [];
    grows = same ∙ sym (append-nil past);
    asked = tt;
    asked_for = subst (AllByRecursion (IsAskedFor sent)) (sym none) tt;
  }

  now_are : (inboxes : Inboxes) → new.state.inboxes ≡ inboxes → AreAmong sent inboxes → AreAmong sent new.state.inboxes
  now_are inboxes is h = subst (λ (i : Inboxes). AreAmong sent i) (sym is) h

  still : new.state.inboxes ≡ old.state.inboxes → AreAmong sent new.state.inboxes
  still same = now_are old.state.inboxes same among

  left : (reason : Refusal) → IsLeft old.state new.state past now → Leaves (Err reason)
  left reason h = quiet (Err reason) h.same (still (ap (λ (s : State). s.inboxes) h.left)) refl

  arrived : (rank : Rank) (request : Request) (result : Result Answer Refusal) → Contains sent request → ArrivesAt old.state new.state past now rank request result → Leaves result
  arrived rank request (Ok answer) has h =
      quiet (Ok answer) h.3 (now_are _ (ap (λ (s : State). s.inboxes) h.2) (last_among sent old.state.inboxes rank request among has)) (told_none answer Nothing h.0)
  arrived rank request (Err reason) has h = left reason h.2

  module _ (MayRefuse : Op → Refusal → Type 0) (rank : Rank) (request : Request) (rest : List Request) (is : waiting_at old.state.inboxes rank ≡ request ∷ rest) where
    has : Contains sent request × AllByRecursion (Contains sent) rest
    has = subst (AllByRecursion (Contains sent)) is (waits_at sent old.state.inboxes rank.0 among)

    rest_among : AreAmong sent (with_waiting old.state.inboxes rank rest)
    rest_among = set_among sent old.state.inboxes rank.0 rest among has.1

    out : IsTakenOut old.state new.state past now rank request rest → AreAmong sent new.state.inboxes
    out h = now_are _ (ap (λ (s : State). s.inboxes) h.left) rest_among

    one_answer : (place : ℕ) (first : Bool) (reply : Replied) → AllByRecursion (IsAskedFor sent) (receipt_of (Ok (Reply request.client request.tid place first reply)))
    one_answer place first reply = ((request, has.0, refl, refl), tt)

    answer_is : (answer : Answer) (place : ℕ) (first : Bool) (reply : Replied) → answer ≡ Reply request.client request.tid place first reply → AllByRecursion (IsAskedFor sent) (receipt_of (Ok answer))
    answer_is answer place first reply same = subst (λ (a : Answer). AllByRecursion (IsAskedFor sent) (receipt_of (Ok a))) (sym same) (one_answer place first reply)

    applied : (answer : Answer) → IsApplied old.state new.state past now rank request rest answer → Leaves (Ok answer)
    applied answer h = record {
      waits = now_are _ (ap (λ (s : State). s.inboxes) h.left) rest_among;
      more = entry_of old.state rank request ∷ [];
      grows = h.appended;
      asked = (has.0, tt);
      asked_for = answer_is answer (length past) true (outcome_of old.state rank request).reply h.answered;
    }

    repeated : (answer : Answer) → IsRepeated old.state new.state past now rank request rest answer → Leaves (Ok answer)
    repeated answer h =
        let entry = entry_of old.state rank request in
        record {
          waits = out h.out;
          more = [];
          grows = h.out.same ∙ sym (append-nil past);
          asked = tt;
          asked_for = answer_is answer h.place false (slice_index_or past h.place entry).reply (h.answered entry);
        }

    forwarded : (answer : Answer) → IsForwarded old.state new.state past now rank request rest answer → Leaves (Ok answer)
    forwarded answer h =
        quiet (Ok answer) h.same (now_are _ (ap (λ (s : State). s.inboxes) h.left) (last_among sent (with_waiting old.state.inboxes rank rest) h.master request rest_among has.0)) (told_none answer (Forwarded h.master) h.answered)

    deferred : (answer : Answer) → IsDeferred old.state new.state past now rank request rest answer → Leaves (Ok answer)
    deferred answer h =
        quiet (Ok answer) h.same (now_are _ (ap (λ (s : State). s.inboxes) h.left) (set_among sent old.state.inboxes rank.0 (rest ++ request ∷ []) among (all_append (Contains sent) rest (request ∷ []) has.1 (has.0, tt)))) (told_none answer Deferred h.answered)

    served : (result : Result Answer Refusal) → ServesRequest old.state new.state past now MayRefuse rank request rest result → Leaves result
    served (Ok answer) (inl h) = applied answer h
    served (Ok answer) (inr (inl h)) = repeated answer h
    served (Ok answer) (inr (inr (inl h))) = forwarded answer h
    served (Ok answer) (inr (inr (inr h))) = deferred answer h
    served (Err reason) (inl h) = quiet (Err reason) h.2.same (out h.2) refl
    served (Err reason) (inr (inl h)) = quiet (Err reason) h.3.same (out h.3) refl
    served (Err reason) (inr (inr (inl h))) = left reason h.2
    served (Err reason) (inr (inr (inr (inl h)))) = left reason h.2
    served (Err reason) (inr (inr (inr (inr h)))) = left reason h.3

  served_inbox : (MayRefuse : Op → Refusal → Type 0) (rank : Rank) (result : Result Answer Refusal) (inbox : List Request) → waiting_at old.state.inboxes rank ≡ inbox → ServesInbox old.state new.state past now MayRefuse rank result inbox → Leaves result
  served_inbox MayRefuse rank result [] is h = subst (λ (r : Result Answer Refusal). Leaves r) (sym h.0) (left InboxEmpty h.1)
  served_inbox MayRefuse rank result (request ∷ rest) is h = served MayRefuse rank request rest is result h

  granted : (MayRefuse : Op → Refusal → Type 0) (rank : Rank) (client tid : ℕ) (result : Result Answer Refusal) (found : Option Request) → GrantsFirst old.state new.state past now MayRefuse rank client tid result found → Leaves result
  granted MayRefuse rank client tid result None h = subst (λ (r : Result Answer Refusal). Leaves r) (sym h.0) (left InboxEmpty h.1)
  granted MayRefuse rank client tid (Ok answer) (Some request) h = quiet (Ok answer) h.same (still (ap (λ (s : State). s.inboxes) h.left)) (told_none answer Nothing h.answered)
  granted MayRefuse rank client tid (Err reason) (Some request) h = left reason h.1

  -- what administrators do brings no request, and tells no reply
  administered : {X : Type 0} (told : X → Answer) (Did : Result X Refusal → Type 0) → ((given : X) → receipt_of (Ok (told given)) ≡ []) → (result : Result Answer Refusal) → Administers old.state new.state past now told Did result → Leaves result
  administered told Did none (Ok answer) h =
      quiet (Ok answer) h.3.same (still (ap (λ (s : State). s.inboxes) h.3.left)) (told_none answer (told h.0) h.1 ∙ none h.0)
  administered told Did none (Err reason) h = left reason h.1

  done : (Did : Result (Unit {0}) Refusal → Type 0) (result : Result Answer Refusal) → Administers old.state new.state past now told_nothing Did result → Leaves result
  done Did result h = administered told_nothing Did (λ given. refl) result h

  no_reply : (job : Option Begun) → receipt_of (Ok (told_job job)) ≡ []
  no_reply None = refl
  no_reply (Some job) = refl

  begun : (Did : Result (Option Begun) Refusal → Type 0) (result : Result Answer Refusal) → Administers old.state new.state past now told_job Did result → Leaves result
  begun Did result h = administered told_job Did no_reply result h

  exported : (Did : Result (Unit {0}) Refusal → Type 0) (result : Result Answer Refusal) → Exports old new past now Did result → Leaves result
  exported Did (Ok answer) h = quiet (Ok answer) h.2.same (still (ap (λ (s : State). s.inboxes) h.2.left)) (told_none answer Nothing h.0)
  exported Did (Err reason) h = left reason h.1

  sent_away : (leaf : Leaf) (result : Result Answer Refusal) → SendsExport old new past now leaf result → Leaves result
  sent_away leaf (Ok answer) h = quiet (Ok answer) h.3.same (still (ap (λ (s : State). s.inboxes) h.3.left)) (told_none answer (Sent h.0) h.1)
  sent_away leaf (Err reason) h = left reason h.1

  imported : (leaf : Leaf) (bytes : List ℕ) (result : Result Answer Refusal) → ImportsExport old new past now leaf bytes result → Leaves result
  imported leaf bytes (Ok answer) h = quiet (Ok answer) h.2.same (still (ap (λ (s : State). s.inboxes) h.2.left)) (told_none answer Nothing h.0)
  imported leaf bytes (Err reason) h = left reason h.1

  at_rank : (here : Bool) (result : Result Answer Refusal) {done : Type 0} → (done → Leaves result) → MatchBool here done ((result ≡ Err NotAuthority) × (new ≡ old) × (now ≡ past)) → Leaves result
  at_rank true result go h = go h
  at_rank false result go h =
      subst (λ (r : Result Answer Refusal). Leaves r) (sym h.0) (left NotAuthority (record { same = h.2; left = ap (λ (c : Core). c.state) h.1 }))

  -- what each event leaves
  pub of_sent : (result : Result Answer Refusal) (event : Event) → AllByRecursion (Contains sent) (arrival event) → Does old new past now result event → Leaves result
  of_sent result (Arrive rank request) brings h = at_rank (nat_lt rank.0 (length old.state.inboxes)) result (λ w. arrived rank request result brings.0 w) h
  of_sent result (Serve rank) brings h =
      at_rank (nat_lt rank.0 (length old.state.inboxes)) result (λ w. served_inbox (TreeMayRefuse old new) rank result (waiting_at old.state.inboxes rank) refl w) h
  of_sent result (Grant rank client tid) brings h =
      at_rank (nat_lt rank.0 (length old.state.inboxes)) result (λ w. granted (TreeMayRefuse old new) rank client tid result (first_waiting client tid old.state.inboxes) w) h
  of_sent result (Split rank dir f nb) brings h = at_rank (nat_lt rank.0 (length old.state.inboxes)) result (λ w. done (SplitsLeaf old new rank dir f nb) result w) h
  of_sent result (Merge rank dir f) brings h = at_rank (nat_lt rank.0 (length old.state.inboxes)) result (λ w. done (MergesLeaves old new rank dir f) result w) h
  of_sent result (CommitBegin rank dir f) brings h =
      at_rank (nat_lt rank.0 (length old.state.inboxes)) result (λ w. begun (BeginsAt old.state new.state rank (dir, f)) result w.0) h
  of_sent result (CommitEnd encoded) brings h = done (EndsJobOf old.state.tree new.state.tree old.faults new.faults encoded.job) result h.0
  of_sent result (CommitDrop number) brings h = done (Drops old.state.tree new.state.tree number) result h.0
  of_sent result (CommitTree dir) brings h = done (SavesTree old.state.tree new.state.tree old.faults new.faults dir) result h.0
  of_sent result Purge brings h = done (Purges old.state.tree new.state.tree old.faults new.faults) result h.0
  of_sent result (Evict rank) brings h = at_rank (nat_lt rank.0 (length old.state.inboxes)) result (λ w. done (EvictsOne old new rank) result w.0) h
  of_sent result (Start from dir f to) brings h =
      at_rank (nat_lt from.0 (length old.state.inboxes)) result
      (λ w. at_rank (nat_lt to.0 (length old.state.inboxes)) result (λ d. exported (StartsIn old.state new.state from (dir, f) to) result d) w) h
  of_sent result (Freeze dir f) brings h = exported (FreezesIn old.state new.state (dir, f)) result h
  of_sent result (Prep dir f) brings h = exported (PrepsIn old.state new.state (dir, f)) result h
  of_sent result (Send dir f) brings h = sent_away (dir, f) result h
  of_sent result (Import dir f bytes) brings h = imported (dir, f) bytes result h
  of_sent result (Finish dir f) brings h = exported (FinishesIn old.state new.state (dir, f)) result h
  of_sent result (Cancel dir f) brings h = exported (CancelsAt old.state new.state (dir, f)) result h
