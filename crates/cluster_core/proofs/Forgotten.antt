-- What is forgotten stays so at every step, and what is kept of it is set aside.
use Rattle.cluster_core.proofs.Common.{Administers, Answer, AreSetAside, AreSettled, Arrive, ArrivesAt, BeginsAt, Bool, Cancel, CancelsAt, CommitBegin, CommitDrop, CommitEnd, CommitTree, Core, Does, Drops, EndsJobOf, Entry, Err, Event, Evict, EvictsOne, Exports, Finish, FinishesIn, Freeze, FreezesIn, Grant, GrantsFirst, Import, ImportsExport, IsApplied, IsLeft, IsLegalFrom, IsSound, IsSoundBehind, IsTableOf, Opening, StandsBehind, IsTakenOut, IsUnseen, KeepsSettled, KeptState, after_from, places_of, Leaf, List, MatchBool, TreeMayRefuse, Merge, MergesLeaves, None, NotAuthority, Ok, Op, Option, Prep, PrepsIn, Purge, Purges, Rank, Refusal, Request, Result, SavesTree, Send, SendsExport, Serve, ServesInbox, ServesRequest, Some, Split, SplitsLeaf, Start, StartsIn, State, Table, Tree, [], ap, append_assoc, arith, drop, entry_of, false, first_waiting, inl, inr, length, length-append, list_any, nat_lt, told_nothing, refl, shown, subst, sym, take, told_job, true, waiting_at, with_entry, ℕ, ◌++◌, ◌+◌, ◌<◌, ◌≤◌, ◌∙◌, ◌∷◌, ◌≡◌, ◌⊎◌, offer, cond, outcome_of, supply_of}
use Rattle.mds_types.specs.History.{after, IsKeptAt, IsTrimmed, is_pair, mark}
use Rattle.mds_types.specs.declared.ids.Ino.{Ino}
use Rattle.mds_types.specs.declared.ids.Rank.{Rank as RankNumber}
use Rattle.sessions.proofs.AsideLaws.{aside_push, forgot_all}
use Rattle.sessions.specs.Aside.{forget_all}
use Rattle.cluster_core.specs.Settled.{IsCalmOp}
use Rattle.std.proofs.Common.{IfSome, ap₂, eq-eqb, suc, zero, ⊎_elim, ◌&&◌}
use Rattle.std.proofs.lemmas.Bool.{cases_lt}
use Rattle.std.proofs.lemmas.List.{drop-append-le, get_or_default, length-drop, take-append-drop}
use Rattle.cluster_core.specs.State.{with_sessions}
use Rattle.std.specs.List.{slice_index_or}
use Rattle.std.proofs.Math.Seq.{get_or-append-add}

-- the whole history has as many entries as there ever were
pub places_behind : (opening : Opening) (past : List Entry) (book : KeptState) → StandsBehind opening past book → length (past ++ book.history) ≡ places_of book
places_behind opening past book goes = length-append past book.history ∙ ap (λ n. n + length book.history) goes.behind.aside.before

-- ---- a step

-- a new request was applied at a rank, and is noted with the place of its entry
pub record IsNotedLast (past now : List Entry) (old : State) (sessions : Table) : Type 0 where
  pub entry : Entry
  pub fresh : list_any (is_pair entry.client entry.tid) past ≡ false
  pub grown : now ≡ past ++ entry ∷ []
  pub noted : sessions ≡ with_entry old.sessions (length past) entry
  pub rank : RankNumber
  pub there : nat_lt rank.0 (length old.inboxes) ≡ true
  pub number : (n : Ino) → entry.number ≡ Some n → offer (supply_of old rank) ≡ Some n

-- what becomes of the history and of the sessions: nothing, or that
abbrev pub GrowsByOne : (past now : List Entry) → (old : State) → (sessions : Table) → Type 0
GrowsByOne past now old sessions = ((now ≡ past) × (sessions ≡ old.sessions)) ⊎ IsNotedLast past now old sessions

-- a number that an entry has was offered
offered_by : (takes : Bool) (given : Option Ino) (n : Ino) → cond {A = Option Ino} takes given None ≡ Some n → given ≡ Some n
offered_by true given n is = is
offered_by false given n is = cc

module _ (past now : List Entry) (old new : Core) where
  abbrev Grows : Type 0
  Grows = GrowsByOne past now old.state new.state.sessions

  left : IsLeft old.state new.state past now → Grows
  left h = inl (h.same, ap (λ (s : State). s.sessions) h.left)

  out : (rank : Rank) (request : Request) (rest : List Request) → IsTakenOut old.state new.state past now rank request rest → Grows
  out rank request rest h = inl (h.same, ap (λ (s : State). s.sessions) h.left)

  unseen : IsUnseen old.state new.state past now → Grows
  unseen h = inl (h.same, ap (λ (s : State). s.sessions) h.left)

  arrived : (rank : Rank) (request : Request) (result : Result Answer Refusal) → ArrivesAt old.state new.state past now rank request result → Grows
  arrived rank request (Ok answer) h = inl (h.3, ap (λ (s : State). s.sessions) h.2)
  arrived rank request (Err reason) h = left h.2

  applied : (rank : Rank) → nat_lt rank.0 (length old.state.inboxes) ≡ true → (request : Request) (rest : List Request) (answer : Answer) → IsApplied old.state new.state past now rank request rest answer → Grows
  applied rank there request rest answer h = inr (record {
    entry = entry_of old.state rank request;
    fresh = h.is_new.absent;
    grown = h.appended;
    noted = ap (λ (s : State). s.sessions) h.left;
    rank = rank;
    there = there;
    number = offered_by (outcome_of old.state rank request).takes (offer (supply_of old.state rank));
  })

  module _ (TreeMayRefuse : Op → Refusal → Type 0) (rank : Rank) (there : nat_lt rank.0 (length old.state.inboxes) ≡ true) where
    served : (request : Request) (rest : List Request) (result : Result Answer Refusal) → ServesRequest old.state new.state past now TreeMayRefuse rank request rest result → Grows
    served request rest (Ok answer) (inl h) = applied rank there request rest answer h
    served request rest (Ok answer) (inr (inl h)) = out rank request rest h.out
    served request rest (Ok answer) (inr (inr (inl h))) = inl (h.same, ap (λ (s : State). s.sessions) h.left)
    served request rest (Ok answer) (inr (inr (inr h))) = inl (h.same, ap (λ (s : State). s.sessions) h.left)
    served request rest (Err reason) (inl h) = out rank request rest h.2
    served request rest (Err reason) (inr (inl h)) = out rank request rest h.3
    served request rest (Err reason) (inr (inr (inl h))) = left h.2
    served request rest (Err reason) (inr (inr (inr (inl h)))) = left h.2
    served request rest (Err reason) (inr (inr (inr (inr h)))) = left h.3

    served_inbox : (result : Result Answer Refusal) (inbox : List Request) → ServesInbox old.state new.state past now TreeMayRefuse rank result inbox → Grows
    served_inbox result [] h = left h.1
    served_inbox result (request ∷ rest) h = served request rest result h

  granted : (TreeMayRefuse : Op → Refusal → Type 0) (rank : Rank) (client tid : ℕ) (result : Result Answer Refusal) (found : Option Request) → GrantsFirst old.state new.state past now TreeMayRefuse rank client tid result found → Grows
  granted TreeMayRefuse rank client tid result None h = left h.1
  granted TreeMayRefuse rank client tid (Ok answer) (Some request) h = inl (h.same, ap (λ (s : State). s.sessions) h.left)
  granted TreeMayRefuse rank client tid (Err reason) (Some request) h = left h.1

  administered : {X : Type 0} (told : X → Answer) (Did : Result X Refusal → Type 0) (result : Result Answer Refusal) → Administers old.state new.state past now told Did result → Grows
  administered told Did (Ok answer) h = unseen h.3
  administered told Did (Err reason) h = left h.1

  exported : (Did : Result (Unit {0}) Refusal → Type 0) (result : Result Answer Refusal) → Exports old new past now Did result → Grows
  exported Did (Ok answer) h = inl (h.2.same, ap (λ (s : State). s.sessions) h.2.left)
  exported Did (Err reason) h = left h.1

  sent : (leaf : Leaf) (result : Result Answer Refusal) → SendsExport old new past now leaf result → Grows
  sent leaf (Ok answer) h = inl (h.3.same, ap (λ (s : State). s.sessions) h.3.left)
  sent leaf (Err reason) h = left h.1

  imported : (leaf : Leaf) (bytes : List ℕ) (result : Result Answer Refusal) → ImportsExport old new past now leaf bytes result → Grows
  imported leaf bytes (Ok answer) h = inl (h.2.same, ap (λ (s : State). s.sessions) h.2.left)
  imported leaf bytes (Err reason) h = left h.1

  at_rank : (here : Bool) (result : Result Answer Refusal) {done : Type 0} → (here ≡ true → done → Grows) → MatchBool here done ((result ≡ Err NotAuthority) × (new ≡ old) × (now ≡ past)) → Grows
  at_rank true result go h = go refl h
  at_rank false result go h = inl (h.2, ap (λ (c : Core). c.state.sessions) h.1)

  pub grows_by_one : (result : Result Answer Refusal) (event : Event) → Does old new past now result event → Grows
  grows_by_one result (Arrive rank request) h = at_rank (nat_lt rank.0 (length old.state.inboxes)) result (λ is w. arrived rank request result w) h
  grows_by_one result (Serve rank) h = at_rank (nat_lt rank.0 (length old.state.inboxes)) result (λ is w. served_inbox (TreeMayRefuse old new) rank is result (waiting_at old.state.inboxes rank) w) h
  grows_by_one result (Grant rank client tid) h = at_rank (nat_lt rank.0 (length old.state.inboxes)) result (λ is w. granted (TreeMayRefuse old new) rank client tid result (first_waiting client tid old.state.inboxes) w) h
  grows_by_one result (Split rank dir f nb) h = at_rank (nat_lt rank.0 (length old.state.inboxes)) result (λ is w. administered told_nothing (SplitsLeaf old new rank dir f nb) result w) h
  grows_by_one result (Merge rank dir f) h = at_rank (nat_lt rank.0 (length old.state.inboxes)) result (λ is w. administered told_nothing (MergesLeaves old new rank dir f) result w) h
  grows_by_one result (CommitBegin rank dir f) h = at_rank (nat_lt rank.0 (length old.state.inboxes)) result (λ is done. administered told_job (BeginsAt old.state new.state rank (dir, f)) result done.0) h
  grows_by_one result (CommitEnd encoded) h = administered told_nothing (EndsJobOf old.state.tree new.state.tree old.faults new.faults encoded.job) result h.0
  grows_by_one result (CommitDrop number) h = administered told_nothing (Drops old.state.tree new.state.tree number) result h.0
  grows_by_one result (CommitTree dir) h = administered told_nothing (SavesTree old.state.tree new.state.tree old.faults new.faults dir) result h.0
  grows_by_one result Purge h = administered told_nothing (Purges old.state.tree new.state.tree old.faults new.faults) result h.0
  grows_by_one result (Evict rank) h = at_rank (nat_lt rank.0 (length old.state.inboxes)) result (λ is done. administered told_nothing (EvictsOne old new rank) result done.0) h
  grows_by_one result (Start from dir f to) h =
      at_rank (nat_lt from.0 (length old.state.inboxes)) result (λ is w. at_rank (nat_lt to.0 (length old.state.inboxes)) result (λ _ done. exported (StartsIn old.state new.state from (dir, f) to) result done) w) h
  grows_by_one result (Freeze dir f) h = exported (FreezesIn old.state new.state (dir, f)) result h
  grows_by_one result (Prep dir f) h = exported (PrepsIn old.state new.state (dir, f)) result h
  grows_by_one result (Send dir f) h = sent (dir, f) result h
  grows_by_one result (Import dir f bytes) h = imported (dir, f) bytes result h
  grows_by_one result (Finish dir f) h = exported (FinishesIn old.state new.state (dir, f)) result h
  grows_by_one result (Cancel dir f) h = exported (CancelsAt old.state new.state (dir, f)) result h

-- one beginning of two histories
pub behind_one : (gone a b : List Entry) → gone ++ a ≡ gone ++ b → a ≡ b
behind_one [] a b same = same
behind_one (e ∷ gone) a b same = behind_one gone a b (ap (drop 1) same)

-- what was set aside stays so
pub aside_step : (gone past now : List Entry) (old new : Core) (result : Result Answer Refusal) (event : Event) → Does old new (gone ++ past) (gone ++ now) result event → IsTableOf (gone ++ past) old.state.sessions
    → AreSetAside gone past old.state.sessions → AreSetAside gone now new.state.sessions
aside_step gone past now old new result event does tabled aside = go (grows_by_one (gone ++ past) (gone ++ now) old new result event does)
  where
    go : GrowsByOne (gone ++ past) (gone ++ now) old.state new.state.sessions → AreSetAside gone now new.state.sessions
    go (inl (same, known)) =
        subst (λ (t : Table). AreSetAside gone now t) (sym known) (subst (λ (h : List Entry). AreSetAside gone h old.state.sessions) (sym (behind_one gone now past same)) aside)
    go (inr h) =
        let grown : now ≡ past ++ h.entry ∷ [] = behind_one gone now (past ++ h.entry ∷ []) (h.grown ∙ append_assoc gone past (h.entry ∷ [])) in
        subst (λ (t : Table). AreSetAside gone now t) (sym h.noted)
        (subst (λ (l : List Entry). AreSetAside gone l (with_entry old.state.sessions (length (gone ++ past)) h.entry)) (sym grown) (aside_push gone past old.state.sessions h.entry tabled aside h.fresh))

-- ---- what is known of ranks

-- what the entries that aren't forgotten tell of it, all entries tell
drop_gone : (gone now : List Entry) → drop (length gone) (gone ++ now) ≡ now
drop_gone [] now = refl
drop_gone (e ∷ gone) now = drop_gone gone now

pub keeps_whole : (before after : List RankNumber) (may : Bool) (gone now : List Entry) (count : ℕ) → KeepsSettled before after may now count → KeepsSettled before after may (gone ++ now) (length gone + count)
keeps_whole before after may gone now count (inl (none, inl told)) = inl (none, inl told)
keeps_whole before after may gone now count (inl (none, inr (below, not))) =
    inl (none, inr (omega (arith, below, length-append gone now), λ e calm. not e (subst (λ (x : Entry). IsCalmOp x.op) (get_or-append-add gone now count e) calm)))
keeps_whole before after may gone now count (inr (same, not, entry)) = inr (
  same,
  not,
  λ earlier e long is.
      let few : length gone ≤ length earlier = omega (arith, long) in
      let rest : now ≡ drop (length gone) earlier ++ e ∷ [] = sym (drop_gone gone now) ∙ ap (drop (length gone)) is ∙ drop-append-le (length gone) earlier (e ∷ []) few in
      entry (drop (length gone) earlier) e (omega (arith, length-drop (length gone) earlier, long)) rest,
)

-- ---- a beginning is forgotten

-- other sessions, that are those of the history
pub sound_with : (opening : Opening) (history : List Entry) (core : Core) (sessions : Table) → IsTableOf history sessions → IsSound opening history core → IsSound opening history (with_sessions core sessions)
sound_with opening history core sessions kept sound = record {
  legal = sound.legal;
  replayed = sound.replayed;
  tree = sound.tree;
  subtrees = sound.subtrees;
  cached = record { unsaved = sound.cached.unsaved; places = sound.cached.places; held = sound.cached.held; orders = sound.cached.orders };
  exported = record { placed = sound.exported.placed; ranked = sound.exported.ranked; there = sound.exported.there; unbegun = sound.exported.unbegun };
  ranks = record { some = sound.ranks.some; inboxes = sound.ranks.inboxes; caches = sound.ranks.caches };
  supplied = sound.supplied;
  kept = kept;
}

pub settled_with : (core : Core) (sessions : Table) (ranks : List RankNumber) → AreSettled core.state ranks → AreSettled (with_sessions core sessions).state ranks
settled_with core sessions ranks settled rank has leaf to away = settled rank has leaf to (record { live = away.live; mine = away.mine; place = away.place; pin = away.pin; other = away.other; there = away.there })

-- the first entries are
pub forgets : (opening : Opening) (past history : List Entry) (core : Core) (n : ℕ) → IsSoundBehind opening past history core
    → IsSoundBehind opening (past ++ take n history) (drop n history) (with_sessions core (forget_all core.state.sessions (take n history)))
forgets opening past history core n behind =
    let parts : take n history ++ drop n history ≡ history = take-append-drop n history in
    let whole : past ++ (take n history ++ drop n history) ≡ past ++ history = ap (λ (l : List Entry). past ++ l) parts in
    let went = forgot_all past (take n history) (drop n history) core.state.sessions
    (subst (λ (l : List Entry). IsTableOf l core.state.sessions) (sym whole) behind.sound.kept)
    (subst (λ (l : List Entry). AreSetAside past l core.state.sessions) (sym parts) behind.aside) in
    let sessions = forget_all core.state.sessions (take n history) in
    record {
      sound = subst (λ (l : List Entry). IsSound opening l (with_sessions core sessions)) (sym whole ∙ sym (append_assoc past (take n history) (drop n history)))
          (sound_with opening (past ++ history) core sessions (subst (λ (l : List Entry). IsTableOf l sessions) whole went.0) behind.sound);
      aside = went.1;
    }

-- so is a book's history, with the tree that it opened with
pub book_forgets : (opening : Opening) (past : List Entry) (book : KeptState) (kept : Option Tree) (n : ℕ) → IfSome kept (λ tree. tree ≡ opening.tree) → StandsBehind opening past book
    → StandsBehind opening (past ++ take n book.history) (record { opening = kept; history = drop n book.history; core = with_sessions book.core (forget_all book.core.state.sessions (take n book.history)) })
book_forgets opening past book kept n opened goes = record { opened = opened; behind = forgets opening past book.history book.core n goes.behind }

-- where entries went the tree that the book opened with isn't kept any more
pub still_opened : (opening : Opening) (old new : Option Tree) (n : ℕ) → (n ≡ 0 → new ≡ old) → (0 < n → new ≡ None) → IfSome old (λ tree. tree ≡ opening.tree) → IfSome new (λ tree. tree ≡ opening.tree)
still_opened opening old new zero stays gone opened = subst (λ (o : Option Tree). IfSome o (λ tree. tree ≡ opening.tree)) (sym (stays refl)) opened
still_opened opening old new (suc n) stays gone opened = subst (λ (o : Option Tree). IfSome o (λ tree. tree ≡ opening.tree)) (sym (gone (omega arith))) tt

-- ---- in words of histories

pub one_history : (opening : Opening) (past : List Entry) (book : KeptState) → StandsBehind opening past book
    → IsLegalFrom book.core.state.tree.limit opening (past ++ book.history) × (shown book.core.state ≡ after_from book.core.state.tree.limit opening (past ++ book.history))
one_history opening past book goes = (goes.behind.sound.legal, goes.behind.sound.replayed)

pub none_is_new : (history : List Entry) (place oldest : ℕ) (e : Entry) → place < length history → e ≡ slice_index_or history place e
    → IsTrimmed history e.client e.tid oldest ⊎ IsKeptAt history e.client e.tid oldest place
none_is_new history place oldest e below is =
    ⊎_elim (λ low. inl (inl low)) (λ high. ⊎_elim (λ low. inl (inr low)) (λ own. inr (record { marked = high; own = own; at = record { in_range = below; pair = here } })) (cases_lt e.tid oldest)) (cases_lt e.tid (mark history e.client))
  where
    here : (d : Entry) → is_pair e.client e.tid (slice_index_or history place d) ≡ true
    here d =
        ap (is_pair e.client e.tid) (get_or_default history place d e below ∙ sym is)
        ∙ ap₂ (λ a b. a && b) (eq-eqb e.client e.client refl) (eq-eqb e.tid e.tid refl)
