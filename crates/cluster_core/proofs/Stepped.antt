-- A book stays sound at every step.
use Rattle.cluster_core.proofs.Common.{Administers, Answer, AreCached, AreExported, AreRoots, Arrive, ArrivesAt, BeginsAt, Bool, Cancel, CancelsAt, CommitBegin, CommitDrop, CommitEnd, CommitTree, Core, Does, Drops, EndsJobOf, Entry, Err, Event, Evict, EvictsOne, Exports, Finish, FinishesIn, Freeze, FreezesIn, Grant, GrantsFirst, Import, ImportsExport, Inboxes, IsForwarded, IsSoundWith, IsLeft, IsSound, IsTakenOut, IsUnseen, Leaf, List, MatchBool, Opening, TreeMayRefuse, Merge, MergesLeaves, None, NotAuthority, Ok, Op, Option, Pin, Prep, PrepsIn, Purge, Purges, Rank, Refusal, Request, Result, SavesTree, Send, SendsExport, Serve, ServesInbox, ServesRequest, Some, Split, SplitsLeaf, Start, StartsIn, State, [], ap, false, first_waiting, inl, inr, length, length-set, nat_lt, told_nothing, refl, shown, told_job, true, waiting_at, with_waiting, ℕ, ◌++◌, ◌<◌, ◌∙◌, ◌∷◌, ◌≡◌}
use Rattle.cluster_core.proofs.Applied.{sound-applied}
use Rattle.cluster_core.proofs.Offered.{there_of}

module _ (opening : Opening) (past now : List Entry) (old new : Core) (sound : IsSound opening past old) (tree : IsSoundWith new.state.tree new.caches) (cached : AreCached new) (exported : AreExported new) (count : length new.caches.used ≡ length old.caches.used)
    (valid : AreRoots new.state.tree new.state.roots) (limit : new.state.tree.limit ≡ old.state.tree.limit) where
  -- the same history, and the same tree, numbers and sessions: what the inboxes have has no part in it
  pub sound-same : now ≡ past → shown new.state ≡ shown old.state → new.state.numbers ≡ old.state.numbers → length new.state.inboxes ≡ length old.state.inboxes → new.state.sessions ≡ old.state.sessions → IsSound opening now new
  sound-same same shown_same numbers_same inboxes_same sessions_same = record {
    legal = rw (limit, same) sound.legal;
    replayed = shown_same ∙ rw (limit, same) sound.replayed;
    tree = tree;
    subtrees = valid;
    cached = cached;
    exported = exported;
    ranks = record { some = rw numbers_same sound.ranks.some; inboxes = inboxes_same ∙ rw numbers_same sound.ranks.inboxes; caches = count ∙ rw numbers_same sound.ranks.caches };
    supplied = rw (numbers_same, same) sound.supplied;
    kept = rw (sessions_same, same) sound.kept;
  }

  -- so it is where the new state is the old one with other inboxes, of which there are as many
  sound-but : now ≡ past → (inboxes : Inboxes) (pins : List Pin) → length inboxes ≡ length old.state.inboxes → new.state ≡ record old.state { inboxes = inboxes; pins = pins } → IsSound opening now new
  sound-but same inboxes pins long left =
      sound-same same (ap shown left) (ap (λ (s : State). s.numbers) left) (ap (λ (s : State). length s.inboxes) left ∙ long) (ap (λ (s : State). s.sessions) left)

  sound-left : IsLeft old.state new.state past now → IsSound opening now new
  sound-left h = sound-but h.same old.state.inboxes old.state.pins refl h.left

  sound-out : (rank : Rank) (request : Request) (rest : List Request) → IsTakenOut old.state new.state past now rank request rest → IsSound opening now new
  sound-out rank request rest h = sound-but h.same _ _ (length-set old.state.inboxes rank.0 rest) h.left

  -- what administrators do is unseen
  unseen : IsUnseen old.state new.state past now → IsSound opening now new
  unseen h = sound-same h.same h.tree (ap (λ (s : State). s.numbers) h.left) (ap (λ (s : State). length s.inboxes) h.left) (ap (λ (s : State). s.sessions) h.left)

  arrived : (rank : Rank) (request : Request) (result : Result Answer Refusal) → ArrivesAt old.state new.state past now rank request result → IsSound opening now new
  arrived rank request (Ok answer) h = sound-but h.3 _ old.state.pins (length-set old.state.inboxes rank.0 (waiting_at old.state.inboxes rank ++ request ∷ [])) h.2
  arrived rank request (Err reason) h = sound-left h.2

  forwarded : (rank : Rank) (request : Request) (rest : List Request) (answer : Answer) → IsForwarded old.state new.state past now rank request rest answer → IsSound opening now new
  forwarded rank request rest answer h =
      let out = with_waiting old.state.inboxes rank rest in
      sound-but h.same _ old.state.pins (length-set out h.master.0 (waiting_at out h.master ++ request ∷ []) ∙ length-set old.state.inboxes rank.0 rest) h.left

  module _ (TreeMayRefuse : Op → Refusal → Type 0) (rank : Rank) (there : rank.0 < length old.state.numbers) where
    served : (request : Request) (rest : List Request) (result : Result Answer Refusal) → ServesRequest old.state new.state past now TreeMayRefuse rank request rest result → IsSound opening now new
    served request rest (Ok answer) (inl h) = sound-applied opening past now old new rank request rest answer there sound tree cached exported count valid limit h
    served request rest (Ok answer) (inr (inl h)) = sound-out rank request rest h.out
    served request rest (Ok answer) (inr (inr (inl h))) = forwarded rank request rest answer h
    served request rest (Ok answer) (inr (inr (inr h))) = sound-but h.same _ old.state.pins (length-set old.state.inboxes rank.0 (rest ++ request ∷ [])) h.left
    served request rest (Err reason) (inl h) = sound-out rank request rest h.2
    served request rest (Err reason) (inr (inl h)) = sound-out rank request rest h.3
    served request rest (Err reason) (inr (inr (inl h))) = sound-left h.2
    served request rest (Err reason) (inr (inr (inr (inl h)))) = sound-left h.2
    served request rest (Err reason) (inr (inr (inr (inr h)))) = sound-left h.3

    served_inbox : (result : Result Answer Refusal) (inbox : List Request) → ServesInbox old.state new.state past now TreeMayRefuse rank result inbox → IsSound opening now new
    served_inbox result [] h = sound-left h.1
    served_inbox result (request ∷ rest) h = served request rest result h

  granted : (TreeMayRefuse : Op → Refusal → Type 0) (rank : Rank) (client tid : ℕ) (result : Result Answer Refusal) (found : Option Request) → GrantsFirst old.state new.state past now TreeMayRefuse rank client tid result found → IsSound opening now new
  granted TreeMayRefuse rank client tid result None h = sound-left h.1
  granted TreeMayRefuse rank client tid (Ok answer) (Some request) h = sound-but h.same old.state.inboxes _ refl h.left
  granted TreeMayRefuse rank client tid (Err reason) (Some request) h = sound-left h.1

  administered : {X : Type 0} (told : X → Answer) (Did : Result X Refusal → Type 0) (result : Result Answer Refusal) → Administers old.state new.state past now told Did result → IsSound opening now new
  administered told Did (Ok answer) h = unseen h.3
  administered told Did (Err reason) h = sound-left h.1

  -- so is what the steps of an export do
  stepped : (Did : Result (Unit {0}) Refusal → Type 0) (result : Result Answer Refusal) → Exports old new past now Did result → IsSound opening now new
  stepped Did (Ok answer) h = sound-same h.2.same h.2.tree (ap (λ (s : State). s.numbers) h.2.left) (ap (λ (s : State). length s.inboxes) h.2.left) (ap (λ (s : State). s.sessions) h.2.left)
  stepped Did (Err reason) h = sound-left h.1

  sent : (leaf : Leaf) (result : Result Answer Refusal) → SendsExport old new past now leaf result → IsSound opening now new
  sent leaf (Ok answer) h = sound-same h.3.same h.3.tree (ap (λ (s : State). s.numbers) h.3.left) (ap (λ (s : State). length s.inboxes) h.3.left) (ap (λ (s : State). s.sessions) h.3.left)
  sent leaf (Err reason) h = sound-left h.1

  imported : (leaf : Leaf) (bytes : List ℕ) (result : Result Answer Refusal) → ImportsExport old new past now leaf bytes result → IsSound opening now new
  imported leaf bytes (Ok answer) h = sound-same h.2.same h.2.tree (ap (λ (s : State). s.numbers) h.2.left) (ap (λ (s : State). length s.inboxes) h.2.left) (ap (λ (s : State). s.sessions) h.2.left)
  imported leaf bytes (Err reason) h = sound-left h.1

  at_rank : (here : Bool) (result : Result Answer Refusal) {done : Type 0} → (here ≡ true → done → IsSound opening now new) → MatchBool here done ((result ≡ Err NotAuthority) × (new ≡ old) × (now ≡ past)) → IsSound opening now new
  at_rank true result go h = go refl h
  at_rank false result go h = sound-left (record { same = h.2; left = ap (λ (c : Core). c.state) h.1 })

  -- every step keeps a book sound
  pub sound-step : (result : Result Answer Refusal) (event : Event) → Does old new past now result event → IsSound opening now new
  sound-step result (Arrive rank request) h = at_rank (nat_lt rank.0 (length old.state.inboxes)) result (λ here w. arrived rank request result w) h
  sound-step result (Serve rank) h = at_rank (nat_lt rank.0 (length old.state.inboxes)) result (λ here w. served_inbox (TreeMayRefuse old new) rank (there_of old sound.ranks rank here) result (waiting_at old.state.inboxes rank) w) h
  sound-step result (Grant rank client tid) h = at_rank (nat_lt rank.0 (length old.state.inboxes)) result (λ here w. granted (TreeMayRefuse old new) rank client tid result (first_waiting client tid old.state.inboxes) w) h
  sound-step result (Split rank dir f nb) h = at_rank (nat_lt rank.0 (length old.state.inboxes)) result (λ here w. administered told_nothing (SplitsLeaf old new rank dir f nb) result w) h
  sound-step result (Merge rank dir f) h = at_rank (nat_lt rank.0 (length old.state.inboxes)) result (λ here w. administered told_nothing (MergesLeaves old new rank dir f) result w) h
  sound-step result (CommitBegin rank dir f) h = at_rank (nat_lt rank.0 (length old.state.inboxes)) result (λ here done. administered told_job (BeginsAt old.state new.state rank (dir, f)) result done.0) h
  sound-step result (CommitEnd encoded) h = administered told_nothing (EndsJobOf old.state.tree new.state.tree old.faults new.faults encoded.job) result h.0
  sound-step result (CommitDrop number) h = administered told_nothing (Drops old.state.tree new.state.tree number) result h.0
  sound-step result (CommitTree dir) h = administered told_nothing (SavesTree old.state.tree new.state.tree old.faults new.faults dir) result h.0
  sound-step result Purge h = administered told_nothing (Purges old.state.tree new.state.tree old.faults new.faults) result h.0
  sound-step result (Evict rank) h = at_rank (nat_lt rank.0 (length old.state.inboxes)) result (λ here done. administered told_nothing (EvictsOne old new rank) result done.0) h
  sound-step result (Start from dir f to) h =
      at_rank (nat_lt from.0 (length old.state.inboxes)) result (λ here w. at_rank (nat_lt to.0 (length old.state.inboxes)) result (λ there done. stepped (StartsIn old.state new.state from (dir, f) to) result done) w) h
  sound-step result (Freeze dir f) h = stepped (FreezesIn old.state new.state (dir, f)) result h
  sound-step result (Prep dir f) h = stepped (PrepsIn old.state new.state (dir, f)) result h
  sound-step result (Send dir f) h = sent (dir, f) result h
  sound-step result (Import dir f bytes) h = imported (dir, f) bytes result h
  sound-step result (Finish dir f) h = stepped (FinishesIn old.state new.state (dir, f)) result h
  sound-step result (Cancel dir f) h = stepped (CancelsAt old.state new.state (dir, f)) result h
