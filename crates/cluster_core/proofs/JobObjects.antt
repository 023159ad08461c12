-- A step leaves the object of each fragment for which a job stands before and after it.
use Rattle.cluster_core.proofs.Common.{Administers, Answer, Arrive, ArrivesAt, BeginsAt, Bool, Cancel, CancelsAt, Change, CommitBegin, CommitDrop, CommitEnd, CommitTree, Core, Does, Drops, EndsJobOf, Entry, Err, Event, Evict, EvictsOne, Exports, Finish, FinishesIn, Freeze, FreezesIn, Grant, GrantsFirst, Import, ImportsExport, IsSound, Job, JobsKeepObjects, JobsTakeWhatIsShown, List, MakesPlanned, MatchBool, Opening, TreeMayRefuse, Merge, MergesLeaves, None, NotAuthority, Objects, ObjectsStay, Ok, Op, Option, Prep, PrepsIn, Purge, Purges, Rank, Refusal, Request, Result, SavesTree, Send, SendsExport, Serve, ServesInbox, ServesRequest, Some, Split, SplitsLeaf, Start, StartsIn, State, Unsaved, [], ap, begun_objects, dropped_objects, ended_object, false, first_name, first_waiting, inl, inr, length, made_objects, nat_lt, told_nothing, object_of, purged_object, refl, regrouped_objects, same_state, saved_object, shown_at, sym, told_job, true, waiting_at, ℕ, ◌∷◌, ◌≡◌}
use Rattle.std.specs.FinMap as map
use Rattle.dentry_cache.specs.Cache.{Leaf}
use Rattle.mdcache.specs.Shown.{names_of}
use Rattle.mdcache.specs.State.{State as TreeState}

-- a step that leaves all leaves the objects
left : (old new : State) → new ≡ old → ObjectsStay old.tree new.tree
left old new same = ap (λ (s : State). s.tree.objects) same

planned : (change : Option Change) (old new : TreeState) → MakesPlanned change old new → ObjectsStay old new
planned None old new made = same_state old new made
planned (Some change) old new made = made_objects change old new made

module _ (old new : State) (past now : List Entry) where
  arrived : (rank : Rank) (request : Request) (result : Result Answer Refusal) → ArrivesAt old new past now rank request result → ObjectsStay old.tree new.tree
  arrived rank request (Ok answer) h = ap (λ (s : State). s.tree.objects) h.2
  arrived rank request (Err reason) h = left old new h.2.left

  served : (TreeMayRefuse : Op → Refusal → Type 0) (rank : Rank) (request : Request) (rest : List Request) (result : Result Answer Refusal) → ServesRequest old new past now TreeMayRefuse rank request rest result → ObjectsStay old.tree new.tree
  served TreeMayRefuse rank request rest (Ok answer) (inl h) = planned h.made.change old.tree new.tree h.made.made
  served TreeMayRefuse rank request rest (Ok answer) (inr (inl h)) = ap (λ (s : State). s.tree.objects) h.out.left
  served TreeMayRefuse rank request rest (Ok answer) (inr (inr (inl h))) = ap (λ (s : State). s.tree.objects) h.left
  served TreeMayRefuse rank request rest (Ok answer) (inr (inr (inr h))) = ap (λ (s : State). s.tree.objects) h.left
  served TreeMayRefuse rank request rest (Err reason) (inl h) = ap (λ (s : State). s.tree.objects) h.2.left
  served TreeMayRefuse rank request rest (Err reason) (inr (inl h)) = ap (λ (s : State). s.tree.objects) h.3.left
  served TreeMayRefuse rank request rest (Err reason) (inr (inr (inl h))) = left old new h.2.left
  served TreeMayRefuse rank request rest (Err reason) (inr (inr (inr (inl h)))) = left old new h.2.left
  served TreeMayRefuse rank request rest (Err reason) (inr (inr (inr (inr h)))) = left old new h.3.left

  served_inbox : (TreeMayRefuse : Op → Refusal → Type 0) (rank : Rank) (result : Result Answer Refusal) (inbox : List Request) → ServesInbox old new past now TreeMayRefuse rank result inbox → ObjectsStay old.tree new.tree
  served_inbox TreeMayRefuse rank result [] h = left old new h.1.left
  served_inbox TreeMayRefuse rank result (request ∷ rest) h = served TreeMayRefuse rank request rest result h

  granted : (TreeMayRefuse : Op → Refusal → Type 0) (rank : Rank) (client tid : ℕ) (result : Result Answer Refusal) (found : Option Request) → GrantsFirst old new past now TreeMayRefuse rank client tid result found → ObjectsStay old.tree new.tree
  granted TreeMayRefuse rank client tid result None h = left old new h.1.left
  granted TreeMayRefuse rank client tid (Ok answer) (Some request) h = ap (λ (s : State). s.tree.objects) h.left
  granted TreeMayRefuse rank client tid (Err reason) (Some request) h = left old new h.1.left

-- ---- a fragment for which a job stands before and after

module _ (opening : Opening) (past now : List Entry) (old new : Core) (sound : IsSound opening past old) (leaf : Leaf) (job : Job) (stood : map.get old.state.tree.jobs leaf ≡ Some job) (stands : map.get new.state.tree.jobs leaf ≡ Some job) where
  abbrev Kept : Type 0
  Kept = object_of new.state.tree.objects leaf.0 leaf.1 ≡ object_of old.state.tree.objects leaf.0 leaf.1

  kept : ObjectsStay old.state.tree new.state.tree → Kept
  kept same = ap (λ (o : Objects). object_of o leaf.0 leaf.1) same

  -- a rank that isn't there leaves all
  at_rank : {Done : Type 0} (here : Bool) (result : Result Answer Refusal) → (Done → Kept) → MatchBool here Done ((result ≡ Err NotAuthority) × (new ≡ old) × (now ≡ past)) → Kept
  at_rank true result so h = so h
  at_rank false result so h = kept (ap (λ (c : Core). c.state.tree.objects) h.1)

  -- so does an administrator's step that is refused
  worked : {X : Type 0} (told : X → Answer) (Did : Result X Refusal → Type 0) → ((given : X) → Did (Ok given) → Kept) → (result : Result Answer Refusal) → Administers old.state new.state past now told Did result → Kept
  worked told Did so (Ok answer) h = so h.0 h.2
  worked told Did so (Err reason) h = kept (left old.state new.state h.1.left)

  exported : (Did : Result (Unit {0}) Refusal → Type 0) → (Did (Ok tt) → ObjectsStay old.state.tree new.state.tree) → (result : Result Answer Refusal) → Exports old new past now Did result → Kept
  exported Did stays (Ok answer) h = kept (stays h.1)
  exported Did stays (Err reason) h = kept (left old.state new.state h.1.left)

  sent : (at : Leaf) (result : Result Answer Refusal) → SendsExport old new past now at result → Kept
  sent at (Ok answer) h = kept (ap (λ (t : TreeState). t.objects) h.2.2.tree)
  sent at (Err reason) h = kept (left old.state new.state h.1.left)

  imported : (at : Leaf) (bytes : List ℕ) (result : Result Answer Refusal) → ImportsExport old new past now at bytes result → Kept
  imported at bytes (Ok answer) h = kept (ap (λ (t : TreeState). t.objects) h.1.renewed.left)
  imported at bytes (Err reason) h = kept (left old.state new.state h.1.left)

  step : (result : Result Answer Refusal) (event : Event) → Does old new past now result event → Kept
  step result (Arrive rank request) h = at_rank (nat_lt rank.0 (length old.state.inboxes)) result (λ w. kept (arrived old.state new.state past now rank request result w)) h
  step result (Serve rank) h = at_rank (nat_lt rank.0 (length old.state.inboxes)) result (λ w. kept (served_inbox old.state new.state past now (TreeMayRefuse old new) rank result (waiting_at old.state.inboxes rank) w)) h
  step result (Grant rank client tid) h = at_rank (nat_lt rank.0 (length old.state.inboxes)) result (λ w. kept (granted old.state new.state past now (TreeMayRefuse old new) rank client tid result (first_waiting client tid old.state.inboxes) w)) h
  step result (Split rank dir f nb) h =
      at_rank (nat_lt rank.0 (length old.state.inboxes)) result (λ w. worked told_nothing (SplitsLeaf old new rank dir f nb) (λ done did. kept (regrouped_objects old.state.tree new.state.tree dir _ _ _ did.3.regrouped)) result w) h
  step result (Merge rank dir f) h =
      at_rank (nat_lt rank.0 (length old.state.inboxes)) result (λ w. worked told_nothing (MergesLeaves old new rank dir f) (λ done did. kept (regrouped_objects old.state.tree new.state.tree dir _ _ _ did.3.regrouped)) result w) h
  step result (CommitBegin rank dir f) h =
      at_rank (nat_lt rank.0 (length old.state.inboxes)) result (λ w. worked told_job (BeginsAt old.state new.state rank (dir, f)) (λ given did. kept (begun_objects old.state.tree new.state.tree _ (dir, f) given did.2.2)) result w.0) h
  step result (CommitEnd encoded) h =
      worked told_nothing (EndsJobOf old.state.tree new.state.tree old.faults new.faults encoded.job) (λ done did. ended_object old.state.tree new.state.tree sound.tree.sound leaf job stood stands old.faults new.faults encoded.job (Ok done) did) result h.0
  step result (CommitDrop number) h = worked told_nothing (Drops old.state.tree new.state.tree number) (λ done did. kept (dropped_objects old.state.tree new.state.tree number (Ok done) did)) result h.0
  step result (CommitTree dir) h =
      worked told_nothing (SavesTree old.state.tree new.state.tree old.faults new.faults dir) (λ done did. saved_object old.state.tree new.state.tree sound.tree.sound leaf job stood old.faults new.faults dir (Ok done) did) result h.0
  step result Purge h =
      worked told_nothing (Purges old.state.tree new.state.tree old.faults new.faults)
      (λ done did. purged_object old.state.tree new.state.tree sound.tree.sound leaf job stood old.faults new.faults (first_name old.state.tree.purge) refl (Ok done) did) result h.0
  step result (Evict rank) h =
      at_rank (nat_lt rank.0 (length old.state.inboxes)) result (λ w. worked told_nothing (EvictsOne old new rank) (λ done did. kept (ap (λ (s : State). s.tree.objects) did)) result w.0) h
  step result (Start from dir f to) h =
      at_rank (nat_lt from.0 (length old.state.inboxes)) result (λ w. at_rank (nat_lt to.0 (length old.state.inboxes)) result (λ done. exported (StartsIn old.state new.state from (dir, f) to) (λ did. ap (λ (t : TreeState). t.objects) did.2.tree) result done) w) h
  step result (Freeze dir f) h = exported (FreezesIn old.state new.state (dir, f)) (λ did. ap (λ (t : TreeState). t.objects) did.1.ended.left) result h
  step result (Prep dir f) h = exported (PrepsIn old.state new.state (dir, f)) (λ did. ap (λ (t : TreeState). t.objects) did.1.tree) result h
  step result (Send dir f) h = sent (dir, f) result h
  step result (Import dir f bytes) h = imported (dir, f) bytes result h
  step result (Finish dir f) h = exported (FinishesIn old.state new.state (dir, f)) (λ did. ap (λ (t : TreeState). t.objects) did.tree) result h
  step result (Cancel dir f) h = exported (CancelsAt old.state new.state (dir, f)) (λ did. ap (λ (t : TreeState). t.objects) did.2.tree) result h

pub jobs_keep : JobsKeepObjects
jobs_keep opening past now old new result event sound stepped leaf job stood stands = step opening past now old new sound leaf job stood stands result event stepped.does

-- what a job is given out with
pub jobs_take : JobsTakeWhatIsShown
unfolding names_of
jobs_take state leaf u is = ap (λ (o : Option Unsaved). shown_at o (object_of state.tree.objects leaf.0 leaf.1)) (sym is)
