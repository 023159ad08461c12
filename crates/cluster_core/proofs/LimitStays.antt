-- No step changes how many entries a directory may have.
use Rattle.cluster_core.proofs.Common.{Administers, Answer, Arrive, ArrivesAt, BeginsAt, BeginsUnsaved, Bool, Cancel, CancelsAt, Change, CommitBegin, CommitDrop, CommitEnd, CommitTree, Core, Dentry, Does, Drops, EndsJobOf, Entry, Err, Event, Evict, EvictsOne, Exports, Finish, FinishesIn, Freeze, FreezesIn, Grant, GrantsFirst, Import, ImportsExport, Ino, Inode, Job, List, MakesPlanned, MatchBool, TreeMayRefuse, Merge, MergesLeaves, None, NotAuthority, Ok, Op, Option, Prep, PrepsIn, Purge, Purges, PurgesName, PutsThen, Rank, Refusal, Request, Result, SavesTree, Send, SendsExport, Serve, ServesInbox, ServesRequest, Some, Split, SplitsLeaf, Spot, Start, StartsIn, State, TakesThen, Unsaved, [], ap, cond, dentry_at, false, first_name, first_waiting, housed, inl, inr, is_dir_kind, length, nat_lt, told_nothing, refl, told_job, true, waiting_at, with_directory, with_new, without_gone_dir, ℕ, ◌∙◌, ◌∷◌, ◌≡◌}
use Rattle.dentry_cache.specs.Cache.{Leaf}
use Rattle.mdcache.specs.Changes.{Makes}
use Rattle.mdcache.specs.State.{State as TreeState}

-- the limit is what it was
abbrev LimitStays : (old new : TreeState) → Type 0
LimitStays old new = new.limit ≡ old.limit

-- ---- a change of the tree

new_limit : (s : TreeState) (dentry : Dentry) (inode : Inode) → (with_new s dentry inode).limit ≡ s.limit
new_limit s dentry inode = go (is_dir_kind inode.kind)
  where
    go : (b : Bool) → (cond b (with_directory s dentry inode.ino) s).limit ≡ s.limit
    go true = refl
    go false = refl

without_limit : (s : TreeState) (went : Option Ino) → (without_gone_dir s went).limit ≡ s.limit
without_limit s None = refl
without_limit s (Some dir) = refl

housed_limit : (s : TreeState) (takes : Option Spot) (puts : Option (Spot × Inode)) (comes : Bool) → (housed s takes puts comes).limit ≡ s.limit
housed_limit s None None comes = refl
housed_limit s (Some spot) None comes = refl
housed_limit s None (Some put) true = new_limit s (dentry_at put.0) put.1
housed_limit s None (Some put) false = refl
housed_limit s (Some spot) (Some put) comes = refl

made_limit : (change : Change) (old new : TreeState) → Makes change old new → LimitStays old new
made_limit change old new makes = ap (λ (s : TreeState). s.limit) makes.2 ∙ first change.takes makes.1
  where
    altered : TreeState
    altered = makes.0

    ends : (left : TreeState) (takes : Option Spot) (puts : Option (Spot × Inode)) → altered ≡ without_gone_dir (housed left takes puts change.comes) change.gone → altered.limit ≡ left.limit
    ends left takes puts is = ap (λ (s : TreeState). s.limit) is ∙ without_limit (housed left takes puts change.comes) change.gone ∙ housed_limit left takes puts change.comes

    second : (left : TreeState) (takes : Option Spot) (puts : Option (Spot × Inode)) → PutsThen left puts (λ named. altered ≡ without_gone_dir (housed named takes puts change.comes) change.gone) → altered.limit ≡ left.limit
    second left takes None is = ends left takes None is
    second left takes (Some put) (named, is_named, is) = ends named takes (Some put) is ∙ ap (λ (s : TreeState). s.limit) is_named.left

    first : (takes : Option Spot) → TakesThen old takes (λ left. PutsThen left change.puts (λ named. altered ≡ without_gone_dir (housed named takes change.puts change.comes) change.gone)) → altered.limit ≡ old.limit
    first None makes = second old None change.puts makes
    first (Some spot) (left, is_named, makes) = second left (Some spot) change.puts makes ∙ ap (λ (s : TreeState). s.limit) is_named.left

-- ---- commits, tree objects and the purge list

begun_limit : (old new : TreeState) (unsaved : Option Unsaved) (leaf : Leaf) (job : Option Job) → BeginsUnsaved old new leaf unsaved job → LimitStays old new
begun_limit old new None leaf job h = ap (λ (s : TreeState). s.limit) h.1
begun_limit old new (Some u) leaf None h = absurd h
begun_limit old new (Some u) leaf (Some job) h = ap (λ (s : TreeState). s.limit) h.2

purged_limit : (old new : TreeState) (before after : ℕ) (name : Option (List ℕ)) (result : Result (Unit {0}) Refusal) → PurgesName old new before after name result → LimitStays old new
purged_limit old new before after None result h = ap (λ (s : TreeState). s.limit) h.1
purged_limit old new before after (Some name) (Err reason) h = ap (λ (s : TreeState). s.limit) h.1
purged_limit old new before after (Some name) (Ok done) h = ap (λ (s : TreeState). s.limit) h.0

-- ---- a step

-- one that leaves all leaves the limit
left : (old new : State) → new ≡ old → LimitStays old.tree new.tree
left old new same = ap (λ (s : State). s.tree.limit) same

planned : (change : Option Change) (old new : TreeState) → MakesPlanned change old new → LimitStays old new
planned None old new made = ap (λ (s : TreeState). s.limit) made
planned (Some change) old new made = made_limit change old new made

module _ (old new : State) (past now : List Entry) where
  arrived : (rank : Rank) (request : Request) (result : Result Answer Refusal) → ArrivesAt old new past now rank request result → LimitStays old.tree new.tree
  arrived rank request (Ok answer) h = ap (λ (s : State). s.tree.limit) h.2
  arrived rank request (Err reason) h = left old new h.2.left

  served : (TreeMayRefuse : Op → Refusal → Type 0) (rank : Rank) (request : Request) (rest : List Request) (result : Result Answer Refusal) → ServesRequest old new past now TreeMayRefuse rank request rest result → LimitStays old.tree new.tree
  served TreeMayRefuse rank request rest (Ok answer) (inl h) = planned h.made.change old.tree new.tree h.made.made
  served TreeMayRefuse rank request rest (Ok answer) (inr (inl h)) = ap (λ (s : State). s.tree.limit) h.out.left
  served TreeMayRefuse rank request rest (Ok answer) (inr (inr (inl h))) = ap (λ (s : State). s.tree.limit) h.left
  served TreeMayRefuse rank request rest (Ok answer) (inr (inr (inr h))) = ap (λ (s : State). s.tree.limit) h.left
  served TreeMayRefuse rank request rest (Err reason) (inl h) = ap (λ (s : State). s.tree.limit) h.2.left
  served TreeMayRefuse rank request rest (Err reason) (inr (inl h)) = ap (λ (s : State). s.tree.limit) h.3.left
  served TreeMayRefuse rank request rest (Err reason) (inr (inr (inl h))) = left old new h.2.left
  served TreeMayRefuse rank request rest (Err reason) (inr (inr (inr (inl h)))) = left old new h.2.left
  served TreeMayRefuse rank request rest (Err reason) (inr (inr (inr (inr h)))) = left old new h.3.left

  served_inbox : (TreeMayRefuse : Op → Refusal → Type 0) (rank : Rank) (result : Result Answer Refusal) (inbox : List Request) → ServesInbox old new past now TreeMayRefuse rank result inbox → LimitStays old.tree new.tree
  served_inbox TreeMayRefuse rank result [] h = left old new h.1.left
  served_inbox TreeMayRefuse rank result (request ∷ rest) h = served TreeMayRefuse rank request rest result h

  granted : (TreeMayRefuse : Op → Refusal → Type 0) (rank : Rank) (client tid : ℕ) (result : Result Answer Refusal) (found : Option Request) → GrantsFirst old new past now TreeMayRefuse rank client tid result found → LimitStays old.tree new.tree
  granted TreeMayRefuse rank client tid result None h = left old new h.1.left
  granted TreeMayRefuse rank client tid (Ok answer) (Some request) h = ap (λ (s : State). s.tree.limit) h.left
  granted TreeMayRefuse rank client tid (Err reason) (Some request) h = left old new h.1.left

module _ (past now : List Entry) (old new : Core) where
  abbrev Kept : Type 0
  Kept = LimitStays old.state.tree new.state.tree

  -- a rank that isn't there leaves all
  at_rank : {Done : Type 0} (here : Bool) (result : Result Answer Refusal) → (Done → Kept) → MatchBool here Done ((result ≡ Err NotAuthority) × (new ≡ old) × (now ≡ past)) → Kept
  at_rank true result so h = so h
  at_rank false result so h = ap (λ (c : Core). c.state.tree.limit) h.1

  -- so does an administrator's step that is refused
  worked : {X : Type 0} (told : X → Answer) (Did : Result X Refusal → Type 0) → ((given : X) → Did (Ok given) → Kept) → (result : Result Answer Refusal) → Administers old.state new.state past now told Did result → Kept
  worked told Did so (Ok answer) h = so h.0 h.2
  worked told Did so (Err reason) h = left old.state new.state h.1.left

  exported : (Did : Result (Unit {0}) Refusal → Type 0) → (Did (Ok tt) → Kept) → (result : Result Answer Refusal) → Exports old new past now Did result → Kept
  exported Did stays (Ok answer) h = stays h.1
  exported Did stays (Err reason) h = left old.state new.state h.1.left

  sent : (at : Leaf) (result : Result Answer Refusal) → SendsExport old new past now at result → Kept
  sent at (Ok answer) h = ap (λ (t : TreeState). t.limit) h.2.2.tree
  sent at (Err reason) h = left old.state new.state h.1.left

  imported : (at : Leaf) (bytes : List ℕ) (result : Result Answer Refusal) → ImportsExport old new past now at bytes result → Kept
  imported at bytes (Ok answer) h = ap (λ (t : TreeState). t.limit) h.1.renewed.left
  imported at bytes (Err reason) h = left old.state new.state h.1.left

  pub limit_stays : (result : Result Answer Refusal) (event : Event) → Does old new past now result event → Kept
  limit_stays result (Arrive rank request) h = at_rank (nat_lt rank.0 (length old.state.inboxes)) result (λ w. arrived old.state new.state past now rank request result w) h
  limit_stays result (Serve rank) h = at_rank (nat_lt rank.0 (length old.state.inboxes)) result (λ w. served_inbox old.state new.state past now (TreeMayRefuse old new) rank result (waiting_at old.state.inboxes rank) w) h
  limit_stays result (Grant rank client tid) h = at_rank (nat_lt rank.0 (length old.state.inboxes)) result (λ w. granted old.state new.state past now (TreeMayRefuse old new) rank client tid result (first_waiting client tid old.state.inboxes) w) h
  limit_stays result (Split rank dir f nb) h =
      at_rank (nat_lt rank.0 (length old.state.inboxes)) result (λ w. worked told_nothing (SplitsLeaf old new rank dir f nb) (λ done did. ap (λ (t : TreeState). t.limit) did.3.regrouped.left) result w) h
  limit_stays result (Merge rank dir f) h =
      at_rank (nat_lt rank.0 (length old.state.inboxes)) result (λ w. worked told_nothing (MergesLeaves old new rank dir f) (λ done did. ap (λ (t : TreeState). t.limit) did.3.regrouped.left) result w) h
  limit_stays result (CommitBegin rank dir f) h =
      at_rank (nat_lt rank.0 (length old.state.inboxes)) result (λ w. worked told_job (BeginsAt old.state new.state rank (dir, f)) (λ given did. begun_limit old.state.tree new.state.tree _ (dir, f) given did.2.2) result w.0) h
  limit_stays result (CommitEnd encoded) h =
      worked told_nothing (EndsJobOf old.state.tree new.state.tree old.faults new.faults encoded.job) (λ done did. ap (λ (t : TreeState). t.limit) did.left) result h.0
  limit_stays result (CommitDrop number) h = worked told_nothing (Drops old.state.tree new.state.tree number) (λ done did. ap (λ (t : TreeState). t.limit) did.left) result h.0
  limit_stays result (CommitTree dir) h =
      worked told_nothing (SavesTree old.state.tree new.state.tree old.faults new.faults dir) (λ done did. ap (λ (t : TreeState). t.limit) did.1) result h.0
  limit_stays result Purge h =
      worked told_nothing (Purges old.state.tree new.state.tree old.faults new.faults)
      (λ done did. purged_limit old.state.tree new.state.tree old.faults new.faults (first_name old.state.tree.purge) (Ok done) did) result h.0
  limit_stays result (Evict rank) h =
      at_rank (nat_lt rank.0 (length old.state.inboxes)) result (λ w. worked told_nothing (EvictsOne old new rank) (λ done did. ap (λ (s : State). s.tree.limit) did) result w.0) h
  limit_stays result (Start from dir f to) h =
      at_rank (nat_lt from.0 (length old.state.inboxes)) result (λ w. at_rank (nat_lt to.0 (length old.state.inboxes)) result (λ done. exported (StartsIn old.state new.state from (dir, f) to) (λ did. ap (λ (t : TreeState). t.limit) did.2.tree) result done) w) h
  limit_stays result (Freeze dir f) h = exported (FreezesIn old.state new.state (dir, f)) (λ did. ap (λ (t : TreeState). t.limit) did.1.ended.left) result h
  limit_stays result (Prep dir f) h = exported (PrepsIn old.state new.state (dir, f)) (λ did. ap (λ (t : TreeState). t.limit) did.1.tree) result h
  limit_stays result (Send dir f) h = sent (dir, f) result h
  limit_stays result (Import dir f bytes) h = imported (dir, f) bytes result h
  limit_stays result (Finish dir f) h = exported (FinishesIn old.state new.state (dir, f)) (λ did. ap (λ (t : TreeState). t.limit) did.tree) result h
  limit_stays result (Cancel dir f) h = exported (CancelsAt old.state new.state (dir, f)) (λ did. ap (λ (t : TreeState). t.limit) did.2.tree) result h
