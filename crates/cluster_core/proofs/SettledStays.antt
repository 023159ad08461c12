-- Directories, leaves, pins and subtree roots stay in each calm step that applies no request.
use Rattle.cluster_core.proofs.Common.{AdministersTree, Answer, Arrive, ArrivesAt, BeginsAt, BeginsUnsaved, Bool, Cancel, CancelsAt, CommitBegin, CommitDrop, CommitEnd, CommitTree, Core, Covers, DirPins, Drops, EndsJobOf, Entry, Err, Event, Evict, EvictsOne, Exports, Finish, Fragment, Freeze, Grant, GrantsFirst, HoldsInside, Homes, Import, ImportsExport, Ino, IsApplied, IsCalm, IsMergedInto, IsRootMerge, IsRootSplit, IsSplitInto, Job, KeepsAuthorities, KeepsTreeAndRoots, List, MatchBool, TreeMayRefuse, Merge, Merges, None, NotAuthority, Ok, Op, Option, Prep, PrepsIn, Purge, Purges, PurgesName, Rank, Refusal, Request, Result, SavesTree, Send, SendsExport, Serve, ServesInbox, ServesRequest, Some, Split, Splits, Start, StartsIn, State, Steps, Unsaved, [], ap, false, first_name, first_waiting, inl, inr, length, nat_lt, told_nothing, refl, told_job, true, waiting_at, ℕ, ◌∷◌, ◌≡◌, ◌⊎◌}
use Rattle.dentry_cache.specs.Cache.{Leaf}
use Rattle.mdcache.specs.State.{State as TreeState}

-- the directories with their leaves and their pins
pub record Tables : Type 0 where
  pub homes : Homes
  pub covers : Covers
  pub pins : DirPins

abbrev pub tables : TreeState → Tables
tables tree = record { homes = tree.homes; covers = tree.covers; pins = tree.pins }

-- they stay, and so do the subtree roots
abbrev pub GroundStays : (old new : State) → Type 0
GroundStays old new = (tables new.tree ≡ tables old.tree) × (new.roots ≡ old.roots)

-- ---- commits, tree objects and the purge list

begun : (old new : TreeState) (unsaved : Option Unsaved) (leaf : Leaf) (job : Option Job) → BeginsUnsaved old new leaf unsaved job → tables new ≡ tables old
begun old new None leaf job h = ap tables h.1
begun old new (Some u) leaf None h = absurd h
begun old new (Some u) leaf (Some job) h = ap tables h.2

purged : (old new : TreeState) (before after : ℕ) (name : Option (List ℕ)) → PurgesName old new before after name (Ok tt) → tables new ≡ tables old
purged old new before after None h = ap tables h.1
purged old new before after (Some name) h = ap tables h.0

-- ---- a step

abbrev ground : State → Tables
ground s = tables s.tree

module _ (old new : State) (past now : List Entry) where
  abbrev Stays : Type 0
  Stays = GroundStays old new

  arrived : (rank : Rank) (request : Request) (result : Result Answer Refusal) → ArrivesAt old new past now rank request result → Stays
  arrived rank request (Ok answer) h = (ap ground h.2, ap (λ (s : State). s.roots) h.2)
  arrived rank request (Err reason) h = (ap ground h.2.left, ap (λ (s : State). s.roots) h.2.left)

  -- serving applies a request, or leaves the ground
  pub served_request : (May : Op → Refusal → Type 0) (rank : Rank) (request : Request) (rest : List Request) (result : Result Answer Refusal) → ServesRequest old new past now May rank request rest result
      → ((answer : Answer) × IsApplied old new past now rank request rest answer) ⊎ Stays
  served_request May rank request rest (Ok answer) (inl h) = inl (answer, h)
  served_request May rank request rest (Ok answer) (inr (inl h)) = inr (ap ground h.out.left, ap (λ (s : State). s.roots) h.out.left)
  served_request May rank request rest (Ok answer) (inr (inr (inl h))) = inr (ap ground h.left, ap (λ (s : State). s.roots) h.left)
  served_request May rank request rest (Ok answer) (inr (inr (inr h))) = inr (ap ground h.left, ap (λ (s : State). s.roots) h.left)
  served_request May rank request rest (Err reason) (inl h) = inr (ap ground h.2.left, ap (λ (s : State). s.roots) h.2.left)
  served_request May rank request rest (Err reason) (inr (inl h)) = inr (ap ground h.3.left, ap (λ (s : State). s.roots) h.3.left)
  served_request May rank request rest (Err reason) (inr (inr (inl h))) = inr (ap ground h.2.left, ap (λ (s : State). s.roots) h.2.left)
  served_request May rank request rest (Err reason) (inr (inr (inr (inl h)))) = inr (ap ground h.2.left, ap (λ (s : State). s.roots) h.2.left)
  served_request May rank request rest (Err reason) (inr (inr (inr (inr h)))) = inr (ap ground h.3.left, ap (λ (s : State). s.roots) h.3.left)

  granted : (May : Op → Refusal → Type 0) (rank : Rank) (client tid : ℕ) (result : Result Answer Refusal) (found : Option Request) → GrantsFirst old new past now May rank client tid result found → Stays
  granted May rank client tid result None h = (ap ground h.1.left, ap (λ (s : State). s.roots) h.1.left)
  granted May rank client tid (Ok answer) (Some request) h = (ap ground h.left, ap (λ (s : State). s.roots) h.left)
  granted May rank client tid (Err reason) (Some request) h = (ap ground h.1.left, ap (λ (s : State). s.roots) h.1.left)

module _ (past now : List Entry) (old new : Core) where
  abbrev Kept : Type 0
  Kept = GroundStays old.state new.state

  all_left : new ≡ old → Kept
  all_left same = (ap (λ (c : Core). tables c.state.tree) same, ap (λ (c : Core). c.state.roots) same)

  state_left : new.state ≡ old.state → Kept
  state_left same = (ap ground same, ap (λ (s : State). s.roots) same)

  -- a rank that isn't there leaves all
  at_rank : {Done : Type 0} (here : Bool) (result : Result Answer Refusal) → (Done → Kept) → MatchBool here Done ((result ≡ Err NotAuthority) × (new ≡ old) × (now ≡ past)) → Kept
  at_rank true result so h = so h
  at_rank false result so h = all_left h.1

  -- so does an administrator's step that is refused; one that is done leaves the roots
  worked : {X : Type 0} (told : X → Answer) (Did : Result X Refusal → Type 0) → ((given : X) → Did (Ok given) → tables new.state.tree ≡ tables old.state.tree) → (result : Result Answer Refusal)
      → AdministersTree old.state new.state past now told Did result → Kept
  worked told Did so (Ok answer) h = (so h.0.0 h.0.2, h.1)
  worked told Did so (Err reason) h = state_left h.0.1.left

  kept_tree : KeepsTreeAndRoots old.state new.state → Kept
  kept_tree kept = (ap tables kept.tree, kept.roots)

  exported : (Did : Result (Unit {0}) Refusal → Type 0) → (Did (Ok tt) → Kept) → (result : Result Answer Refusal) → Exports old new past now Did result → Kept
  exported Did stays (Ok answer) h = stays h.1
  exported Did stays (Err reason) h = state_left h.1.left

  sent : (at : Leaf) (result : Result Answer Refusal) → SendsExport old new past now at result → Kept
  sent at (Ok answer) h = kept_tree h.2.2
  sent at (Err reason) h = state_left h.1.left

  imported : (at : Leaf) (bytes : List ℕ) (result : Result Answer Refusal) → ImportsExport old new past now at bytes result → Kept
  imported at bytes (Ok answer) h = (ap tables h.1.renewed.left, h.1.roots)
  imported at bytes (Err reason) h = state_left h.1.left

  -- a request was applied, at a rank that is there, and each leaf kept its authority
  pub record Applied : Type 0 where
    pub rank : Rank
    pub here : nat_lt rank.0 (length old.state.inboxes) ≡ true
    pub request : Request
    pub rest : List Request
    pub answer : Answer
    pub applied : IsApplied old.state new.state past now rank request rest answer
    pub authorities : KeepsAuthorities old.state.tree new.state.tree old.state.roots new.state.roots

  serves : (rank : Rank) (result : Result Answer Refusal) (here : Bool) → nat_lt rank.0 (length old.state.inboxes) ≡ here → (inbox : List Request) → KeepsAuthorities old.state.tree new.state.tree old.state.roots new.state.roots
      → MatchBool here (ServesInbox old.state new.state past now (TreeMayRefuse old new) rank result inbox) ((result ≡ Err NotAuthority) × (new ≡ old) × (now ≡ past)) → Kept ⊎ Applied
  serves rank result false is inbox keeps h = inl (all_left h.1)
  serves rank result true is [] keeps h = inl (state_left h.1.left)
  serves rank result true is (request ∷ rest) keeps h = go (served_request old.state new.state past now (TreeMayRefuse old new) rank request rest result h)
    where
      go : ((answer : Answer) × IsApplied old.state new.state past now rank request rest answer) ⊎ Kept → Kept ⊎ Applied
      go (inl (answer, its)) = inr (record { rank = rank; here = is; request = request; rest = rest; answer = answer; applied = its; authorities = keeps })
      go (inr stays) = inl stays

  -- a leaf was split, and each leaf that stayed kept its authority
  pub record WasSplit : Type 0 where
    pub dir : Ino
    pub frag : Fragment
    pub bits : ℕ
    pub split : IsSplitInto old.state.tree new.state.tree dir frag bits
    pub roots : IsRootSplit old.state.roots new.state.roots dir.0 frag bits
    pub authorities : KeepsAuthorities old.state.tree new.state.tree old.state.roots new.state.roots

  -- leaves of one rank were merged, and so it is
  pub record WasMerged : Type 0 where
    pub rank : Rank
    pub dir : Ino
    pub frag : Fragment
    pub all : HoldsInside old.state rank dir frag
    pub merge : IsMergedInto old.state.tree new.state.tree dir frag
    pub roots : IsRootMerge old.state.roots new.state.roots dir.0 frag
    pub authorities : KeepsAuthorities old.state.tree new.state.tree old.state.roots new.state.roots

  abbrev pub Came : Type 0
  Came = Kept ⊎ Applied ⊎ WasSplit ⊎ WasMerged

  splits : (rank : Rank) (dir : Ino) (f : Fragment) (nb : ℕ) (result : Result Answer Refusal) (here : Bool) → KeepsAuthorities old.state.tree new.state.tree old.state.roots new.state.roots
      → MatchBool here (Splits old new past now rank dir f nb result) ((result ≡ Err NotAuthority) × (new ≡ old) × (now ≡ past)) → Came
  splits rank dir f nb result false keeps h = inl (all_left h.1)
  splits rank dir f nb (Ok answer) true keeps h = inr (inr (inl (record { dir = dir; frag = f; bits = nb; split = h.2.3; roots = h.2.4; authorities = keeps })))
  splits rank dir f nb (Err reason) true keeps h = inl (state_left h.1.left)

  merges : (rank : Rank) (dir : Ino) (f : Fragment) (result : Result Answer Refusal) (here : Bool) → KeepsAuthorities old.state.tree new.state.tree old.state.roots new.state.roots
      → MatchBool here (Merges old new past now rank dir f result) ((result ≡ Err NotAuthority) × (new ≡ old) × (now ≡ past)) → Came
  merges rank dir f result false keeps h = inl (all_left h.1)
  merges rank dir f (Ok answer) true keeps h = inr (inr (inr (record { rank = rank; dir = dir; frag = f; all = h.2.0; merge = h.2.3; roots = h.2.4; authorities = keeps })))
  merges rank dir f (Err reason) true keeps h = inl (state_left h.1.left)

  served_or : Kept ⊎ Applied → Came
  served_or (inl kept) = inl kept
  served_or (inr applied) = inr (inl applied)

  -- a calm step leaves all this, but where it applies a request, splits or merges
  pub ground_stays : (result : Result Answer Refusal) (event : Event) → IsCalm event → Steps old new past now result event → Came
  ground_stays result (Arrive rank request) calm steps = inl (at_rank (nat_lt rank.0 (length old.state.inboxes)) result (λ w. arrived old.state new.state past now rank request result w) steps.does)
  ground_stays result (Serve rank) calm steps = served_or (serves rank result (nat_lt rank.0 (length old.state.inboxes)) refl (waiting_at old.state.inboxes rank) steps.authorities steps.does)
  ground_stays result (Grant rank client tid) calm steps = inl (at_rank (nat_lt rank.0 (length old.state.inboxes)) result (λ w. granted old.state new.state past now (TreeMayRefuse old new) rank client tid result (first_waiting client tid old.state.inboxes) w) steps.does)
  ground_stays result (Split rank dir f nb) calm steps = splits rank dir f nb result (nat_lt rank.0 (length old.state.inboxes)) steps.authorities steps.does
  ground_stays result (Merge rank dir f) calm steps = merges rank dir f result (nat_lt rank.0 (length old.state.inboxes)) steps.authorities steps.does
  ground_stays result (CommitBegin rank dir f) calm steps = inl (at_rank (nat_lt rank.0 (length old.state.inboxes)) result (λ w. worked told_job (BeginsAt old.state new.state rank (dir, f)) (λ given did. begun old.state.tree new.state.tree _ (dir, f) given did.2.2) result w) steps.does)
  ground_stays result (CommitEnd encoded) calm steps = inl (worked told_nothing (EndsJobOf old.state.tree new.state.tree old.faults new.faults encoded.job) (λ done did. ap tables did.left) result steps.does)
  ground_stays result (CommitDrop number) calm steps = inl (worked told_nothing (Drops old.state.tree new.state.tree number) (λ done did. ap tables did.left) result steps.does)
  ground_stays result (CommitTree dir) calm steps = inl (worked told_nothing (SavesTree old.state.tree new.state.tree old.faults new.faults dir) (λ done did. ap tables did.1) result steps.does)
  ground_stays result Purge calm steps = inl (worked told_nothing (Purges old.state.tree new.state.tree old.faults new.faults) (λ done did. purged old.state.tree new.state.tree old.faults new.faults (first_name old.state.tree.purge) did) result steps.does)
  ground_stays result (Evict rank) calm steps = inl (at_rank (nat_lt rank.0 (length old.state.inboxes)) result (λ w. worked told_nothing (EvictsOne old new rank) (λ done did. ap ground did) result w) steps.does)
  ground_stays result (Start from dir f to) calm steps = inl (at_rank (nat_lt from.0 (length old.state.inboxes)) result (λ w. at_rank (nat_lt to.0 (length old.state.inboxes)) result (λ done. exported (StartsIn old.state new.state from (dir, f) to) (λ did. kept_tree did.2) result done) w) steps.does)
  ground_stays result (Freeze dir f) calm steps = absurd calm
  ground_stays result (Prep dir f) calm steps = inl (exported (PrepsIn old.state new.state (dir, f)) (λ did. kept_tree did.1) result steps.does)
  ground_stays result (Send dir f) calm steps = inl (sent (dir, f) result steps.does)
  ground_stays result (Import dir f bytes) calm steps = inl (imported (dir, f) bytes result steps.does)
  ground_stays result (Finish dir f) calm steps = absurd calm
  ground_stays result (Cancel dir f) calm steps = inl (exported (CancelsAt old.state new.state (dir, f)) (λ did. kept_tree did.2) result steps.does)
