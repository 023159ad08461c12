-- What an administrator's step on the tree leaves: each leaf keeps its authority.
use Rattle.cluster_core.proofs.Common.{AdministersTree, AllStay, Answer, AreRoots, BeginsAt, Bool, Core, Drops, EndsJobOf, Entry, Err, EvictsOne, Ino, KeepsRoots, List, MatchBool, NotAuthority, Ok, Option, Purges, Rank, Refusal, Result, SavesTree, State, TablesStay, ap, begun, dropped, ended, false, first_name, inl, inr, keeps_same, keeps_tables, told_nothing, purged, same_tables, saved, told_job, true, ℕ, ◌≡◌}
use Rattle.cached_frag.specs.declared.jobs.Job.{Job as Begun}
use Rattle.dentry_cache.specs.Cache.{Leaf}

module _ (old new : State) (past now : List Entry) (valid : AreRoots old.tree old.roots) where
  -- a step whose work leaves directories and leaves
  by_work : {X : Type 0} (told : X → Answer) (Did : Result X Refusal → Type 0) → ((result : Result X Refusal) → Did result → TablesStay old.tree new.tree) → (result : Result Answer Refusal)
      → AdministersTree old new past now told Did result → KeepsRoots old.tree new.tree old.roots new.roots old.exports new.exports
  by_work told Did stays (Ok answer) h = let s = stays (Ok h.0.0) h.0.2 in keeps_tables old.tree new.tree old.roots new.roots old.exports new.exports s.0 s.1 h.1 (ap (λ (s : State). s.exports) h.0.3.left) valid
  by_work told Did stays (Err reason) h = let s = stays (Err reason) h.0.0 in keeps_tables old.tree new.tree old.roots new.roots old.exports new.exports s.0 s.1 h.1 (ap (λ (s : State). s.exports) h.0.1.left) valid

  tables_of : AllStay old.tree new.tree → TablesStay old.tree new.tree
  tables_of all = (all.0, all.1)

  begun_at : (rank : Rank) (leaf : Leaf) (result : Result (Option Begun) Refusal) → BeginsAt old new rank leaf result → TablesStay old.tree new.tree
  begun_at rank leaf (Ok job) h = begun old.tree new.tree _ leaf job h.2.2
  begun_at rank leaf (Err reason) (inl h) = same_tables old.tree new.tree h.3
  begun_at rank leaf (Err reason) (inr (inl h)) = same_tables old.tree new.tree h.4
  begun_at rank leaf (Err reason) (inr (inr h)) = same_tables old.tree new.tree h.1.1

  pub begun_keeps : (rank : Rank) (leaf : Leaf) (result : Result Answer Refusal) → AdministersTree old new past now told_job (BeginsAt old new rank leaf) result → KeepsRoots old.tree new.tree old.roots new.roots old.exports new.exports
  begun_keeps rank leaf result h = by_work told_job (BeginsAt old new rank leaf) (begun_at rank leaf) result h

  pub ended_keeps : (before after : ℕ) (job : Begun) (result : Result Answer Refusal) → AdministersTree old new past now told_nothing (EndsJobOf old.tree new.tree before after job) result → KeepsRoots old.tree new.tree old.roots new.roots old.exports new.exports
  ended_keeps before after job result h = by_work told_nothing (EndsJobOf old.tree new.tree before after job) (ended old.tree new.tree before after job) result h

  pub dropped_keeps : (number : ℕ) (result : Result Answer Refusal) → AdministersTree old new past now told_nothing (Drops old.tree new.tree number) result → KeepsRoots old.tree new.tree old.roots new.roots old.exports new.exports
  dropped_keeps number result h = by_work told_nothing (Drops old.tree new.tree number) (dropped old.tree new.tree number) result h

  pub saved_keeps : (before after : ℕ) (dir : Ino) (result : Result Answer Refusal) → AdministersTree old new past now told_nothing (SavesTree old.tree new.tree before after dir) result → KeepsRoots old.tree new.tree old.roots new.roots old.exports new.exports
  saved_keeps before after dir result h = by_work told_nothing (SavesTree old.tree new.tree before after dir) (λ done did. tables_of (saved old.tree new.tree before after dir done did)) result h

  pub purged_keeps : (before after : ℕ) (result : Result Answer Refusal) → AdministersTree old new past now told_nothing (Purges old.tree new.tree before after) result → KeepsRoots old.tree new.tree old.roots new.roots old.exports new.exports
  purged_keeps before after result h = by_work told_nothing (Purges old.tree new.tree before after) (λ done did. tables_of (purged old.tree new.tree before after (first_name old.tree.purge) done did)) result h

-- an eviction leaves the whole state
pub evicted_keeps : (old new : Core) (past now : List Entry) (rank : Rank) (result : Result Answer Refusal) → AreRoots old.state.tree old.state.roots → AdministersTree old.state new.state past now told_nothing (EvictsOne old new rank) result
    → KeepsRoots old.state.tree new.state.tree old.state.roots new.state.roots old.state.exports new.state.exports
evicted_keeps old new past now rank (Ok answer) valid h = keeps_same old.state.tree new.state.tree old.state.roots new.state.roots old.state.exports new.state.exports (ap (λ (s : State). s.tree) h.0.2) h.1 (ap (λ (s : State). s.exports) h.0.2) valid
evicted_keeps old new past now rank (Err reason) valid h = keeps_same old.state.tree new.state.tree old.state.roots new.state.roots old.state.exports new.state.exports (ap (λ (s : State). s.tree) h.0.1.left) h.1 (ap (λ (s : State). s.exports) h.0.1.left) valid

-- at a rank that isn't there all is left
pub at_rank_keeps : (old new : Core) (past now : List Entry) (here : Bool) (result : Result Answer Refusal) {done : Type 0} → AreRoots old.state.tree old.state.roots → (done → KeepsRoots old.state.tree new.state.tree old.state.roots new.state.roots old.state.exports new.state.exports)
    → MatchBool here done ((result ≡ Err NotAuthority) × (new ≡ old) × (now ≡ past)) → KeepsRoots old.state.tree new.state.tree old.state.roots new.state.roots old.state.exports new.state.exports
at_rank_keeps old new past now true result valid go h = go h
at_rank_keeps old new past now false result valid go h = keeps_same old.state.tree new.state.tree old.state.roots new.state.roots old.state.exports new.state.exports (ap (λ (c : Core). c.state.tree) h.1) (ap (λ (c : Core). c.state.roots) h.1) (ap (λ (c : Core). c.state.exports) h.1) valid
