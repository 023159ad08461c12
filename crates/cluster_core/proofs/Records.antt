-- What a step makes of the history, event by event.
use Rattle.std.specs.Prelude.{◌≡◌, ℕ, List, [], ◌∷◌, ◌++◌, length, MatchBool, Result, Ok, Err}
use Rattle.mds_types.specs.declared.entries.Entry.{Entry}
use Rattle.mds_types.specs.declared.refusals.Refusal.{Refusal}
use Rattle.cluster_core.specs.declared.events.Answer.{Answer}
use Rattle.cluster_core.specs.declared.events.Answer.TheVariants.{Deferred, Forwarded, Job, Nothing, Reply, Sent}
use Rattle.cluster_core.specs.declared.events.Event.{Event}
use Rattle.cluster_core.specs.declared.events.Event.TheVariants.{Arrive, Grant, Serve, Split, Merge, CommitBegin, CommitEnd, CommitDrop, CommitTree, Purge, Evict, Start, Freeze, Prep, Send, Import, Finish, Cancel}
use Rattle.cluster_core.specs.OneThread.{StandsInHistory}

-- a reply that was handed out is the history's
abbrev pub IsOfHistory : List Entry → Result Answer Refusal → Type 0
IsOfHistory history (Ok Nothing) = Unit {0}
IsOfHistory history (Ok (Reply client tid place first reply)) = StandsInHistory history client tid place reply
IsOfHistory history (Ok (Job job)) = Unit {0}
IsOfHistory history (Ok (Sent bytes)) = Unit {0}
IsOfHistory history (Ok (Forwarded rank)) = Unit {0}
IsOfHistory history (Ok Deferred) = Unit {0}
IsOfHistory history (Err reason) = Unit {0}

-- one entry more stands at the end of a history, at this place
abbrev pub AppendsOne : (past now : List Entry) → (place : ℕ) → Type 0
AppendsOne past now place = (entry : Entry) × (place ≡ length past) × (now ≡ past ++ entry ∷ [])

-- what a step adds to the history: one entry, where it answers a request that was applied now, and else none
abbrev pub AddsTo : (past now : List Entry) → Result Answer Refusal → Type 0
AddsTo past now (Ok Nothing) = now ≡ past
AddsTo past now (Ok (Reply client tid place first reply)) = MatchBool first (AppendsOne past now place) (now ≡ past)
AddsTo past now (Ok (Job job)) = now ≡ past
AddsTo past now (Ok (Sent bytes)) = now ≡ past
AddsTo past now (Ok (Forwarded rank)) = now ≡ past
AddsTo past now (Ok Deferred) = now ≡ past
AddsTo past now (Err reason) = now ≡ past

-- of all events a rank's serving alone adds to the history
abbrev pub AddsAtServe : Event → (past now : List Entry) → Type 0
AddsAtServe (Arrive rank request) past now = now ≡ past
AddsAtServe (Serve rank) past now = Unit {0}
AddsAtServe (Grant rank client tid) past now = now ≡ past
AddsAtServe (Split rank dir f nb) past now = now ≡ past
AddsAtServe (Merge rank dir f) past now = now ≡ past
AddsAtServe (CommitBegin rank dir f) past now = now ≡ past
AddsAtServe (CommitEnd encoded) past now = now ≡ past
AddsAtServe (CommitDrop number) past now = now ≡ past
AddsAtServe (CommitTree dir) past now = now ≡ past
AddsAtServe Purge past now = now ≡ past
AddsAtServe (Evict rank) past now = now ≡ past
AddsAtServe (Start from dir f to) past now = now ≡ past
AddsAtServe (Freeze dir f) past now = now ≡ past
AddsAtServe (Prep dir f) past now = now ≡ past
AddsAtServe (Send dir f) past now = now ≡ past
AddsAtServe (Import dir f bytes) past now = now ≡ past
AddsAtServe (Finish dir f) past now = now ≡ past
AddsAtServe (Cancel dir f) past now = now ≡ past

-- what a step makes of the history: it adds to it alone, and a reply that it hands out stands there
pub record Records (event : Event) (past now : List Entry) (result : Result Answer Refusal) : Type 0 where
  pub adds : AddsTo past now result
  pub at_serve : AddsAtServe event past now
  pub told : IsOfHistory now result
