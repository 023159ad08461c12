-- What a rank proposes is an own step of a rank, which adds nothing to the history.
use Rattle.cluster_core.proofs.Recorded.{records_of}
use Rattle.cluster_core.proofs.Common.{AddsAtServe, Answer, Arrive, Cancel, CommitBegin, CommitDrop, CommitEnd, CommitTree, Core, Entry, Event, Evict, ExportState, Finish, Freeze, Grant, Import, IsFirstKindOf, IsNextStep, IsOwnStep, Kind, Leaf, List, Merge, OfExport, OfLarge, OfPin, OfSmall, Ok, Prep, Proposes, Purge, Rank, Refusal, Result, Send, Serve, Sight, Some, Split, Start, Steps, Would, [], inl, inr, kinds, sight, subst, sym, ◌∷◌, ◌≡◌, Request, arrival}
use Rattle.std.specs.List.{AllByRecursion}
use Rattle.export_steps.specs.declared.exports.ExportState.TheVariants as at

own_next : (s : Sight) (root : Leaf) (state : ExportState) (event : Event) → IsNextStep s root state event → IsOwnStep event
own_next s root at.Started event (inl (is, may)) = subst IsOwnStep (sym is) tt
own_next s root at.Started event (inr (is, none)) = subst IsOwnStep (sym is) tt
own_next s root at.Frozen event is = subst IsOwnStep (sym is) tt
own_next s root at.Prepared event is = subst IsOwnStep (sym is) tt
own_next s root at.Sent event is = subst IsOwnStep (sym is) tt
own_next s root at.Imported event is = subst IsOwnStep (sym is) tt

own_kind : (s : Sight) (kind : Kind) (leaf : Leaf) (event : Event) → Would s kind leaf event → IsOwnStep event
own_kind s OfExport leaf event on = own_next s leaf on.export.state event on.next
own_kind s OfLarge leaf event is = subst IsOwnStep (sym is.is) tt
own_kind s OfSmall leaf event is = subst IsOwnStep (sym is.is) tt
own_kind s OfPin leaf event is = subst IsOwnStep (sym is.is) tt

-- a proposal is an own step
own_first : (s : Sight) (kinds : List Kind) (event : Event) → IsFirstKindOf s kinds (Some event) → IsOwnStep event
own_first s [] event none = absurd none
own_first s (kind ∷ others) event (inl least) = own_kind s kind least.leaf event least.would
own_first s (kind ∷ others) event (inr (none, rest)) = own_first s others event rest

pub own_step : (core : Core) (rank : Rank) (event : Event) → Proposes core rank (Ok (Some event)) → IsOwnStep event
own_step core rank event proposed = own_first (sight core rank) kinds event proposed.1

-- it adds nothing to the history
stays : (event : Event) (past now : List Entry) → IsOwnStep event → AddsAtServe event past now → now ≡ past
stays (Arrive rank request) past now own same = absurd own
stays (Serve rank) past now own same = absurd own
stays (Grant rank client tid) past now own same = absurd own
stays (Split rank dir f bits) past now own same = same
stays (Merge rank dir f) past now own same = same
stays (CommitBegin rank dir f) past now own same = absurd own
stays (CommitEnd encoded) past now own same = absurd own
stays (CommitDrop job) past now own same = absurd own
stays (CommitTree dir) past now own same = absurd own
stays Purge past now own same = absurd own
stays (Evict rank) past now own same = absurd own
stays (Start from dir f to) past now own same = same
stays (Freeze dir f) past now own same = same
stays (Prep dir f) past now own same = same
stays (Send dir f) past now own same = same
stays (Import dir f bytes) past now own same = same
stays (Finish dir f) past now own same = same
stays (Cancel dir f) past now own same = same

pub proposal_stays : (core old new : Core) (rank : Rank) (event : Event) (past now : List Entry) (result : Result Answer Refusal) → Proposes core rank (Ok (Some event)) → Steps old new past now result event → now ≡ past
proposal_stays core old new rank event past now result proposed stepped =
    stays event past now (own_step core rank event proposed) (records_of old new past now result event stepped).at_serve

-- and brings no request
brings : (P : Request → Type 0) (event : Event) → IsOwnStep event → AllByRecursion P (arrival event)
brings P (Arrive rank request) own = absurd own
brings P (Serve rank) own = tt
brings P (Grant rank client tid) own = tt
brings P (Split rank dir f bits) own = tt
brings P (Merge rank dir f) own = tt
brings P (CommitBegin rank dir f) own = tt
brings P (CommitEnd encoded) own = tt
brings P (CommitDrop job) own = tt
brings P (CommitTree dir) own = tt
brings P Purge own = tt
brings P (Evict rank) own = tt
brings P (Start from dir f to) own = tt
brings P (Freeze dir f) own = tt
brings P (Prep dir f) own = tt
brings P (Send dir f) own = tt
brings P (Import dir f bytes) own = tt
brings P (Finish dir f) own = tt
brings P (Cancel dir f) own = tt

pub proposal_brings : (core : Core) (rank : Rank) (event : Event) (P : Request → Type 0) → Proposes core rank (Ok (Some event)) → AllByRecursion P (arrival event)
proposal_brings core rank event P proposed = brings P event (own_step core rank event proposed)
