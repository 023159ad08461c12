-- An ask that is given up leaves nothing.
use Rattle.asking.proofs.Common.{BookState, Core, Entry, Err, Inboxes, IsTakenOut, KeptState, List, NoneWaits, Opening, Pin, Rank, Refusal, RefusesAsk, Request, State, StillWaits, WhyItWaits, [], ap, get_or-set_other, inl, inr, subst, sym, waiting_at, whole_of, with_waiting, without_request, ℕ, ◌<◌, ◌++◌, ◌∙◌, ◌∷◌, ◌≡◌, ◌⊎◌}
use Rattle.std.proofs.lemmas.Bool.{cases_eq}
use Rattle.cluster_core.specs.GivenUp.{GivesUpIn}
use Rattle.asking.specs.Drain.{IsLowest}
use Rattle.asking.specs.Once.{AsksOnce, IsGivenUp, Leaves, WhyNone}
use Rattle.asking.specs.declared.drains.Waiter.{Waiter}
use Rattle.asking.proofs.InboxLaws.{at_front, emptied, still_empty}

module _ (old mid : BookState) (rank : Rank) (request : Request) (reason : Refusal) (none : NoneWaits old.core.state.inboxes) (h : RefusesAsk old.core mid.core old.history mid.history rank request reason) where
  abbrev Once : BookState → Type 0
  Once new = WhyNone old.core new.core old.history rank request reason × (((new.core ≡ old.core) × (new.history ≡ old.history)) ⊎ IsGivenUp old.core.state new.core.state old.history new.history request)

  forgotten : IsTakenOut old.core.state mid.core.state old.history mid.history rank request [] → IsGivenUp old.core.state mid.core.state old.history mid.history request
  forgotten out = record {
    same = out.same;
    left = out.left ∙ ap (λ (i : Inboxes). record old.core.state { inboxes = i; pins = without_request old.core.state.pins request }) (still_empty old.core.state.inboxes rank none);
  }

  -- what waits alone is at the front
  stands : (s : StillWaits old.core.state mid.core.state old.history mid.history request) → waiting_at mid.core.state.inboxes s.at ≡ request ∷ []
  stands s = ap (λ (t : State). waiting_at t.inboxes s.at) s.alone.kept.left ∙ at_front old.core.state.inboxes s.at request s.alone.there

  -- none waits, so it has left, or never came
  pub none_left : NoneWaits mid.core.state.inboxes → Once mid
  none_left idle = go h
    where
      go : RefusesAsk old.core mid.core old.history mid.history rank request reason → Once mid
      go (inl (named, past, same, still)) = (inl (named, past), inl (same, still))
      go (inr (inl (named, trimmed, out))) = (inr (inl (named, trimmed)), inr (forgotten out))
      go (inr (inr (inl (named, lacks, out)))) = (inr (inr (inl (named, lacks))), inr (forgotten out))
      go (inr (inr (inr (why, s)))) = let clash : [] ≡ request ∷ [] = sym (idle s.at) ∙ stands s in absurd cc

  -- it waits, and is given up
  module _ (found : Waiter) (is : IsLowest mid.core.state.inboxes found) (new : BookState) (given : GivesUpIn mid.core new.core found.rank (waiting_at mid.core.state.inboxes found.rank)) (still : new.history ≡ mid.history) where
    idle_clash : NoneWaits mid.core.state.inboxes → Once new
    idle_clash idle = let clash : [] ≡ is.request ∷ is.rest = sym (idle found.rank) ∙ is.front in absurd cc

    idle_out : IsTakenOut old.core.state mid.core.state old.history mid.history rank request [] → NoneWaits mid.core.state.inboxes
    idle_out out = subst NoneWaits (sym (ap (λ (s : State). s.inboxes) out.left ∙ still_empty old.core.state.inboxes rank none)) none

    module _ (s : StillWaits old.core.state mid.core.state old.history mid.history request) where
      there : found.rank.0 ≡ s.at.0
      there = go (cases_eq found.rank.0 s.at.0)
        where
          go : (found.rank.0 ≡ s.at.0) ⊎ (found.rank.0 ≡ s.at.0 → ⊥) → found.rank.0 ≡ s.at.0
          go (inl same) = same
          go (inr apart) =
              let other : waiting_at mid.core.state.inboxes found.rank ≡ [] =
              ap (λ (t : State). waiting_at t.inboxes found.rank) s.alone.kept.left ∙ get_or-set_other old.core.state.inboxes s.at.0 found.rank.0 (request ∷ []) [] apart ∙ none found.rank in
              let clash : [] ≡ is.request ∷ is.rest = sym other ∙ is.front in absurd cc

      at : found.rank ≡ s.at
      at = λ i. record { 0 = there i }

      given_so : GivesUpIn mid.core new.core s.at (request ∷ [])
      given_so = subst (GivesUpIn mid.core new.core s.at) (stands s) (subst (λ (r : Rank). GivesUpIn mid.core new.core r (waiting_at mid.core.state.inboxes r)) at given)

      left : IsGivenUp old.core.state new.core.state old.history new.history request
      left = record {
        same = still ∙ s.same;
        left =
            ap (λ (c : Core). c.state) given_so
            ∙ ap (λ (t : State). record t { inboxes = with_waiting t.inboxes s.at []; pins = without_request t.pins request }) s.alone.kept.left
            ∙ ap (λ (i : Inboxes). record old.core.state { inboxes = i; pins = without_request mid.core.state.pins request }) (emptied old.core.state.inboxes s.at (request ∷ []) none)
            ∙ ap (λ (ps : List Pin). record old.core.state { pins = ps }) s.alone.kept.others;
      }

      faults : new.core.faults ≡ mid.core.faults
      faults = ap (λ (c : Core). c.faults) given_so

    pub given_left : Once new
    given_left = go h
      where
        why_then : StillWaits old.core.state mid.core.state old.history mid.history request → WhyItWaits old.core mid.core old.history request reason → WhyItWaits old.core new.core old.history request reason
        why_then s (inl memory) = inl memory
        why_then s (inr (its, inl memory)) = inr (its, inl memory)
        why_then s (inr (its, inr (inl (named, rose)))) = inr (its, inr (inl (named, subst (λ (n : ℕ). old.core.faults < n) (sym (faults s)) rose)))
        why_then s (inr (its, inr (inr other))) = inr (its, inr (inr other))

        go : RefusesAsk old.core mid.core old.history mid.history rank request reason → Once new
        go (inl (named, past, same, still)) = idle_clash (subst (λ (c : Core). NoneWaits c.state.inboxes) (sym same) none)
        go (inr (inl (named, trimmed, out))) = idle_clash (idle_out out)
        go (inr (inr (inl (named, lacks, out)))) = idle_clash (idle_out out)
        go (inr (inr (inr (why, s)))) = (inr (inr (inr (why_then s why))), inr (left s))

-- nothing waits then
pub none_waits_once : (old new : BookState) (rank : Rank) (request : Request) (reason : Refusal) → NoneWaits old.core.state.inboxes → AsksOnce old.core new.core old.history new.history rank request (Err reason) → NoneWaits new.core.state.inboxes
none_waits_once old new rank request reason none (why, inl (same, still)) = subst (λ (c : Core). NoneWaits c.state.inboxes) (sym same) none
none_waits_once old new rank request reason none (why, inr is) = subst (λ (s : State). NoneWaits s.inboxes) (sym is.left) none

-- an ask that was refused, and what waits then given up
pub once : (old : BookState) (opening : Opening) (past : List Entry) (mid new : KeptState) (rank : Rank) (request : Request) (reason : Refusal) → NoneWaits old.core.state.inboxes → RefusesAsk old.core mid.core old.history (past ++ mid.history) rank request reason → Leaves mid new
    → AsksOnce old.core new.core old.history (past ++ new.history) rank request (Err reason)
once old opening past mid new rank request reason none h (inl (idle, same)) =
    subst (λ (b : KeptState). AsksOnce old.core b.core old.history (past ++ b.history) rank request (Err reason)) (sym same) (none_left old (whole_of opening past mid) rank request reason none h idle)
once old opening past mid new rank request reason none h (inr (found, is, given)) =
    given_left old (whole_of opening past mid) rank request reason none h found is (whole_of opening past new) given.given (ap (λ (l : List Entry). past ++ l) given.same)

-- and the history is as it was
pub kept_once : (old new : BookState) (rank : Rank) (request : Request) (reason : Refusal) → AsksOnce old.core new.core old.history new.history rank request (Err reason) → new.history ≡ old.history
kept_once old new rank request reason (why, inl (same, still)) = still
kept_once old new rank request reason (why, inr is) = is.same
