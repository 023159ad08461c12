-- How many wait after an ask, and an ask behind a drain.
use Rattle.asking.proofs.Common.{AsksAlone, BookState, Core, Entry, Err, Inboxes, IsTakenOut, List, NoneWaits, Ok, Rank, Receipt, Refusal, RefusesAsk, Request, Result, State, StillWaits, [], ap, arith, get_or, inl, inr, length, suc, with_waiting, zero, ℕ, ◌∙◌, ◌∷◌, ◌≡◌, ◌≤◌}
use Rattle.asking.specs.Among.{AsksAmong, IsDrained}
use Rattle.asking.specs.Drain.{waiting_in_all}
use Rattle.asking.proofs.AnswerLaws.{none_waits}
use Rattle.asking.proofs.InboxLaws.{still_empty}
use Rattle.std.proofs.lemmas.List.{nil_from_length}
use Rattle.asking.proofs.StrayLaws.{waiting_at_most, waiting_set}

none_of : (xs : Inboxes) → ((k : ℕ) → get_or xs k [] ≡ []) → waiting_in_all xs ≡ 0
none_of [] none = omega arith
none_of (x ∷ xs) none = let here : length x ≡ 0 = ap (λ w. length w) (none zero) in omega (arith, here, none_of xs (λ k. none (suc k)))

-- none wait
pub none_in_all : (xs : Inboxes) → NoneWaits xs → waiting_in_all xs ≡ 0
none_in_all xs none = none_of xs (λ k. none (record { 0 = k }))

module _ (old new : Core) (past now : List Entry) (rank : Rank) (request : Request) (none : NoneWaits old.state.inboxes) where
  out : IsTakenOut old.state new.state past now rank request [] → waiting_in_all new.state.inboxes ≤ 1
  out h =
      let is : new.state.inboxes ≡ old.state.inboxes = ap (λ (s : State). s.inboxes) h.left ∙ still_empty old.state.inboxes rank none in
      omega (arith, ap (λ (i : Inboxes). waiting_in_all i) is, none_in_all old.state.inboxes none)

  still : StillWaits old.state new.state past now request → waiting_in_all new.state.inboxes ≤ 1
  still h =
      let is : new.state.inboxes ≡ with_waiting old.state.inboxes h.at (request ∷ []) = ap (λ (s : State). s.inboxes) h.alone.kept.left in
      omega (arith, ap (λ (i : Inboxes). waiting_in_all i) is, waiting_set old.state.inboxes h.at.0 (request ∷ []) h.alone.there, none_in_all old.state.inboxes none)

  refused : (reason : Refusal) → RefusesAsk old new past now rank request reason → waiting_in_all new.state.inboxes ≤ 1
  refused reason (inl h) = omega (arith, ap (λ (c : Core). waiting_in_all c.state.inboxes) h.2, none_in_all old.state.inboxes none)
  refused reason (inr (inl h)) = out h.2
  refused reason (inr (inr (inl h))) = out h.2
  refused reason (inr (inr (inr h))) = still h.1

  -- one at most, which has come
  pub one_at_most : (result : Result Receipt Refusal) → AsksAlone old new past now rank request result → waiting_in_all new.state.inboxes ≤ 1
  one_at_most (Ok receipt) h = omega (arith, none_in_all new.state.inboxes (none_waits old new past now rank request receipt none h))
  one_at_most (Err reason) h = refused reason h

pub asked_then : (old mid new : BookState) (others : List Receipt) (rank : Rank) (request : Request) (result : Result Receipt Refusal) → IsDrained old mid others → AsksAlone mid.core new.core mid.history new.history rank request result → AsksAmong old new others rank request result
asked_then old mid new others rank request (Ok receipt) drained asked = record { mid = mid; drained = drained; asked = asked }
asked_then old mid new others rank request (Err reason) drained asked = inl (record { mid = mid; drained = drained; asked = asked })

-- where none wait in all none waits
pub none_from_all : (xs : Inboxes) → waiting_in_all xs ≡ 0 → NoneWaits xs
none_from_all xs none rank = nil_from_length (get_or xs rank.0 []) (omega (arith, waiting_at_most xs rank.0, none))
