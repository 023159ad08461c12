-- What one step makes of the history that was handed in, and of its places.
use Rattle.rank_threads.proofs.Common.{AllByRecursion, Answer, BookState, Continues, Entry, Event, IsOneThread, IsSent, IsSoundBook, IsSoundKept, KeptState, List, Opening, Receipt, Refusal, Request, Result, StandsBehind, StaysBehind, ap, arith, drop, first_in, length, length-take, places_of, receipt_of, refl, subst, sym, take, take-append-drop, take-append-le, whole_of, ℕ, ◌++◌, ◌+◌, ◌∙◌, ◌≡◌, ◌≤◌}
use Rattle.std.proofs.Math.Logic.{∥∥₁_map}
use Rattle.std.proofs.lemmas.List.{append_assoc}
use Rattle.cluster_core.specs.OneThread.{InOrder}
use Rattle.cluster_core.specs.Steps.{Steps}
use Rattle.cluster_core.specs.Uses.{UsesStep}
use Rattle.cluster_core.proofs.Forgotten.{behind_one}
use Rattle.cluster_core.proofs.OneThreadLaws.{counts}
use Rattle.rank_threads.proofs.KeptBehind.{kept_stays}
use Rattle.rank_threads.specs.OneStep.{IsOneStep}

-- there are as many more places as the result is a first reply
pub counts_on : (old new : KeptState) (result : Result Answer Refusal) → InOrder (places_of old) (receipt_of result) (places_of new) → places_of new ≡ places_of old + first_in result
counts_on old new result h = counts (receipt_of result) (places_of old) (places_of new) h

-- what is begun with is no longer than the history
pub begun_fits : (begun past : List Entry) → take (length begun) past ≡ begun → length begun ≤ length past
begun_fits begun past was = let n : length (take (length begun) past) ≡ length begun = ap length was in omega (arith, length-take (length begun) past, n)

-- ---- a step, whichever opening tree and past the book goes on from: it goes on from some

-- entries were added behind the history
pub record Grown (old new : KeptState) (sent : List Request) : Type 0 where
  pub more : List Entry
  pub grows : new.history ≡ old.history ++ more
  pub asked : AllByRecursion (IsSent sent) more

module _ (old new : KeptState) (known : IsSoundKept old) where
  -- what is forgotten stays so
  pub past_stays : StaysBehind old new → new.core.state.sessions.forgotten ≡ old.core.state.sessions.forgotten
  past_stays on = sym (on known.0 known.1 known.2).behind.aside.before ∙ known.2.behind.aside.before

  pub grown : (limit : ℕ) (sent : List Request) (told : List Receipt) → ((opening : Opening) (past : List Entry) → StandsBehind opening past old → IsOneThread limit opening (past ++ old.history) (past ++ new.history) sent told)
      → Grown old new sent
  grown limit sent told ones =
      let one = ones known.0 known.1 known.2 in
      record { more = one.more; grows = behind_one known.1 new.history (old.history ++ one.more) (one.grows ∙ append_assoc known.1 old.history one.more); asked = one.asked }

  -- nothing was added
  pub same_history : ((opening : Opening) (past : List Entry) → StandsBehind opening past old → past ++ new.history ≡ past ++ old.history) → new.history ≡ old.history
  same_history same = behind_one known.1 new.history old.history (same known.0 known.1 known.2)

  pub same_places : StaysBehind old new → ((opening : Opening) (past : List Entry) → StandsBehind opening past old → past ++ new.history ≡ past ++ old.history) → places_of new ≡ places_of old
  same_places on same = (λ i. past_stays on i + length (same_history same i))

-- what a history begins with, it still begins with
pub still_begins : (begun : List Entry) (old new : KeptState) (sent : List Request) → Grown old new sent → take (length begun) old.history ≡ begun → take (length begun) new.history ≡ begun
still_begins begun old new sent g was =
    ap (take (length begun)) g.grows ∙ take-append-le (length begun) old.history g.more (begun_fits begun old.history was) ∙ was

pub begins_same : (begun : List Entry) (old new : KeptState) → new.history ≡ old.history → take (length begun) old.history ≡ begun → take (length begun) new.history ≡ begun
begins_same begun old new same was = ap (take (length begun)) same ∙ was

-- the book still goes on from what the one that was handed in went on from
pub still_behind : (first old new : KeptState) → StaysBehind old new → ∥ StaysBehind first old ∥₁ → ∥ StaysBehind first new ∥₁
still_behind first old new on h = ∥∥₁_map h (λ (was : StaysBehind first old). (λ opening past given. on opening past (was opening past given)))

pub behind_first : (first book : KeptState) → first ≡ book → ∥ StaysBehind first book ∥₁
behind_first first book same = subst (λ (b : KeptState). ∥ StaysBehind first b ∥₁) same ∣ (λ opening past given. given) ∣₁

-- a book that keeps what was handed in goes on from it
pub continued : (first book : KeptState) → IsSoundKept book → book.opening ≡ first.opening → book.core.state.sessions.forgotten ≡ first.core.state.sessions.forgotten → take (length first.history) book.history ≡ first.history → ∥ StaysBehind first book ∥₁
    → Continues first book
continued first book sound same same_past was goes = record {
  sound = sound;
  goes_on = kept_stays first book sound goes;
  same_opening = same;
  same_past = same_past;
  begins = (drop (length first.history) book.history, sym (take-append-drop (length first.history) book.history) ∙ ap (λ xs. xs ++ drop (length first.history) book.history) was);
}

-- what the contract of a step of the book says is one step
pub one_step : (old new : BookState) (event : Event) (result : Result Answer Refusal) → Steps old.core new.core old.history new.history result event → UsesStep old.core new.core result event → new.opening ≡ old.opening → IsSoundBook new
    → IsOneStep old new event result
one_step old new event result stepped uses opening sound = record { stepped = record { stepped = stepped; uses = uses; same_opening = opening }; sound = sound }

pub made_step : (old new : KeptState) (event : Event) (result : Result Answer Refusal) → ((opening : Opening) (past : List Entry) → StandsBehind opening past old → Steps old.core new.core (past ++ old.history) (past ++ new.history) result event)
    → UsesStep old.core new.core result event → StaysBehind old new → (opening : Opening) (past : List Entry) → StandsBehind opening past old → IsOneStep (whole_of opening past old) (whole_of opening past new) event result
made_step old new event result stepped uses on opening past given =
    one_step (whole_of opening past old) (whole_of opening past new) event result (stepped opening past given) uses refl (on opening past given).behind.sound
