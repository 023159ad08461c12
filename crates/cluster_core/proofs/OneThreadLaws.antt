-- A step and a whole run, in words of one plain tree served by one thread.
use Rattle.cluster_core.proofs.Common.{AddsTo, Agree, Answer, BookState, Bool, Contains, Deferred, Entry, Err, Event, Forwarded, InOrder, Inboxes, IsAskedFor, IsHeld, IsLegalFrom, IsOfHistory, IsOneThread, IsOneThreadThroughout, IsSent, IsSoundBook, List, MatchBool, NoneTwice, Nothing, Ok, Opening, Receipt, Refusal, Reply, Request, Result, Runs, Sent, Steps, [], after_from, ap, append-nil, append_assoc, arith, arrival, arrivals, cond, false, first_places, length, length-append, list_any, receipt_of, receipts_of, refl, shown, subst, suc, sym, take, true, waiting_in, zero, ℕ, ◌++◌, ◌+◌, ◌<◌, ◌||◌, ◌∙◌, ◌∷◌, ◌≡◌, ◌≤◌}
use Rattle.std.specs.List.{AllByRecursion}
use Rattle.std.specs.Prelude.{nat_eq}
use Rattle.std.proofs.lemmas.Bool.{ne_eqb}
use Rattle.std.proofs.lemmas.List.{take_at}
use Rattle.cluster_core.proofs.Records.{AppendsOne}
use Rattle.cluster_core.specs.declared.events.Answer.TheVariants.{Job}
use Rattle.cluster_core.proofs.LimitStays.{limit_stays}
use Rattle.cluster_core.proofs.ListLaws.{all_append, all_back, all_front, all_weaker, each_left, each_right}
use Rattle.cluster_core.proofs.RunLaws.{run_grows, step_of, still_stands}
use Rattle.cluster_core.proofs.SentLaws.{AreAmong, in_one, nested, of_sent}

-- ---- the order of replies

replied : (past now : List Entry) (first : Bool) (place : ℕ) → MatchBool first (AppendsOne past now place) (now ≡ past) → place < length now
    → MatchBool first ((place ≡ length past) × (length now ≡ length past + 1)) ((place < length past) × (length now ≡ length past))
replied past now true place h low = (h.1, (let e : length now ≡ length (past ++ h.0 ∷ []) = ap length h.2 in omega (arith, e, length-append past (h.0 ∷ []))))
replied past now false place h low = (subst (λ (es : List Entry). place < length es) h low, ap length h)

-- one reply
order_of : (past now : List Entry) (result : Result Answer Refusal) → AddsTo past now result → IsOfHistory now result → InOrder (length past) (receipt_of result) (length now)
order_of past now (Ok Nothing) adds told = ap length adds
order_of past now (Ok (Reply client tid place first reply)) adds told = replied past now first place adds told.in_range
order_of past now (Ok (Job job)) adds told = ap length adds
order_of past now (Ok (Sent bytes)) adds told = ap length adds
order_of past now (Ok (Forwarded rank)) adds told = ap length adds
order_of past now (Ok Deferred) adds told = ap length adds
order_of past now (Err reason) adds told = ap length adds

each_way : (b : Bool) (A C : Type 0) (P Q : ℕ → Type 0) (count : ℕ) → ((n : ℕ) → P n → Q n) → MatchBool b (A × P (count + 1)) (C × P count) → MatchBool b (A × Q (count + 1)) (C × Q count)
each_way true A C P Q count f h = (h.0, f (count + 1) h.1)
each_way false A C P Q count f h = (h.0, f count h.1)

-- further replies
order_on : (rs ss : List Receipt) (count middle end : ℕ) → InOrder count rs middle → InOrder middle ss end → InOrder count (rs ++ ss) end
order_on [] ss count middle end h k = subst (λ (n : ℕ). InOrder n ss end) h k
order_on (r ∷ rs) ss count middle end h k =
    each_way r.first (r.place ≡ count) (r.place < count) (λ n. InOrder n rs middle) (λ n. InOrder n (rs ++ ss) end) count (λ n i. order_on rs ss n middle end i k) h

-- the places of first ones, from this one on
record AreNext (count : ℕ) (places : List ℕ) (end : ℕ) : Type 0 where
  above : AllByRecursion (λ place. count ≤ place) places
  apart : NoneTwice places
  as_many : end ≡ count + length places

none_at : (count : ℕ) (places : List ℕ) → AllByRecursion (λ place. count + 1 ≤ place) places → list_any (nat_eq count) places ≡ false
none_at count [] h = refl
none_at count (place ∷ places) h =
    let e : nat_eq count place ≡ false = ne_eqb count place (λ same. let low = h.0 in omega (arith, same, low)) in
    ap (λ (b : Bool). b || list_any (nat_eq count) places) e ∙ none_at count places h.1

next_more : (b : Bool) (place count end : ℕ) (places : List ℕ) → MatchBool b ((place ≡ count) × AreNext (count + 1) places end) ((place < count) × AreNext count places end) → AreNext count (cond b (place ∷ places) places) end
next_more true place count end places h =
    let its = h.1 in
    let many = its.as_many in
    record {
      above = (omega (arith, h.0), all_weaker (λ p. count + 1 ≤ p) (λ p. count ≤ p) (λ p low. omega (arith, low)) places its.above);
      apart = (ap (λ (n : ℕ). list_any (nat_eq n) places) h.0 ∙ none_at count places its.above, its.apart);
      as_many = omega (arith, many);
    }
next_more false place count end places h = h.1

are_next : (rs : List Receipt) (count end : ℕ) → InOrder count rs end → AreNext count (first_places rs) end
are_next [] count end h = record { above = tt; apart = tt; as_many = omega (arith, h) }
are_next (r ∷ rs) count end h =
    next_more r.first r.place count end (first_places rs)
    (each_way r.first (r.place ≡ count) (r.place < count) (λ n. InOrder n rs end) (λ n. AreNext n (first_places rs) end) count (λ n i. are_next rs n end i) h)

-- there are as many more places as first replies
pub counts : (rs : List Receipt) (count end : ℕ) → InOrder count rs end → end ≡ count + length (first_places rs)
counts rs count end h = (are_next rs count end h).as_many

-- replies that stand in a history, in their order, agree with it
agree_of : (history past : List Entry) (rs : List Receipt) → AllByRecursion (IsHeld history) rs → InOrder (length past) rs (length history) → Agree history (length past) rs
agree_of history past rs held order =
    let next = are_next rs (length past) (length history) order in
    let many = next.as_many in
    record { stand = record { held = held; newer = next.above; apart = next.apart }; as_many = omega (arith, many) }

held_of : (history : List Entry) (result : Result Answer Refusal) → IsOfHistory history result → AllByRecursion (IsHeld history) (receipt_of result)
held_of history (Ok Nothing) h = tt
held_of history (Ok (Reply client tid place first reply)) h = (h, tt)
held_of history (Ok (Job job)) h = tt
held_of history (Ok (Sent bytes)) h = tt
held_of history (Ok (Forwarded rank)) h = tt
held_of history (Ok Deferred) h = tt
held_of history (Err reason) h = tt

-- ---- steps

-- what steps leave, of which all that waited or came is among these requests
pub record Served (start end : BookState) (sent : List Request) (told : List Receipt) : Type 0 where
  pub opening : end.opening ≡ start.opening
  pub limit : end.core.state.tree.limit ≡ start.core.state.tree.limit
  pub waits : AreAmong sent end.core.state.inboxes
  pub more : List Entry
  pub grows : end.history ≡ start.history ++ more
  pub asked : AllByRecursion (IsSent sent) more
  pub asked_for : AllByRecursion (IsAskedFor sent) told
  pub held : AllByRecursion (IsHeld end.history) told
  pub in_order : InOrder (length start.history) told (length end.history)

module _ (sent : List Request) where
  -- what says nothing to clients
  pub served_none : (start end : BookState) → end.opening ≡ start.opening → end.core.state.tree.limit ≡ start.core.state.tree.limit → end.core.state.inboxes ≡ start.core.state.inboxes → end.history ≡ start.history
      → AreAmong sent start.core.state.inboxes → Served start end sent []
  served_none start end opening limit inboxes same among = record {
    opening = opening;
    limit = limit;
    waits = subst (λ (i : Inboxes). AreAmong sent i) (sym inboxes) among;
    more = [];
    grows = same ∙ sym (append-nil start.history);
    asked = tt;
    asked_for = tt;
    held = tt;
    in_order = ap length same;
  }

  pub served_same : (start end : BookState) → end ≡ start → AreAmong sent start.core.state.inboxes → Served start end sent []
  served_same start end same among =
      served_none start end (ap (λ (k : BookState). k.opening) same) (ap (λ (k : BookState). k.core.state.tree.limit) same) (ap (λ (k : BookState). k.core.state.inboxes) same) (ap (λ (k : BookState). k.history) same) among

  pub served_one : (start end : BookState) (result : Result Answer Refusal) (event : Event) → Steps start.core end.core start.history end.history result event → end.opening ≡ start.opening → AreAmong sent start.core.state.inboxes
      → AllByRecursion (Contains sent) (arrival event) → Served start end sent (receipt_of result)
  served_one start end result event stepped opening among has =
      let its = of_sent sent start.core end.core start.history end.history among result event has stepped.does in
      let one = step_of start.core end.core start.history end.history result event stepped.does in
      record {
        opening = opening;
        limit = limit_stays start.history end.history start.core end.core result event stepped.does;
        waits = its.waits;
        more = its.more;
        grows = its.grows;
        asked = its.asked;
        asked_for = its.asked_for;
        held = held_of end.history result one.told;
        in_order = order_of start.history end.history result one.adds one.told;
      }

  still_held : (past now : List Entry) (more : List Entry) → now ≡ past ++ more → (r : Receipt) → IsHeld past r → IsHeld now r
  still_held past now more grown r h = still_stands past now r.client r.tid r.place r.reply (more, grown) h

  pub served_on : (start middle end : BookState) (rs ss : List Receipt) → Served start middle sent rs → Served middle end sent ss → Served start end sent (rs ++ ss)
  served_on start middle end rs ss h k = record {
    opening = k.opening ∙ h.opening;
    limit = k.limit ∙ h.limit;
    waits = k.waits;
    more = h.more ++ k.more;
    grows = k.grows ∙ ap (λ (es : List Entry). es ++ k.more) h.grows ∙ append_assoc start.history h.more k.more;
    asked = all_append (IsSent sent) h.more k.more h.asked k.asked;
    asked_for = all_append (IsAskedFor sent) rs ss h.asked_for k.asked_for;
    held = all_append (IsHeld end.history) rs ss (all_weaker (IsHeld middle.history) (IsHeld end.history) (still_held middle.history end.history k.more k.grows) rs h.held) k.held;
    in_order = order_on rs ss (length start.history) (length middle.history) (length end.history) h.in_order k.in_order;
  }

  served_all : (start : BookState) (events : List Event) (results : List (Result Answer Refusal)) (end : BookState) → Runs start events results end → AreAmong sent start.core.state.inboxes → AllByRecursion (Contains sent) (arrivals events)
      → Served start end sent (receipts_of results)
  served_all start [] [] end h among has = served_same start end h among
  served_all start [] (result ∷ results) end h among has = absurd h
  served_all start (event ∷ events) [] end h among has = absurd h
  served_all start (event ∷ events) (result ∷ results) end (next, one, sound, more) among has =
      let first = served_one start next result event one.stepped one.same_opening among (all_front (Contains sent) (arrival event) (arrivals events) has) in
      served_on start next end (receipt_of result) (receipts_of results) first (served_all next events results end more first.waits (all_back (Contains sent) (arrival event) (arrivals events) has))

-- ---- one thread

-- what steps are to whoever sends requests
pub record ServesAsOne (start end : BookState) (sent : List Request) (told : List Receipt) : Type 0 where
  pub one : IsOneThread start.core.state.tree.limit start.opening start.history end.history sent told
  pub in_order : InOrder (length start.history) told (length end.history)
  pub waits : AllByRecursion (Contains sent) (waiting_in end.core.state.inboxes)

pub as_one : (start end : BookState) (sent : List Request) (told : List Receipt) → IsSoundBook end → Served start end sent told → ServesAsOne start end sent told
as_one start end sent told sound h = record {
  one = record {
    more = h.more;
    grows = h.grows;
    legal =
        subst (λ (n : ℕ). IsLegalFrom n start.opening end.history) h.limit
        (subst (λ (o : Opening). IsLegalFrom end.core.state.tree.limit o end.history) h.opening sound.legal);
    asked = h.asked;
    asked_for = h.asked_for;
    agree = agree_of end.history start.history told h.held h.in_order;
  };
  in_order = h.in_order;
  waits = in_one sent end.core.state.inboxes h.waits;
}

-- one step
pub step_as_one : (start end : BookState) (result : Result Answer Refusal) (event : Event) → Steps start.core end.core start.history end.history result event → end.opening ≡ start.opening → IsSoundBook end
    → ServesAsOne start end (waiting_in start.core.state.inboxes ++ arrival event) (receipt_of result)
step_as_one start end result event stepped opening sound =
    let waiting = waiting_in start.core.state.inboxes in
    let sent = waiting ++ arrival event in
    let among = nested sent start.core.state.inboxes (each_left waiting (arrival event)) in
    as_one start end sent (receipt_of result) sound (served_one sent start end result event stepped opening among (each_right waiting (arrival event)))

-- one step of a book that is shown by this start
pub shown_as_one : (old start end : BookState) → start ≡ old → (result : Result Answer Refusal) (event : Event) → Steps start.core end.core start.history end.history result event → end.opening ≡ start.opening → IsSoundBook end
    → ServesAsOne old end (waiting_in old.core.state.inboxes ++ arrival event) (receipt_of result)
shown_as_one old start end same result event stepped opening sound =
    subst (λ (k : BookState). ServesAsOne k end (waiting_in k.core.state.inboxes ++ arrival event) (receipt_of result)) same (step_as_one start end result event stepped opening sound)

-- a whole run
pub run_as_one : (start end : BookState) (events : List Event) (results : List (Result Answer Refusal)) → Runs start events results end → IsSoundBook end
    → ServesAsOne start end (waiting_in start.core.state.inboxes ++ arrivals events) (receipts_of results)
run_as_one start end events results ran sound =
    let waiting = waiting_in start.core.state.inboxes in
    let sent = waiting ++ arrivals events in
    let among = nested sent start.core.state.inboxes (each_left waiting (arrivals events)) in
    as_one start end sent (receipts_of results) sound (served_all sent start events results end ran among (each_right waiting (arrivals events)))

-- a moment of a run: it is one of its beginning, and the history went on from there
record Moment (start end : BookState) (events : List Event) (results : List (Result Answer Refusal)) : Type 0 where
  middle : BookState
  ran : Runs start events results middle
  sound : IsSoundBook middle
  rest : List Entry
  grows : end.history ≡ middle.history ++ rest

moment : (n : ℕ) (start : BookState) (events : List Event) (results : List (Result Answer Refusal)) (end : BookState) → Runs start events results end → IsSoundBook start → Moment start end (take n events) (take n results)
moment zero start events results end ran sound =
    let grown = run_grows start events results end ran in
    record { middle = start; ran = refl; sound = sound; rest = grown.0; grows = grown.1 }
moment (suc n) start [] [] end ran sound = record { middle = start; ran = refl; sound = sound; rest = []; grows = ap (λ (k : BookState). k.history) ran ∙ sym (append-nil start.history) }
moment (suc n) start [] (result ∷ results) end ran sound = absurd ran
moment (suc n) start (event ∷ events) [] end ran sound = absurd ran
moment (suc n) start (event ∷ events) (result ∷ results) end (next, one, good, more) sound =
    let m = moment n next events results end more good in
    record { middle = m.middle; ran = (next, one, good, m.ran); sound = m.sound; rest = m.rest; grows = m.grows }

-- at each moment
pub run_throughout : (start end : BookState) (events : List Event) (results : List (Result Answer Refusal)) → Runs start events results end → IsSoundBook start
    → IsOneThreadThroughout start.core.state.tree.limit start.opening start.history end.history (waiting_in start.core.state.inboxes) events results
run_throughout start end events results ran sound n =
    let m = moment n start events results end ran sound in
    let told = receipts_of (take n results) in
    let sent = waiting_in start.core.state.inboxes ++ arrivals (take n events) in
    let its = run_as_one start m.middle (take n events) (take n results) m.ran m.sound in
    let long : length m.middle.history ≡ length start.history + length (first_places told) = (are_next told (length start.history) (length m.middle.history) its.in_order).as_many in
    let front : take (length start.history + length (first_places told)) end.history ≡ m.middle.history =
    ap (take (length start.history + length (first_places told))) m.grows ∙ take_at m.middle.history m.rest (length start.history + length (first_places told)) long in
    subst (λ (es : List Entry). IsOneThread start.core.state.tree.limit start.opening start.history es sent told) (sym front) its.one

-- what a sound book shows, by the limit and the opening tree that it had before
pub shows_after : (old start end : BookState) → start ≡ old → (result : Result Answer Refusal) (event : Event) → Steps start.core end.core start.history end.history result event → end.opening ≡ start.opening → IsSoundBook end
    → shown end.core.state ≡ after_from old.core.state.tree.limit old.opening end.history
shows_after old start end same result event stepped opening sound =
    let limit : end.core.state.tree.limit ≡ start.core.state.tree.limit = limit_stays start.history end.history start.core end.core result event stepped.does in
    subst (λ (k : BookState). shown end.core.state ≡ after_from k.core.state.tree.limit k.opening end.history) same
    (subst (λ (n : ℕ). shown end.core.state ≡ after_from n start.opening end.history) limit
    (subst (λ (o : Opening). shown end.core.state ≡ after_from end.core.state.tree.limit o end.history) opening sound.replayed))
