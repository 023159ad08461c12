-- What ranks did that served and granted alone.
use Rattle.asking.proofs.Common.{Answer, Arrive, Bool, BookState, MatchBool, Opening, false, true, Entry, Event, Grant, IsBroughtBy, IsSoundBook, IsStepFor, LeadsTo, List, Option, Rank, Receipt, Refusal, Request, Result, Serve, Steps, UsesStep, [], ap, append-nil, receipt_in, refl, subst, sym, ℕ, ◌++◌, ◌+◌, ◌∙◌, ◌∷◌, ◌≡◌}
use Rattle.std.specs.List.{AllByRecursion}
use Rattle.std.proofs.lemmas.List.Concat.{flat_map-append}
use Rattle.std.proofs.lemmas.List.Elements.{Contains-append_left}
use Rattle.cluster_core.specs.OneThread.{InOrder, IsAskedFor, IsOneThread, IsSent, arrival, arrivals, receipt_of, receipts_of, waiting_in}
use Rattle.cluster_core.proofs.ListLaws.{all_weaker}
use Rattle.cluster_core.proofs.OneThreadLaws.{ServesAsOne, run_as_one}
use Rattle.asking.specs.Reached.{ServesOrGrants, ServesWaiting}
use Rattle.asking.proofs.ReachedLaws.{all_then, receipts_then, runs_then}

pub served_none : (book : BookState) → ServesWaiting book book []
served_none book = record { events = []; results = []; ran = refl; only = tt; told = refl }

pub served_then : (a b c : BookState) (rs ss : List Receipt) → ServesWaiting a b rs → ServesWaiting b c ss → ServesWaiting a c (rs ++ ss)
served_then a b c rs ss one other = record {
  events = one.events ++ other.events;
  results = one.results ++ other.results;
  ran = runs_then a b c one.events other.events one.results other.results one.ran other.ran;
  only = all_then ServesOrGrants one.events other.events one.only other.only;
  told = receipts_then one.results other.results ∙ (ap (λ (xs : List Receipt). xs ++ receipts_of other.results) one.told ∙ ap (λ (xs : List Receipt). rs ++ xs) other.told);
}

-- steps for a request, where none comes in
quiet : (client tid : ℕ) (events : List Event) → AllByRecursion (IsStepFor client tid) events → arrivals events ≡ [] → AllByRecursion ServesOrGrants events
quiet client tid [] all none = tt
quiet client tid (Arrive rank request ∷ events) (is, all) none = let clash : request ∷ arrivals events ≡ [] = none in absurd cc
quiet client tid (Serve rank ∷ events) (is, all) none = (tt, quiet client tid events all none)
quiet client tid (Grant rank of number ∷ events) (is, all) none = (tt, quiet client tid events all none)
quiet client tid (_ ∷ events) (is, all) none = absurd is

pub served_by : (client tid most : ℕ) (replies : List Receipt) (refused : Option Refusal) (old new : BookState) → LeadsTo client tid [] most replies refused old new → ServesWaiting old new replies
served_by client tid most replies refused old new led = record {
  events = led.events;
  results = led.results;
  ran = led.ran;
  only = quiet client tid led.events led.for_it led.brought;
  told = led.told;
}

-- one rank serves
pub served_once : (old new : BookState) (rank : Rank) (result : Result Answer Refusal) → Steps old.core new.core old.history new.history result (Serve rank) → UsesStep old.core new.core result (Serve rank) → new.opening ≡ old.opening → IsSoundBook new → ServesWaiting old new (receipt_of result)
served_once old new rank result steps uses same sound = record {
  events = Serve rank ∷ [];
  results = result ∷ [];
  ran = (new, record { stepped = steps; uses = uses; same_opening = same }, sound, refl);
  only = (tt, tt);
  told = append-nil (receipt_of result);
}

-- more was told, behind this
abbrev pub TellsMore : (old new : BookState) (before after : List Receipt) → Type 0
TellsMore old new before after = (replies : List Receipt) × (after ≡ before ++ replies) × ServesWaiting old new replies

pub tells_none : (book : BookState) (before after : List Receipt) → after ≡ before → TellsMore book book before after
tells_none book before after same = ([], same ∙ sym (append-nil before), served_none book)

pub tells_more : (old new : BookState) (before room after told : List Receipt) → room ≡ before → after ≡ room ++ told → ServesWaiting old new told → TellsMore old new before after
tells_more old new before room after told same is served = (told, is ∙ ap (λ (rs : List Receipt). rs ++ told) same, served)

pub tells_on : (first old new : BookState) (before after : List Receipt) → ServesWaiting first old before → TellsMore old new before after → ServesWaiting first new after
tells_on first old new before after served more = subst (λ (rs : List Receipt). ServesWaiting first new rs) (sym more.1) (served_then first old new before more.0 served more.2)

-- ---- one thread

none_comes : (events : List Event) → AllByRecursion ServesOrGrants events → arrivals events ≡ []
none_comes [] all = refl
none_comes (Arrive rank request ∷ events) (is, all) = absurd is
none_comes (Serve rank ∷ events) (is, all) = none_comes events all
none_comes (Grant rank of number ∷ events) (is, all) = none_comes events all
none_comes (_ ∷ events) (is, all) = absurd is

pub waiting_as_one : (old new : BookState) (replies : List Receipt) → IsSoundBook new → ServesWaiting old new replies → ServesAsOne old new (waiting_in old.core.state.inboxes) replies
waiting_as_one old new replies sound served =
    let waiting = waiting_in old.core.state.inboxes in
    let none : waiting ++ arrivals served.events ≡ waiting = ap (λ (rs : List Request). waiting ++ rs) (none_comes served.events served.only) ∙ append-nil waiting in
    subst (λ (rs : List Receipt). ServesAsOne old new waiting rs) served.told (subst (λ (sent : List Request). ServesAsOne old new sent (receipts_of served.results)) none (run_as_one old new served.events served.results served.ran sound))

-- a request more may have been sent
more_sent : (limit : ℕ) (opening : Opening) (past now : List Entry) (sent more : List Request) (told : List Receipt) → IsOneThread limit opening past now sent told → IsOneThread limit opening past now (sent ++ more) told
more_sent limit opening past now sent more told one = record {
  more = one.more;
  grows = one.grows;
  legal = one.legal;
  asked = all_weaker (IsSent sent) (IsSent (sent ++ more)) (λ e. Contains-append_left sent more (record { client = e.client; tid = e.tid; oldest = e.oldest; op = e.op })) one.more one.asked;
  asked_for = all_weaker (IsAskedFor sent) (IsAskedFor (sent ++ more)) (λ r for. (for.0, Contains-append_left sent more for.0 for.1, for.2, for.3)) told one.asked_for;
  agree = one.agree;
}

-- as is one that didn't come in
pub held_as_one : (old new : BookState) (replies : List Receipt) (request : Request) → IsSoundBook new → ServesWaiting old new replies
    → IsOneThread old.core.state.tree.limit old.opening old.history new.history (waiting_in old.core.state.inboxes ++ request ∷ []) (replies ++ [])
held_as_one old new replies request sound served =
    let waiting = waiting_in old.core.state.inboxes in
    subst (λ (rs : List Receipt). IsOneThread old.core.state.tree.limit old.opening old.history new.history (waiting ++ request ∷ []) rs) (sym (append-nil replies))
    (more_sent old.core.state.tree.limit old.opening old.history new.history waiting (request ∷ []) replies (waiting_as_one old new replies sound served).one)

-- receipts in their order, and others behind them
by_first : (b : Bool) (A B C D : Type 0) → (A → C) → (B → D) → MatchBool b A B → MatchBool b C D
by_first true A B C D newly again h = newly h
by_first false A B C D newly again h = again h

pub order_then : (first mid end : ℕ) (rs ss : List Receipt) → InOrder first rs mid → InOrder mid ss end → InOrder first (rs ++ ss) end
order_then first mid end [] ss one other = subst (λ (n : ℕ). InOrder n ss end) one other
order_then first mid end (r ∷ rs) ss one other =
    by_first r.first _ _ _ _ (λ h. (h.0, order_then (first + 1) mid end rs ss h.1 other)) (λ h. (h.0, order_then first mid end rs ss h.1 other)) one

-- those that waited were served, and then one was asked
pub among_as_one : (old mid new : BookState) (replies : List Receipt) (request : Request) (most : ℕ) (result : Result Receipt Refusal) → IsSoundBook new → ServesWaiting old mid replies → IsBroughtBy request most result mid new
    → ServesAsOne old new (waiting_in old.core.state.inboxes ++ request ∷ []) (replies ++ receipt_in result)
among_as_one old mid new replies request most result sound served by =
    let waiting = waiting_in old.core.state.inboxes in
    let its = run_as_one old new (served.events ++ by.events) (served.results ++ by.results) (runs_then old mid new served.events by.events served.results by.results served.ran by.ran) sound in
    let came : arrivals (served.events ++ by.events) ≡ request ∷ [] =
    flat_map-append arrival served.events by.events ∙ (ap (λ (rs : List Request). rs ++ arrivals by.events) (none_comes served.events served.only) ∙ by.brought) in
    let told : receipts_of (served.results ++ by.results) ≡ replies ++ receipt_in result =
    receipts_then served.results by.results ∙ (ap (λ (rs : List Receipt). rs ++ receipts_of by.results) served.told ∙ ap (λ (rs : List Receipt). replies ++ rs) by.told) in
    subst (λ (rs : List Receipt). ServesAsOne old new (waiting ++ request ∷ []) rs) told
    (subst (λ (rs : List Request). ServesAsOne old new (waiting ++ rs) (receipts_of (served.results ++ by.results))) came its)
