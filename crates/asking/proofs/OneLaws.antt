-- What asking is to whoever sends requests: one plain tree, served by one thread.
use Rattle.asking.proofs.Common.{Answer, BookState, Entry, Event, InOrder, IsSoundBook, KeptState, List, NoneWaits, Opening, Refusal, Request, Result, Runs, StandsBehind, [], ap, append-nil, inl, inr, arith, length, places_of, refl, subst, sym, ℕ, ◌++◌, ◌∙◌, ◌∷◌, ◌≡◌}
use Rattle.std.specs.Prelude.{suc}
use Rattle.inboxes.specs.Inboxes.{Inboxes}
use Rattle.cluster_core.specs.Opening.{IsLegalFrom}
use Rattle.cluster_core.specs.GivenUp.{GivesUpIn}
use Rattle.cluster_core.specs.State.{Core}
use Rattle.cluster_core.specs.OneThread.{IsOneThread, arrivals, receipts_of, waiting_in}
use Rattle.cluster_core.specs.declared.receipts.Receipt.{Receipt}
use Rattle.cluster_core.proofs.Forgotten.{places_behind}
use Rattle.cluster_core.proofs.LimitStays.{limit_stays}
use Rattle.cluster_core.proofs.OneThreadLaws.{ServesAsOne, run_as_one}
use Rattle.asking.specs.Once.{Leaves}
use Rattle.asking.specs.Reached.{IsBroughtBy, receipt_in}

-- where nothing waits there is none of those that wait
pub none_among : (inboxes : Inboxes) → NoneWaits inboxes → waiting_in inboxes ≡ []
none_among [] none = refl
none_among (waiting ∷ others) none =
    ap (λ (ws : List Request). ws ++ waiting_in others) (none (record { 0 = 0 })) ∙ none_among others (λ rank. none (record { 0 = suc rank.0 }))

-- a request that was asked alone
pub asked_as_one : (old new : BookState) (request : Request) (most : ℕ) (result : Result Receipt Refusal) → NoneWaits old.core.state.inboxes → IsSoundBook new → IsBroughtBy request most result old new
    → ServesAsOne old new (request ∷ []) (receipt_in result)
asked_as_one old new request most result none sound by =
    let its = run_as_one old new by.events by.results by.ran sound in
    let sent : waiting_in old.core.state.inboxes ++ arrivals by.events ≡ request ∷ [] =
    ap (λ (ws : List Request). ws ++ arrivals by.events) (none_among old.core.state.inboxes none) ∙ by.brought in
    subst (λ (rs : List Receipt). ServesAsOne old new (request ∷ []) rs) by.told (subst (λ (ws : List Request). ServesAsOne old new ws (receipts_of by.results)) sent its)

-- one that left nothing was told nothing
pub refused_as_one : (old new : BookState) (request : Request) → IsSoundBook old → new.history ≡ old.history
    → IsOneThread old.core.state.tree.limit old.opening old.history new.history (request ∷ []) []
refused_as_one old new request sound same = record {
  more = [];
  grows = same ∙ sym (append-nil old.history);
  legal = subst (λ (h : List Entry). IsLegalFrom old.core.state.tree.limit old.opening h) (sym same) sound.legal;
  asked = tt;
  asked_for = tt;
  agree = record { stand = record { held = tt; newer = tt; apart = tt }; as_many = (let e = ap length same in omega (arith, e)) };
}

-- ---- places, which are counted from the first entry ever

pub order_kept : (opening : Opening) (past : List Entry) (old new : KeptState) (told : List Receipt) → StandsBehind opening past old → StandsBehind opening past new
    → InOrder (length (past ++ old.history)) told (length (past ++ new.history)) → InOrder (places_of old) told (places_of new)
order_kept opening past old new told goes on order =
    subst (λ (n : ℕ). InOrder n told (places_of new)) (places_behind opening past old goes)
    (subst (λ (n : ℕ). InOrder (length (past ++ old.history)) told n) (places_behind opening past new on) order)

-- as many as there were, where no entry was added
pub places_still : (opening : Opening) (past : List Entry) (old new : KeptState) → StandsBehind opening past old → StandsBehind opening past new → past ++ new.history ≡ past ++ old.history → places_of new ≡ places_of old
places_still opening past old new goes on same = sym (places_behind opening past new on) ∙ (ap (λ (l : List Entry). length l) same ∙ places_behind opening past old goes)

-- ---- how many entries a directory may have

abbrev pub limit_of : BookState → ℕ
limit_of book = book.core.state.tree.limit

pub limit_through : (start end : BookState) (events : List Event) (results : List (Result Answer Refusal)) → Runs start events results end → limit_of end ≡ limit_of start
limit_through start end [] [] same = ap (λ (b : BookState). limit_of b) same
limit_through start end [] (result ∷ results) none = absurd none
limit_through start end (event ∷ events) [] none = absurd none
limit_through start end (event ∷ events) (result ∷ results) (next, one, sound, more) =
    limit_through next end events results more ∙ limit_stays start.history next.history start.core next.core result event one.stepped.does

pub asked_keeps_limit : (old new : BookState) (request : Request) (most : ℕ) (result : Result Receipt Refusal) → IsBroughtBy request most result old new → limit_of new ≡ limit_of old
asked_keeps_limit old new request most result by = limit_through old new by.events by.results by.ran

pub left_keeps_limit : (old new : KeptState) → Leaves old new → new.core.state.tree.limit ≡ old.core.state.tree.limit
left_keeps_limit old new (inl (idle, same)) = ap (λ (b : KeptState). b.core.state.tree.limit) same
left_keeps_limit old new (inr (found, is, given)) =
    ap (λ (c : Core). c.state.tree.limit) (subst (GivesUpIn old.core new.core found.rank) is.front given.given)
