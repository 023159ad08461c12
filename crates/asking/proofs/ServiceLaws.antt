-- Where nothing waits, nothing waits after a step that brings no request.
use Rattle.asking.proofs.Common.{Entry, Inboxes, KeptState, List, Opening, Receipt, Refusal, Request, Result, State, StandsInHistory, [], ap, append-nil, arith, inl, inr, length, receipt_in, refl, subst, sym, ℕ, ◌++◌, ◌<◌, ◌∙◌, ◌∷◌, ◌≡◌}
use Rattle.std.specs.Prelude.{IfOk, take}
use Rattle.std.specs.List.{AllByRecursion, Contains}
use Rattle.std.proofs.lemmas.List.{append_assoc, take-append-drop}
use Rattle.cluster_core.specs.Forgetting.{Forgets}
use Rattle.cluster_core.specs.Sound.{StandsBehind, IsSoundKept}
use Rattle.cluster_core.specs.State.{places_of}
use Rattle.cluster_core.proofs.Forgotten.{places_behind}
use Rattle.asking.specs.Services.{GoesOnAsOne}
use Rattle.cluster_core.specs.Flush.{Flushes}
use Rattle.cluster_core.specs.OneThread.{InOrder, IsOneThread, IsSent, waiting_in}
use Rattle.asking.specs.Drain.{waiting_in_all}
use Rattle.asking.proofs.OneLaws.{none_among}
use Rattle.asking.proofs.AmongLaws.{none_from_all}

-- all of none are none
none_of_none : (ws : List Request) → AllByRecursion (Contains []) ws → ws ≡ []
none_of_none [] all = refl
none_of_none (w ∷ ws) (has, all) = let few : has.0 < length {A = Request} [] = has.1 in absurd (omega (arith, few))

none_wait : (xs : Inboxes) → waiting_in xs ≡ [] → waiting_in_all xs ≡ 0
none_wait [] none = refl
none_wait ([] ∷ xs) none = omega (arith, none_wait xs none)
none_wait ((q ∷ qs) ∷ xs) none = let clash : q ∷ (qs ++ waiting_in xs) ≡ [] = none in absurd cc

pub idle_still : (old new : Inboxes) (came : List Request) → came ≡ [] → waiting_in_all old ≡ 0 → AllByRecursion (Contains (waiting_in old ++ came)) (waiting_in new) → waiting_in_all new ≡ 0
idle_still old new came none idle waits =
    let empty : waiting_in old ++ came ≡ [] = ap (λ (ws : List Request). ws ++ came) (none_among old (none_from_all old idle)) ∙ none in
    none_wait new (none_of_none (waiting_in new) (subst (λ (sent : List Request). AllByRecursion (Contains sent) (waiting_in new)) empty waits))

none_sent : (more : List Entry) → AllByRecursion (IsSent []) more → more ≡ []
none_sent [] all = refl
none_sent (e ∷ es) (has, all) = let few : has.0 < length {A = Request} [] = has.1 in absurd (omega (arith, few))

-- and nothing is applied
pub nothing_applied : (limit : ℕ) (opening : Opening) (past now : List Entry) (old : Inboxes) (came : List Request) (told : List Receipt) → came ≡ [] → waiting_in_all old ≡ 0 → IsOneThread limit opening past now (waiting_in old ++ came) told → now ≡ past
nothing_applied limit opening past now old came told none idle one =
    let empty : waiting_in old ++ came ≡ [] = ap (λ (ws : List Request). ws ++ came) (none_among old (none_from_all old idle)) ∙ none in
    one.grows ∙ (ap (λ (es : List Entry). past ++ es) (none_sent one.more (subst (λ (sent : List Request). AllByRecursion (IsSent sent) one.more) empty one.asked)) ∙ append-nil past)

-- nor after a flush
pub idle_flushed : (old new : KeptState) (result : Result (Unit {0}) Refusal) → Flushes old new result → waiting_in_all old.core.state.inboxes ≡ 0 → waiting_in_all new.core.state.inboxes ≡ 0
idle_flushed old new result (inl hindered) idle = ap (λ (b : KeptState). waiting_in_all b.core.state.inboxes) hindered.left ∙ idle
idle_flushed old new result (inr tried) idle = ap (λ (s : State). waiting_in_all s.inboxes) tried.kept.core.left ∙ idle

-- ---- what is forgotten behind a request

module _ (keep : ℕ) (mid new : KeptState) (forgets : Forgets keep mid new) where
  whole : (past : List Entry) → (past ++ take forgets.count mid.history) ++ new.history ≡ past ++ mid.history
  whole past =
      append_assoc past (take forgets.count mid.history) new.history
      ∙ ap (λ (l : List Entry). past ++ l) (ap (λ (l : List Entry). take forgets.count mid.history ++ l) forgets.left ∙ take-append-drop forgets.count mid.history)

  -- what was one thread is so with what is forgotten now
  pub goes_on_as_one : (opening : Opening) (past : List Entry) (old : KeptState) (sent : List Request) (result : Result Receipt Refusal) → StandsBehind opening past mid
      → IsOneThread old.core.state.tree.limit opening (past ++ old.history) (past ++ mid.history) sent (receipt_in result)
      → IfOk result (λ receipt. StandsInHistory (past ++ mid.history) receipt.client receipt.tid receipt.place receipt.reply) → GoesOnAsOne opening past old new sent result
  goes_on_as_one opening past old sent result behind one stands = record {
    forgotten = past ++ take forgets.count mid.history;
    behind = forgets.goes_on opening past behind;
    one = subst (λ (h : List Entry). IsOneThread old.core.state.tree.limit opening (past ++ old.history) h sent (receipt_in result)) (sym (whole past)) one;
    stands = subst (λ (h : List Entry). IfOk result (λ receipt. StandsInHistory h receipt.client receipt.tid receipt.place receipt.reply)) (sym (whole past)) stands;
  }

  -- no place changes
  pub places_stay : IsSoundKept mid → places_of new ≡ places_of mid
  places_stay (opening, past, behind) =
      sym (places_behind opening (past ++ take forgets.count mid.history) new (forgets.goes_on opening past behind)) ∙ ap (λ (l : List Entry). length l) (whole past) ∙ places_behind opening past mid behind

  pub ordered_still : IsSoundKept mid → (from : ℕ) (told : List Receipt) → InOrder from told (places_of mid) → InOrder from told (places_of new)
  ordered_still sound from told ordered = subst (InOrder from told) (sym (places_stay sound)) ordered
