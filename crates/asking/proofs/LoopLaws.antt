-- What the loop of a drain goes by.
use Rattle.asking.proofs.Common.{Answer, Frozen, Opening, RoundEnds, BookState, Bool, Core, Deferred, Entry, Err, Forwarded, GrantsEach, GrantsThem, Inboxes, IsSound, IsSoundBook, List, MatchBool, NoInodes, None, NoneWaits, Ok, Op, Rank, Refusal, Request, Result, Serve, ServesRequest, Some, State, Steps, Trimmed, TreeMayRefuse, WhyNotGranted, [], ap, append-nil, arith, cond, false, first_waiting, get_or, get_or_past, inl, inr, length, refl, subst, sym, true, waiting_at, ℕ, ◌++◌, ◌+◌, ◌-◌, ◌<◌, ◌∙◌, ◌∷◌, ◌≡◌, ◌≢◌, ◌≤◌, ◌⊎◌}
use Rattle.std.specs.FinMap as map
use Rattle.std.specs.Prelude.{MatchResult, slice_get}
use Rattle.std.proofs.lemmas.Bool.{cases_lt}
use Rattle.std.proofs.lemmas.List.{append_assoc}
use Rattle.cluster_core.proofs.Forgotten.{behind_one}
use Rattle.cluster_core.proofs.RunLaws.{step_of}
use Rattle.cluster_core.specs.Runs.{GoesOnFrom}
use Rattle.cluster_core.specs.declared.events.Answer.TheVariants.{Job, Nothing, Reply, Sent}
use Rattle.asking.specs.Drain.{FewStrayFrom, FewStrays, IsAtHome, IsLowest, RoundGives, forwards, waiting_in_all}
use Rattle.asking.specs.declared.drains.Waiter.{Waiter}
use Rattle.asking.proofs.AnswerLaws.{none_frozen}
use Rattle.asking.proofs.DrainLaws.{rounds_progress}
use Rattle.asking.proofs.LiveLaws.{is_one_of_16}
use Rattle.asking.proofs.ServeLaws.{its}
use Rattle.asking.proofs.StrayLaws.{all_stray_from, lowest_first}

-- ---- histories

pub goes_on_then : (past mid now : List Entry) → GoesOnFrom mid past → GoesOnFrom now mid → GoesOnFrom now past
goes_on_then past mid now (one, is) (two, same) = (one ++ two, same ∙ ap (λ (xs : List Entry). xs ++ two) is ∙ append_assoc past one two)

-- behind the same entries that are forgotten
pub grows_behind : (gone past now : List Entry) → GoesOnFrom now past → GoesOnFrom (gone ++ now) (gone ++ past)
grows_behind gone past now (rest, is) = (rest, ap (λ (l : List Entry). gone ++ l) is ∙ sym (append_assoc gone past rest))

pub stays : (past now : List Entry) → now ≡ past → GoesOnFrom now past
stays past now same = ([], same ∙ sym (append-nil past))

-- where these are forgotten, and others kept
pub served_on : (gone : List Entry) (old new : Core) (past mid now : List Entry) (rank : Rank) (result : Result Answer Refusal) → mid ≡ past → Steps old new (gone ++ mid) (gone ++ now) result (Serve rank) → GoesOnFrom now past
served_on gone old new past mid now rank result same steps =
    let grown = (step_of old new (gone ++ mid) (gone ++ now) result (Serve rank) steps.does).grows in
    subst (GoesOnFrom now) same (grown.0, behind_one gone now (mid ++ grown.0) (grown.1 ∙ append_assoc gone mid grown.0))

-- ---- exports stand as they stood

serves_exports : (old new : State) (past now : List Entry) (MayRefuse : Op → Refusal → Type 0) (rank : Rank) (request : Request) (rest : List Request) (result : Result Answer Refusal) → ServesRequest old new past now MayRefuse rank request rest result → new.exports ≡ old.exports
serves_exports old new past now MayRefuse rank request rest (Ok answer) (inl h) = ap (λ (s : State). s.exports) h.left
serves_exports old new past now MayRefuse rank request rest (Ok answer) (inr (inl h)) = ap (λ (s : State). s.exports) h.out.left
serves_exports old new past now MayRefuse rank request rest (Ok answer) (inr (inr (inl h))) = ap (λ (s : State). s.exports) h.left
serves_exports old new past now MayRefuse rank request rest (Ok answer) (inr (inr (inr h))) = ap (λ (s : State). s.exports) h.left
serves_exports old new past now MayRefuse rank request rest (Err reason) (inl h) = ap (λ (s : State). s.exports) h.2.left
serves_exports old new past now MayRefuse rank request rest (Err reason) (inr (inl h)) = ap (λ (s : State). s.exports) h.3.left
serves_exports old new past now MayRefuse rank request rest (Err reason) (inr (inr (inl h))) = ap (λ (s : State). s.exports) h.2.left
serves_exports old new past now MayRefuse rank request rest (Err reason) (inr (inr (inr (inl h)))) = ap (λ (s : State). s.exports) h.2.left
serves_exports old new past now MayRefuse rank request rest (Err reason) (inr (inr (inr (inr h)))) = ap (λ (s : State). s.exports) h.3.left

-- where grants were refused too
pub exports_granted : (old mid : Core) (client tid : ℕ) (op : Op) (reason : Refusal) → GrantsEach old mid client tid op (Err reason) → mid.state.exports ≡ old.state.exports
exports_granted old mid client tid op reason (kept, why) = ap (λ (s : State). s.exports) kept.left

-- ---- the lowest rank where something waits

pub front_none : (w : List Request) → slice_get w 0 ≡ None → w ≡ []
front_none [] is = refl
front_none (x ∷ xs) is = let clash : Some x ≡ None = is in absurd cc

pub front_some : (w : List Request) (request : Request) → slice_get w 0 ≡ Some request → (rest : List Request) × (w ≡ request ∷ rest)
front_some [] request is = let clash : None ≡ Some request = is in absurd cc
front_some (x ∷ xs) request is = let same : Some x ≡ Some request = is in let one : x ≡ request = cc in (xs, ap (λ (q : Request). q ∷ xs) one)

-- none waits at any of 16 ranks
pub none_at_16 : (opening : Opening) (history : List Entry) (core : Core) → IsSound opening history core → (n : ℕ) → 16 ≤ n → ((k : ℕ) → k < n → get_or core.state.inboxes k [] ≡ []) → NoneWaits core.state.inboxes
none_at_16 opening history core sound n all none rank = elim (cases_lt rank.0 (length core.state.inboxes)) [
  | inl there ↦ none rank.0 (omega (arith, is_one_of_16 opening history core sound rank there, all))
  | inr past ↦ get_or_past core.state.inboxes rank.0 [] past
]

-- ---- a round

module _ (old : BookState) (sound : IsSoundBook old) (few : waiting_in_all old.core.state.inboxes ≤ 1024) (found : Waiter) (is : IsLowest old.core.state.inboxes found) where
  first_of_pair : first_waiting is.request.client is.request.tid old.core.state.inboxes ≡ Some is.request
  first_of_pair = lowest_first old.core.state.inboxes found.rank.0 is.request is.rest (λ k below. is.lowest (record { 0 = k }) below) is.front

  pub is_first : first_waiting found.client found.tid old.core.state.inboxes ≡ Some is.request
  is_first =
      ap (λ (n : ℕ). first_waiting n found.tid old.core.state.inboxes) is.client
      ∙ ap (λ (n : ℕ). first_waiting is.request.client n old.core.state.inboxes) is.tid ∙ first_of_pair

  pub not_granted : (mid : Core) (reason : Refusal) → GrantsEach old.core mid found.client found.tid is.request.op (Err reason) → RoundEnds old.core mid (Err reason)
  not_granted mid reason (kept, why) = (is.request, why, ap (λ (s : State). s.inboxes) kept.left)

  module _ (mid new : BookState) (result : Result Answer Refusal) (grants : GrantsThem old.core mid.core found.client found.tid is.request.op) (faults : mid.core.faults ≡ old.core.faults) (same : mid.history ≡ old.history)
      (steps : Steps mid.core new.core mid.history new.history result (Serve found.rank)) where
    pub gives : RoundGives old.core new.core is.request result
    gives = rounds_progress old.core mid.core new.core old.history new.history found.rank is.request is.rest result (record {
      opening = old.opening;
      sound = sound;
      few = few;
      front = is.front;
      first = first_of_pair;
      grants = subst (λ (n : ℕ). GrantsThem old.core mid.core is.request.client n is.request.op) is.tid (subst (λ (n : ℕ). GrantsThem old.core mid.core n found.tid is.request.op) is.client grants);
      faults = faults;
      served = subst (λ (h : List Entry). Steps mid.core new.core h new.history result (Serve found.rank)) same steps;
    })

    front : waiting_at mid.core.state.inboxes found.rank ≡ is.request ∷ is.rest
    front = ap (λ (s : State). waiting_at s.inboxes found.rank) grants.kept.left ∙ is.front

    pub exports_stand : new.core.state.exports ≡ old.core.state.exports
    exports_stand =
        serves_exports mid.core.state new.core.state mid.history new.history (TreeMayRefuse mid.core new.core) found.rank is.request is.rest result (its mid.core new.core mid.history new.history found.rank is.request is.rest front result steps)
        ∙ ap (λ (s : State). s.exports) grants.kept.left

-- by the answer
pub ended : (old new : Core) (request : Request) (answer : Answer) → RoundGives old new request (Ok answer) → RoundEnds old new (Ok (forwards answer))
ended old new request Nothing h = absurd h
ended old new request (Reply client tid place first reply) h = h
ended old new request (Job job) h = absurd h
ended old new request (Sent bytes) h = absurd h
ended old new request (Forwarded master) h = h
ended old new request Deferred h = absurd h

-- or the refusal
pub refused : (old new : Core) (request : Request) (reason : Refusal) (result : Result Bool Refusal) → RoundGives old new request (Err reason) → MatchResult result (λ moved. MatchBool moved ⊥ ((reason ≡ Trimmed) ⊎ (reason ≡ NoInodes))) (λ other. (other ≡ reason) × (reason ≢ Trimmed) × (reason ≢ NoInodes)) → RoundEnds old new result
refused old new request reason (Ok true) h gone = absurd gone
refused old new request reason (Ok false) (inl h) gone = h.1
refused old new request reason (Ok false) (inr h) (inl gone) = absurd (by_why h.why)
  where
    by_why : WhyNotGranted old new request.op reason → ⊥
    by_why (inl is) = let clash = sym gone ∙ is in cc
    by_why (inr (inl is)) = let clash = sym gone ∙ is.0 in cc
    by_why (inr (inr (inl is))) = let clash = sym gone ∙ is.0 in cc
    by_why (inr (inr (inr is))) = let clash = sym gone ∙ is.0 in cc
refused old new request reason (Ok false) (inr h) (inr gone) = absurd (by_why h.why)
  where
    by_why : WhyNotGranted old new request.op reason → ⊥
    by_why (inl is) = let clash = sym gone ∙ is in cc
    by_why (inr (inl is)) = let clash = sym gone ∙ is.0 in cc
    by_why (inr (inr (inl is))) = let clash = sym gone ∙ is.0 in cc
    by_why (inr (inr (inr is))) = let clash = sym gone ∙ is.0 in cc
refused old new request reason (Err other) (inl (inl is, less)) (same, one, two) = absurd (one is)
refused old new request reason (Err other) (inl (inr is, less)) (same, one, two) = absurd (two is)
refused old new request reason (Err other) (inr h) (same, one, two) = (request, subst (WhyNotGranted old new request.op) (sym same) h.why, h.inboxes)

-- ---- the loop

-- as many as wait, or more
pub few_more : (state : State) (n m : ℕ) → n ≤ m → FewStrays state n → FewStrays state m
few_more state n m more few = go state.inboxes 0 few
  where
    go : (xs : Inboxes) (rank : ℕ) → FewStrayFrom (IsAtHome state) rank xs n → FewStrayFrom (IsAtHome state) rank xs m
    go [] rank h = tt
    go (x ∷ xs) rank (here, there, sum, w, ws) = (here, there, omega (arith, sum, more), w, ws)

pub few_at_most : (state : State) (m : ℕ) → waiting_in_all state.inboxes ≤ m → FewStrays state m
few_at_most state m few = few_more state (waiting_in_all state.inboxes) m few (all_stray_from (IsAtHome state) 0 state.inboxes)

-- where no export stands it isn't stopped by a frozen leaf
pub not_frozen : (old new : Core) (reason : Refusal) → RoundEnds old new (Err reason) → old.state.exports ≡ map.empty → reason ≡ Frozen → ⊥
not_frozen old new reason (request, why, same) none is = go why
  where
    go : WhyNotGranted old new request.op reason → ⊥
    go (inl named) = let clash = sym is ∙ named in cc
    go (inr (inl named)) = let clash = sym is ∙ named.0 in cc
    go (inr (inr (inl named))) = let clash = sym is ∙ named.0 in cc
    go (inr (inr (inr (named, (leaf, has, frozen))))) = none_frozen old.state none leaf frozen

-- a request at the front of a rank, above ranks where nothing waits
pub found_at : (core told : Core) → told ≡ core → (rank : Rank) (request : Request) → Some request ≡ slice_get (waiting_at told.state.inboxes rank) 0 → ((k : ℕ) → k < rank.0 → get_or core.state.inboxes k [] ≡ [])
    → IsLowest core.state.inboxes (record { rank = rank; client = request.client; tid = request.tid })
found_at core told same rank request is none =
    let w = front_some (waiting_at core.state.inboxes rank) request (ap (λ (c : Core). slice_get (waiting_at c.state.inboxes rank) 0) (sym same) ∙ sym is) in
    record { request = request; rest = w.0; front = w.1; client = refl; tid = refl; lowest = λ lower below. none lower.0 below }

-- nothing at one more
pub none_more : (core told : Core) → told ≡ core → (n : ℕ) → None ≡ slice_get (waiting_at told.state.inboxes (record { 0 = n })) 0 → ((k : ℕ) → k < n → get_or core.state.inboxes k [] ≡ []) → (k : ℕ) → k < n + 1 → get_or core.state.inboxes k [] ≡ []
none_more core told same n is none k below = elim (cases_lt k n) [
  | inl earlier ↦ none k earlier
  | inr last ↦
      let number : k ≡ n = omega (arith, below, last) in
      ap (λ (i : ℕ). get_or core.state.inboxes i []) number ∙ front_none (get_or core.state.inboxes n []) (ap (λ (c : Core). slice_get (waiting_at c.state.inboxes (record { 0 = n })) 0) (sym same) ∙ sym is)
]

-- what is counted after a round
pub after_round : (old new : Core) (moved : Bool) (strays left : ℕ) → RoundEnds old new (Ok moved) → waiting_in_all old.state.inboxes ≤ 1024 → FewStrays old.state strays → left ≡ cond moved (strays - 1) 1024 → (waiting_in_all new.state.inboxes ≤ 1024) × FewStrays new.state left
after_round old new true strays left ends few stray is =
    let one = ends.fewer strays stray in
    let number : one.0 ≡ left = omega (arith, one.1, is) in
    (omega (arith, ends.same, few), subst (FewStrays new.state) number one.2)
after_round old new false strays left ends few stray is =
    let fewer : waiting_in_all new.state.inboxes ≤ 1024 = omega (arith, ends, few) in
    (fewer, subst (FewStrays new.state) (sym is) (few_at_most new.state 1024 fewer))
