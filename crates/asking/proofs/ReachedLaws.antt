-- Steps after steps.
use Rattle.asking.proofs.Common.{Answer, BookState, Err, Event, IsSoundBook, IsStepFor, List, None, Ok, Option, Refusal, Request, Result, Runs, Some, Steps, UsesStep, [], ap, append-nil, arith, refl, subst, sym, ℕ, ◌++◌, ◌+◌, ◌∙◌, ◌∷◌, ◌≡◌, ◌≤◌}
use Rattle.std.specs.List.{AllByRecursion}
use Rattle.std.specs.Result.{result_err}
use Rattle.std.proofs.lemmas.List.{append_assoc, length-append}
use Rattle.std.proofs.lemmas.List.Concat.{flat_map-append}
use Rattle.std.proofs.lemmas.Option.{none-some, same_Some}
use Rattle.cluster_core.specs.OneThread.{arrival, arrivals, receipt_of, receipts_of}
use Rattle.cluster_core.specs.declared.receipts.Receipt.{Receipt}
use Rattle.asking.specs.Reached.{LeadsTo}
use Rattle.asking.specs.Serves.{receipts_in}
use Rattle.asking.specs.declared.serves.Served.{Served}

pub runs_then : (a b c : BookState) (events more : List Event) (results others : List (Result Answer Refusal)) → Runs a events results b → Runs b more others c → Runs a (events ++ more) (results ++ others) c
runs_then a b c [] more [] others same rest = subst (λ (x : BookState). Runs x more others c) same rest
runs_then a b c [] more (result ∷ results) others none rest = absurd none
runs_then a b c (event ∷ events) more [] others none rest = absurd none
runs_then a b c (event ∷ events) more (result ∷ results) others (next, step, sound, ran) rest = (next, step, sound, runs_then next b c events more results others ran rest)

pub all_then : (P : Event → Type 0) (xs ys : List Event) → AllByRecursion P xs → AllByRecursion P ys → AllByRecursion P (xs ++ ys)
all_then P [] ys all more = more
all_then P (x ∷ xs) ys (one, all) more = (one, all_then P xs ys all more)

pub receipts_then : (xs ys : List (Result Answer Refusal)) → receipts_of (xs ++ ys) ≡ receipts_of xs ++ receipts_of ys
receipts_then [] ys = refl
receipts_then (x ∷ xs) ys = ap (λ (rs : List Receipt). receipt_of x ++ rs) (receipts_then xs ys) ∙ sym (append_assoc (receipt_of x) (receipts_of xs) (receipts_of ys))

module _ (client tid : ℕ) where
  pub leads_nowhere : (book : BookState) → LeadsTo client tid [] 0 [] None book book
  leads_nowhere book = record {
    events = [];
    results = [];
    ran = refl;
    for_it = tt;
    brought = refl;
    few = omega arith;
    told = refl;
    last = λ reason clash. absurd (none-some reason clash);
  }

  pub leads_by : (old new : BookState) (result : Result Answer Refusal) (event : Event) (came : List Request) (replies : List Receipt) → arrival event ≡ came → receipt_of result ≡ replies → IsStepFor client tid event
      → Steps old.core new.core old.history new.history result event → UsesStep old.core new.core result event → new.opening ≡ old.opening → IsSoundBook new → LeadsTo client tid came 1 replies (result_err result) old new
  leads_by old new result event came replies brings tells is steps uses same sound = record {
    events = event ∷ [];
    results = result ∷ [];
    ran = (new, record { stepped = steps; uses = uses; same_opening = same }, sound, refl);
    for_it = (is, tt);
    brought = append-nil (arrival event) ∙ brings;
    few = omega arith;
    told = append-nil (receipt_of result) ∙ tells;
    last = λ reason told. ([], ap (λ (r : Result Answer Refusal). r ∷ []) (by_err result reason told));
  }
    where
      by_err : (r : Result Answer Refusal) (reason : Refusal) → result_err r ≡ Some reason → r ≡ Err reason
      by_err (Ok answer) reason told = absurd (none-some reason told)
      by_err (Err other) reason told = ap (λ (x : Refusal). Err x) (same_Some other reason told)

  -- what was told of it is none of what is told
  pub leads_quietly : (came : List Request) (most : ℕ) (replies : List Receipt) (refused : Option Refusal) (old new : BookState) → LeadsTo client tid came most replies refused old new → LeadsTo client tid came most replies None old new
  leads_quietly came most replies refused old new one = record {
    events = one.events;
    results = one.results;
    ran = one.ran;
    for_it = one.for_it;
    brought = one.brought;
    few = one.few;
    told = one.told;
    last = λ reason clash. absurd (none-some reason clash);
  }

  -- at most so many are at most more
  pub leads_within : (came : List Request) (few most : ℕ) (replies : List Receipt) (refused : Option Refusal) (old new : BookState) → few ≤ most → LeadsTo client tid came few replies refused old new → LeadsTo client tid came most replies refused old new
  leads_within came few most replies refused old new low one = record {
    events = one.events;
    results = one.results;
    ran = one.ran;
    for_it = one.for_it;
    brought = one.brought;
    few = (let its = one.few in omega (arith, low, its));
    told = one.told;
    last = one.last;
  }

  -- steps that were not refused, and others behind them
  pub leads_then : (came more : List Request) (few most all : ℕ) (replies others : List Receipt) (before refused : Option Refusal) (old mid new : BookState) → few + most ≤ all → LeadsTo client tid came few replies before old mid → LeadsTo client tid more most others refused mid new
      → LeadsTo client tid (came ++ more) all (replies ++ others) refused old new
  leads_then came more few most all replies others before refused old mid new low one other = record {
    events = one.events ++ other.events;
    results = one.results ++ other.results;
    ran = runs_then old mid new one.events other.events one.results other.results one.ran other.ran;
    for_it = all_then (IsStepFor client tid) one.events other.events one.for_it other.for_it;
    brought = flat_map-append arrival one.events other.events ∙ (ap (λ (rs : List Request). rs ++ arrivals other.events) one.brought ∙ ap (λ (rs : List Request). came ++ rs) other.brought);
    few = (let a = one.few in let b = other.few in let c = length-append one.events other.events in omega (arith, low, a, b, c));
    told = receipts_then one.results other.results ∙ (ap (λ (rs : List Receipt). rs ++ receipts_of other.results) one.told ∙ ap (λ (rs : List Receipt). replies ++ rs) other.told);
    last = λ reason is.
        let end = other.last reason is in
        (one.results ++ end.0, ap (λ (rs : List (Result Answer Refusal)). one.results ++ rs) end.1 ∙ sym (append_assoc one.results end.0 (Err reason ∷ [])));
  }

  -- a step that served, by what became of the request
  pub leads_served : (told served : Served) → told ≡ served → (old new : BookState) → LeadsTo client tid [] 1 (receipts_in (Ok told)) None old new → LeadsTo client tid [] 1 (receipts_in (Ok served)) None old new
  leads_served told served is old new one = subst (λ (s : Served). LeadsTo client tid [] 1 (receipts_in (Ok s)) None old new) is one
