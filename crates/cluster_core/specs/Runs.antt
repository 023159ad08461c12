-- Whole runs: how a list of events changes a book.
use Rattle.std.specs.Prelude.{◌≡◌, List, [], ◌∷◌, ◌++◌, Result}
use Rattle.mds_types.specs.declared.entries.Entry.{Entry}
use Rattle.mds_types.specs.declared.refusals.Refusal.{Refusal}
use Rattle.cluster_core.specs.declared.events.Answer.{Answer}
use Rattle.cluster_core.specs.declared.events.Event.{Event}
use Rattle.cluster_core.specs.Sound.{IsSoundBook}
use Rattle.cluster_core.specs.State.{BookState}
use Rattle.cluster_core.specs.Steps.{Steps}
use Rattle.cluster_core.specs.Uses.{UsesStep}

-- one event leads from a book to the next, with this result
pub record StepsBook (old new : BookState) (result : Result Answer Refusal) (event : Event) : Type 0 where
  pub stepped : Steps old.core new.core old.history new.history result event
  pub uses : UsesStep old.core new.core result event
  pub same_opening : new.opening ≡ old.opening

-- events lead from one book to another, one after the other, with a result for each; each leads to a sound book
abbrev pub Runs : BookState → List Event → List (Result Answer Refusal) → BookState → Type 0
Runs start [] [] end = end ≡ start
Runs start [] (result ∷ results) end = ⊥
Runs start (event ∷ events) [] end = ⊥
Runs start (event ∷ events) (result ∷ results) end =
    (next : BookState) × StepsBook start next result event × IsSoundBook next × Runs next events results end

-- one history begins with another
abbrev pub GoesOnFrom : List Entry → List Entry → Type 0
GoesOnFrom history past = (rest : List Entry) × (history ≡ past ++ rest)

-- a run, which leaves the opening the same
pub record IsRun (start : BookState) (events : List Event) (results : List (Result Answer Refusal))
    (end : BookState) : Type 0 where
  pub ran : Runs start events results end
  pub same_opening : end.opening ≡ start.opening
