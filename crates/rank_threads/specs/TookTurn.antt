-- What a thread knows of its turn once the lock is released: that there were books before and after it, but not which.
use Rattle.std.specs.Prelude.{◌≡◌, ◌⊎◌, ℕ, Bool, suc, List, [], ◌∷◌, map as list_map, Option, Some, None, Result, Ok, Err}
use Rattle.std.specs.FinMap as map
use Rattle.mds_types.specs.declared.ids.Ino.{Ino}
use Rattle.mds_types.specs.declared.ids.Rank.{Rank}
use Rattle.mds_types.specs.declared.refusals.Refusal.{Refusal}
use Rattle.mds_types.specs.declared.refusals.Refusal.TheVariants.{NoMemory}
use Rattle.mds_types.specs.Frag.{Fragment}
use Rattle.cached_frag.specs.declared.jobs.Job.{Job as Begun}
use Rattle.cluster_core.specs.declared.events.Answer.{Answer}
use Rattle.cluster_core.specs.declared.events.Answer.TheVariants.{Nothing}
use Rattle.cluster_core.specs.declared.events.Event.{Event}
use Rattle.cluster_core.specs.declared.events.Event.TheVariants.{CommitBegin, CommitDrop}
use Rattle.cluster_core.specs.SentBytes.{SentBytes}
use Rattle.cluster_core.specs.State.{BookState}
use Rattle.rank_threads.specs.declared.plans.Turn.{Turn}
use Rattle.rank_threads.specs.declared.plans.Turn.TheVariants.{Step, Commit, Own, Keep}
use Rattle.rank_threads.specs.OneStep.{IsOneStep, IsStepTold, job_of}
use Rattle.rank_threads.specs.OwnTurn.{KeptSoFar, KeepsBytes, TakesOwnTurn}

-- some step was made of this event, with this result
abbrev pub MadeStep : Event → Result Answer Refusal → Type 0
MadeStep event result = (old : BookState) × (new : BookState) × IsOneStep old new event result

-- a commit began, and the thread was told its job
abbrev pub BeganCommit : Rank → Ino → Fragment → Result (Option Begun) Refusal → Type 0
BeganCommit rank dir f told = (old : BookState) × (new : BookState) × IsStepTold old new (CommitBegin rank dir f) job_of told

-- a begun job was handed to the workers; if that failed, its commit was given up, and the turn is refused
abbrev pub HandedOn : Result (Option Begun) Refusal → Result (Unit {0}) Refusal → Type 0
HandedOn (Ok None) done = done ≡ Ok tt
HandedOn (Ok (Some job)) done =
    (done ≡ Ok tt) ⊎ ((done ≡ Err NoMemory) × (came : Result Answer Refusal) × MadeStep (CommitDrop job.number) came)
HandedOn (Err reason) done = done ≡ Err reason

-- a commit's turn
abbrev pub TookCommitTurn : Rank → Ino → Fragment → Result (Unit {0}) Refusal → Type 0
TookCommitTurn rank dir f done = (told : Result (Option Begun) Refusal) × BeganCommit rank dir f told × HandedOn told done

-- a rank's own turn
abbrev pub TookOwnTurn : Rank → (before after : KeptSoFar) → Result Bool Refusal → Type 0
TookOwnTurn rank before after made =
    (old : BookState) × (new : BookState) × TakesOwnTurn old new rank before after made

-- the result of a turn that hands no reply out
abbrev pub result_of : {X : Type 0} → Result X Refusal → Result Answer Refusal
result_of (Ok done) = Ok Nothing
result_of (Err reason) = Err reason

-- a turn of a rank's thread, with its result, and the bytes of exports that the thread keeps before and after it
abbrev pub TookTurn : Turn → Rank → (before after : KeptSoFar) → Result Answer Refusal → Type 0
TookTurn (Step event) rank before after result = (after ≡ before) × MadeStep event result
TookTurn (Commit dir f) rank before after result =
    (after ≡ before) × (done : Result (Unit {0}) Refusal) × (result ≡ result_of done) × TookCommitTurn rank dir f done
TookTurn Own rank before after result =
    (made : Result Bool Refusal) × (result ≡ result_of made) × TookOwnTurn rank before after made
TookTurn (Keep dir f bytes) rank before after result =
    (done : Result (Unit {0}) Refusal) × (result ≡ result_of done) × KeepsBytes before after (dir, f) bytes done

-- the turns of a rank's thread, one after the other, with their results, and the bytes kept before and after them
abbrev pub TookTurns : Rank → (before after : KeptSoFar) → List Turn → List (Result Answer Refusal) → Type 0
TookTurns rank before after [] [] = after ≡ before
TookTurns rank before after [] (result ∷ results) = ⊥
TookTurns rank before after (turn ∷ turns) [] = ⊥
TookTurns rank before after (turn ∷ turns) (result ∷ results) =
    (between : KeptSoFar) × TookTurn turn rank before between result × TookTurns rank between after turns results

-- a plan with the rank of its thread
abbrev pub of_rank : Rank → List Turn → Rank × List Turn
of_rank rank turns = (rank, turns)

-- plans with the ranks of their threads; the first plan is this rank's
abbrev pub ranked_from : ℕ → List (List Turn) → List (Rank × List Turn)
ranked_from first [] = []
ranked_from first (turns ∷ plans) = of_rank (record { 0 = first }) turns ∷ ranked_from (suc first) plans

-- plans in the order of ranks
abbrev pub by_rank : List (List Turn) → List (Rank × List Turn)
by_rank plans = ranked_from 0 plans

-- the kept bytes of all threads, without the room for more
abbrev pub kept_of : List SentBytes → List KeptSoFar
kept_of all = list_map (λ (sent : SentBytes). sent.bytes) all

-- the turns of all plans, each plan with its rank and its results, and the bytes that each thread keeps at its end; no
-- thread kept any at its start
abbrev pub PlansTook : List (Rank × List Turn) → List (List (Result Answer Refusal)) → List KeptSoFar → Type 0
PlansTook [] [] [] = Unit {0}
PlansTook [] [] (kept ∷ others) = ⊥
PlansTook [] (results ∷ more) others = ⊥
PlansTook (plan ∷ plans) [] others = ⊥
PlansTook (plan ∷ plans) (results ∷ more) [] = ⊥
PlansTook (plan ∷ plans) (results ∷ more) (kept ∷ others) =
    TookTurns plan.0 map.empty kept plan.1 results × PlansTook plans more others
