-- What a rank's own turn is, from what the calls that it makes say: over plain books, kept bytes and results.
use Rattle.rank_threads.proofs.Common.{Answer, Bool, BookState, Entry, Err, Event, IsSoundKept, KeptState, List, Ok, Opening, Refusal, Result, Sent, StandsBehind, ap, false, false≢true, refl, subst, sym, true, whole_of, ℕ, ◌≡◌}
use Rattle.std.proofs.Common.{inl, inr}
use Rattle.std.specs.Prelude.{Option, Some, None, is_some}
use Rattle.mds_types.specs.declared.ids.Ino.{Ino}
use Rattle.mds_types.specs.declared.ids.Rank.{Rank}
use Rattle.mds_types.specs.declared.refusals.Refusal.TheVariants.{NoMemory}
use Rattle.mds_types.specs.Frag.{Fragment}
use Rattle.cached_frag.specs.declared.jobs.Job.{Job}
use Rattle.cluster_core.specs.declared.events.Event.TheVariants.{CommitBegin, Import, Send}
use Rattle.cluster_core.specs.Proposal.{Proposes}
use Rattle.cluster_core.specs.SentBytes.{bytes_or_none}
use Rattle.rank_threads.specs.OneStep.{IsOneStep, IsStepTold, job_of, answer_of}
use Rattle.rank_threads.specs.OwnTurn.{DoesProposal, KeptSoFar, KeepsBytes, StepsOwn, TakesOwnTurn, import_with, kept_after, step_of}
use Rattle.rank_threads.specs.TookTurn.{HandedOn, TookCommitTurn, TookTurn, result_of}
use Rattle.rank_threads.specs.declared.plans.Turn.{Turn}
use Rattle.rank_threads.specs.declared.plans.Turn.TheVariants.{Keep, Own, Step}

-- ---- the proposal changes nothing, so what follows it follows the book before it

took_turn : (old mid new : BookState) (rank : Rank) (before after : KeptSoFar) (proposal : Result (Option Event) Refusal) (made : Result Bool Refusal)
    → mid ≡ old → Proposes old.core rank proposal → DoesProposal mid new before after proposal made → TakesOwnTurn old new rank before after made
took_turn old mid new rank before after proposal made same proposed does = record {
  proposal = proposal;
  proposed = proposed;
  does = subst (λ (k : BookState). DoesProposal k new before after proposal made) same does;
}

-- whichever opening tree and past the book goes on from
pub took_behind : (old mid new : KeptState) (rank : Rank) (before after : KeptSoFar) (proposal : Result (Option Event) Refusal) (made : Result Bool Refusal) → mid ≡ old → Proposes old.core rank proposal
    → ((opening : Opening) (past : List Entry) → StandsBehind opening past mid → DoesProposal (whole_of opening past mid) (whole_of opening past new) before after proposal made)
    → (opening : Opening) (past : List Entry) → StandsBehind opening past old → TakesOwnTurn (whole_of opening past old) (whole_of opening past new) rank before after made
took_behind old mid new rank before after proposal made same proposed does opening past given =
    took_turn (whole_of opening past old) (whole_of opening past mid) (whole_of opening past new) rank before after proposal made (ap (whole_of opening past) same) proposed
    (does opening past (subst (StandsBehind opening past) (sym same) given))

-- ---- a step that is neither a Send nor an Import is made as proposed, and what is kept stays

as_proposed : (kept : KeptSoFar) (event : Event) → ((dir : Ino) (f : Fragment) (bytes : List ℕ) → event ≡ Import dir f bytes → ⊥) → step_of kept event ≡ Some event
as_proposed kept (Import dir f bytes) other = absurd (other dir f bytes refl)
as_proposed kept event other = refl

stays_kept : (kept : KeptSoFar) (event : Event) (result : Result Answer Refusal) → ((dir : Ino) (f : Fragment) → event ≡ Send dir f → ⊥) → ((dir : Ino) (f : Fragment) (bytes : List ℕ) → event ≡ Import dir f bytes → ⊥)
    → kept_after kept event result ≡ kept
stays_kept kept (Send dir f) result other another = absurd (other dir f refl)
stays_kept kept (Import dir f bytes) result other another = absurd (another dir f bytes refl)
stays_kept kept event result other another = refl

pub made_other : (old new : BookState) (kept : KeptSoFar) (event : Event) (result : Result Answer Refusal) → ((dir : Ino) (f : Fragment) → event ≡ Send dir f → ⊥) → ((dir : Ino) (f : Fragment) (bytes : List ℕ) → event ≡ Import dir f bytes → ⊥)
    → IsOneStep old new event result → StepsOwn old new kept kept (step_of kept event) (answer_of result)
made_other old new kept event result other another step =
    subst (λ (o : Option Event). StepsOwn old new kept kept o (answer_of result)) (sym (as_proposed kept event another)) (inl (result, step, refl, sym (stays_kept kept event result other another)))

-- ---- an Import, by whether bytes are kept for it

module _ (old new : BookState) (before after : KeptSoFar) (dir : Ino) (f : Fragment) where
  pub passed_over : (kept : Option (List ℕ)) → is_some kept ≡ false → StepsOwn old old before before (import_with dir f kept) (Ok false)
  passed_over None none = (refl, record { book = refl; kept = refl })
  passed_over (Some bytes) none = absurd (false≢true (sym none))

  pub not_copied : (kept : Option (List ℕ)) → is_some kept ≡ true → StepsOwn old old before before (import_with dir f kept) (Err NoMemory)
  not_copied None some = absurd (false≢true some)
  not_copied (Some bytes) some = inr (refl, tt, record { book = refl; kept = refl })

  pub imported : (kept : Option (List ℕ)) (bytes : List ℕ) (result : Result Answer Refusal) → is_some kept ≡ true → bytes ≡ bytes_or_none kept → IsOneStep old new (Import dir f bytes) result
      → after ≡ kept_after before (Import dir f bytes) result → StepsOwn old new before after (import_with dir f kept) (answer_of result)
  imported None bytes result some is step same = absurd (false≢true some)
  imported (Some kept) bytes (Ok answer) some is step same = inl (Ok answer, subst (λ (b : List ℕ). IsOneStep old new (Import dir f b) (Ok answer)) is step, refl, same)
  imported (Some kept) bytes (Err reason) some is step same = inl (Err reason, subst (λ (b : List ℕ). IsOneStep old new (Import dir f b) (Err reason)) is step, refl, same)

-- ---- a Send, whose bytes are kept where it hands some out

pub sent_nothing : (kept : KeptSoFar) (dir : Ino) (f : Fragment) (answer : Answer) → ((bytes : List ℕ) → answer ≡ Sent bytes → ⊥) → kept_after kept (Send dir f) (Ok answer) ≡ kept
sent_nothing kept dir f (Sent bytes) other = absurd (other bytes refl)
sent_nothing kept dir f answer other = refl

-- ---- what a thread knows of its turn

module _ (old new : KeptState) (known : IsSoundKept old) (rank : Rank) (dir : Ino) (f : Fragment) (told : Result (Option Job) Refusal) (done : Result (Unit {0}) Refusal)
    (steps : (opening : Opening) (past : List Entry) → StandsBehind opening past old → IsStepTold (whole_of opening past old) (whole_of opening past new) (CommitBegin rank dir f) job_of told) where
  pub commit_told : (is : Result (Option Job) Refusal) → told ≡ is → HandedOn is done → TookCommitTurn rank dir f done
  commit_told is same handed =
      (told, (whole_of known.0 known.1 old, whole_of known.0 known.1 new, steps known.0 known.1 known.2), subst (λ (t : Result (Option Job) Refusal). HandedOn t done) (sym same) handed)

  pub commit_began : (job is : Option Job) → told ≡ Ok job → job ≡ is → HandedOn (Ok is) done → TookCommitTurn rank dir f done
  commit_began job is same alike handed = commit_told (Ok job) same (subst (λ (o : Option Job). HandedOn (Ok o) done) (sym alike) handed)

pub step_took : (turn : Turn) (event : Event) (rank : Rank) (kept : KeptSoFar) (result : Result Answer Refusal) (old new : KeptState) → turn ≡ Step event → IsSoundKept old
    → ((opening : Opening) (past : List Entry) → StandsBehind opening past old → IsOneStep (whole_of opening past old) (whole_of opening past new) event result) → TookTurn turn rank kept kept result
step_took turn event rank kept result old new is known steps =
    subst (λ (t : Turn). TookTurn t rank kept kept result) (sym is) (refl, (whole_of known.0 known.1 old, whole_of known.0 known.1 new, steps known.0 known.1 known.2))

own_took : (turn : Turn) (rank : Rank) (before after : KeptSoFar) (made : Result Bool Refusal) (old new : BookState) → turn ≡ Own → TakesOwnTurn old new rank before after made → TookTurn turn rank before after (result_of made)
own_took turn rank before after made old new is took = subst (λ (t : Turn). TookTurn t rank before after (result_of made)) (sym is) (made, refl, (old, new, took))

pub keep_took : (turn : Turn) (rank : Rank) (before after : KeptSoFar) (dir : Ino) (f : Fragment) (bytes : List ℕ) (done : Result (Unit {0}) Refusal) → turn ≡ Keep dir f bytes → KeepsBytes before after (dir, f) bytes done → TookTurn turn rank before after (result_of done)
keep_took turn rank before after dir f bytes done is keeps = subst (λ (t : Turn). TookTurn t rank before after (result_of done)) (sym is) (done, refl, keeps)

pub own_told : (turn : Turn) (rank : Rank) (before after : KeptSoFar) (made : Result Bool Refusal) (result : Result Answer Refusal) (old new : KeptState) → turn ≡ Own → IsSoundKept old
    → ((opening : Opening) (past : List Entry) → StandsBehind opening past old → TakesOwnTurn (whole_of opening past old) (whole_of opening past new) rank before after made) → result ≡ result_of made → TookTurn turn rank before after result
own_told turn rank before after made result old new is known took told =
    subst (TookTurn turn rank before after) (sym told) (own_took turn rank before after made (whole_of known.0 known.1 old) (whole_of known.0 known.1 new) is (took known.0 known.1 known.2))

pub keep_told : (turn : Turn) (rank : Rank) (before after : KeptSoFar) (dir : Ino) (f : Fragment) (bytes : List ℕ) (done : Result (Unit {0}) Refusal) (result : Result Answer Refusal) → turn ≡ Keep dir f bytes → KeepsBytes before after (dir, f) bytes done → result ≡ result_of done → TookTurn turn rank before after result
keep_told turn rank before after dir f bytes done result is keeps told = subst (TookTurn turn rank before after) (sym told) (keep_took turn rank before after dir f bytes done is keeps)
