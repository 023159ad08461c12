-- A rank's own turn: how it changes the book, and the bytes of exports that the rank's thread keeps.
use Rattle.std.specs.Prelude.{◌≡◌, ◌⊎◌, ℕ, Bool, false, List, Option, Some, None, Result, Ok, Err}
use Rattle.std.specs.FinMap as map
use Rattle.mds_types.specs.declared.ids.Ino.{Ino}
use Rattle.mds_types.specs.declared.ids.Rank.{Rank}
use Rattle.mds_types.specs.declared.refusals.Refusal.{Refusal}
use Rattle.mds_types.specs.declared.refusals.Refusal.TheVariants.{NoMemory}
use Rattle.mds_types.specs.Frag.{Fragment}
use Rattle.mds_types.specs.Leaf.{Leaf, leaf_cmp}
use Rattle.cluster_core.specs.declared.events.Answer.{Answer}
use Rattle.cluster_core.specs.declared.events.Answer.TheVariants.{Sent}
use Rattle.cluster_core.specs.declared.events.Event.{Event}
use Rattle.cluster_core.specs.declared.events.Event.TheVariants.{Import, Send}
use Rattle.cluster_core.specs.Proposal.{Proposes}
use Rattle.cluster_core.specs.State.{BookState}
use Rattle.rank_threads.specs.OneStep.{IsOneStep, answer_of}

-- the bytes that a rank's thread keeps, under the roots of the exports that sent them
abbrev pub KeptSoFar : Type 0
KeptSoFar = map.FinMap leaf_cmp (List ℕ)

-- bytes are kept under a root and replace those kept there before; or memory for them was refused, and nothing changed
abbrev pub KeepsBytes : (before after : KeptSoFar) → Leaf → List ℕ → Result (Unit {0}) Refusal → Type 0
KeepsBytes before after root bytes (Ok done) = after ≡ map.insert before root bytes
KeepsBytes before after root bytes (Err reason) = (reason ≡ NoMemory) × (after ≡ before)

-- an Import with bytes, if there are any
abbrev pub import_with : Ino → Fragment → Option (List ℕ) → Option Event
import_with dir f None = None
import_with dir f (Some bytes) = Some (Import dir f bytes)

-- the step that is made of a proposed one: an Import gets the bytes kept for its root, and isn't made if none are kept;
-- each other step is made as proposed
abbrev pub step_of : KeptSoFar → Event → Option Event
step_of kept (Import dir f bytes) = import_with dir f (map.get kept (dir, f))
step_of kept other = Some other

-- the bytes kept after a step: a Send adds the bytes that it handed out, under its root; an Import removes those that
-- it took
abbrev pub kept_after : KeptSoFar → Event → Result Answer Refusal → KeptSoFar
kept_after kept (Send dir f) (Ok (Sent bytes)) = map.insert kept (dir, f) bytes
kept_after kept (Import dir f bytes) (Ok answer) = map.remove kept (dir, f)
kept_after kept event result = kept

-- these steps need memory of the thread's own: room for the bytes that a Send hands out, a copy for an Import
abbrev pub NeedsMemory : Event → Type 0
NeedsMemory (Send dir f) = Unit {0}
NeedsMemory (Import dir f bytes) = Unit {0}
NeedsMemory other = ⊥

-- neither the book nor the kept bytes changed
pub record ChangesNothing (old new : BookState) (before after : KeptSoFar) : Type 0 where
  pub book : new ≡ old
  pub kept : after ≡ before

-- the step was made once; or the thread's own memory for it was refused, and nothing changed; or there was no step to
-- make; the result tells whether a step was made
abbrev pub StepsOwn : (old new : BookState) → (before after : KeptSoFar) → Option Event → Result Bool Refusal → Type 0
StepsOwn old new before after None made = (made ≡ Ok false) × ChangesNothing old new before after
StepsOwn old new before after (Some event) made =
    ((result : Result Answer Refusal) × IsOneStep old new event result × (made ≡ answer_of result)
    × (after ≡ kept_after before event result))
    ⊎ ((made ≡ Err NoMemory) × NeedsMemory event × ChangesNothing old new before after)

-- the proposed step was made; or nothing was proposed; or the proposal was refused
abbrev pub DoesProposal : (old new : BookState) → (before after : KeptSoFar) → Result (Option Event) Refusal
    → Result Bool Refusal → Type 0
DoesProposal old new before after (Ok None) made = (made ≡ Ok false) × ChangesNothing old new before after
DoesProposal old new before after (Ok (Some event)) made = StepsOwn old new before after (step_of before event) made
DoesProposal old new before after (Err reason) made = (made ≡ Err reason) × ChangesNothing old new before after

-- a rank's own turn: the rank makes the step that it proposes
pub record TakesOwnTurn (old new : BookState) (rank : Rank) (before after : KeptSoFar)
    (made : Result Bool Refusal) : Type 0 where
  pub proposal : Result (Option Event) Refusal
  pub proposed : Proposes old.core rank proposal
  pub does : DoesProposal old new before after proposal made
