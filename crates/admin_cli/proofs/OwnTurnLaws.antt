-- A step that a rank proposed, by what it is called.
use Rattle.admin_cli.proofs.Common.{Event, List, MakesStep, OutputLine, refl, subst, sym, ℕ, ◌≡◌}
use Rattle.mds_types.specs.declared.ids.Ino.{Ino}
use Rattle.mds_types.specs.Frag.{Fragment}
use Rattle.cluster_core.specs.declared.events.Event.TheVariants.{Arrive, Serve, Grant, Split, Merge, CommitBegin, CommitEnd, CommitDrop, CommitTree, Purge, Evict, Start, Freeze, Prep, Send, Import, Finish, Cancel}
use Rattle.script_output.specs.declared.own_turns.OwnStep.{OwnStep}
use Rattle.admin_cli.specs.Admin.{Admin}
use Rattle.admin_cli.specs.OwnLines.{IsCalled, own_line_of}
use Rattle.admin_cli.specs.StepLines.{DoesEvent}

module _ (old new : Admin) (step : OwnStep) (dir : Ino) (f : Fragment) (shown : OutputLine) where
  line_is : (other : OwnStep) (ino : Ino) (frag : Fragment) → (step ≡ other) × (dir ≡ ino) × (f ≡ frag) → own_line_of step dir f shown ≡ own_line_of other ino frag shown
  line_is other ino frag named = λ i. own_line_of (named.0 i) (named.1 i) (named.2 i) shown

  -- each other step is made as proposed
  made_line : (event : Event) → IsCalled event step dir f → ((ino : Ino) (frag : Fragment) → event ≡ Send ino frag → ⊥) → ((ino : Ino) (frag : Fragment) (bytes : List ℕ) → event ≡ Import ino frag bytes → ⊥)
      → DoesEvent old new event shown → MakesStep old new event (own_line_of step dir f shown)
  made_line (Arrive rank request) named other another does = absurd named
  made_line (Serve rank) named other another does = absurd named
  made_line (Grant rank client tid) named other another does = absurd named
  made_line (Split rank ino frag bits) named other another does = (shown, does, line_is _ ino frag named)
  made_line (Merge rank ino frag) named other another does = (shown, does, line_is _ ino frag named)
  made_line (CommitBegin rank ino frag) named other another does = absurd named
  made_line (CommitEnd encoded) named other another does = absurd named
  made_line (CommitDrop job) named other another does = absurd named
  made_line (CommitTree ino) named other another does = absurd named
  made_line Purge named other another does = absurd named
  made_line (Evict rank) named other another does = absurd named
  made_line (Start from ino frag to) named other another does = (shown, does, line_is _ ino frag named)
  made_line (Freeze ino frag) named other another does = (shown, does, line_is _ ino frag named)
  made_line (Prep ino frag) named other another does = (shown, does, line_is _ ino frag named)
  made_line (Send ino frag) named other another does = absurd (other ino frag refl)
  made_line (Import ino frag bytes) named other another does = absurd (another ino frag bytes refl)
  made_line (Finish ino frag) named other another does = (shown, does, line_is _ ino frag named)
  made_line (Cancel ino frag) named other another does = (shown, does, line_is _ ino frag named)

-- the line that tells an own step is what its event shows
pub told_line : (old new : Admin) (step : OwnStep) (dir : Ino) (f : Fragment) (shown line : OutputLine) (event : Event) → line ≡ own_line_of step dir f shown → IsCalled event step dir f → ((ino : Ino) (frag : Fragment) → event ≡ Send ino frag → ⊥) → ((ino : Ino) (frag : Fragment) (bytes : List ℕ) → event ≡ Import ino frag bytes → ⊥)
    → DoesEvent old new event shown → MakesStep old new event line
told_line old new step dir f shown line event is named other another does = subst (λ (l : OutputLine). MakesStep old new event l) (sym is) (made_line old new step dir f shown event named other another does)
