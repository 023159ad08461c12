-- A commit that began is ended at once.
use Rattle.admin_cli.proofs.Common.{Admin, BeginsJob, CommitsLine, CopiesNone, EndsLine, Err, Fragment, IfOk, Ino, LacksForCommit, None, Nothing, Ok, OnErr, Option, OutputLine, Rank, Refusal, Refused, Result, Some, inr, refl, subst, ℕ, ◌≡◌}

-- what is known is known of an error too
pub on_err : {A E : Type 0} {P : Type 0} (result : Result A E) → P → OnErr result P
on_err (Ok x) known = tt
on_err (Err e) known = known

module _ (old middle new : Admin) (rank : Rank) (dir : Ino) (f : Fragment) (told : Result (Option ℕ) Refusal) (begun : BeginsJob old middle rank dir f told) where
  -- the line is that of the end
  pub ended : {A : Type 0} (number : ℕ) (result : Result OutputLine A) → told ≡ Ok (Some number) → IfOk result (EndsLine middle new number) → IfOk result (CommitsLine old new rank dir f)
  ended number (Ok line) is h = record { middle = middle; number = Ok (Some number); begun = subst (BeginsJob old middle rank dir f) is begun; rest = h }
  ended number (Err reason) is h = tt

  -- nothing began
  pub nothing_begun : told ≡ Ok None → CommitsLine old middle rank dir f Nothing
  nothing_begun is = record { middle = middle; number = Ok None; begun = subst (BeginsJob old middle rank dir f) is begun; rest = (refl, refl) }

  pub refused : (reason : Refusal) → told ≡ Err reason → CommitsLine old middle rank dir f (Refused reason)
  refused reason is = record { middle = middle; number = Err reason; begun = subst (BeginsJob old middle rank dir f) is begun; rest = (refl, refl) }

  -- the job wasn't copied
  pub stopped : {A : Type 0} (number : ℕ) (result : Result OutputLine A) → told ≡ Ok (Some number) → OnErr result (CopiesNone middle new number) → OnErr result (LacksForCommit old new rank dir f)
  stopped number (Ok line) is h = tt
  stopped number (Err reason) is h = inr (record { middle = middle; number = number; begun = subst (BeginsJob old middle rank dir f) is begun; rest = h })
