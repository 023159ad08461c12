-- The forgetting after a line of a script.
use Rattle.std.specs.Prelude.{◌≡◌, ℕ, Option, Some, None}
use Rattle.cluster_core.specs.Forgetting.{Forgets}
use Rattle.admin_cli.specs.Admin.{Admin}

-- if an option says how many entries to keep, the book forgot older ones, by all that the contract of `Book::forget`
-- says; otherwise nothing changed
abbrev pub ForgetsBehind : Option ℕ → (old new : Admin) → Type 0
ForgetsBehind None old new = new ≡ old
ForgetsBehind (Some keep) old new =
    (new.operations ≡ old.operations) × (new.jobs ≡ old.jobs) × (new.sent ≡ old.sent) × Forgets keep old.book new.book

-- a line was done, and then the book forgot so, if an option says so
abbrev pub ThenForgets : Option ℕ → (Admin → Type 0) → Admin → Type 0
ThenForgets None Did new = Did new
ThenForgets (Some keep) Did new = (middle : Admin) × Did middle × ForgetsBehind (Some keep) middle new
