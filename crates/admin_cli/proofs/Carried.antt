-- What a command does under the options of a script.
use Rattle.admin_cli.proofs.Common.{Admin, Command, Executes, OutputLine, refl, subst, sym, ◌≡◌}
use Rattle.std.specs.Prelude.{Bool, Err, IfOk, MatchBool, None, Ok, OnErr, Option, Result, Some, false, true, ℕ}
use Rattle.script_text.specs.declared.commands.Command.TheVariants as command
use Rattle.script_text.specs.declared.store_commands.StoreCommand.{StoreCommand}
use Rattle.script_text.specs.declared.store_commands.StoreCommand.TheVariants as store
use Rattle.admin_cli.specs.Forgetting.{ForgetsBehind, ThenForgets}
use Rattle.admin_cli.specs.Modes.{DoesUnder, DoesStoreUnder, plain}
use Rattle.admin_cli.specs.Scripts.{Doing}

pub as_plain : (asks : Bool) (A B : Type 0) → asks ≡ false → B → MatchBool asks A B
as_plain asks A B is h = subst (λ (b : Bool). MatchBool b A B) (sym is) h

pub as_asked : (asks : Bool) (A B : Type 0) → asks ≡ true → A → MatchBool asks A B
as_asked asks A B is h = subst (λ (b : Bool). MatchBool b A B) (sym is) h

-- what was done, and what was forgotten behind it
pub then_forgets : (history : Option ℕ) (Did : Admin → Type 0) (middle new : Admin) → Did middle → ForgetsBehind history middle new → ThenForgets history Did new
then_forgets None Did middle new did same = subst Did (sym same) did
then_forgets (Some keep) Did middle new did forgot = (middle, did, forgot)

module _ {E : Type 0} (history : Option ℕ) (Did : Admin → OutputLine → Type 0) (middle new : Admin) where
  -- so behind a line that was done,
  pub then_forgets_if : (came : Result OutputLine E) → IfOk came (Did middle) → IfOk came (λ _. ForgetsBehind history middle new) → IfOk came (λ line. ThenForgets history (λ m. Did m line) new)
  then_forgets_if (Ok line) did forgot = then_forgets history (λ m. Did m line) middle new did forgot
  then_forgets_if (Err e) did forgot = tt

-- and one that wasn't leaves what it left
pub none_forgotten : {E : Type 0} (came : Result OutputLine E) (Lacks : Admin → Type 0) (middle new : Admin) → OnErr came (Lacks middle) → OnErr came (new ≡ middle) → OnErr came (Lacks new)
none_forgotten (Ok line) Lacks middle new lacks same = tt
none_forgotten (Err e) Lacks middle new lacks same = subst Lacks (sym same) lacks

-- with no option a script does what it says
same_store : (old new : Admin) (c : StoreCommand) (line : OutputLine) → DoesStoreUnder plain old new c line ≡ Executes old new (command.Store c) line
same_store old new (store.CommitBegin rank dir f) line = refl
same_store old new (store.CommitEnd number) line = refl
same_store old new (store.CommitDrop number) line = refl
same_store old new (store.Commit rank dir f) line = refl
same_store old new (store.CommitTree dir) line = refl
same_store old new store.Purge line = refl
same_store old new store.Flush line = refl
same_store old new (store.Evict rank) line = refl
same_store old new (store.Object name) line = refl
same_store old new store.Objects line = refl

same_command : (old new : Admin) (c : Command) (line : OutputLine) → DoesUnder plain old new c line ≡ Executes old new c line
same_command old new (command.Operation op) line = refl
same_command old new (command.Request rank request) line = refl
same_command old new (command.Store c) line = same_store old new c line
same_command old new (command.Serve rank) line = refl
same_command old new (command.Own rank) line = refl
same_command old new command.History line = refl
same_command old new (command.Split rank dir f nb) line = refl
same_command old new (command.Merge rank dir f) line = refl
same_command old new (command.Leaves dir) line = refl
same_command old new (command.Grant rank client tid) line = refl
same_command old new command.Subtrees line = refl
same_command old new (command.Authority dir f) line = refl
same_command old new (command.Export c) line = refl

pub carries_plain : ◌≡◌ {A = Doing} (DoesUnder plain) Executes
carries_plain = λ i old new c line. same_command old new c line i
