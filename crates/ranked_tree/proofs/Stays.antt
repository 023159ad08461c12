-- What the calls about commits and objects leave of the tables: directories and leaves stay, and so do the roots.
use Rattle.ranked_tree.proofs.Common.{Begins, BeginsUnsaved, Drops, EndsJobOf, Ino, IsLive, IsSound, Job, Leaf, List, Option, PurgesName, Refusal, Result, SavesTree, Some, State, Unsaved, ap, rules, ℕ, ◌≡◌}
use Rattle.std.specs.FinMap as map

-- directories and leaves stay
abbrev pub TablesStay : (old new : State) → Type 0
TablesStay old new = (new.homes ≡ old.homes) × (new.covers ≡ old.covers)

-- and so do jobs
abbrev pub AllStay : (old new : State) → Type 0
AllStay old new = (new.homes ≡ old.homes) × (new.covers ≡ old.covers) × (new.jobs ≡ old.jobs)

same_all : (old new : State) → new ≡ old → AllStay old new
same_all old new same = (ap (λ (s : State). s.homes) same, ap (λ (s : State). s.covers) same, ap (λ (s : State). s.jobs) same)

pub same_tables : (old new : State) → new ≡ old → TablesStay old new
same_tables old new same = (ap (λ (s : State). s.homes) same, ap (λ (s : State). s.covers) same)

module _ (old new : State) where
  pub begun : (unsaved : Option Unsaved) (leaf : Leaf) (job : Option Job) → BeginsUnsaved old new leaf unsaved job → TablesStay old new
  begun unsaved leaf job h = search rules

  -- a commit of a leaf begins, or is refused
  pub begun_stays : (leaf : Leaf) (result : Result (Option Job) Refusal) → Begins old new leaf result → TablesStay old new
  begun_stays leaf result h = search (rules, begun)

  pub ended : (before after : ℕ) (job : Job) (result : Result (Unit {0}) Refusal) → EndsJobOf old new before after job result → TablesStay old new
  ended before after job result h = search rules

  pub dropped : (number : ℕ) (result : Result (Unit {0}) Refusal) → Drops old new number result → TablesStay old new
  dropped number result h = search rules

  pub saved : (before after : ℕ) (dir : Ino) (result : Result (Unit {0}) Refusal) → SavesTree old new before after dir result → AllStay old new
  saved before after dir result h = search rules

  pub purged : (before after : ℕ) (name : Option (List ℕ)) (result : Result (Unit {0}) Refusal) → PurgesName old new before after name result → AllStay old new
  purged before after name result h = search rules

-- where a leaf isn't live no job stands for it
pub none_stands : (s : State) (leaf : Leaf) (job : Job) → IsSound s → (IsLive s.homes s.covers leaf → ⊥) → map.get s.jobs leaf ≡ Some job → ⊥
none_stands s leaf job sound gone stands = let standing = sound.standing leaf job stands in gone (sound.unsaved leaf standing.unsaved standing.beside).live
