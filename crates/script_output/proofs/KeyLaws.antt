-- The name of a key, read.
use Rattle.script_output.proofs.ObjectCommon.{Decodes, Err, IfOk, List, NamesKey, None, Ok, Option, Result, Some, SpellsKey, name_of_key, one_key, reading_answered, reads_key, ℕ, ◌≡◌}

decodes : (key : List ℕ) (name : Option (List ℕ)) → NamesKey key name → Decodes SpellsKey key name
decodes key (Some name) h = h
decodes key None h = λ name s. h name s.0 s.1

pub name_is : {E : Type 0} (key : List ℕ) (answer : Result (Option (List ℕ)) E) → IfOk answer (NamesKey key) → IfOk answer (λ name. name ≡ name_of_key key)
name_is key (Ok name) h = reading_answered {E = Unit {0}} SpellsKey name_of_key one_key reads_key key (Ok name) (decodes key name h)
name_is key (Err e) h = h
