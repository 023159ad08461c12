-- Pairs read one after the other.
use Rattle.dentry_cache.proofs.Common.{Decodes, Err, IfOk, List, NamesKey, None, Ok, Option, Result, Some, SpellsKey, name_of_key, one_key, one_reading, reads_key, ℕ, ◌≡◌}

key_decodes : (key : List ℕ) (name : Option (List ℕ)) → NamesKey key name → Decodes SpellsKey key name
key_decodes key (Some name) h = h
key_decodes key None h = λ name s. h name s.0 s.1

pub name_is : {E : Type 0} (key : List ℕ) (answer : Result (Option (List ℕ)) E) → IfOk answer (NamesKey key) → IfOk answer (λ name. name ≡ name_of_key key)
name_is key (Ok name) h = one_reading SpellsKey one_key key name (name_of_key key) (key_decodes key name h) (reads_key key)
name_is key (Err e) h = h
