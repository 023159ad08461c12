-- The keys that entries of a directory have in their fragment's object: CephFS's form, the name and then `_head`.
use Rattle.std.specs.Prelude.{◌≡◌, ℕ, List, ◌++◌, codes, Option, Some, None}
use Rattle.mds_types.specs.Name.{IsName}

-- the key of a name
abbrev pub entry_key : List ℕ → List ℕ
entry_key name = name ++ codes "_head"

-- the name whose key this is; none, where it is no name's key
abbrev pub NamesKey : List ℕ → Option (List ℕ) → Type 0
NamesKey key (Some name) = IsName name × (key ≡ entry_key name)
NamesKey key None = (name : List ℕ) → IsName name → key ≡ entry_key name → ⊥

-- the key of some name
abbrev pub IsEntryKey : List ℕ → Type 0
IsEntryKey key = (name : List ℕ) × IsName name × (key ≡ entry_key name)
