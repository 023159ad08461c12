-- What a format is, as relations of bytes and values (what is read, and what is written), and what its decoder answers.
use Rattle.std.specs.Prelude.{◌≡◌, ℕ, List, [], ◌++◌, Option, Some, None}

-- what a decoder of a format answers: a value that the bytes spell; none exactly where they spell nothing
abbrev pub Decodes : {V : Type 0} → (List ℕ → V → Type 0) → List ℕ → Option V → Type 0
Decodes Spells bytes (Some value) = Spells bytes value
Decodes {V} Spells bytes None = (value : V) → Spells bytes value → ⊥

-- a function that reads the format: it gives a value exactly where the bytes spell it
abbrev pub IsReaderOf : {V : Type 0} → (List ℕ → V → Type 0) → (List ℕ → Option V) → Type 0
IsReaderOf Spells read = (bytes : List ℕ) → Decodes Spells bytes (read bytes)

-- what is written for a value is read as that value
abbrev pub IsReadAgain : {V : Type 0} → (List ℕ → V → Type 0) → (List ℕ → V → Type 0) → Type 0
IsReadAgain {V} Writes Spells = (bytes : List ℕ) (value : V) → Writes bytes value → Spells bytes value

-- no bytes spell two values
abbrev pub HasOneMeaning : {V : Type 0} → (List ℕ → V → Type 0) → Type 0
HasOneMeaning {V} Spells = (bytes : List ℕ) (a b : V) → Spells bytes a → Spells bytes b → a ≡ b

-- nothing is written in two ways
abbrev pub HasOneSpelling : {V : Type 0} → (List ℕ → V → Type 0) → Type 0
HasOneSpelling {V} Writes = (x y : List ℕ) (value : V) → Writes x value → Writes y value → x ≡ y

-- nothing may follow a value: no spelling goes on as another one
abbrev pub NothingFollows : {V : Type 0} → (List ℕ → V → Type 0) → Type 0
NothingFollows {V} Spells = (bytes more : List ℕ) (a b : V) → Spells bytes a → Spells (bytes ++ more) b → more ≡ []
