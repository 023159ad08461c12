-- Reading with a fault: steps that go on with what was read, or stop.
use Rattle.std.specs.Prelude.{◌≡◌, ℕ, Option, Some, None, Result, Ok, Err, List, [], ◌∷◌}
use Rattle.script_words.specs.declared.faults.Fault.{Fault}
use Rattle.script_words.specs.declared.faults.Fault.TheVariants.{NotCommand, BadWord}
use Rattle.script_words.specs.declared.faults.ReadError.{ReadError}
use Rattle.script_words.specs.declared.faults.ReadError.TheVariants as errors

-- the next step, on what was read
infixl 10 ◌>>=◌
abbrev pub ◌>>=◌ : {A B : Type 0} → Result A Fault → (A → Result B Fault) → Result B Fault
(Ok x) >>= next = next x
(Err fault) >>= next = Err fault

-- what must be there for the line to be a command
abbrev pub wanted : {A : Type 0} → Option A → Result A Fault
wanted None = Err NotCommand
wanted (Some x) = Ok x

-- the first word, and those after it
abbrev pub first_word : List (List ℕ) → Result (List ℕ × List (List ℕ)) Fault
first_word [] = Err NotCommand
first_word (a ∷ words) = Ok (a, words)

-- no further word
abbrev pub none : List (List ℕ) → Result (Unit {0}) Fault
none [] = Ok tt
none (a ∷ words) = Err NotCommand

-- exactly one, two, three, four words
abbrev pub one : List (List ℕ) → Result (List ℕ) Fault
one [] = Err NotCommand
one (a ∷ []) = Ok a
one (a ∷ b ∷ words) = Err NotCommand

abbrev pub two : List (List ℕ) → Result (List ℕ × List ℕ) Fault
two [] = Err NotCommand
two (a ∷ []) = Err NotCommand
two (a ∷ b ∷ []) = Ok (a, b)
two (a ∷ b ∷ c ∷ words) = Err NotCommand

abbrev pub three : List (List ℕ) → Result (List ℕ × List ℕ × List ℕ) Fault
three [] = Err NotCommand
three (a ∷ []) = Err NotCommand
three (a ∷ b ∷ []) = Err NotCommand
three (a ∷ b ∷ c ∷ []) = Ok (a, b, c)
three (a ∷ b ∷ c ∷ d ∷ words) = Err NotCommand

abbrev pub four : List (List ℕ) → Result (List ℕ × List ℕ × List ℕ × List ℕ) Fault
four [] = Err NotCommand
four (a ∷ []) = Err NotCommand
four (a ∷ b ∷ []) = Err NotCommand
four (a ∷ b ∷ c ∷ []) = Err NotCommand
four (a ∷ b ∷ c ∷ d ∷ []) = Ok (a, b, c, d)
four (a ∷ b ∷ c ∷ d ∷ e ∷ words) = Err NotCommand

-- the words have a command's form, be a name or a target among them outside its rules or not
abbrev pub HasForm : {B : Type 0} → Result B Fault → Type 0
HasForm (Ok x) = Unit {0}
HasForm (Err NotCommand) = ⊥
HasForm (Err (BadWord errno)) = Unit {0}

-- a fault is that of the definition; memory is wanted only for words that have a command's form
abbrev pub Fails : {B : Type 0} → ReadError → Result B Fault → Type 0
Fails errors.NoMemory read = HasForm read
Fails (errors.Fault fault) read = read ≡ Err fault

-- what a function returned, seen by view, is what the definition reads, unless memory was refused
abbrev pub GivesWord : {A B : Type 0} → (A → B) → Result A ReadError → Result B Fault → Type 0
GivesWord view (Ok x) read = read ≡ Ok (view x)
GivesWord view (Err error) read = Fails error read

-- a fault is that of the definition, and never want of memory
abbrev pub Tells : {B : Type 0} → ReadError → Result B Fault → Type 0
Tells errors.NoMemory read = ⊥
Tells (errors.Fault fault) read = read ≡ Err fault

-- what a function that takes no memory returned, seen by view, is what the definition reads
abbrev pub ReadsWord : {A B : Type 0} → (A → B) → Result A ReadError → Result B Fault → Type 0
ReadsWord view (Ok x) read = read ≡ Ok (view x)
ReadsWord view (Err error) read = Tells error read
