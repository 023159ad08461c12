-- Memory for names and targets is wanted only where all words of a command have their form, and for a command that holds some.
use Rattle.script_text.proofs.Common.{BadWord, Bool, Err, Fails, FailsForText, Fault, GivesWord, GivesText, HasForm, HasText, IsErr, IsErrAnd, List, None, NotCommand, Ok, Option, ReadError, Result, Some, ap, cond, fails_on, false, form_of_name, form_of_target, is_dash, name_of, subst, sym, target_of_word, true, two_texts_of, word_name_of, ℕ, ◌>>=◌, ◌≡◌}
use Rattle.script_words.specs.declared.faults.ReadError.TheVariants as errors
use Rattle.mds_types.specs.declared.dentries.Dentry.{Dentry}
use Rattle.script_words.specs.Arguments.{after_of}
use Rattle.script_text.specs.declared.operations.DentryVerb.{DentryVerb}
use Rattle.script_text.specs.declared.operations.DentryVerb.TheVariants as verbs
use Rattle.script_text.specs.Operations.{asks_for}
use Rattle.script_text.specs.Texts.{HoldsName}

module _ {B : Type 0} (error : ReadError) where
  pub name_fails : (word : List ℕ) (made : List ℕ → B) → Fails error (word_name_of word) → Fails error (word_name_of word >>= λ name. Ok (made name))
  name_fails word made fails = fails_on error (word_name_of word) (λ name. Ok (made name)) fails (λ name. tt)

-- what has a form, and what follows it holds text
text_on : {A B : Type 0} (Holds : B → Type 0) (read : Result A Fault) (next : A → Result B Fault) → HasForm read → ((x : A) → HasText Holds (next x)) → HasText Holds (read >>= next)
text_on Holds (Ok x) next form others = others x
text_on Holds (Err NotCommand) next form others = absurd form
text_on Holds (Err (BadWord errno)) next form others = tt

-- a fault of what was read is one of all, where what follows always holds text
fails_text_on : {A B : Type 0} (Holds : B → Type 0) (error : ReadError) (read : Result A Fault) (next : A → Result B Fault) → Fails error read → ((x : A) → HasText Holds (next x)) → FailsForText Holds error (read >>= next)
fails_text_on Holds errors.NoMemory read next form others = text_on Holds read next form others
fails_text_on Holds (errors.Fault fault) read next is others = ap (λ r. r >>= next) is

module _ {B : Type 0} (Holds : B → Type 0) (error : ReadError) where
  pub name_text_fails : (word : List ℕ) (made : List ℕ → B) → ((name : List ℕ) → Holds (made name)) → Fails error (word_name_of word)
      → FailsForText Holds error (word_name_of word >>= λ name. Ok (made name))
  name_text_fails word made holds fails = fails_text_on Holds error (word_name_of word) (λ name. Ok (made name)) fails holds

  pub made_text_fails : {A : Type 0} (read : Result (List ℕ) Fault) (named : List ℕ → A) (made : A → B) → ((name : List ℕ) → Holds (made (named name))) → Fails error read
      → FailsForText Holds error ((read >>= λ name. Ok (named name)) >>= λ x. Ok (made x))
  made_text_fails read named made holds fails = at error read fails
    where
      at : (error : ReadError) (read : Result (List ℕ) Fault) → Fails error read → FailsForText Holds error ((read >>= λ name. Ok (named name)) >>= λ x. Ok (made x))
      at errors.NoMemory (Ok name) form = holds name
      at errors.NoMemory (Err NotCommand) form = absurd form
      at errors.NoMemory (Err (BadWord errno)) form = tt
      at (errors.Fault fault) read is = ap (λ (r : Result (List ℕ) Fault). (r >>= λ name. Ok (named name)) >>= λ x. Ok (made x)) is

  pub target_fails : (word other : List ℕ) (made : List ℕ → List ℕ → B) → ((name target : List ℕ) → Holds (made name target)) → Fails error (two_texts_of word other)
      → FailsForText Holds error (two_texts_of word other >>= λ both. (name_of both.0 >>= λ name. (target_of_word both.1 >>= λ target. Ok (made name target))))
  target_fails word other made holds fails =
      fails_text_on Holds error (two_texts_of word other) (λ both. (name_of both.0 >>= λ name. (target_of_word both.1 >>= λ target. Ok (made name target)))) fails
      (λ both. text_on Holds (name_of both.0) (λ name. (target_of_word both.1 >>= λ target. Ok (made name target))) (form_of_name both.0)
      (λ name. text_on Holds (target_of_word both.1) (λ target. Ok (made name target)) (form_of_target both.1) (holds name)))

  pub names_fail : (word other : List ℕ) (made : List ℕ → List ℕ → B) → ((name to : List ℕ) → Holds (made name to)) → Fails error (two_texts_of word other)
      → FailsForText Holds error (two_texts_of word other >>= λ both. (name_of both.0 >>= λ name. (name_of both.1 >>= λ to. Ok (made name to))))
  names_fail word other made holds fails =
      fails_text_on Holds error (two_texts_of word other) (λ both. (name_of both.0 >>= λ name. (name_of both.1 >>= λ to. Ok (made name to)))) fails
      (λ both. text_on Holds (name_of both.0) (λ name. (name_of both.1 >>= λ to. Ok (made name to))) (form_of_name both.0)
      (λ name. text_on Holds (name_of both.1) (λ to. Ok (made name to)) (form_of_name both.1) (holds name)))

-- AFTER is a name, as it isn't `-`
module _ {B : Type 0} (Holds : B → Type 0) (made : Option (List ℕ) → B) (holds : (name : List ℕ) → Holds (made (Some name))) where
  abbrev after_read : Bool → Result (List ℕ) Fault → Result (Option (List ℕ)) Fault
  after_read dash read = cond dash (Ok None) (read >>= λ name. Ok (Some name))

  after_at : (error : ReadError) (dash : Bool) (read : Result (List ℕ) Fault) → dash ≡ false → Fails error (after_read dash read) → FailsForText Holds error (after_read dash read >>= λ name. Ok (made name))
  after_at error true read other fails = absurd cc
  after_at errors.NoMemory false (Ok name) other form = holds name
  after_at errors.NoMemory false (Err NotCommand) other form = absurd form
  after_at errors.NoMemory false (Err (BadWord errno)) other form = tt
  after_at (errors.Fault fault) false read other is = ap (λ (r : Result (Option (List ℕ)) Fault). r >>= λ name. Ok (made name)) is

  pub after_fails : (error : ReadError) (word : List ℕ) → is_dash word ≡ false → Fails error (after_of word) → FailsForText Holds error (after_of word >>= λ name. Ok (made name))
  unfolding after_of
  after_fails error word other fails = after_at error (is_dash word) (word_name_of word) other fails

-- what `?` hands on
pub gives_fault : {A B : Type 0} (view : A → B) (result : Result A ReadError) (error : ReadError) (read : Result B Fault) → IsErr result → IsErrAnd result (λ e. e ≡ error) → Fails error read → GivesWord view result read
gives_fault view (Ok x) error read is and fails = cc
gives_fault view (Err e) error read is and fails = subst (λ x. Fails x read) (sym and) fails

pub gives_text_fault : {A : Type 0} (Holds : A → Type 0) (result : Result A ReadError) (error : ReadError) (read : Result A Fault) → IsErr result → IsErrAnd result (λ e. e ≡ error) → FailsForText Holds error read
    → GivesText Holds result read
gives_text_fault Holds (Ok x) error read is and fails = cc
gives_text_fault Holds (Err e) error read is and fails = subst (λ x. FailsForText Holds x read) (sym and) fails

-- what a verb asks for of a dentry holds its name
pub holds_asked : (verb : DentryVerb) (dentry : Dentry) → HoldsName (asks_for verb dentry)
holds_asked verbs.Lookup dentry = tt
holds_asked verbs.Readlink dentry = tt
holds_asked verbs.Unlink dentry = tt
holds_asked verbs.Rmdir dentry = tt
