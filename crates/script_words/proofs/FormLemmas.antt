-- Which words have a command's form.
use Rattle.script_words.proofs.Common.{BadWord, Bool, Err, Fails, Fault, HasForm, List, None, NotCommand, Ok, Option, ReadError, Result, Some, ap, bytes_of, cond, false, fits_target, is_plain_name, is_some, length, list_all, nat_lt, not, refl, true, wanted, ℕ, ◌==◌, ◌>>=◌, ◌≡◌}
use Rattle.script_words.specs.declared.faults.ReadError.TheVariants as errors
use Rattle.script_words.specs.Arguments.{name_of, target_of_word, text_of_word, two_texts_of, word_name_of}
use Rattle.script_words.proofs.EscapeLemmas.{bytes_of-itself}

-- what has a form, and what follows it has one
pub form_on : {A B : Type 0} (read : Result A Fault) (next : A → Result B Fault) → HasForm read → ((x : A) → HasForm (next x)) → HasForm (read >>= next)
form_on (Ok x) next form others = others x
form_on (Err NotCommand) next form others = absurd form
form_on (Err (BadWord errno)) next form others = tt

-- a word that stands for bytes
pub form_of_wanted : (bytes : Option (List ℕ)) → is_some bytes ≡ true → HasForm (wanted bytes)
form_of_wanted None some = cc
form_of_wanted (Some bytes) some = tt

pub form_of_text : (word : List ℕ) → is_some (bytes_of word) ≡ true → HasForm (text_of_word word)
unfolding text_of_word
form_of_text word some = form_of_wanted (bytes_of word) some

-- any bytes are a name or outside its rules, and a target too
pub form_of_name : (bytes : List ℕ) → HasForm (name_of bytes)
unfolding name_of
form_of_name bytes = at (nat_lt 255 (length bytes)) (is_plain_name bytes)
  where
    at : (long plain : Bool) → HasForm (cond long (Err (BadWord 36)) (cond plain (Ok bytes) (Err (BadWord 22))))
    at true plain = tt
    at false true = tt
    at false false = tt

pub form_of_target : (bytes : List ℕ) → HasForm (target_of_word bytes)
unfolding target_of_word
form_of_target bytes = at (nat_lt 4095 (length bytes)) (length bytes == 0) (list_all fits_target bytes)
  where
    at : (long none fits : Bool) → HasForm (cond long (Err (BadWord 36)) (cond none (Err (BadWord 2)) (cond fits (Ok bytes) (Err (BadWord 22)))))
    at true none fits = tt
    at false true fits = tt
    at false false true = tt
    at false false false = tt

-- both of two
abbrev both : List ℕ → List ℕ → Result (List ℕ × List ℕ) Fault
both bytes others = Ok (bytes, others)

-- two words of which the second stands for no bytes
pub two_without : (word other : List ℕ) → HasForm (text_of_word word) → false ≡ is_some (bytes_of other) → two_texts_of word other ≡ Err NotCommand
unfolding two_texts_of text_of_word
two_without word other form none = at (bytes_of word) (bytes_of other) form none
  where
    at : (one two : Option (List ℕ)) → HasForm (wanted one) → false ≡ is_some two → (wanted one >>= λ bytes. (wanted two >>= λ others. both bytes others)) ≡ Err NotCommand
    at None two form none = absurd form
    at (Some bytes) None form none = refl
    at (Some bytes) (Some others) form none = cc

-- and two that both stand for some
pub form_of_two : (word other : List ℕ) → HasForm (text_of_word word) → HasForm (text_of_word other) → HasForm (two_texts_of word other)
unfolding two_texts_of
form_of_two word other one two = form_on (text_of_word word) (λ bytes. (text_of_word other >>= λ others. both bytes others)) one (λ bytes. form_on (text_of_word other) (λ others. both bytes others) two (λ others. tt))

-- a fault of what was read is one of all, where what follows always has a form
pub fails_on : {A B : Type 0} (error : ReadError) (read : Result A Fault) (next : A → Result B Fault) → Fails error read → ((x : A) → HasForm (next x)) → Fails error (read >>= next)
fails_on errors.NoMemory read next form others = form_on read next form others
fails_on (errors.Fault fault) read next is others = ap (λ r. r >>= next) is

-- a word without a `%` stands for its own bytes
pub name_by_itself : (word : List ℕ) → list_all (λ byte. not (byte == 37)) word ≡ true → name_of word ≡ word_name_of word
unfolding word_name_of text_of_word
name_by_itself word plain = ap (λ (bytes : Option (List ℕ)). wanted bytes >>= name_of) (bytes_of-itself word plain)

-- a word that stands for bytes is one of a name, or of bytes outside its rules
pub name_fails_on : (error : ReadError) (word : List ℕ) → Fails error (text_of_word word) → Fails error (word_name_of word)
unfolding word_name_of
name_fails_on errors.NoMemory word form = form_on (text_of_word word) name_of form form_of_name
name_fails_on (errors.Fault fault) word is = ap (λ (read : Result (List ℕ) Fault). read >>= name_of) is
