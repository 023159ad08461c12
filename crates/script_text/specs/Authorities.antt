-- The commands on authorities: grants, the subtree map, and whose a leaf is.
use Rattle.std.specs.Prelude.{ℕ, if◌then◌else◌, List, codes, Result, Ok, Err}
use Rattle.script_text.specs.declared.commands.Command.{Command}
use Rattle.script_text.specs.declared.commands.Command.TheVariants.{Grant, Subtrees, Authority}
use Rattle.script_words.specs.declared.faults.Fault.{Fault}
use Rattle.script_words.specs.declared.faults.Fault.TheVariants.{NotCommand}
use Rattle.script_words.specs.Words.{is_text}
use Rattle.script_words.specs.Reading.{◌>>=◌, one, two, three}
use Rattle.script_words.specs.Arguments.{ino_of, rank_of, decimal_of}
use Rattle.script_words.specs.Fragments.{frag_of}

-- `grant RANK CLIENT TID`; CLIENT 0, whose requests are operations alone, may be named too
unfoldable pub grant_of_words : List (List ℕ) → Result Command Fault
grant_of_words args = do
  words ← three args
  rank ← rank_of words.0
  client ← decimal_of words.1
  tid ← decimal_of words.2
  Ok (Grant rank client tid)

-- what is got, by the word that names it
abbrev pub got_of : List ℕ → Result Command Fault
got_of word = if is_text word (codes "subtrees") then Ok Subtrees else Err NotCommand

-- `get subtrees`
unfoldable pub get_of : List (List ℕ) → Result Command Fault
get_of args = do
  word ← one args
  got_of word

-- `authority INO FRAG`
unfoldable pub authority_of : List (List ℕ) → Result Command Fault
authority_of args = do
  words ← two args
  ino ← ino_of words.0
  frag ← frag_of words.1
  Ok (Authority ino frag)
