-- The commands on the leaves of a directory.
use Rattle.std.specs.Prelude.{ℕ, if◌then◌else◌, List, codes, Result, Ok, Err}
use Rattle.script_text.specs.declared.commands.Command.{Command}
use Rattle.script_text.specs.declared.commands.Command.TheVariants.{Split, Merge, Leaves}
use Rattle.script_words.specs.declared.faults.Fault.{Fault}
use Rattle.script_words.specs.declared.faults.Fault.TheVariants.{NotCommand}
use Rattle.script_words.specs.Words.{is_text}
use Rattle.script_words.specs.Reading.{◌>>=◌, first_word, one, three, four}
use Rattle.script_words.specs.Arguments.{ino_of, rank_of}
use Rattle.script_words.specs.Fragments.{frag_of, split_bits_of}

-- `dirfrag split RANK INO FRAG NB`
unfoldable pub split_of : List (List ℕ) → Result Command Fault
split_of args = do
  words ← four args
  rank ← rank_of words.0
  ino ← ino_of words.1
  frag ← frag_of words.2
  bits ← split_bits_of words.3
  Ok (Split rank ino frag bits)

-- `dirfrag merge RANK INO FRAG`
unfoldable pub merge_of : List (List ℕ) → Result Command Fault
merge_of args = do
  words ← three args
  rank ← rank_of words.0
  ino ← ino_of words.1
  frag ← frag_of words.2
  Ok (Merge rank ino frag)

-- `dirfrag ls INO`
unfoldable pub leaves_of_words : List (List ℕ) → Result Command Fault
leaves_of_words args = do
  word ← one args
  ino ← ino_of word
  Ok (Leaves ino)

-- what follows `dirfrag`, by its first word and the words after it
unfoldable pub dirfrag_step_of : List ℕ → List (List ℕ) → Result Command Fault
dirfrag_step_of verb args =
    if is_text verb (codes "split") then split_of args else
    (if is_text verb (codes "merge") then merge_of args else
    (if is_text verb (codes "ls") then leaves_of_words args else Err NotCommand))

-- `dirfrag split ..`, `dirfrag merge ..` or `dirfrag ls ..`
unfoldable pub dirfrag_of : List (List ℕ) → Result Command Fault
dirfrag_of args = do
  verb ← first_word args
  dirfrag_step_of verb.0 verb.1
