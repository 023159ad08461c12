-- What each line of a script asks for.
use Rattle.std.specs.Prelude.{ℕ, if◌then◌else◌, List, [], ◌∷◌, codes, Result, Ok, Err}
use Rattle.std.specs.List.{list_all}
use Rattle.mds_types.specs.declared.operations.Op.{Op}
use Rattle.mds_types.specs.declared.ids.Rank.{Rank}
use Rattle.script_text.specs.declared.commands.Command.{Command}
use Rattle.script_text.specs.declared.commands.Command.TheVariants.{Operation, Request, Serve, Own, History, Export, Store}
use Rattle.script_text.specs.declared.lines.Line.{Line}
use Rattle.script_text.specs.declared.lines.Line.TheVariants as line
use Rattle.script_words.specs.declared.faults.Fault.{Fault}
use Rattle.script_words.specs.declared.faults.Fault.TheVariants.{NotCommand, BadWord}
use Rattle.script_words.specs.Words.{words_of, is_text, is_printable, is_comment}
use Rattle.script_words.specs.Reading.{◌>>=◌, first_word, none, one}
use Rattle.script_words.specs.Arguments.{rank_of, client_of, decimal_of}
use Rattle.script_text.specs.Operations.{operation_of}
use Rattle.script_text.specs.Authorities.{grant_of_words, get_of, authority_of}
use Rattle.script_text.specs.Dirfrags.{dirfrag_of}
use Rattle.script_text.specs.Exports.{export_of_words}
use Rattle.script_text.specs.StoreCommands.{is_store_verb, store_command_of}
use Rattle.script_text.specs.Texts.{HoldsText}

-- `RANK`, and what is asked of it
unfoldable pub at_rank_of : (Rank → Command) → List (List ℕ) → Result Command Fault
at_rank_of command args = do
  word ← one args
  rank ← rank_of word
  Ok (command rank)

-- `req RANK CLIENT TID OLDEST OP`
unfoldable pub req_of : List (List ℕ) → Result Command Fault
req_of args = do
  rank ← first_word args
  client ← first_word rank.1
  tid ← first_word client.1
  oldest ← first_word tid.1
  verb ← first_word oldest.1
  rank ← rank_of rank.0
  client ← client_of client.0
  tid ← decimal_of tid.0
  oldest ← decimal_of oldest.0
  op ← operation_of verb.0 verb.1
  Ok (Request rank (record { client = client; tid = tid; oldest = oldest; op = op }))

-- a command that is no operation, by its first word and the words after it
unfoldable pub other_of : List ℕ → List (List ℕ) → Result Command Fault
other_of verb args =
    if is_text verb (codes "serve") then at_rank_of Serve args else
    (if is_text verb (codes "own") then at_rank_of Own args else
    (if is_text verb (codes "req") then req_of args else
    (if is_text verb (codes "history") then (none args >>= λ end. Ok History) else
    (if is_text verb (codes "dirfrag") then dirfrag_of args else
    (if is_text verb (codes "grant") then grant_of_words args else
    (if is_text verb (codes "get") then get_of args else
    (if is_text verb (codes "authority") then authority_of args else
    (if is_text verb (codes "export") then (export_of_words args >>= λ command. Ok (Export command)) else
    (if is_store_verb verb then (store_command_of verb args >>= λ command. Ok (Store command)) else
    Err NotCommand)))))))))

-- an operation alone; or the other command, where the words are none
abbrev pub operation_or : Result Op Fault → Result Command Fault → Result Command Fault
operation_or (Ok op) other = Ok (Operation op)
operation_or (Err NotCommand) other = other
operation_or (Err (BadWord errno)) other = Err (BadWord errno)

-- a command: an operation alone, or another; no verb begins both
unfoldable pub command_of : List ℕ → List (List ℕ) → Result Command Fault
command_of verb args = operation_or (operation_of verb args) (other_of verb args)

-- the line of a command, or of its fault
abbrev pub line_from : Result Command Fault → Line
line_from (Ok command) = line.Command command
line_from (Err NotCommand) = line.NotCommand
line_from (Err (BadWord errno)) = line.BadWord errno

-- a line of these words
abbrev pub line_of_words : List (List ℕ) → Line
line_of_words [] = line.Nothing
line_of_words (verb ∷ args) = line_from (command_of verb args)

-- what a line asks for: a comment nothing, whatever its bytes; any other line must be printable ASCII
unfoldable pub line_of : List ℕ → Line
line_of bytes =
    if is_comment bytes then line.Nothing else
    (if list_all is_printable bytes then line_of_words (words_of bytes) else line.NotCommand)

-- the operation alone that a line asks for, if it asks for one
unfoldable pub operation_line_of : List ℕ → Result Op Fault
operation_line_of bytes =
    if is_comment bytes then Err NotCommand else
    (if list_all is_printable bytes then (first_word (words_of bytes) >>= λ words. operation_of words.0 words.1) else
    Err NotCommand)

-- a line of a command that holds text, or of one with a name or a target outside its rules
abbrev pub HasLineText : Line → Type 0
HasLineText line.Nothing = ⊥
HasLineText (line.Command command) = HoldsText command
HasLineText (line.BadWord errno) = Unit {0}
HasLineText line.NotCommand = ⊥

-- a line that memory may be wanted for: one that has a command's form, with a name, a target or an object's name in it
abbrev pub TakesMemory : List ℕ → Type 0
TakesMemory bytes = HasLineText (line_of bytes)
