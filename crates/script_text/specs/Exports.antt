-- The commands on the exports of subtrees.
use Rattle.std.specs.Prelude.{ℕ, if◌then◌else◌, List, codes, Result, Ok, Err}
use Rattle.mds_types.specs.declared.ids.Ino.{Ino}
use Rattle.mds_types.specs.Frag.{Fragment}
use Rattle.script_text.specs.declared.exports.ExportCommand.{ExportCommand}
use Rattle.script_text.specs.declared.exports.ExportCommand.TheVariants.{Dir, Freeze, Prep, Send, Import, Finish, Cancel}
use Rattle.script_words.specs.declared.faults.Fault.{Fault}
use Rattle.script_words.specs.declared.faults.Fault.TheVariants.{NotCommand}
use Rattle.script_words.specs.Words.{is_text}
use Rattle.script_words.specs.Reading.{◌>>=◌, first_word, two, four}
use Rattle.script_words.specs.Arguments.{ino_of, rank_of}
use Rattle.script_words.specs.Fragments.{frag_of}

-- `export dir FROM INO FRAG TO`: the exporter, the root of what is exported, the importer
unfoldable pub dir_of : List (List ℕ) → Result ExportCommand Fault
dir_of args = do
  words ← four args
  from ← rank_of words.0
  ino ← ino_of words.1
  frag ← frag_of words.2
  to ← rank_of words.3
  Ok (Dir from ino frag to)

-- `INO FRAG`: the root of an export, which names it
unfoldable pub exported_of : List (List ℕ) → Result (Ino × Fragment) Fault
exported_of args = do
  words ← two args
  ino ← ino_of words.0
  frag ← frag_of words.1
  Ok (ino, frag)

-- what follows `export`, by its first word and the words after it
unfoldable pub export_step_of : List ℕ → List (List ℕ) → Result ExportCommand Fault
export_step_of verb args =
    if is_text verb (codes "dir") then dir_of args else
    (if is_text verb (codes "freeze") then (exported_of args >>= λ root. Ok (Freeze root.0 root.1)) else
    (if is_text verb (codes "prep") then (exported_of args >>= λ root. Ok (Prep root.0 root.1)) else
    (if is_text verb (codes "send") then (exported_of args >>= λ root. Ok (Send root.0 root.1)) else
    (if is_text verb (codes "import") then (exported_of args >>= λ root. Ok (Import root.0 root.1)) else
    (if is_text verb (codes "finish") then (exported_of args >>= λ root. Ok (Finish root.0 root.1)) else
    (if is_text verb (codes "cancel") then
    (exported_of args >>= λ root. Ok (Cancel root.0 root.1)) else Err NotCommand))))))

-- `export dir ..`, `export freeze ..` and so on
unfoldable pub export_of_words : List (List ℕ) → Result ExportCommand Fault
export_of_words args = do
  verb ← first_word args
  export_step_of verb.0 verb.1
