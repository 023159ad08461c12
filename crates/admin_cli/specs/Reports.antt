-- The text that a run of `cephmeta serve` prints.
use Rattle.std.specs.Prelude.{◌≡◌, ◌⊎◌, ℕ, Bool, true, false, List, [], ◌∷◌, ◌++◌, codes, IsSorted, Option, Result, Ok, Err}
use Rattle.std.specs.Ordering.{nat_cmp}
use Rattle.std.specs.Cmp.Lexicographic.{slice_cmp}
use Rattle.std.specs.Fmt.{decimal}
use Rattle.std.specs.FinMap as map
use Rattle.std.specs.Io.KnownBytes.{Appends, Keeps}
use Rattle.mds_types.specs.declared.entries.Entry.{Entry}
use Rattle.cluster_core.specs.Opening.{Opening}
use Rattle.cluster_core.specs.Sound.{StandsBehind}
use Rattle.cluster_core.specs.State.{KeptState, places_of}
use Rattle.script_output.specs.Writing.{AppendsBeginning}
use Rattle.admin_cli.specs.declared.workload.serving.ServeFault.{ServeFault}
use Rattle.admin_cli.specs.declared.workload.serving.ServeFault.TheVariants.{Fault, Write}

-- paths are in the order of their bytes
abbrev pub AreInOrder : List (List ℕ) → Type 0
AreInOrder paths = IsSorted (slice_cmp nat_cmp) paths

-- a line for each path
abbrev pub path_lines : List (List ℕ) → List ℕ
path_lines [] = []
path_lines (path ∷ paths) = path ++ codes "\n" ++ path_lines paths

-- the lines before the paths: how many requests were applied, and whether the receipts agree with the history
abbrev pub head_text : ℕ → Bool → List ℕ
head_text served true = codes "served " ++ decimal served ++ codes "\naudit ok\n"
head_text served false = codes "served " ++ decimal served ++ codes "\naudit failed\n"

-- the text of a run, after which so many requests were applied: its first lines, and paths in the order of their bytes
pub record Reports (served : ℕ) (agrees : Bool) (text : List ℕ) : Type 0 where
  pub paths : List (List ℕ)
  pub in_order : AreInOrder paths
  pub whole : text ≡ head_text served agrees ++ path_lines paths

-- a book opened with the empty tree and no stand-ins, whichever past is forgotten
abbrev pub OpensEmpty : KeptState → Type 0
OpensEmpty book =
    (opening : Opening) × (opening.tree ≡ map.empty) × (opening.told ≡ 0) × (past : List Entry)
    × StandsBehind opening past book

-- the text of a run whose book opened with the empty tree
pub record IsText (agrees : Bool) (text : List ℕ) : Type 0 where
  pub book : KeptState
  pub opening : OpensEmpty book
  pub reports : Reports (places_of book) agrees text

-- what is written: the whole text; at a write fault a beginning of it; and nothing if there is no text
abbrev pub ServesOut : (before after : Option (List ℕ)) → Result (Unit {0}) ServeFault → Type 0
ServesOut before after (Ok done) = (text : List ℕ) × IsText true text × Appends before after text
ServesOut before after (Err (Fault number)) =
    (((number ≡ 1) ⊎ (number ≡ 2)) × Keeps before after)
    ⊎ ((number ≡ 3) × ((text : List ℕ) × IsText false text × Appends before after text))
ServesOut before after (Err Write) =
    (agrees : Bool) × (text : List ℕ) × IsText agrees text × AppendsBeginning before after text
