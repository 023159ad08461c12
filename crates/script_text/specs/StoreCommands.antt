-- The commands on the store: commits, fragment trees, the purge list, flushes, eviction, and looks at objects.
use Rattle.std.specs.Prelude.{ℕ, Bool, ◌||◌, if◌then◌else◌, List, codes, Some, None, Result, Ok, Err}
use Rattle.std.specs.Str.{is_utf8}
use Rattle.mds_types.specs.declared.ids.Ino.{Ino}
use Rattle.mds_types.specs.declared.ids.Rank.{Rank}
use Rattle.mds_types.specs.Frag.{Fragment}
use Rattle.script_text.specs.declared.store_commands.StoreCommand.{StoreCommand}
use Rattle.script_text.specs.declared.store_commands.StoreCommand.TheVariants.{CommitBegin, CommitEnd, CommitDrop, Commit, CommitTree, Purge, Flush, Evict, Object, Objects}
use Rattle.script_words.specs.declared.faults.Fault.{Fault}
use Rattle.script_words.specs.declared.faults.Fault.TheVariants.{NotCommand}
use Rattle.script_words.specs.Words.{is_text}
use Rattle.script_words.specs.Reading.{◌>>=◌, wanted, none, one, three}
use Rattle.script_words.specs.Arguments.{decimal_of, ino_of, rank_of}
use Rattle.script_words.specs.Fragments.{frag_of}

-- `RANK INO FRAG`: a leaf, and the rank that is asked
unfoldable pub leaf_of_words : List (List ℕ) → Result (Rank × Ino × Fragment) Fault
leaf_of_words args = do
  words ← three args
  rank ← rank_of words.0
  ino ← ino_of words.1
  frag ← frag_of words.2
  Ok (rank, ino, frag)

-- `begin RANK INO FRAG`
unfoldable pub begin_of : List (List ℕ) → Result StoreCommand Fault
begin_of args = do
  leaf ← leaf_of_words args
  Ok (CommitBegin leaf.0 leaf.1 leaf.2)

-- `end J`
unfoldable pub end_of : List (List ℕ) → Result StoreCommand Fault
end_of args = do
  word ← one args
  job ← decimal_of word
  Ok (CommitEnd job)

-- `drop J`
unfoldable pub drop_of : List (List ℕ) → Result StoreCommand Fault
drop_of args = do
  word ← one args
  job ← decimal_of word
  Ok (CommitDrop job)

-- `commit RANK INO FRAG`
unfoldable pub commit_of : List (List ℕ) → Result StoreCommand Fault
commit_of args = do
  leaf ← leaf_of_words args
  Ok (Commit leaf.0 leaf.1 leaf.2)

-- `tree INO`
unfoldable pub tree_of_words : List (List ℕ) → Result StoreCommand Fault
tree_of_words args = do
  word ← one args
  ino ← ino_of word
  Ok (CommitTree ino)

-- `purge`, with no word after it
unfoldable pub purge_of : List (List ℕ) → Result StoreCommand Fault
purge_of args = do
  end ← none args
  Ok Purge

-- `flush`, with no word after it
unfoldable pub flush_of : List (List ℕ) → Result StoreCommand Fault
flush_of args = do
  end ← none args
  Ok Flush

-- `evict RANK`
unfoldable pub evict_of : List (List ℕ) → Result StoreCommand Fault
evict_of args = do
  word ← one args
  rank ← rank_of word
  Ok (Evict rank)

-- NAME of an object: the word itself, in which `%` stands for itself too; it has no rule but to be text, as the names
-- of all objects are
unfoldable pub text_name_of : List ℕ → Result (List ℕ) Fault
text_name_of word = wanted (if is_utf8 word then Some word else None)

-- `object NAME`
unfoldable pub object_of_words : List (List ℕ) → Result StoreCommand Fault
object_of_words args = do
  word ← one args
  name ← text_name_of word
  Ok (Object name)

-- `objects`, with no word after it
unfoldable pub objects_of : List (List ℕ) → Result StoreCommand Fault
objects_of args = do
  end ← none args
  Ok Objects

-- whether commands on the store begin with this word
abbrev pub is_store_verb : List ℕ → Bool
is_store_verb verb =
    is_text verb (codes "begin") || is_text verb (codes "end") || is_text verb (codes "drop")
    || is_text verb (codes "commit") || is_text verb (codes "tree") || is_text verb (codes "purge")
    || is_text verb (codes "flush") || is_text verb (codes "evict") || is_text verb (codes "object")
    || is_text verb (codes "objects")

-- a command on the store, by its first word and the words after it
unfoldable pub store_command_of : List ℕ → List (List ℕ) → Result StoreCommand Fault
store_command_of verb args =
    if is_text verb (codes "begin") then begin_of args else
    (if is_text verb (codes "end") then end_of args else
    (if is_text verb (codes "drop") then drop_of args else
    (if is_text verb (codes "commit") then commit_of args else
    (if is_text verb (codes "tree") then tree_of_words args else
    (if is_text verb (codes "purge") then purge_of args else
    (if is_text verb (codes "flush") then flush_of args else
    (if is_text verb (codes "evict") then evict_of args else
    (if is_text verb (codes "object") then object_of_words args else
    (if is_text verb (codes "objects") then objects_of args else Err NotCommand)))))))))
