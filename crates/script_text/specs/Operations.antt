-- The operations of a script's line: the words of each, and what they ask for.
use Rattle.std.specs.Prelude.{ℕ, if◌then◌else◌, List, codes, Result, Ok, Err}
use Rattle.mds_types.specs.declared.dentries.Dentry.{Dentry}
use Rattle.mds_types.specs.declared.inodes.Birth.{Birth}
use Rattle.mds_types.specs.declared.operations.Op.{Op}
use Rattle.mds_types.specs.declared.operations.Op.TheVariants.{Lookup, Readdir, Create, Mkdir, Readlink, Symlink, Setattr, SetPin, Unlink, Rmdir, Rename}
use Rattle.script_words.specs.declared.faults.Fault.{Fault}
use Rattle.script_words.specs.declared.faults.Fault.TheVariants.{NotCommand}
use Rattle.script_words.specs.Words.{is_text}
use Rattle.script_words.specs.Reading.{◌>>=◌, first_word, two, three, four}
use Rattle.script_words.specs.Arguments.{ino_of, mode_of, pin_of, page_size_of, two_texts_of, after_of, name_of, target_of_word, word_name_of}
use Rattle.script_text.specs.Attributes.{attributes_of, birth_of}
use Rattle.script_text.specs.declared.operations.DentryVerb.{DentryVerb}
use Rattle.script_text.specs.declared.operations.DentryVerb.TheVariants as verbs

-- In each form below that of all its words comes before the rules of names and targets; of two words outside those
-- rules the first decides.

-- `INO NAME`: a dentry
unfoldable pub dentry_of_words : List (List ℕ) → Result Dentry Fault
dentry_of_words args = do
  words ← two args
  dir ← ino_of words.0
  name ← word_name_of words.1
  Ok (record { dir = dir; name = name })

-- `INO NAME MODE [uid N] [gid N]`: a dentry, and what is made there
unfoldable pub made_of : List (List ℕ) → Result (Dentry × ℕ × Birth) Fault
made_of args = do
  dir ← first_word args
  name ← first_word dir.1
  mode ← first_word name.1
  ino ← ino_of dir.0
  bits ← mode_of mode.0
  birth ← birth_of mode.1
  name ← word_name_of name.0
  Ok (record { dir = ino; name = name }, bits, birth)

-- `INO AFTER MAX`
unfoldable pub readdir_of : List (List ℕ) → Result Op Fault
readdir_of args = do
  words ← three args
  dir ← ino_of words.0
  max ← page_size_of words.2
  after ← after_of words.1
  Ok (Readdir dir after max)

-- `INO NAME TARGET [uid N] [gid N]`
unfoldable pub symlink_of : List (List ℕ) → Result Op Fault
symlink_of args = do
  dir ← first_word args
  name ← first_word dir.1
  to ← first_word name.1
  ino ← ino_of dir.0
  birth ← birth_of to.1
  both ← two_texts_of name.0 to.0
  name ← name_of both.0
  target ← target_of_word both.1
  Ok (Symlink (record { dir = ino; name = name }) target birth)

-- `INO NAME [mode MODE] [size N] [mtime N] [uid N] [gid N]`
unfoldable pub setattr_of : List (List ℕ) → Result Op Fault
setattr_of args = do
  dir ← first_word args
  name ← first_word dir.1
  ino ← ino_of dir.0
  given ← attributes_of name.1
  name ← word_name_of name.0
  Ok (Setattr (record { dir = ino; name = name }) given)

-- `INO NAME RANK`, or `-1` in place of RANK
unfoldable pub setpin_of : List (List ℕ) → Result Op Fault
setpin_of args = do
  words ← three args
  dir ← ino_of words.0
  pin ← pin_of words.2
  name ← word_name_of words.1
  Ok (SetPin (record { dir = dir; name = name }) pin)

-- `INO NAME INO NAME`, from the first dentry to the second
unfoldable pub rename_of : List (List ℕ) → Result Op Fault
rename_of args = do
  words ← four args
  dir ← ino_of words.0
  to_dir ← ino_of words.2
  both ← two_texts_of words.1 words.3
  name ← name_of both.0
  to_name ← name_of both.1
  Ok (Rename (record { dir = dir; name = name }) (record { dir = to_dir; name = to_name }))

-- an operation, by its first word and the words after it
unfoldable pub operation_of : List ℕ → List (List ℕ) → Result Op Fault
operation_of verb args =
    if is_text verb (codes "lookup") then (dentry_of_words args >>= λ dentry. Ok (Lookup dentry)) else
    (if is_text verb (codes "readdir") then readdir_of args else
    (if is_text verb (codes "create") then (made_of args >>= λ made. Ok (Create made.0 made.1 made.2)) else
    (if is_text verb (codes "mkdir") then (made_of args >>= λ made. Ok (Mkdir made.0 made.1 made.2)) else
    (if is_text verb (codes "readlink") then (dentry_of_words args >>= λ dentry. Ok (Readlink dentry)) else
    (if is_text verb (codes "symlink") then symlink_of args else
    (if is_text verb (codes "setattr") then setattr_of args else
    (if is_text verb (codes "setpin") then setpin_of args else
    (if is_text verb (codes "unlink") then (dentry_of_words args >>= λ dentry. Ok (Unlink dentry)) else
    (if is_text verb (codes "rmdir") then (dentry_of_words args >>= λ dentry. Ok (Rmdir dentry)) else
    (if is_text verb (codes "rename") then rename_of args else Err NotCommand))))))))))

-- ---- parts of it, for the functions that read them

-- what a verb with nothing but a dentry behind it asks for
abbrev pub asks_for : DentryVerb → Dentry → Op
asks_for verbs.Lookup dentry = Lookup dentry
asks_for verbs.Readlink dentry = Readlink dentry
asks_for verbs.Unlink dentry = Unlink dentry
asks_for verbs.Rmdir dentry = Rmdir dentry

-- `INO NAME` behind such a verb
abbrev pub on_dentry_of : DentryVerb → List (List ℕ) → Result Op Fault
on_dentry_of verb args = dentry_of_words args >>= λ dentry. Ok (asks_for verb dentry)

-- a file, or a directory
abbrev pub create_of : List (List ℕ) → Result Op Fault
create_of args = made_of args >>= λ made. Ok (Create made.0 made.1 made.2)

abbrev pub mkdir_of : List (List ℕ) → Result Op Fault
mkdir_of args = made_of args >>= λ made. Ok (Mkdir made.0 made.1 made.2)
