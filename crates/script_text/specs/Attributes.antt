-- The attributes that a line gives, each behind a word that names it.
use Rattle.std.specs.Prelude.{ℕ, if◌then◌else◌, List, [], ◌∷◌, codes, Option, Some, None, unwrap_or, Result, Ok}
use Rattle.mds_types.specs.declared.inodes.Attributes.{Attributes}
use Rattle.mds_types.specs.declared.inodes.Birth.{Birth}
use Rattle.script_words.specs.declared.faults.Fault.{Fault}
use Rattle.script_words.specs.Words.{is_text}
use Rattle.script_words.specs.Reading.{◌>>=◌, first_word, none}
use Rattle.script_words.specs.Arguments.{mode_of, decimal_of, id_of}

-- the word behind a key, where the words begin with the key, and the words that are left
abbrev pub keyed : List ℕ → List (List ℕ) → Result (Option (List ℕ) × List (List ℕ)) Fault
keyed key [] = Ok (None, [])
keyed key (word ∷ words) =
    if is_text word key then (first_word words >>= λ value. Ok (Some value.0, value.1)) else Ok (None, word ∷ words)

-- what a word is read as, where there is one
abbrev pub if_given : (List ℕ → Result ℕ Fault) → Option (List ℕ) → Result (Option ℕ) Fault
if_given read None = Ok None
if_given read (Some word) = read word >>= λ n. Ok (Some n)

-- `[mode MODE] [size N] [mtime N] [uid N] [gid N]`: in this order, and at least one of them, since no word may be left
unfoldable pub attributes_of : List (List ℕ) → Result Attributes Fault
attributes_of words = do
  some ← first_word words
  mode ← keyed (codes "mode") words
  size ← keyed (codes "size") mode.1
  mtime ← keyed (codes "mtime") size.1
  uid ← keyed (codes "uid") mtime.1
  gid ← keyed (codes "gid") uid.1
  end ← none gid.1
  mode ← if_given mode_of mode.0
  size ← if_given decimal_of size.0
  mtime ← if_given decimal_of mtime.0
  uid ← if_given id_of uid.0
  gid ← if_given id_of gid.0
  Ok (record { mode = mode; size = size; mtime = mtime; uid = uid; gid = gid })

-- `[uid N] [gid N]`: in this order, and no word after them; 0 where it isn't given. What is made has mtime 0
unfoldable pub birth_of : List (List ℕ) → Result Birth Fault
birth_of words = do
  uid ← keyed (codes "uid") words
  gid ← keyed (codes "gid") uid.1
  end ← none gid.1
  uid ← if_given id_of uid.0
  gid ← if_given id_of gid.0
  Ok (record { mtime = 0; uid = unwrap_or uid 0; gid = unwrap_or gid 0 })
