-- The words after a command's first: what each kind of them stands for.
use Rattle.std.specs.Prelude.{ℕ, Bool, false, not, ◌&&◌, ◌==◌, nat_lt, nat_le, if◌then◌else◌, List, [], ◌∷◌, codes, length, Option, Some, None, option_map, option_and_then, Result, Ok, Err}
use Rattle.std.specs.List.{list_all}
use Rattle.mds_types.specs.declared.ids.Ino.{Ino}
use Rattle.mds_types.specs.declared.ids.Rank.{Rank}
use Rattle.mds_types.specs.Name.{fits_name, fits_target, is_dots}
use Rattle.script_words.specs.declared.faults.Fault.{Fault}
use Rattle.script_words.specs.declared.faults.Fault.TheVariants.{BadWord}
use Rattle.script_words.specs.Numbers.{number_of, octal_mode_of}
use Rattle.script_words.specs.Escapes.{bytes_of}
use Rattle.script_words.specs.Reading.{wanted, ◌>>=◌}
use Rattle.script_words.specs.Words.{is_text}

-- n, if it is low to high
abbrev pub within : ℕ → ℕ → ℕ → Option ℕ
within low high n = if nat_le low n && nat_le n high then Some n else None

-- INO: lower hexadecimal, 1 to 16 digits (as many as 64 bits have), no leading zero
unfoldable pub ino_of : List ℕ → Result Ino Fault
ino_of word = wanted (option_map (λ n. record { 0 = n }) (number_of 16 word))

-- RANK: decimal, 0 to 255
unfoldable pub rank_of : List ℕ → Result Rank Fault
rank_of word = wanted (option_map (λ n. record { 0 = n }) (option_and_then (within 0 255) (number_of 10 word)))

-- TID, OLDEST and the N of an attribute: decimal
unfoldable pub decimal_of : List ℕ → Result ℕ Fault
decimal_of word = wanted (number_of 10 word)

-- the N of an owner or a group: decimal, of 32 bits
unfoldable pub id_of : List ℕ → Result ℕ Fault
id_of word = wanted (option_and_then (within 0 4294967295) (number_of 10 word))

-- RANK, or `-1` for no pin
unfoldable pub pin_of : List ℕ → Result (Option Rank) Fault
pin_of word = if is_text word (codes "-1") then Ok None else (rank_of word >>= λ rank. Ok (Some rank))

-- n, if it is at least low
abbrev pub at_least : ℕ → ℕ → Option ℕ
at_least low n = if nat_le low n then Some n else None

-- CLIENT: decimal, at least 1, since operations alone come from client 0
unfoldable pub client_of : List ℕ → Result ℕ Fault
client_of word = wanted (option_and_then (at_least 1) (number_of 10 word))

-- MODE: 1 to 4 octal digits
unfoldable pub mode_of : List ℕ → Result ℕ Fault
mode_of word = wanted (octal_mode_of word)

-- MAX: decimal, 1 to 1024
unfoldable pub page_size_of : List ℕ → Result ℕ Fault
page_size_of word = wanted (option_and_then (within 1 1024) (number_of 10 word))

-- NAME and TARGET: the bytes that the word stands for
unfoldable pub text_of_word : List ℕ → Result (List ℕ) Fault
text_of_word word = wanted (bytes_of word)

-- NAME and TARGET, or two names: the bytes that both words stand for
unfoldable pub two_texts_of : List ℕ → List ℕ → Result (List ℕ × List ℕ) Fault
two_texts_of word other = text_of_word word >>= λ bytes. (text_of_word other >>= λ others. Ok (bytes, others))

-- the word `-`
abbrev pub is_dash : List ℕ → Bool
is_dash [] = false
is_dash (byte ∷ []) = byte == 45
is_dash (byte ∷ next ∷ bytes) = false

-- bytes that are a name: at least one, none zero or `/`, and neither `.` nor `..`
abbrev pub is_plain_name : List ℕ → Bool
is_plain_name bytes = nat_lt 0 (length bytes) && list_all fits_name bytes && not (is_dots bytes)

-- a name, or the errno of bytes that are none: too long before all else
unfoldable pub name_of : List ℕ → Result (List ℕ) Fault
name_of bytes =
    if nat_lt 255 (length bytes) then Err (BadWord 36) else (if is_plain_name bytes then Ok bytes else Err (BadWord 22))

-- NAME: the name that the word stands for
unfoldable pub word_name_of : List ℕ → Result (List ℕ) Fault
word_name_of word = text_of_word word >>= name_of

-- AFTER: none for `-` alone, else the name that the word stands for
unfoldable pub after_of : List ℕ → Result (Option (List ℕ)) Fault
after_of word = if is_dash word then Ok None else (word_name_of word >>= λ name. Ok (Some name))

-- a target, or the errno of bytes that are none: too long before all else, then empty, then with a zero byte
unfoldable pub target_of_word : List ℕ → Result (List ℕ) Fault
target_of_word bytes =
    if nat_lt 4095 (length bytes) then Err (BadWord 36) else
    (if length bytes == 0 then Err (BadWord 2) else
    (if list_all fits_target bytes then Ok bytes else Err (BadWord 22)))
