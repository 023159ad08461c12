-- The value of a client's row (this project's own profile).
use Rattle.std.specs.Prelude.{◌≡◌, ◌⊎◌, ℕ, ◌+◌, ◌^◌, ◌<◌, ◌≤◌, nat_lt, if◌then◌else◌, List, [], ◌∷◌, ◌++◌, length, Option, Some, None, Result, Ok, Err}
use Rattle.std.specs.List.{flat_map, AllByRecursion}
use Rattle.byteorder.specs.Endian.{little_bytes}
use Rattle.mds_types.specs.declared.replies.Reply.{Reply}
use Rattle.dirfrag_codec.specs.Reading.{◌>>=◌, number_at}
use Rattle.reply_codec.specs.ReplyBytes.{IsReply, counted_bytes, reply_bytes}
use Rattle.reply_codec.specs.Reading.{counted_at}
use Rattle.reply_codec.specs.Values.{reply_from}
use Rattle.session_rows.specs.declared.faults.RowFault.{RowFault}
use Rattle.session_rows.specs.declared.faults.RowFault.TheVariants.{BelowMark, Length, NoMemory, NoReply, OtherRange, OutOfOrder}
use Rattle.session_rows.specs.declared.told.Told.{Told}

-- what is kept of a client: its mark, and the replies to its transaction numbers
pub record StoredClient : Type 0 where
  pub mark : ℕ
  pub replies : List Told

-- ---- what holds of every row

-- a reply that can be kept: its transaction number has 64 bits, and the length of its bytes 32
pub record IsTold (told : Told) : Type 0 where
  pub tid : told.tid < 2 ^ 64
  pub reply : IsReply told.reply
  pub short : length (reply_bytes told.reply) < 2 ^ 32

-- transaction numbers ascend from a least one on
abbrev pub Ascend : ℕ → List Told → Type 0
Ascend least [] = Unit {0}
Ascend least (told ∷ more) = (least ≤ told.tid) × Ascend (told.tid + 1) more

-- a row: no reply is below the mark, and transaction numbers ascend
pub record IsRow (row : StoredClient) : Type 0 where
  pub mark : row.mark < 2 ^ 64
  pub told : AllByRecursion IsTold row.replies
  pub ascend : Ascend row.mark row.replies

-- ---- the bytes

-- a reply that is kept: its transaction number, and its bytes behind their length
abbrev pub told_bytes : Told → List ℕ
told_bytes told = little_bytes 8 told.tid ++ counted_bytes 4 (reply_bytes told.reply)

-- a row: its mark, and each reply
abbrev pub row_bytes : StoredClient → List ℕ
row_bytes row = little_bytes 8 row.mark ++ flat_map told_bytes row.replies

-- the grammar of a client's value
pub record SpellsRow (bytes : List ℕ) (row : StoredClient) : Type 0 where
  pub known : IsRow row
  pub spelled : bytes ≡ row_bytes row

-- ---- a row that is written reply by reply

-- the row of a client of which no reply is kept
abbrev pub no_replies : ℕ → StoredClient
no_replies mark = record { mark = mark; replies = [] }

-- the row with a reply more
abbrev pub with_next_told : StoredClient → Told → StoredClient
with_next_told row told = record row { replies = row.replies ++ told ∷ [] }

-- the least transaction number that may follow these, which ascend from a least one on
abbrev pub next_from : ℕ → List Told → ℕ
next_from least [] = least
next_from least (told ∷ more) = next_from (told.tid + 1) more

-- the least transaction number whose reply may follow in a row
abbrev pub next_number : StoredClient → ℕ
next_number row = next_from row.mark row.replies

-- ---- what is no row

-- a transaction number, the bytes of a reply behind their length, and the bytes after them
unfoldable pub told_at : List ℕ → Option (ℕ × List ℕ × List ℕ)
told_at bytes = do
  tid ← number_at 8 bytes
  text ← counted_at 4 tid.1
  Some (tid.0, text.0, text.1)

-- what is wrong with the bytes of a reply, if anything, by the reply that they are
abbrev pub wrong_text : Option Reply → Option RowFault
wrong_text None = Some NoReply
wrong_text (Some reply) = None

-- what is wrong with what is read behind other replies, if anything, where this is the mark and the least transaction
-- number that may follow
abbrev pub wrong_told : ℕ → ℕ → Option (ℕ × List ℕ × List ℕ) → Option RowFault
wrong_told mark least None = Some Length
wrong_told mark least (Some told) =
    if nat_lt told.0 mark then Some BelowMark else if nat_lt told.0 least then Some OutOfOrder
    else wrong_text (reply_from told.1)

-- bytes that are no client's value, and why: they begin as the value of a row, which further bytes follow, and
-- something is wrong with the first reply of these
pub record IsBroken (bytes : List ℕ) (fault : RowFault) : Type 0 where
  pub front : StoredClient
  pub rest : List ℕ
  pub known : IsRow front
  pub parts : bytes ≡ row_bytes front ++ rest
  pub more : rest ≡ [] → ⊥
  pub wrong : wrong_told front.mark (next_number front) (told_at rest) ≡ Some fault

-- bytes that are no client's value, and why: there is no mark, or they are broken behind it
abbrev pub IsNoRow : List ℕ → RowFault → Type 0
IsNoRow bytes fault = ((length bytes < 8) × (fault ≡ Length)) ⊎ IsBroken bytes fault

-- a further reply may be kept, whatever its bytes say: its transaction number and its bytes are there, and it may follow
pub record MayKeep (row : StoredClient) (rest : List ℕ) : Type 0 where
  pub told : ℕ × List ℕ × List ℕ
  pub there : told_at rest ≡ Some told
  pub follows : next_number row ≤ told.0

-- bytes that begin as the value of a row, behind which a further reply may be kept: where memory may be wanting
pub record WantsMemory (bytes : List ℕ) : Type 0 where
  pub front : StoredClient
  pub rest : List ℕ
  pub known : IsRow front
  pub parts : bytes ≡ row_bytes front ++ rest
  pub next : MayKeep front rest

-- what reading a client's value answers: the row that it spells, or why it spells none, or that memory is wanting
abbrev pub ReadsRow : List ℕ → Result StoredClient RowFault → Type 0
ReadsRow bytes (Ok row) = SpellsRow bytes row
ReadsRow bytes (Err NoMemory) = WantsMemory bytes
ReadsRow bytes (Err Length) = IsNoRow bytes Length
ReadsRow bytes (Err BelowMark) = IsNoRow bytes BelowMark
ReadsRow bytes (Err OutOfOrder) = IsNoRow bytes OutOfOrder
ReadsRow bytes (Err NoReply) = IsNoRow bytes NoReply
ReadsRow bytes (Err OtherRange) = ⊥

-- ---- words of the crate's own contracts

-- a further reply is read of bytes, with the bytes after it
pub record ReadsTold (row : StoredClient) (bytes : List ℕ) (new : StoredClient) (rest : List ℕ) : Type 0 where
  pub told : Told
  pub known : IsTold told
  pub ascends : next_number row ≤ told.tid
  pub read : new ≡ with_next_told row told
  pub parts : bytes ≡ told_bytes told ++ rest

-- why no further reply is read of bytes
abbrev pub IsNotRead : StoredClient → List ℕ → RowFault → Type 0
IsNotRead row bytes NoMemory = MayKeep row bytes
IsNotRead row bytes Length = wrong_told row.mark (next_number row) (told_at bytes) ≡ Some Length
IsNotRead row bytes BelowMark = wrong_told row.mark (next_number row) (told_at bytes) ≡ Some BelowMark
IsNotRead row bytes OutOfOrder = wrong_told row.mark (next_number row) (told_at bytes) ≡ Some OutOfOrder
IsNotRead row bytes NoReply = wrong_told row.mark (next_number row) (told_at bytes) ≡ Some NoReply
IsNotRead row bytes OtherRange = ⊥
