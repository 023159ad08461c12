-- The keys of rows (this project's own profile).
use Rattle.std.specs.Prelude.{◌≡◌, ℕ, ◌^◌, ◌<◌, List, [], ◌∷◌}
use Rattle.byteorder.specs.Endian.{big_bytes}
use Rattle.mds_types.specs.declared.ids.Rank.{Rank as RankNumber}
use Rattle.session_rows.specs.declared.keys.Key.{Key}
use Rattle.session_rows.specs.declared.keys.Key.TheVariants.{Client, Rank}

-- the key of a client's row: its number in 8 bytes, the greatest first
abbrev pub client_bytes : ℕ → List ℕ
client_bytes client = big_bytes 8 client

-- the key of a rank's row: its number in a byte
abbrev pub rank_bytes : RankNumber → List ℕ
rank_bytes rank = rank.0 ∷ []

abbrev pub key_bytes : Key → List ℕ
key_bytes (Client client) = client_bytes client
key_bytes (Rank rank) = rank_bytes rank

-- whether a row has the key: a client's number has 64 bits, and there are 16 ranks
abbrev pub IsRowKey : Key → Type 0
IsRowKey (Client client) = client < 2 ^ 64
IsRowKey (Rank rank) = rank.0 < 16

-- the grammar of keys
pub record SpellsRowKey (bytes : List ℕ) (key : Key) : Type 0 where
  pub known : IsRowKey key
  pub spelled : bytes ≡ key_bytes key
