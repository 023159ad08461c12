-- What a row of chunks ends as, once a reference to a value of it has ended.
use Rattle.std.specs.Prelude.{ℕ, [], slice_set, slice_index_or}
use Rattle.std.specs.Borrow.{Fml, RattleType, MutBor, Lends}
use Rattle.sorted_map.specs.contracts.chunks.row.Chunks.{the_row}
use Rattle.sorted_map.specs.Chunks.{Chunked, with_value}

-- the chunks with another value at a place of one of them
abbrev pub with_value_in : {K V : Type 0} → Chunked (K × V) → ℕ → ℕ → V → Chunked (K × V)
with_value_in c home at w =
    record { lists = slice_set c.lists home (with_value (slice_index_or c.lists home []) at w); spare = c.spare }

module _ (K V : RattleType) where
  -- the chunks have the last value written through r at the place
  abbrev pub lends_in : MutBor (Chunked (K.Denot × V.Denot)) → ℕ → ℕ → MutBor V.Denot → Fml
  lends_in m home at r = Lends (the_row K V) V m r (λ w. with_value_in m.now home at w)
