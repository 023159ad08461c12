-- What a chunk ends as, once a reference to a value of it has ended.
use Rattle.std.specs.Prelude.{ℕ, List}
use Rattle.std.specs.Borrow.{Fml, RattleType, MutBor, Lends}
use Rattle.sorted_map.specs.contracts.chunks.chunk.Chunk.{the_row}
use Rattle.sorted_map.specs.Chunks.{with_value}

module _ (K V : RattleType) where
  -- the chunk has the last value written through r at the place
  abbrev pub lends_at : MutBor (List (K.Denot × V.Denot)) → ℕ → MutBor V.Denot → Fml
  lends_at m at r = Lends (the_row K V) V m r (λ w. with_value m.now at w)
