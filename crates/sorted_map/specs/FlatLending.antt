-- What a map in one vector ends as, once a reference into it has ended.
use Rattle.std.specs.Prelude.{Bool, Option}
use Rattle.std.specs.Borrow.{Fml, RattleType, MutBor, LendsIf}
use Rattle.std.specs.FinMap as map
use Rattle.std.specs.declared.cmp.Ordering.{Ordering}
use Rattle.sorted_map.specs.contracts.flat.map.FlatMap.{the_row}
use Rattle.sorted_map.specs.SortedMap.{Shown, contents, shown_with_room}

module _ (K V : RattleType) (cmp : K.Denot → K.Denot → Ordering) (eq : K.Denot → K.Denot → Bool) (partial_cmp : K.Denot
    → K.Denot → Option Ordering) where
  -- the map has the last value written through r at the key, and at `None` it stays as it is
  abbrev pub lends_value : MutBor (Shown K.Denot V.Denot) → K.Denot → Option (MutBor V.Denot) → Fml
  lends_value m k r =
      LendsIf (the_row K V (record { cmp = cmp }) (record { eq = eq }) (record {
        partial_cmp =
            partial_cmp;
      })) V m r (λ w. shown_with_room (map.insert (contents cmp m.now) k w) m.now.room) m.now
