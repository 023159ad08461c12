use Rattle.sorted_map.proofs.ContentLaws.{got_at, got_gap}
use Rattle.sorted_map.proofs.flat.map.FlatMap.get.Goals as goal

pub returns-in-Ok : goal.returns-in-Ok
returns-in-Ok g c = rw (← c.self.view_is) (got_at _ _ c.self.invariant _ _ _ (rw c.deref.ensures.value at c.in-Ok.ensures.place) c.index.ensures)

pub returns-in-Err : goal.returns-in-Err
returns-in-Err g c = rw (← c.self.view_is) (got_gap _ _ c.self.invariant _ _ (rw c.deref.ensures.value at c.in-Err.ensures.place))
