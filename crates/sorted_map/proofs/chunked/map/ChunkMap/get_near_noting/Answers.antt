use Rattle.sorted_map.proofs.Common.{Some, ap, ◌∙◌}
use Rattle.sorted_map.proofs.FlatLaws.{there}
use Rattle.sorted_map.proofs.ContentLaws.{value_at, got_gap}
use Rattle.sorted_map.proofs.chunked.map.ChunkMap.get_near_noting.Goals as goal

pub returns-in_default-Ok : goal.returns-in_default-Ok
returns-in_default-Ok g c =
    let found = rw c.in_default-Ok.is-1 at c.spot_near.ensures in
    let x = c.index-pairs-at.result in
    let here = there _ c.self.inside.chunks.lists c.spot_near.result.0 c.in_default-Ok.at c.index-row-home.result _ x c.row-row.ensures.row found.found found.within c.index-row-home.is c.pairs.ensures.pairs in
    rw (← c.self.view_is) (ap (λ y. Some y.1) here ∙ value_at _ _ c.self.invariant.0 _ _ x (rw c.row-row.ensures.row at found.place))

pub returns-in_default-Err : goal.returns-in_default-Err
returns-in_default-Err g c =
    let place = rw (c.in_default-Err.is-1, c.row-row.ensures.row) at c.spot_near.ensures.place in
    rw (← c.self.view_is) (got_gap _ _ c.self.invariant.0 _ _ place)
