use Rattle.sorted_map.proofs.Common.{sym, ◌∙◌}
use Rattle.sorted_map.proofs.PlaceLaws.{from_at, from_gap}
use Rattle.sorted_map.proofs.chunked.ranges.pairs_from.Goals as goal

pub returns-in_default-Ok : goal.returns-in_default-Ok
returns-in_default-Ok g c = c.pairs_at.ensures ∙ sym (from_at g.K.Ord.cmp (g.Q.Probe.key c.args.q.now) _ _ (rw c.in_default-Ok.is-1 at c.spot.ensures.place))

pub returns-in_default-Err : goal.returns-in_default-Err
returns-in_default-Err g c = c.pairs_at-in_default-Err.ensures ∙ sym (from_gap g.K.Ord.cmp (g.Q.Probe.key c.args.q.now) _ _ (rw c.in_default-Err.is-1 at c.spot.ensures.place))
