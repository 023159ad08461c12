use Rattle.sorted_map.proofs.Common.{add-one}
use Rattle.sorted_map.proofs.PlaceLaws.{after_at, after_gap}
use Rattle.sorted_map.proofs.places.place_after.Goals as goal

pub returns-in-Ok-clause-rest : goal.returns-in-Ok-clause-rest
returns-in-Ok-clause-rest g c = rw add-one (after_at g.K.Ord.cmp (g.Q.Probe.key c.args.q.now) c.args.pairs.now c.in-Ok.at c.in-Ok.ensures.place)

pub returns-in-Err-clause-rest : goal.returns-in-Err-clause-rest
returns-in-Err-clause-rest g c = after_gap g.K.Ord.cmp (g.Q.Probe.key c.args.q.now) c.args.pairs.now c.in-Err.at c.in-Err.ensures.place
