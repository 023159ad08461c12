use Rattle.sorted_map.proofs.PlaceLaws.{from_at, from_gap}
use Rattle.sorted_map.proofs.places.place_from.Goals as goal

pub returns-in-Ok-clause-rest : goal.returns-in-Ok-clause-rest
returns-in-Ok-clause-rest g c = from_at g.K.Ord.cmp (g.Q.Probe.key c.args.q.now) c.args.pairs.now c.in-Ok.at c.in-Ok.ensures.place

pub returns-in-Err-clause-rest : goal.returns-in-Err-clause-rest
returns-in-Err-clause-rest g c = from_gap g.K.Ord.cmp (g.Q.Probe.key c.args.q.now) c.args.pairs.now c.in-Err.at c.in-Err.ensures.place
