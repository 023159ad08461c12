use Rattle.sorted_map.proofs.Common.{ap, option_map}
use Rattle.sorted_map.proofs.ContentLaws.{taken_at, taken_gap, pair_taken, got_gap}
use Rattle.sorted_map.proofs.chunked.map.ChunkMap.remove_near.Goals as goal

pub invariant_of-self : goal.invariant_of-self
invariant_of-self g c =
    let place = rw (c.in_default-Ok.is-1, c.row.ensures.row) at c.spot_near.ensures.place in
    ((taken_at g.met.K.Ord.total g.met.K.ExactOrd.exact _ _ _ _ c.self.invariant.0 place c.take_out.ensures.items).0, c.take_out.ensures.some)

pub returns-in_default-Ok-clause-removed : goal.returns-in_default-Ok-clause-removed
returns-in_default-Ok-clause-removed g c =
    let place = rw (c.in_default-Ok.is-1, c.row.ensures.row) at c.spot_near.ensures.place in
    rw (← c.self.view_is) (taken_at g.met.K.Ord.total g.met.K.ExactOrd.exact _ _ _ _ c.self.invariant.0 place c.take_out.ensures.items).1

pub returns-in_default-Ok-clause-value : goal.returns-in_default-Ok-clause-value
returns-in_default-Ok-clause-value g c =
    let place = rw (c.in_default-Ok.is-1, c.row.ensures.row) at c.spot_near.ensures.place in
    rw (← c.self.view_is) (pair_taken g.met.K.Ord.total g.met.K.ExactOrd.exact _ _ _ _ c.self.invariant.0 place (c.take_out.ensures.value c.take_out.result))

pub returns-in_default-Err-clause-removed : goal.returns-in_default-Err-clause-removed
returns-in_default-Err-clause-removed g c =
    let place = rw (c.in_default-Err.is-1, c.row.ensures.row) at c.spot_near.ensures.place in
    rw (← c.self.view_is) (taken_gap g.met.K.Ord.total g.met.K.ExactOrd.exact _ _ _ c.self.invariant.0 place)

pub returns-in_default-Err-clause-value : goal.returns-in_default-Err-clause-value
returns-in_default-Err-clause-value g c =
    let place = rw (c.in_default-Err.is-1, c.row.ensures.row) at c.spot_near.ensures.place in
    rw (← c.self.view_is) (ap (option_map (λ v. (g.Q.Probe.key c.args.q.now, v))) (got_gap _ _ c.self.invariant.0 _ _ place))
