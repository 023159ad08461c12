use Rattle.sorted_map.proofs.Common.{Some, ap, false≢true, ◌∙◌}
use Rattle.sorted_map.proofs.ContentLaws.{put_in_place, value_at, got_gap}
use Rattle.sorted_map.proofs.chunked.map.ChunkMap.replace.Goals as goal

pub invariant_of-self : goal.invariant_of-self
invariant_of-self g c =
    let place = rw (c.in_default-Ok.is-1, c.row.ensures.row) at c.spot.ensures.place in
    ((put_in_place g.met.K.Ord.total _ c.args.value _ _ _ c.self.invariant.0 place c.put_value.ensures.items).0, c.put_value.ensures.some)

pub returns-clause-inserted : goal.returns-clause-inserted
returns-clause-inserted g c =
    let place = rw (c.in_default-Ok.is-1, c.row.ensures.row) at c.spot.ensures.place in
    rw (← c.self.view_is) (put_in_place g.met.K.Ord.total _ _ _ _ _ c.self.invariant.0 place c.put_value.ensures.items).1

pub returns-clause-value : goal.returns-clause-value
returns-clause-value g c =
    let key = g.Q.Probe.key c.args.q.now in
    let place = rw (c.in_default-Ok.is-1, c.row.ensures.row) at c.spot.ensures.place in
    rw (← c.self.view_is) (ap Some (c.put_value.ensures.value (key, c.args.value)) ∙ value_at _ _ c.self.invariant.0 _ _ (key, c.args.value) place)

pub returns-clause-room : goal.returns-clause-room
returns-clause-room g c = rw (← c.self.view_is) c.put_value.ensures.room

-- the key is there, so there is no gap for it
pub unreachable-requires : goal.unreachable-requires
unreachable-requires g c =
    let none = got_gap _ _ c.self.invariant.0 _ _ (rw (c.in_default-Err.is-1, c.row.ensures.row) at c.spot.ensures.place) in
    absurd (false≢true (rw (← c.self.view_is, ← none) at c.requires))
