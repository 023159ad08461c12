use Rattle.sorted_map.proofs.Common.{Some, ap, arith, room_in, sym, ◌<◌, ◌∙◌, ◌≡◌}
use Rattle.sorted_map.proofs.ContentLaws.{put_in_place, put_in_gap, value_at, got_gap}
use Rattle.sorted_map.proofs.chunked.map.ChunkMap.insert_near.Goals as goal

-- the key was there, and has its new value
pub invariant_of-self : goal.invariant_of-self
invariant_of-self g c =
    let place = rw (c.in_default-Ok.is-1, c.row.ensures.row) at c.spot_near.ensures.place in
    ((put_in_place g.met.K.Ord.total c.args.key c.args.value _ _ _ c.self.invariant.0 place c.put_value.ensures.items).0, c.put_value.ensures.some)

pub returns-in_default-Ok-clause-inserted : goal.returns-in_default-Ok-clause-inserted
returns-in_default-Ok-clause-inserted g c =
    let place = rw (c.in_default-Ok.is-1, c.row.ensures.row) at c.spot_near.ensures.place in
    rw (← c.self.view_is) (put_in_place g.met.K.Ord.total _ _ _ _ _ c.self.invariant.0 place c.put_value.ensures.items).1

pub returns-in_default-Ok-clause-value : goal.returns-in_default-Ok-clause-value
returns-in_default-Ok-clause-value g c =
    let place = rw (c.in_default-Ok.is-1, c.row.ensures.row) at c.spot_near.ensures.place in
    rw (← c.self.view_is) (ap Some (c.put_value.ensures.value (c.args.key, c.args.value)) ∙ value_at _ _ c.self.invariant.0 _ _ (c.args.key, c.args.value) place)

pub returns-in_default-Ok-clause-room : goal.returns-in_default-Ok-clause-room
returns-in_default-Ok-clause-room g c = rw (← c.self.view_is) (omega (arith, c.put_value.ensures.room))

-- the key was not there, and there is room for it
pub put_new-requires-clause-room : goal.put_new-requires-clause-room
put_new-requires-clause-room g c =
    let place = rw (c.in_default-Err.is-1, c.row.ensures.row) at c.spot_near.ensures.place in
    let none = got_gap _ _ c.self.invariant.0 _ _ place in
    let some : 0 < c.args.self.now.room = c.requires (rw (← c.self.view_is) (sym none)) in
    let is : room_in c.self.inside.chunks ≡ c.args.self.now.room = ap (λ s. s.room) c.self.view_is in
    omega (arith, is, some)

pub invariant_of-self-in_default-Err : goal.invariant_of-self-in_default-Err
invariant_of-self-in_default-Err g c =
    let place = rw (c.in_default-Err.is-1, c.row.ensures.row) at c.spot_near.ensures.place in
    ((put_in_gap g.met.K.Ord.total _ _ _ _ _ c.self.invariant.0 place c.put_new.ensures.items).0, c.put_new.ensures.some)

pub returns-in_default-Err-clause-inserted : goal.returns-in_default-Err-clause-inserted
returns-in_default-Err-clause-inserted g c =
    let place = rw (c.in_default-Err.is-1, c.row.ensures.row) at c.spot_near.ensures.place in
    rw (← c.self.view_is) (put_in_gap g.met.K.Ord.total _ _ _ _ _ c.self.invariant.0 place c.put_new.ensures.items).1

pub returns-in_default-Err-clause-value : goal.returns-in_default-Err-clause-value
returns-in_default-Err-clause-value g c =
    let place = rw (c.in_default-Err.is-1, c.row.ensures.row) at c.spot_near.ensures.place in
    rw (← c.self.view_is) (got_gap _ _ c.self.invariant.0 _ _ place)
