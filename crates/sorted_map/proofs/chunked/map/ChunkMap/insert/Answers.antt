use Rattle.sorted_map.proofs.Common.{ap, arith, room_in, sym, ◌<◌, ◌≡◌}
use Rattle.sorted_map.proofs.ContentLaws.{put_in_gap, got_gap}
use Rattle.sorted_map.proofs.chunked.map.ChunkMap.insert.Goals as goal

-- the key is above all others, so it isn't there, and there is room for it
pub put_new-requires-clause-room : goal.put_new-requires-clause-room
put_new-requires-clause-room g c =
    let none = got_gap _ _ c.self.invariant.0 _ _ (rw c.row.ensures.row at c.in-Some.ensures.place) in
    let some : 0 < c.args.self.now.room = c.requires (rw (← c.self.view_is) (sym none)) in
    let is : room_in c.self.inside.chunks ≡ c.args.self.now.room = ap (λ s. s.room) c.self.view_is in
    omega (arith, is, some)

pub invariant_of-self : goal.invariant_of-self
invariant_of-self g c =
    ((put_in_gap g.met.K.Ord.total _ _ _ _ _ c.self.invariant.0 (rw c.row.ensures.row at c.in-Some.ensures.place) c.put_new.ensures.items).0, c.put_new.ensures.some)

pub returns-in-Some-clause-inserted : goal.returns-in-Some-clause-inserted
returns-in-Some-clause-inserted g c =
    rw (← c.self.view_is) (put_in_gap g.met.K.Ord.total _ _ _ _ _ c.self.invariant.0 (rw c.row.ensures.row at c.in-Some.ensures.place) c.put_new.ensures.items).1

pub returns-in-Some-clause-value : goal.returns-in-Some-clause-value
returns-in-Some-clause-value g c = rw (← c.self.view_is) (got_gap _ _ c.self.invariant.0 _ _ (rw c.row.ensures.row at c.in-Some.ensures.place))
