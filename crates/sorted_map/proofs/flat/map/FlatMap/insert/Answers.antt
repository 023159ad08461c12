use Rattle.sorted_map.proofs.Common.{Some, ap, arith, sym, vec_capacity, vec_len, ◌-◌, ◌<◌, ◌∙◌, ◌≡◌}
use Rattle.sorted_map.proofs.ContentLaws.{put_in_place, put_in_gap, value_at, got_gap}
use Rattle.sorted_map.proofs.flat.map.FlatMap.insert.Goals as goal

-- the key was there, and has its new value
pub invariant_of-self : goal.invariant_of-self
invariant_of-self g c =
    (put_in_place g.met.K.Ord.total _ c.args.value _ _ _ c.self.invariant (rw c.deref.ensures.value at c.in-Ok.ensures.place) c.replaced.ensures.items).0

pub returns-in-Ok-clause-inserted : goal.returns-in-Ok-clause-inserted
returns-in-Ok-clause-inserted g c =
    rw (← c.self.view_is) (put_in_place g.met.K.Ord.total _ _ _ _ _ c.self.invariant (rw c.deref.ensures.value at c.in-Ok.ensures.place) c.replaced.ensures.items).1

pub returns-in-Ok-clause-value : goal.returns-in-Ok-clause-value
returns-in-Ok-clause-value g c =
    rw (← c.self.view_is) (ap Some (c.replaced.ensures.value (c.args.key, c.args.value)) ∙ value_at _ _ c.self.invariant _ _ (c.args.key, c.args.value) (rw c.deref.ensures.value at c.in-Ok.ensures.place))

-- the key was not there, and there is room for it
pub put_at-requires-clause-room : goal.put_at-requires-clause-room
put_at-requires-clause-room g c =
    let none = got_gap _ _ c.self.invariant _ _ (rw c.deref.ensures.value at c.in-Err.ensures.place) in
    let some : 0 < c.args.self.now.room = c.requires (rw (← c.self.view_is) (sym none)) in
    let is : vec_capacity c.self.inside.pairs - vec_len c.self.inside.pairs ≡ c.args.self.now.room = ap (λ s. s.room) c.self.view_is in
    omega arith

pub invariant_of-self-in-Err : goal.invariant_of-self-in-Err
invariant_of-self-in-Err g c =
    (put_in_gap g.met.K.Ord.total _ _ _ _ _ c.self.invariant (rw c.deref.ensures.value at c.in-Err.ensures.place) c.put_at.ensures.items).0

pub returns-in-Err-clause-inserted : goal.returns-in-Err-clause-inserted
returns-in-Err-clause-inserted g c =
    rw (← c.self.view_is) (put_in_gap g.met.K.Ord.total _ _ _ _ _ c.self.invariant (rw c.deref.ensures.value at c.in-Err.ensures.place) c.put_at.ensures.items).1

pub returns-in-Err-clause-value : goal.returns-in-Err-clause-value
returns-in-Err-clause-value g c = rw (← c.self.view_is) (got_gap _ _ c.self.invariant _ _ (rw c.deref.ensures.value at c.in-Err.ensures.place))
