use Rattle.sorted_map.proofs.Common.{refl, vec_capacity, vec_len, ◌-◌}
use Rattle.sorted_map.proofs.ContentLaws.{written_at, got_at, got_gap, same_loan}
use Rattle.sorted_map.proofs.flat.map.FlatMap.get_mut.Goals as goal

-- the order does not read the values
pub invariant_of-self-lent : goal.invariant_of-self-lent
invariant_of-self-lent g c =
    λ w. (written_at g.met.K.Ord.total _ w _ _ _ c.self.invariant (rw c.deref.ensures.value at c.in-Ok.ensures.place) c.index_mut.ensures.value).0

pub returns-in-Ok : goal.returns-in-Ok
returns-in-Ok g c =
    let pairs = c.self.inside.pairs in
    let here = rw c.deref.ensures.value at c.in-Ok.ensures.place in
    rw (← c.self.view_is) (
      same_loan _ _ _ (λ w i. record { entries = (written_at g.met.K.Ord.total _ w _ _ _ c.self.invariant here c.index_mut.ensures.value).1 i; room = vec_capacity pairs - vec_len pairs }),
      record { writes_back = tt; value = got_at _ _ c.self.invariant _ _ _ here c.index_mut.ensures.value },
    )

pub returns-in-Err : goal.returns-in-Err
returns-in-Err g c =
    rw (← c.self.view_is) (refl, record { writes_back = tt; value = got_gap _ _ c.self.invariant _ _ (rw c.deref.ensures.value at c.in-Err.ensures.place) })
