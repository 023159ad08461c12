use Rattle.sorted_map.proofs.ContentLaws.{taken_at, taken_gap, pair_taken}
use Rattle.sorted_map.proofs.Common.{ap, option_map}
use Rattle.sorted_map.proofs.ContentLaws.{got_gap}
use Rattle.sorted_map.proofs.flat.map.FlatMap.remove.Goals as goal

pub invariant_of-self : goal.invariant_of-self
invariant_of-self g c =
    (taken_at g.met.K.Ord.total g.met.K.ExactOrd.exact _ _ _ _ c.self.invariant (rw c.deref.ensures.value at c.in-Ok.ensures.place) c.remove.ensures.items).0

pub returns-in-Ok-clause-removed : goal.returns-in-Ok-clause-removed
returns-in-Ok-clause-removed g c =
    rw (← c.self.view_is) (taken_at g.met.K.Ord.total g.met.K.ExactOrd.exact _ _ _ _ c.self.invariant (rw c.deref.ensures.value at c.in-Ok.ensures.place) c.remove.ensures.items).1

pub returns-in-Ok-clause-value : goal.returns-in-Ok-clause-value
returns-in-Ok-clause-value g c =
    rw (← c.self.view_is) (pair_taken g.met.K.Ord.total g.met.K.ExactOrd.exact _ _ _ _ c.self.invariant (rw c.deref.ensures.value at c.in-Ok.ensures.place) c.remove.ensures.value)

pub returns-in-Err-clause-removed : goal.returns-in-Err-clause-removed
returns-in-Err-clause-removed g c =
    rw (← c.self.view_is) (taken_gap g.met.K.Ord.total g.met.K.ExactOrd.exact _ _ _ c.self.invariant (rw c.deref.ensures.value at c.in-Err.ensures.place))

pub returns-in-Err-clause-value : goal.returns-in-Err-clause-value
returns-in-Err-clause-value g c =
    rw (← c.self.view_is) (ap (option_map (λ v. (g.Q.Probe.key c.args.q.now, v))) (got_gap _ _ c.self.invariant _ _ (rw c.deref.ensures.value at c.in-Err.ensures.place)))
