use Rattle.sorted_map.proofs.Common.{Some, ap, false≢true, ◌∙◌}
use Rattle.sorted_map.proofs.ContentLaws.{put_in_place, value_at, got_gap}
use Rattle.sorted_map.proofs.flat.map.FlatMap.replace.Goals as goal

pub invariant_of-self : goal.invariant_of-self
invariant_of-self g c =
    (put_in_place g.met.K.Ord.total _ c.args.value _ _ _ c.self.invariant (rw c.deref.ensures.value at c.in-Ok.ensures.place) c.replaced.ensures.items).0

pub returns-clause-inserted : goal.returns-clause-inserted
returns-clause-inserted g c =
    rw (← c.self.view_is) (put_in_place g.met.K.Ord.total _ _ _ _ _ c.self.invariant (rw c.deref.ensures.value at c.in-Ok.ensures.place) c.replaced.ensures.items).1

pub returns-clause-value : goal.returns-clause-value
returns-clause-value g c =
    let key = g.Q.Probe.key c.args.q.now in
    rw (← c.self.view_is) (ap Some (c.replaced.ensures.value (key, c.args.value)) ∙ value_at _ _ c.self.invariant _ _ (key, c.args.value) (rw c.deref.ensures.value at c.in-Ok.ensures.place))

-- the key is there, so there is no gap for it
pub unreachable-requires : goal.unreachable-requires
unreachable-requires g c =
    let none = got_gap _ _ c.self.invariant _ _ (rw c.deref.ensures.value at c.in-Err.ensures.place) in
    absurd (false≢true (rw (← c.self.view_is, ← none) at c.requires))
