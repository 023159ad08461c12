use Rattle.sorted_map.proofs.Common.{arith, sym, ◌∙◌}
use Rattle.sorted_map.proofs.ContentLaws.{retained}
use Rattle.sorted_map.proofs.flat.map.FlatMap.remove_below.Goals as goal

pub invariant_of-self : goal.invariant_of-self
invariant_of-self g c =
    (retained g.met.K.Ord.total g.met.K.ExactOrd.exact _ _ _ c.self.invariant (c.drop_front.ensures.items ∙ sym (rw c.deref.ensures.value at c.place_from-from.ensures.rest))).0

pub returns-clause-kept : goal.returns-clause-kept
returns-clause-kept g c =
    rw (← c.self.view_is) (retained g.met.K.Ord.total g.met.K.ExactOrd.exact _ _ _ c.self.invariant (c.drop_front.ensures.items ∙ sym (rw c.deref.ensures.value at c.place_from-from.ensures.rest))).1

-- a pair that goes leaves its room
pub returns-clause-room : goal.returns-clause-room
returns-clause-room g c = rw (← c.self.view_is) (omega (arith, c.drop_front.ensures.len, c.drop_front.ensures.capacity))
