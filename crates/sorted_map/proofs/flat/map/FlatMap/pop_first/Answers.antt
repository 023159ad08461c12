use Rattle.sorted_map.proofs.Common.{arith, eqb-true, length, sym, ◌<◌, ◌∙◌}
use Rattle.sorted_map.proofs.ContentLaws.{none_first, none_rest, some_first, some_rest, first_taken}
use Rattle.sorted_map.proofs.flat.map.FlatMap.pop_first.Goals as goal

pub returns-then-is_empty-clause-value : goal.returns-then-is_empty-clause-value
returns-then-is_empty-clause-value g c =
    rw (← c.self.view_is) (none_first _ _ c.self.invariant (sym c.self.inside.pairs.ok.0 ∙ eqb-true _ 0 (sym c.is_empty.ensures ∙ c.if-is_empty.true)))

pub returns-then-is_empty-clause-rest : goal.returns-then-is_empty-clause-rest
returns-then-is_empty-clause-rest g c =
    rw (← c.self.view_is) (none_rest _ _ c.self.invariant (sym c.self.inside.pairs.ok.0 ∙ eqb-true _ 0 (sym c.is_empty.ensures ∙ c.if-is_empty.true)))

pub returns-clause-value : goal.returns-clause-value
returns-clause-value g c =
    let some : 0 < length c.self.inside.pairs.items = omega (arith, c.self.inside.pairs.ok.0, c.remove.ensures.len) in
    rw (← c.self.view_is) (some_first _ _ c.self.invariant _ some c.remove.ensures.value)

pub returns-clause-rest : goal.returns-clause-rest
returns-clause-rest g c =
    let some : 0 < length c.self.inside.pairs.items = omega (arith, c.self.inside.pairs.ok.0, c.remove.ensures.len) in
    rw (← c.self.view_is) (some_rest _ _ c.self.invariant _ (first_taken g.met.K.Ord.total g.met.K.ExactOrd.exact _ _ _ c.self.invariant some c.remove.ensures.value c.remove.ensures.items).0 c.remove.ensures.items)

pub returns-clause-removed : goal.returns-clause-removed
returns-clause-removed g c =
    let some : 0 < length c.self.inside.pairs.items = omega (arith, c.self.inside.pairs.ok.0, c.remove.ensures.len) in
    rw (← c.self.view_is) (first_taken g.met.K.Ord.total g.met.K.ExactOrd.exact _ _ _ c.self.invariant some c.remove.ensures.value c.remove.ensures.items).1
