use Rattle.sorted_map.proofs.Common.{ap, arith, eqb-true, flat, get_or, length, remove, sym, ◌∙◌}
use Rattle.sorted_map.proofs.FlatLaws.{flat_none, flat_some, start_none, not_none}
use Rattle.sorted_map.proofs.ContentLaws.{none_first, none_rest, some_first, some_rest, first_taken}
use Rattle.sorted_map.proofs.chunked.map.ChunkMap.pop_first.Goals as goal

pub returns-then-is_empty-clause-value : goal.returns-then-is_empty-clause-value
returns-then-is_empty-clause-value g c =
    rw (← c.self.view_is) (none_first _ _ c.self.invariant.0 (flat_none _ (ap length (sym c.row.ensures.row) ∙ eqb-true _ 0 (sym c.is_empty.ensures ∙ c.if-is_empty.true))))

pub returns-then-is_empty-clause-rest : goal.returns-then-is_empty-clause-rest
returns-then-is_empty-clause-rest g c =
    rw (← c.self.view_is) (none_rest _ _ c.self.invariant.0 (flat_none _ (ap length (sym c.row.ensures.row) ∙ eqb-true _ 0 (sym c.is_empty.ensures ∙ c.if-is_empty.true))))

pub invariant_of-self : goal.invariant_of-self
invariant_of-self g c =
    let cs = c.self.inside.chunks.lists in
    let any = not_none c.row.result.now (sym c.is_empty.ensures ∙ c.if-is_empty.false) in
    let some = flat_some cs c.self.invariant.1 (omega (arith, any, ap length c.row.ensures.row)) in
    let value = c.take_out.ensures.value c.take_out.result ∙ ap (λ n. get_or (flat cs) n c.take_out.result) (start_none cs) in
    let items = c.take_out.ensures.items ∙ ap (remove (flat cs)) (start_none cs) in
    ((first_taken g.met.K.Ord.total g.met.K.ExactOrd.exact _ _ _ c.self.invariant.0 some value items).0, c.take_out.ensures.some)

pub returns-clause-value : goal.returns-clause-value
returns-clause-value g c =
    let cs = c.self.inside.chunks.lists in
    let any = not_none c.row.result.now (sym c.is_empty.ensures ∙ c.if-is_empty.false) in
    let some = flat_some cs c.self.invariant.1 (omega (arith, any, ap length c.row.ensures.row)) in
    rw (← c.self.view_is) (some_first _ _ c.self.invariant.0 _ some (c.take_out.ensures.value c.take_out.result ∙ ap (λ n. get_or (flat cs) n c.take_out.result) (start_none cs)))

pub returns-clause-rest : goal.returns-clause-rest
returns-clause-rest g c =
    let cs = c.self.inside.chunks.lists in
    let any = not_none c.row.result.now (sym c.is_empty.ensures ∙ c.if-is_empty.false) in
    let some = flat_some cs c.self.invariant.1 (omega (arith, any, ap length c.row.ensures.row)) in
    let value = c.take_out.ensures.value c.take_out.result ∙ ap (λ n. get_or (flat cs) n c.take_out.result) (start_none cs) in
    let items = c.take_out.ensures.items ∙ ap (remove (flat cs)) (start_none cs) in
    rw (← c.self.view_is) (some_rest _ _ c.self.invariant.0 _ (first_taken g.met.K.Ord.total g.met.K.ExactOrd.exact _ _ _ c.self.invariant.0 some value items).0 items)

pub returns-clause-removed : goal.returns-clause-removed
returns-clause-removed g c =
    let cs = c.self.inside.chunks.lists in
    let any = not_none c.row.result.now (sym c.is_empty.ensures ∙ c.if-is_empty.false) in
    let some = flat_some cs c.self.invariant.1 (omega (arith, any, ap length c.row.ensures.row)) in
    let value = c.take_out.ensures.value c.take_out.result ∙ ap (λ n. get_or (flat cs) n c.take_out.result) (start_none cs) in
    let items = c.take_out.ensures.items ∙ ap (remove (flat cs)) (start_none cs) in
    rw (← c.self.view_is) (first_taken g.met.K.Ord.total g.met.K.ExactOrd.exact _ _ _ c.self.invariant.0 some value items).1
