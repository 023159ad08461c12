use Rattle.sorted_map.proofs.Common.{[], ap, eqb-true, flat, length, slice_get, sym, ◌∙◌}
use Rattle.sorted_map.proofs.ChunkLaws.{got}
use Rattle.sorted_map.proofs.FlatLaws.{flat_none, first_flat, not_none}
use Rattle.sorted_map.proofs.ContentLaws.{none_first, first_shown}
use Rattle.sorted_map.proofs.chunked.map.ChunkMap.first.Goals as goal

pub returns-then-is_empty : goal.returns-then-is_empty
returns-then-is_empty g c =
    rw (← c.self.view_is) (none_first _ _ c.self.invariant.0 (flat_none c.self.inside.chunks.lists (ap length (sym c.row-row.ensures.row) ∙ eqb-true _ 0 (sym c.is_empty.ensures ∙ c.if-is_empty.true))))

pub returns : goal.returns
returns g c =
    let row = c.row-row.result.now in
    let same = c.row-row.ensures.row in
    let some = not_none row (sym c.is_empty.ensures ∙ c.if-is_empty.false) in
    let here = c.pairs.ensures.pairs ∙ got row 0 c.index-row-0.result [] some c.index-row-0.is in
    rw (← c.self.view_is) (c.first.ensures.value ∙ first_flat row _ (rw (← same) at c.self.invariant.1) some here ∙ ap (λ cs. slice_get (flat cs) 0) same ∙ first_shown _ _ c.self.invariant.0)
