use Rattle.sorted_map.proofs.Common.{[], ap, arith, eqb-true, flat, length, slice_get, sym, ◌-◌, ◌<◌, ◌∙◌}
use Rattle.sorted_map.proofs.ChunkLaws.{got}
use Rattle.sorted_map.proofs.FlatLaws.{flat_none, last_flat, not_none}
use Rattle.sorted_map.proofs.ContentLaws.{none_last, last_shown}
use Rattle.sorted_map.proofs.chunked.map.ChunkMap.last.Goals as goal

pub returns-then-is_empty : goal.returns-then-is_empty
returns-then-is_empty g c =
    rw (← c.self.view_is) (none_last _ _ c.self.invariant.0 (flat_none c.self.inside.chunks.lists (ap length (sym c.row-row.ensures.row) ∙ eqb-true _ 0 (sym c.is_empty.ensures ∙ c.if-is_empty.true))))

pub returns : goal.returns
returns g c =
    let row = c.row-row.result.now in
    let same = c.row-row.ensures.row in
    let some = not_none row (sym c.is_empty.ensures ∙ c.if-is_empty.false) in
    let within : length row - 1 < length row = omega (arith, some) in
    let here = c.pairs.ensures.pairs ∙ got row (length row - 1) c.index-row-row.result [] within c.index-row-row.is in
    rw (← c.self.view_is) (c.last.ensures.value ∙ last_flat row _ (rw (← same) at c.self.invariant.1) some here ∙ ap (λ cs. slice_get (flat cs) (length (flat cs) - 1)) same ∙ last_shown _ _ c.self.invariant.0)
