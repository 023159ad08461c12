use Rattle.sorted_map.proofs.Common.{ap, arith, eqb-true, length, sym, ◌-◌, ◌∙◌}
use Rattle.sorted_map.proofs.FlatLaws.{not_none, read_len}
use Rattle.sorted_map.proofs.RoomLaws.{load_is, none_load}
use Rattle.sorted_map.proofs.chunked.map.load_of.Goals as goal

pub returns-then-is_empty : goal.returns-then-is_empty
returns-then-is_empty g c = sym (none_load c.args.chunks.now.lists (ap length (sym c.row-row.ensures.row) ∙ eqb-true _ 0 (sym c.is_empty.ensures ∙ c.if-is_empty.true)))

pub returns : goal.returns
returns g c =
    let cs = c.args.chunks.now.lists in
    let row = c.row-row.result.now in
    let some = not_none row (sym c.is_empty.ensures ∙ c.if-is_empty.false) in
    let same = ap length c.row-row.ensures.row in
    let len = read_len row cs (length row - 1) c.len.result c.index-row-row.result c.row-row.ensures.row (omega (arith, some)) c.index-row-row.is c.len.ensures.len in
    omega (arith, c.extra.ensures.extra, c.within_half.ensures.within, len, load_is cs (length row - 1) (omega (arith, some, same)))
